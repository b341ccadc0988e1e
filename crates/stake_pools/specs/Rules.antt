-- The table of items: for each kind the first refusal that is due, what the pool becomes where none is, and
-- the lines that are told then.
use Rattle.std.specs.Prelude.{ℕ, ◌+◌, ◌-◌, ◌*◌, ◌/◌, ◌^◌, min, List, [], ◌∷◌, length, Bool, Option, Some, None, is_some, nat_lt, nat_le, ◌==◌, ◌&&◌, not, if◌then◌else◌}
use Rattle.std.specs.Option.{option_or}
use Rattle.npos_base.specs.declared.account.AccountId.{AccountId}
use Rattle.npos_base.specs.Account.{same_account}
use Rattle.stake_ledger.specs.Ledger.{row_at}
use Rattle.stake_ledger.specs.Calls.{transferred}
use Rattle.stake_pools.specs.declared.members.TheConstants.{MOST_MEMBERS}
use Rattle.stake_pools.specs.declared.input.PoolKind.{PoolKind}
use Rattle.stake_pools.specs.declared.input.PoolKind.TheVariants as kinds
use Rattle.stake_pools.specs.declared.line.PoolLine.{PoolLine}
use Rattle.stake_pools.specs.declared.line.PoolLine.TheVariants as lines
use Rattle.stake_pools.specs.declared.refusal.PoolRefusal.{PoolRefusal}
use Rattle.stake_pools.specs.declared.refusal.PoolRefusal.TheVariants.{LowFunds, ZeroValue, SameAccount, NotRoot, TooManyMembers, PoolWiped, TooManyPoints, NoStayer, LastEra}
use Rattle.stake_pools.specs.declared.chain.PoolChain.{PoolChain}
use Rattle.stake_pools.specs.Asking.{absent_refusal, parting_refusal, undue_refusal, uncredited_refusal}
use Rattle.stake_pools.specs.Leaves.{leaving, due_leaves}
use Rattle.stake_pools.specs.Members.{member_of, member_at, all_staying, changed, joined, left, redeemed, all_rewarded, claimed}
use Rattle.stake_pools.specs.Moves.{invested, paid_out, burned}
use Rattle.stake_pools.specs.Chain.{active_of, all_points_of, worth_of}

pub record ItemRule : Type 0 where
  -- the first refusal that is due, if one is
  pub refusal : Option PoolRefusal
  -- what the pool becomes where none is
  pub done : PoolChain
  -- the lines that are told then, besides that the item was accepted
  pub told : List PoolLine

abbrev pub is_member : PoolChain → AccountId → Bool
is_member chain who = is_some (member_of chain.members who)

-- why the account can't pay the value to the pool
abbrev pub payment_refusal : PoolChain → AccountId → ℕ → Option PoolRefusal
payment_refusal chain who value =
    if value == 0 then Some ZeroValue
    else if same_account who chain.account then Some SameAccount
    else if nat_lt (row_at chain.book who).free value then Some LowFunds
    else None

-- only the pool's account is its root
abbrev pub root_refusal : PoolChain → AccountId → Option PoolRefusal
root_refusal chain who = if same_account who chain.account then None else Some NotRoot

abbrev pub member_refusal : PoolChain → AccountId → Option PoolRefusal
member_refusal chain who = absent_refusal chain.members who

-- the points for a value: as many as its part of the active stake is of all points, rounded down
abbrev pub points_for : PoolChain → ℕ → ℕ
points_for chain value =
    if all_points_of chain == 0 then value else value * all_points_of chain / active_of chain

abbrev pub entry_refusal : PoolChain → AccountId → ℕ → Option PoolRefusal
entry_refusal chain who value =
    if not (is_member chain who) && nat_le MOST_MEMBERS (length chain.members) then Some TooManyMembers
    else if nat_lt 0 (all_points_of chain) && (active_of chain == 0) then Some PoolWiped
    else if nat_le (2 ^ 64) (all_points_of chain + points_for chain value) then Some TooManyPoints
    else None

abbrev pub join_rule : PoolChain → AccountId → ℕ → ItemRule
join_rule chain who value = record {
  refusal = option_or (payment_refusal chain who value) (entry_refusal chain who value);
  done = record chain {
    book = invested who chain.account value chain.book;
    members = changed who (joined (points_for chain value)) chain.members;
  };
  told = [];
}

-- the era from which on what leaves now is paid out
abbrev pub release_of : PoolChain → ℕ
release_of chain = chain.era + chain.bonding

abbrev pub leave_refusal : PoolChain → AccountId → ℕ → Option PoolRefusal
leave_refusal chain who points =
    if points == 0 then Some ZeroValue
    else parting_refusal chain.members who points (release_of chain)

abbrev pub leave_rule : PoolChain → AccountId → ℕ → ItemRule
leave_rule chain who points = record {
  refusal = leave_refusal chain who points;
  done = record chain { members = changed who (left points (release_of chain)) chain.members };
  told = [];
}

-- the points of the account's leaves that are paid out in this era
abbrev pub due_points : PoolChain → AccountId → ℕ
due_points chain who = leaving (due_leaves chain.era (member_at chain.members who).leaves)

abbrev pub due_refusal : PoolChain → AccountId → Option PoolRefusal
due_refusal chain who = undue_refusal chain.era (member_at chain.members who)

abbrev pub redeem_rule : PoolChain → AccountId → ItemRule
redeem_rule chain who = record {
  refusal = option_or (member_refusal chain who) (due_refusal chain who);
  done = record chain {
    book = paid_out chain.account who (worth_of chain (due_points chain who)) chain.book;
    members = changed who (redeemed chain.era) chain.members;
  };
  told = lines.Paid who (worth_of chain (due_points chain who)) ∷ [];
}

abbrev pub stayer_refusal : PoolChain → Option PoolRefusal
stayer_refusal chain = if all_staying chain.members == 0 then Some NoStayer else None

abbrev pub reward_rule : PoolChain → AccountId → ℕ → ItemRule
reward_rule chain who value = record {
  refusal = option_or (payment_refusal chain who value) (stayer_refusal chain);
  done = record chain {
    book = transferred who chain.account value chain.book;
    members = all_rewarded value chain.members;
  };
  told = [];
}

-- what the account may claim
abbrev pub credit_of : PoolChain → AccountId → ℕ
credit_of chain who = (member_at chain.members who).credit

abbrev pub credit_refusal : PoolChain → AccountId → Option PoolRefusal
credit_refusal chain who = uncredited_refusal (member_at chain.members who)

abbrev pub claim_rule : PoolChain → AccountId → ItemRule
claim_rule chain who = record {
  refusal = option_or (member_refusal chain who) (credit_refusal chain who);
  done = record chain {
    book = transferred chain.account who (credit_of chain who) chain.book;
    members = changed who claimed chain.members;
  };
  told = lines.Paid who (credit_of chain who) ∷ [];
}

-- a slash takes no more than what is active
abbrev pub slash_of : PoolChain → ℕ → ℕ
slash_of chain amount = min amount (active_of chain)

abbrev pub slash_rule : PoolChain → AccountId → ℕ → ItemRule
slash_rule chain who amount = record {
  refusal = root_refusal chain who;
  done = record chain { book = burned chain.account (slash_of chain amount) chain.book };
  told = if slash_of chain amount == 0 then [] else lines.Slashed chain.account (slash_of chain amount) ∷ [];
}

abbrev pub last_era : ℕ
last_era = 2 ^ 32 - 1

abbrev pub era_refusal : PoolChain → Option PoolRefusal
era_refusal chain = if chain.era == last_era then Some LastEra else None

abbrev pub next_era_rule : PoolChain → AccountId → ItemRule
next_era_rule chain who = record {
  refusal = option_or (root_refusal chain who) (era_refusal chain);
  done = record chain { era = chain.era + 1 };
  told = [];
}

unfoldable pub rule_of : PoolChain → AccountId → PoolKind → ItemRule
rule_of chain who (kinds.Join value) = join_rule chain who value
rule_of chain who (kinds.Leave points) = leave_rule chain who points
rule_of chain who kinds.Redeem = redeem_rule chain who
rule_of chain who (kinds.Reward value) = reward_rule chain who value
rule_of chain who kinds.Claim = claim_rule chain who
rule_of chain who (kinds.Slash amount) = slash_rule chain who amount
rule_of chain who kinds.NextEra = next_era_rule chain who
