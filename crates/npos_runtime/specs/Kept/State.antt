-- The state that a chain keeps between two blocks, and the facts by which all else of a chain follows from
-- it. Nothing that it leaves out is told by a later line.
use Rattle.std.specs.Prelude.{◌≡◌, ℕ, ◌+◌, ◌-◌, min, List, [], ◌∷◌, ◌++◌, length, map, Option, Some, None, option_map, All}
use Rattle.std.specs.List.{zip}
use Rattle.std.specs.List.Sorted.{IsStrictlySortedBy}
use Rattle.std.specs.Map.{keys_of}
use Rattle.npos_base.specs.declared.account.AccountId.{AccountId}
use Rattle.npos_base.specs.declared.limits.TheConstants.{MOST_PAST_ERAS}
use Rattle.npos_base.specs.Account.{account_cmp}
use Rattle.block_wire.specs.declared.bundle.BundleVoter.{BundleVoter}
use Rattle.block_wire.specs.declared.genesis.Params.{Params}
pub use Rattle.stake_ledger.specs.BookRows.{book_row}
use Rattle.voter_lists.specs.declared.standing.Standing.{Standing}
use Rattle.voter_lists.specs.declared.standing.Standing.TheVariants as standing
use Rattle.voter_lists.specs.Roles.{RoleList, standing_of}
use Rattle.election_snapshot.specs.Snapshot.{Snapshot, Voter}
use Rattle.submission_queue.specs.declared.submission.Submission.{Submission}
use Rattle.era_book.specs.Exposures.{amount_sum}
use Rattle.era_book.specs.Members.{Member, Members}
use Rattle.chain_params.specs.Rules.{era_of, seats_of, thresholds_in, deposit_of, places_of}
use Rattle.state_rules.specs.declared.state.State.{State}
use Rattle.state_rules.specs.declared.state.RoleRow.{RoleRow}
use Rattle.state_rules.specs.declared.state.RoleKind.{RoleKind}
use Rattle.state_rules.specs.declared.state.RoleKind.TheVariants as kinds
use Rattle.state_rules.specs.declared.state.EraRow.{EraRow}
use Rattle.state_rules.specs.declared.state.MemberRow.{MemberRow}
use Rattle.state_rules.specs.declared.state.RoundRow.{RoundRow}
use Rattle.state_rules.specs.declared.state.QueueRow.{QueueRow}
use Rattle.state_rules.specs.declared.state.WaitingRow.{WaitingRow}
use Rattle.npos_runtime.specs.declared.chain.Chain.{Chain}
use Rattle.npos_runtime.specs.declared.round.Round.{Round}
use Rattle.npos_runtime.specs.declared.round.Round.TheVariants as rounds
use Rattle.npos_runtime.specs.Rules.Committee.{Committee}
use Rattle.npos_runtime.specs.Live.{IsJoined}
use Rattle.npos_runtime.specs.Kept.Parts.{as_kept}

-- ## The rows

-- who stands in the bags has a role
abbrev pub kind_in : Option Standing → RoleKind
kind_in None = kinds.Nominator []
kind_in (Some (standing.Nominator targets)) = kinds.Nominator targets
kind_in (Some (standing.Validator commission)) = kinds.Validator commission

abbrev pub role_row : RoleList → AccountId × ℕ → RoleRow
role_row roles entry =
    record { who = entry.0; bag = entry.1; role = kind_in (standing_of roles entry.0) }

abbrev pub member_row : AccountId × Member → MemberRow
member_row entry = record {
  who = entry.1.exposure.validator;
  commission = entry.1.exposure.commission;
  backers = entry.1.exposure.backers;
  points = entry.1.points;
  claimed = entry.1.claimed;
  fraction = entry.1.fraction;
}

-- an era without members has no row
abbrev pub era_row : ℕ → Members → List EraRow
era_row era [] = []
era_row era (member ∷ more) = record { era = era; members = map member_row (member ∷ more) } ∷ []

-- the latest of these is the era of this number, and before it stands the one before
abbrev pub era_rows : ℕ → List Members → List EraRow
era_rows era [] = []
era_rows era (members ∷ before) = era_rows (era - 1) before ++ era_row era members

abbrev pub voter_row : Voter → BundleVoter
voter_row voter = record { account = voter.account; stake = voter.stake; votes = voter.votes }

abbrev pub round_row : Snapshot → List ℕ → RoundRow
round_row snapshot commissions = record {
  targets = zip snapshot.targets commissions;
  voters = map voter_row snapshot.voters;
}

abbrev pub open_row : Option Round → Option RoundRow
open_row (Some (rounds.Open number snapshot commissions)) = Some (round_row snapshot commissions)
open_row other = None

abbrev pub queue_row : Submission → QueueRow
queue_row item =
    record { number = item.number; who = item.who; score = item.score; bytes = item.bytes }

abbrev pub waiting_row : Committee → WaitingRow
waiting_row committee = record {
  round = round_row committee.snapshot committee.commissions;
  committee = committee.weights.committee;
  edges = committee.weights.edges;
}

-- ## The state

abbrev pub state_of : Chain → State
state_of chain = record {
  params = option_map (λ (params : Params). (params, chain.defer)) chain.params;
  due = chain.due;
  genesis = chain.book.genesis;
  minted = chain.book.minted;
  burned = chain.book.burned;
  rows = map book_row chain.book.rows;
  roles = map (role_row chain.roles) chain.bags.order;
  eras = era_rows chain.eras.current chain.eras.kept;
  round = open_row chain.round;
  next_submission = chain.next;
  queue = map queue_row chain.queue.items;
  waiting = option_map waiting_row chain.waiting;
  next_slash = chain.eras.next_slash;
  slashes = chain.eras.queue;
}

-- what the chain keeps
abbrev pub kept : Chain → State
kept chain = state_of (as_kept chain)

-- ## What follows from it

-- The bags, the places and the deposits are those that the params ask for, and without params no slash waits.
pub record IsByParams (chain : Chain) : Type 0 where
  pub defer : chain.params ≡ None → chain.defer ≡ 0
  pub thresholds : chain.bags.thresholds ≡ thresholds_in chain.params
  pub places : chain.queue.places ≡ places_of chain.params
  pub deposits : All (λ item. item.deposit ≡ deposit_of chain.params) chain.queue.items

-- a member stands under its own account, and its support is what its backers give
pub record IsTrueMember (entry : AccountId × Member) : Type 0 where
  pub own : entry.1.exposure.validator ≡ entry.0
  pub support : entry.1.exposure.support ≡ amount_sum entry.1.exposure.backers

abbrev pub AreTrueMembers : Members → Type 0
AreTrueMembers members = All IsTrueMember members

-- the era is that of the last block that was taken; as many are kept before it as have been, up to 84
pub record AreTrueEras (chain : Chain) : Type 0 where
  pub era : chain.eras.current ≡ era_of chain.params (chain.due - 1)
  pub count : length chain.eras.kept ≡ min (chain.eras.current + 1) (MOST_PAST_ERAS + 1)
  pub members : All AreTrueMembers chain.eras.kept

-- the seats are those of the params, and each target has a commission
pub record IsTrueSnapshot (params : Option Params) (snapshot : Snapshot) (commissions : List ℕ) : Type 0 where
  pub seats : snapshot.seats ≡ seats_of params
  pub count : length commissions ≡ length snapshot.targets

-- the round that is open is the one of the era
abbrev pub IsTrueRound : Option Params → ℕ → Option Round → Type 0
IsTrueRound params due (Some (rounds.Open number snapshot commissions)) =
    (number ≡ era_of params due + 1) × IsTrueSnapshot params snapshot commissions
IsTrueRound params due other = Unit {0}

abbrev pub IsTrueCommittee : Option Params → Option Committee → Type 0
IsTrueCommittee params None = Unit {0}
IsTrueCommittee params (Some committee) = IsTrueSnapshot params committee.snapshot committee.commissions

-- What the kept state leaves out of the chain follows from it.
pub record IsTold (chain : Chain) : Type 0 where
  pub params : IsByParams chain
  -- roles stand by rising account, and those who have one are those who stand in the bags
  pub rising : IsStrictlySortedBy account_cmp (keys_of chain.roles)
  pub listed : IsJoined chain.roles chain.bags
  pub eras : AreTrueEras chain
  pub round : IsTrueRound chain.params chain.due chain.round
  pub waiting : IsTrueCommittee chain.params chain.waiting
