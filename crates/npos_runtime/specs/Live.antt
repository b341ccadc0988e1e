-- What holds of a chain, besides what its parts keep.
use Rattle.std.specs.Prelude.{◌≡◌, ℕ, ◌+◌, ◌-◌, ◌*◌, ◌^◌, ◌≤◌, ◌<◌, false, All, List, [], count_by, length, Option, Some, None}
use Rattle.std.specs.Map.{values_of}
use Rattle.npos_base.specs.declared.account.AccountId.{AccountId}
use Rattle.npos_base.specs.declared.limits.TheConstants.{MOST_NOMINATIONS, WHOLE_FRACTION}
use Rattle.stake_ledger.specs.Ledger.{Ledger, row_at, IsBalanced}
use Rattle.npos_runtime.specs.declared.chain.Chain.{Chain}
use Rattle.block_wire.specs.declared.genesis.Params.{Params}
use Rattle.chain_params.specs.Rules.{era_of, place_of, places_of}
use Rattle.chain_params.specs.Faults.{AreSound, CanWait}
use Rattle.npos_runtime.specs.Rules.Ballots.{commission_in}
use Rattle.npos_runtime.specs.Rules.Committee.{Committee}
use Rattle.npos_runtime.specs.Rules.BookCalls.{release_now}
use Rattle.npos_base.specs.Account.{same_account}
use Rattle.voter_lists.specs.Ranked.{AreRanked}
use Rattle.voter_lists.specs.Roles.{RoleList, role_of, nominated_by, validators_of, has_repeated_account}
use Rattle.voter_lists.specs.Bags.{Listing, is_listed, walk}
use Rattle.election_snapshot.specs.Snapshot.{IsWellFormed, stake_of}
use Rattle.weight_book.specs.Weights.{Follows, spent}
use Rattle.submission_queue.specs.declared.submission.Submission.{Submission}
use Rattle.submission_queue.specs.Ranking.{IsOrdered}
use Rattle.era_book.specs.Deferred.{AreQueued}
use Rattle.era_book.specs.Eras.{Eras, AreKept}
use Rattle.era_book.specs.Members.{Members}
use Rattle.npos_runtime.specs.declared.round.Round.{Round}
use Rattle.npos_runtime.specs.declared.round.Round.TheVariants.{Open}
use Rattle.round_decision.specs.Deposits.{AreHeld}
use Rattle.npos_runtime.specs.Rules.Lists.{has_role}

-- an account is listed in the bags exactly while it has a role
abbrev pub IsJoined : RoleList → Listing → Type 0
IsJoined roles listing = (who : AccountId) → is_listed listing.order who ≡ has_role roles who

abbrev pub times : AccountId → List AccountId → ℕ
times who accounts = count_by (λ account. same_account account who) accounts

-- no account stands twice
abbrev pub IsOnce : List AccountId → Type 0
IsOnce accounts = (who : AccountId) → times who accounts ≤ 1

-- the bags are the one list of accounts with a role: each stands once, in a bag that there is
pub record IsListing (roles : RoleList) (listing : Listing) : Type 0 where
  pub listed : IsJoined roles listing
  pub once : IsOnce (walk listing.order)
  pub numbered : All (λ entry. entry.1 ≤ length listing.thresholds) listing.order

-- as many targets as one may name at most, none of them twice
pub record IsNomination (targets : List AccountId) : Type 0 where
  pub few : length targets ≤ MOST_NOMINATIONS
  pub distinct : has_repeated_account targets ≡ false

-- there are at most 2,048 validators, and no validator keeps more than the whole of its rewards
pub record AreRoles (roles : RoleList) : Type 0 where
  pub ranked : AreRanked roles (validators_of roles)
  pub nominations : (who : AccountId) → IsNomination (nominated_by roles who)
  pub commissions : (who : AccountId) → commission_in (role_of roles who) ≤ WHOLE_FRACTION

-- The books balance, nothing is released later than in this era, and what is held is the deposits
-- of these submissions.
pub record AreBooks (release : ℕ) (items : List Submission) (book : Ledger) : Type 0 where
  pub balanced : IsBalanced book
  pub releases : (who : AccountId) → All (λ chunk. chunk.release ≤ release) (row_at book who).chunks
  pub deposits : AreHeld book items

-- a commission is noted for each target, at most the whole
pub record AreNoted (targets : List AccountId) (commissions : List ℕ) : Type 0 where
  pub count : length commissions ≡ length targets
  pub within : All (λ commission. commission ≤ WHOLE_FRACTION) commissions

-- a round that is open has a well-formed snapshot, and the commissions of its targets
abbrev pub IsSoundRound : Option Round → Type 0
IsSoundRound (Some (Open number snapshot commissions)) =
    IsWellFormed snapshot × AreNoted snapshot.targets commissions
IsSoundRound other = Unit {0}

abbrev pub IsNotedCommittee : Option Committee → Type 0
IsNotedCommittee None = Unit {0}
IsNotedCommittee (Some committee) = AreNoted committee.snapshot.targets committee.commissions

-- a block of this number can be due: block numbers are u32, so the last is the one behind them
pub record CanBeDue (number : ℕ) : Type 0 where
  pub at_least : 1 ≤ number
  pub at_most : number ≤ 2 ^ 32

-- What holds of a chain at any time: of each part what it keeps, and of the parts what ties them
-- together.
pub record IsLive (chain : Chain) : Type 0 where
  pub params : AreSound chain.params
  pub defer : CanWait chain.params chain.defer
  pub due : CanBeDue chain.due
  -- nothing is released later than what would be unbonded now
  pub books : AreBooks (release_now chain) chain.queue.items chain.book
  pub roles : AreRoles chain.roles
  pub bags : IsListing chain.roles chain.bags
  pub round : IsSoundRound chain.round
  pub queue : IsOrdered chain.queue
  pub waiting : IsNotedCommittee chain.waiting

-- Before this block a round of this number is open: that of the next era, between the block of its
-- snapshot and the end of the one of its decision.
pub record IsUnderway (params : Params) (due number : ℕ) : Type 0 where
  pub number_is : number ≡ era_of (Some params) due + 1
  pub begun : params.offset < place_of params due
  pub undecided : place_of params due ≤ params.offset + params.signed

abbrev pub CanBeOpen : Option Params → ℕ → ℕ → Type 0
CanBeOpen None due number = ⊥
CanBeOpen (Some params) due number = IsUnderway params due number

-- where no round is open, nothing waits
abbrev pub IsInTime : Option Round → Option Params → ℕ → List Submission → Type 0
IsInTime (Some (Open number snapshot commissions)) params due items = CanBeOpen params due number
IsInTime other params due items = items ≡ []

-- Who waits was elected: its weights follow the nominations of a well-formed snapshot, and spend no
-- voter beyond its stake.
pub record IsElected (committee : Committee) : Type 0 where
  pub sound : IsWellFormed committee.snapshot
  pub follows : Follows committee.snapshot committee.weights
  pub stakes : (voter : ℕ) → voter < length committee.snapshot.voters
      → spent committee.weights.edges voter ≤ stake_of committee.snapshot voter

abbrev pub WasElected : Option Committee → Type 0
WasElected None = Unit {0}
WasElected (Some committee) = IsElected committee

-- each kept fraction is at most the whole
abbrev pub HaveFractions : Members → Type 0
HaveFractions members = All (λ member. member.fraction ≤ WHOLE_FRACTION) (values_of members)

-- What holds of the eras of a chain: the members of those that are kept are sound, and slashes wait in line.
-- Nothing is said of who has claimed: a state in which a member of the current era has is taken too, though
-- no history from a genesis leads there.
pub record AreInCourse (eras : Eras) : Type 0 where
  pub kept : AreKept eras
  pub fractions : All HaveFractions eras.kept
  pub queued : AreQueued eras

-- The eras are in course, and a slash that is reported now is due no earlier than those that wait, in an
-- era whose number is a u32.
pub record CanDefer (chain : Chain) : Type 0 where
  pub order : AreInCourse chain.eras
  pub later : All (λ slash. slash.due ≤ chain.eras.current + chain.defer) chain.eras.queue
  pub fits : chain.eras.current + chain.defer < 2 ^ 32

-- a chain between two blocks
pub record IsBetweenBlocks (chain : Chain) : Type 0 where
  pub live : IsLive chain
  -- the era is the one of the last block that was taken
  pub era : chain.eras.current ≡ era_of chain.params (chain.due - 1)
  pub places : chain.queue.places ≡ places_of chain.params
  -- a round is open in its own blocks alone
  pub timely : IsInTime chain.round chain.params chain.due chain.queue.items
  pub elected : WasElected chain.waiting
  pub slashes : CanDefer chain

-- A block has fewer than 2^32 calls, and block numbers are u32, so the numbers of submissions and of
-- slashes fit u64.
abbrev pub most_calls : ℕ
most_calls = 2 ^ 32 - 1

-- a chain that can take its next block: no block before took more submissions, or queued more slashes,
-- than it may have calls
pub record IsReady (chain : Chain) : Type 0 where
  pub between : IsBetweenBlocks chain
  pub numbered : chain.next ≤ 1 + most_calls * (chain.due - 1)
  pub slash_numbered : chain.eras.next_slash ≤ 1 + most_calls * (chain.due - 1)
