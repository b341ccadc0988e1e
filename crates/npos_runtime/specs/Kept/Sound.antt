-- What holds of a chain between two blocks besides, part by part, so that the state which it keeps has no fault.
use Rattle.std.specs.Prelude.{◌≡◌, ◌≢◌, ℕ, ◌+◌, ◌-◌, ◌*◌, ◌^◌, ◌<◌, ◌≤◌, true, false, is_some, List, [], length, map, drop, Option, Some, None, All, AllPairs}
use Rattle.std.specs.List.{IsDistinct}
use Rattle.std.specs.List.Sorted.{IsStrictlySortedBy, IsStrictlyIncreasing}
use Rattle.std.specs.Map.{keys_of}
use Rattle.npos_base.specs.declared.account.AccountId.{AccountId}
use Rattle.npos_base.specs.declared.limits.TheConstants.{MOST_NOMINATIONS, WHOLE_FRACTION}
use Rattle.npos_base.specs.Account.{account_cmp, same_account}
use Rattle.npos_base.specs.Score.{is_better}
use Rattle.stake_ledger.specs.Ledger.{Ledger, row_of, row_at}
use Rattle.stake_ledger.specs.Rows.{is_bonded}
use Rattle.voter_lists.specs.declared.standing.Standing.{Standing}
use Rattle.voter_lists.specs.declared.standing.Standing.TheVariants as standing
use Rattle.voter_lists.specs.Bags.{bag_of}
use Rattle.election_snapshot.specs.Snapshot.{Snapshot}
use Rattle.weight_book.specs.Passing.{Passes}
use Rattle.submission_queue.specs.declared.submission.Submission.{Submission}
use Rattle.era_book.specs.declared.deferred.DeferredSlash.{DeferredSlash}
use Rattle.era_book.specs.Exposures.{amount_sum}
use Rattle.era_book.specs.Members.{Member, Members}
use Rattle.era_book.specs.Eras.{members_in}
use Rattle.block_wire.specs.declared.genesis.Params.{Params}
use Rattle.chain_params.specs.Rules.{bonding_eras_of, solution_max_of, place_of}
use Rattle.npos_runtime.specs.declared.chain.Chain.{Chain}
use Rattle.npos_runtime.specs.declared.round.Round.{Round}
use Rattle.npos_runtime.specs.declared.round.Round.TheVariants as rounds
use Rattle.npos_runtime.specs.Rules.Committee.{Committee}

-- each of the accounts has a row in the books
abbrev pub AreKnown : Ledger → List AccountId → Type 0
AreKnown book accounts = All (λ who. is_some (row_of book who) ≡ true) accounts

-- ## Books

-- nothing is released later than what is unbonded now
abbrev pub AreTimely : ℕ → Ledger → Type 0
AreTimely latest book = All (λ entry. All (λ chunk. chunk.release ≤ latest) entry.1.chunks) book.rows

-- ## Roles and bags

-- a nominator names somebody, not too many, nobody twice, and not itself
pub record AreSoundTargets (who : AccountId) (targets : List AccountId) : Type 0 where
  pub some : 1 ≤ length targets
  pub few : length targets ≤ MOST_NOMINATIONS
  pub distinct : IsDistinct same_account targets
  pub others : All (λ target. same_account target who ≡ false) targets

abbrev pub IsSoundStanding : AccountId → Standing → Type 0
IsSoundStanding who (standing.Nominator targets) = AreSoundTargets who targets
IsSoundStanding who (standing.Validator commission) = commission ≤ WHOLE_FRACTION

-- some score stands in the bag
abbrev pub HasScore : List ℕ → ℕ → Type 0
HasScore thresholds bag = (score : ℕ) × (score < 2 ^ 64) × (bag_of thresholds score ≡ bag)

-- who has a role has stake behind it; the bags fall along the walk, and each is the one of some score
pub record AreSoundRoles (chain : Chain) : Type 0 where
  pub bonded : All (λ entry. is_bonded (row_at chain.book entry.0) ≡ true) chain.roles
  pub standings : All (λ entry. IsSoundStanding entry.0 entry.1) chain.roles
  pub falling : AllPairs (λ (first later : AccountId × ℕ). later.1 ≤ first.1) chain.bags.order
  pub scores : All (λ entry. HasScore chain.bags.thresholds entry.1) chain.bags.order

-- ## Eras

-- A member and its backers have rows; each backer gives something, and the member's own part stands first.
pub record IsSoundMember (book : Ledger) (entry : AccountId × Member) : Type 0 where
  pub known : is_some (row_of book entry.0) ≡ true
  pub backers : AreKnown book (map (λ backer. backer.who) entry.1.exposure.backers)
  pub given : All (λ backer. 0 < backer.amount) entry.1.exposure.backers
  pub own_first : All (λ backer. backer.who ≢ entry.0) (drop 1 entry.1.exposure.backers)
  pub fits : amount_sum entry.1.exposure.backers < 2 ^ 64

-- members stand by rising account
pub record AreSoundMembers (book : Ledger) (members : Members) : Type 0 where
  pub rising : IsStrictlySortedBy account_cmp (keys_of members)
  pub each : All (IsSoundMember book) members

-- the first era has no member
pub record AreSoundEras (chain : Chain) : Type 0 where
  pub first : members_in chain.eras 0 ≡ []
  pub members : All (AreSoundMembers chain.book) chain.eras.kept

-- ## Rounds

-- targets stand by rising account, and whoever is polled has a row
pub record IsSoundPoll (book : Ledger) (snapshot : Snapshot) : Type 0 where
  pub rising : IsStrictlySortedBy account_cmp snapshot.targets
  pub targets : AreKnown book snapshot.targets
  pub voters : AreKnown book (map (λ voter. voter.account) snapshot.voters)

abbrev pub IsSoundOpen : Ledger → Option Round → Type 0
IsSoundOpen book (Some (rounds.Open number snapshot commissions)) = IsSoundPoll book snapshot
IsSoundOpen book other = Unit {0}

-- ## Submissions

-- no later claim is better, and of equal claims the earlier one stands first
pub record StandsBefore (first later : Submission) : Type 0 where
  pub not_better : is_better later.score first.score ≡ false
  pub earlier : is_better first.score later.score ≡ false → first.number < later.number

pub record WasAccepted (chain : Chain) (item : Submission) : Type 0 where
  pub numbered : 1 ≤ item.number
  pub given : item.number < chain.next
  pub fits : length item.bytes ≤ solution_max_of chain.params

-- a block has at most 64 calls, so no more submissions than that were accepted in each
pub record AreSoundSubmissions (chain : Chain) : Type 0 where
  pub known : AreKnown chain.book (map (λ item. item.who) chain.queue.items)
  pub accepted : All (WasAccepted chain) chain.queue.items
  pub apart : AllPairs (λ (first later : Submission). first.number ≢ later.number) chain.queue.items
  pub ranked : AllPairs StandsBefore chain.queue.items
  pub first : 1 ≤ chain.next
  pub few : chain.next ≤ 64 * (chain.due - 1) + 1

-- ## Who waits

-- the block before the next one is that of the decision, or a later one of its era
abbrev pub IsDecided : Option Params → ℕ → Type 0
IsDecided None due = ⊥
IsDecided (Some params) due = (1 < due) × (params.offset + params.signed ≤ place_of params (due - 1))

pub record IsSoundCommittee (chain : Chain) (committee : Committee) : Type 0 where
  pub decided : IsDecided chain.params chain.due
  pub poll : IsSoundPoll chain.book committee.snapshot
  pub rising : IsStrictlyIncreasing committee.weights.committee
  pub passes : Passes committee.snapshot committee.weights

abbrev pub IsSoundWaiting : Chain → Option Committee → Type 0
IsSoundWaiting chain None = Unit {0}
IsSoundWaiting chain (Some committee) = IsSoundCommittee chain committee

-- ## Slashes

pub record IsSoundSlash (chain : Chain) (slash : DeferredSlash) : Type 0 where
  pub numbered : 1 ≤ slash.number
  pub ahead : chain.eras.current < slash.due
  pub known : AreKnown chain.book (map (λ line. line.who) slash.lines)
  pub given : All (λ line. 0 < line.amount) slash.lines

pub record AreSoundSlashes (chain : Chain) : Type 0 where
  pub each : All (IsSoundSlash chain) chain.eras.queue
  pub first : 1 ≤ chain.eras.next_slash
  pub few : chain.eras.next_slash ≤ 64 * (chain.due - 1) + 1

-- ## The chain

pub record IsSoundChain (chain : Chain) : Type 0 where
  pub books : AreTimely (chain.eras.current + bonding_eras_of chain.params) chain.book
  pub roles : AreSoundRoles chain
  pub eras : AreSoundEras chain
  pub round : IsSoundOpen chain.book chain.round
  pub queue : AreSoundSubmissions chain
  pub waiting : IsSoundWaiting chain chain.waiting
  pub slashes : AreSoundSlashes chain
