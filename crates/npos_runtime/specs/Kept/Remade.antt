-- What the parts of a state have to be, so that they are made anew without a fault: each item is sound to
-- those before it. What else a sound item speaks of, as the rows of the accounts, does not matter.
use Rattle.std.specs.Prelude.{◌≡◌, ℕ, Bool, List, [], Option, Some, None, ⊤}
use Rattle.npos_base.specs.declared.account.AccountId.{AccountId}
use Rattle.block_wire.specs.declared.bundle.BundleVoter.{BundleVoter}
use Rattle.stake_ledger.specs.declared.book_row.BookRow.{BookRow}
use Rattle.voter_lists.specs.Roles.{RoleList, validate_refusal}
use Rattle.voter_lists.specs.Taken.{IsNomination}
use Rattle.election_snapshot.specs.Draft.{target_fault, voter_fault}
use Rattle.era_book.specs.declared.deferred.DeferredSlash.{DeferredSlash}
use Rattle.state_rules.specs.declared.state.RoleRow.{RoleRow}
use Rattle.state_rules.specs.declared.state.RoleKind.{RoleKind}
use Rattle.state_rules.specs.declared.state.RoleKind.TheVariants as kinds
use Rattle.state_rules.specs.declared.state.EraRow.{EraRow}
use Rattle.state_rules.specs.declared.state.MemberRow.{MemberRow}
use Rattle.state_rules.specs.declared.state.RoundRow.{RoundRow}
use Rattle.state_rules.specs.declared.state.QueueRow.{QueueRow}
use Rattle.state_rules.specs.declared.state.WaitingRow.{WaitingRow}
use Rattle.state_rules.specs.Rounds.{Target, draft_of}
use Rattle.state_rules.specs.Sound.{EachIs, IsSoundRole, IsSoundMember, IsSoundEra, IsSoundRound, IsSoundItem, IsSoundCommittee, IsSoundSlash}

-- ## Roles

-- the account can take the role
abbrev pub CanStand : RoleList → AccountId → RoleKind → Type 0
CanStand roles who (kinds.Nominator targets) = IsNomination who targets
CanStand roles who (kinds.Validator commission) = validate_refusal roles who commission ≡ None

-- roles in the bags between these thresholds
abbrev pub AreRolesBetween : List ℕ → List RoleRow → Type 0
AreRolesBetween thresholds rows = (known : List BookRow) × EachIs (IsSoundRole thresholds known) rows

abbrev pub AreSoundRoles : List RoleRow → Type 0
AreSoundRoles rows = (thresholds : List ℕ) × AreRolesBetween thresholds rows

-- ## Submissions

abbrev pub AreSoundItems : ℕ → List QueueRow → Type 0
AreSoundItems places rows = (has_round : Bool) × (most_bytes : ℕ) × (next : ℕ) × (known : List BookRow)
    × EachIs (IsSoundItem has_round places most_bytes known next) rows

-- ## Eras

abbrev pub AreSoundMembers : List MemberRow → Type 0
AreSoundMembers rows = (known : List BookRow) × EachIs (IsSoundMember known) rows

abbrev pub AreSoundEras : ℕ → List EraRow → Type 0
AreSoundEras last rows = (has_params : Bool) × (known : List BookRow) × EachIs (IsSoundEra has_params last known) rows

abbrev pub AreSoundSlashes : ℕ → List DeferredSlash → Type 0
AreSoundSlashes next slashes = (era : ℕ) × (defer_eras : ℕ) × (known : List BookRow)
    × EachIs (IsSoundSlash era defer_eras next known) slashes

-- ## Snapshots

abbrev pub AreTargetsTaken : List Target → Type 0
AreTargetsTaken targets = EachIs (λ before target. target_fault (draft_of before []) target.0 ≡ None) targets

abbrev pub AreVotersTaken : List Target → List BundleVoter → Type 0
AreVotersTaken targets voters =
    EachIs (λ before voter. voter_fault (draft_of targets before) voter.account voter.stake voter.votes ≡ None) voters

abbrev pub IsBuilt : ℕ → RoundRow → Type 0
IsBuilt seats row = (known : List BookRow) × IsSoundRound known seats row

abbrev pub IsBuiltRound : ℕ → Option RoundRow → Type 0
IsBuiltRound seats None = ⊤
IsBuiltRound seats (Some row) = IsBuilt seats row

abbrev pub IsBuiltCommittee : ℕ → WaitingRow → Type 0
IsBuiltCommittee seats row = (known : List BookRow) × IsSoundCommittee known seats row
