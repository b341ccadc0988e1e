-- What is right with the parts of a state of a chain: the rules of the causes as facts.
use Rattle.std.specs.Prelude.{◌≡◌, ℕ, ◌+◌, ◌-◌, ◌*◌, ◌^◌, ◌<◌, ◌≤◌, Bool, true, false, not, nat_lt, nat_le, nat_eq, List, [], length, map, take, slice_index_or, Option, Some, None, ⊤, is_some}
use Rattle.std.specs.List.{list_any}
use Rattle.npos_base.specs.declared.account.AccountId.{AccountId}
use Rattle.npos_base.specs.declared.limits.TheConstants.{MOST_NOMINATIONS, MOST_VALIDATORS, MOST_PAST_ERAS, WHOLE_FRACTION}
use Rattle.chain_params.specs.Rules.{bonding_eras_of, thresholds_in, seats_of, places_of, solution_max_of, deposit_of}
use Rattle.election_snapshot.specs.Draft.{target_fault, voter_fault, finish_fault}
use Rattle.era_book.specs.declared.exposure.Backer.{Backer}
use Rattle.era_book.specs.declared.deferred.DeferredSlash.{DeferredSlash}
use Rattle.era_book.specs.Exposures.{amount_sum}
use Rattle.stake_ledger.specs.declared.book_row.BookRow.{BookRow}
use Rattle.stake_ledger.specs.BookRows.{rows_fault}
use Rattle.state_rules.specs.declared.state.RoleRow.{RoleRow}
use Rattle.state_rules.specs.declared.state.RoleKind.{RoleKind}
use Rattle.state_rules.specs.declared.state.RoleKind.TheVariants.{Nominator, Validator}
use Rattle.state_rules.specs.declared.state.EraRow.{EraRow}
use Rattle.state_rules.specs.declared.state.MemberRow.{MemberRow}
use Rattle.state_rules.specs.declared.state.RoundRow.{RoundRow}
use Rattle.state_rules.specs.declared.state.QueueRow.{QueueRow}
use Rattle.state_rules.specs.declared.state.WaitingRow.{WaitingRow}
use Rattle.state_rules.specs.declared.state.State.{State}
use Rattle.state_rules.specs.Lists.{has_bad, follows, is_rising}
use Rattle.state_rules.specs.Accounts.{stands_in, is_below}
use Rattle.state_rules.specs.Known.{row_of, has_row, is_bonded}
use Rattle.state_rules.specs.Terms.{params_of, defer_of, era_before, is_open, is_decided}
use Rattle.state_rules.specs.Rows.{is_late}
use Rattle.state_rules.specs.Roles.{is_scoreless, validators_in}
use Rattle.state_rules.specs.Eras.{is_bad_line, names_unknown, has_late_own}
use Rattle.state_rules.specs.Rounds.{Target, draft_of}
use Rattle.state_rules.specs.Queue.{outranks, waiting_of}
use Rattle.state_rules.specs.Waiting.{edge_below}

-- each item stands so to those before it
abbrev pub EachIs : {A : Type 0} → (List A → A → Type 0) → List A → Type 0
EachIs {A} Stands items =
    (place : ℕ) (d : A) → place < length items → Stands (take place items) (slice_index_or items place d)

-- ## Roles

-- a nominator names other accounts, one at least and not too many, and none twice
pub record IsNomination (who : AccountId) (targets : List AccountId) : Type 0 where
  pub some : 1 ≤ length targets
  pub few : length targets ≤ MOST_NOMINATIONS
  pub distinct : has_bad stands_in targets ≡ false
  pub others : stands_in targets who ≡ false

-- what a role of its kind says, where so many validators stand before it
abbrev pub IsKind : AccountId → ℕ → RoleKind → Type 0
IsKind who validators (Nominator targets) = IsNomination who targets
IsKind who validators (Validator commission) = (commission ≤ WHOLE_FRACTION) × (validators < MOST_VALIDATORS)

-- a role behind those before it, none of which is in a lower bag
pub record IsSoundRole (thresholds : List ℕ) (rows : List BookRow) (before : List RoleRow) (role : RoleRow)
    : Type 0 where
  pub bonded : is_bonded (row_of rows role.who) ≡ true
  pub first : stands_in (map (λ earlier. earlier.who) before) role.who ≡ false
  pub bag : role.bag ≤ length thresholds
  pub scores : is_scoreless thresholds role.bag ≡ false
  pub walk : follows (λ earlier later. nat_le later.bag earlier.bag) before role ≡ true
  pub kind : IsKind role.who (validators_in before) role.role

-- ## Eras

-- what backs a member: other accounts behind its own part, each once with an amount above 0
pub record AreSoundBackers (rows : List BookRow) (who : AccountId) (backers : List Backer) : Type 0 where
  pub own_first : has_late_own who backers ≡ false
  pub fits : amount_sum backers < 2 ^ 64
  pub known : names_unknown rows backers ≡ false
  pub lines : has_bad is_bad_line backers ≡ false

pub record IsSoundMember (rows : List BookRow) (before : List MemberRow) (member : MemberRow) : Type 0 where
  pub above : follows (λ earlier later. is_below earlier.who later.who) before member ≡ true
  pub known : has_row rows member.who ≡ true
  pub commission : member.commission ≤ WHOLE_FRACTION
  pub fraction : member.fraction ≤ WHOLE_FRACTION
  pub backers : AreSoundBackers rows member.who member.backers

pub record IsSoundEra (has_params : Bool) (current : ℕ) (rows : List BookRow) (before : List EraRow) (era : EraRow)
    : Type 0 where
  pub params : has_params ≡ true
  pub begun : 1 ≤ era.era
  pub reached : era.era ≤ current
  pub kept : current ≤ era.era + MOST_PAST_ERAS
  pub above : follows (λ earlier later. nat_lt earlier.era later.era) before era ≡ true
  pub some : 1 ≤ length era.members
  pub members : EachIs (IsSoundMember rows) era.members

-- ## Snapshots

pub record IsSoundTarget (rows : List BookRow) (before : List Target) (target : Target) : Type 0 where
  pub above : follows (λ earlier later. is_below earlier.0 later.0) before target ≡ true
  pub known : has_row rows target.0 ≡ true
  pub commission : target.1 ≤ WHOLE_FRACTION

-- a snapshot of known accounts, which the builder builds
pub record IsSoundRound (rows : List BookRow) (seats : ℕ) (round : RoundRow) : Type 0 where
  pub targets : EachIs (IsSoundTarget rows) round.targets
  pub voters : list_any (λ voter. not (has_row rows voter.account)) round.voters ≡ false
  pub targets_taken : EachIs (λ before target. target_fault (draft_of before []) target.0 ≡ None) round.targets
  pub voters_taken : EachIs (λ before voter. voter_fault (draft_of round.targets before) voter.account voter.stake voter.votes ≡ None) round.voters
  pub seated : finish_fault (draft_of round.targets round.voters) seats ≡ None

abbrev pub IsSoundOpen : State → Option RoundRow → Type 0
IsSoundOpen state None = ⊤
IsSoundOpen state (Some round) =
    (is_open state ≡ true) × IsSoundRound state.rows (seats_of (params_of state)) round

-- ## Submissions

-- a submission behind those before it, the last of which outranks it
pub record IsSoundItem (has_round : Bool) (places most_bytes : ℕ) (rows : List BookRow) (next : ℕ)
    (before : List QueueRow) (item : QueueRow) : Type 0 where
  pub round : has_round ≡ true
  pub place : length before < places
  pub known : has_row rows item.who ≡ true
  pub numbered : 1 ≤ item.number
  pub given : item.number < next
  pub fresh : list_any (λ earlier. nat_eq earlier.number item.number) before ≡ false
  pub rank : follows outranks before item ≡ true
  pub bytes : length item.bytes ≤ most_bytes

-- ## Committees that wait

pub record IsSoundCommittee (rows : List BookRow) (seats : ℕ) (waiting : WaitingRow) : Type 0 where
  pub committee : is_rising nat_lt waiting.committee ≡ true
  pub edges : is_rising edge_below waiting.edges ≡ true
  pub amounts : list_any (λ edge. nat_eq edge.amount 0) waiting.edges ≡ false
  pub round : IsSoundRound rows seats waiting.round

abbrev pub IsSoundWaiting : State → Option WaitingRow → Type 0
IsSoundWaiting state None = ⊤
IsSoundWaiting state (Some waiting) =
    (is_decided state ≡ true) × IsSoundCommittee state.rows (seats_of (params_of state)) waiting

-- ## Slashes

-- a slash behind those before it, none of which is due later
pub record IsSoundSlash (era defer_eras next : ℕ) (rows : List BookRow) (before : List DeferredSlash) (slash : DeferredSlash)
    : Type 0 where
  pub numbered : 1 ≤ slash.number
  pub given : slash.number < next
  pub above : follows (λ earlier later. nat_lt earlier.number later.number) before slash ≡ true
  pub ahead : era < slash.due
  pub within : slash.due ≤ era + defer_eras
  pub dues : follows (λ earlier later. nat_le earlier.due later.due) before slash ≡ true
  pub known : names_unknown rows slash.lines ≡ false
  pub lines : has_bad is_bad_line slash.lines ≡ false

-- ## The whole

-- a count that started at 1 and rose by no more than 64 a block
pub record IsNextNumber (due next : ℕ) : Type 0 where
  pub some : 1 ≤ next
  pub within : next ≤ 64 * (due - 1) + 1

-- Nothing is wrong with the state but for its slashes: a book has its rows and sums, and the other
-- parts are sound.
pub record IsSoundState (state : State) : Type 0 where
  pub book : rows_fault state.rows state.genesis state.minted state.burned ≡ None
  pub releases : list_any (is_late (era_before state + bonding_eras_of (params_of state))) state.rows ≡ false
  pub roles : EachIs (IsSoundRole (thresholds_in (params_of state)) state.rows) state.roles
  pub eras : EachIs (IsSoundEra (is_some state.params) (era_before state) state.rows) state.eras
  pub round : IsSoundOpen state state.round
  pub next_submission : IsNextNumber state.due state.next_submission
  pub queue : EachIs (IsSoundItem (is_some state.round) (places_of (params_of state)) (solution_max_of (params_of state))
      state.rows state.next_submission) state.queue
  pub held : EachIs (λ before row. row.held ≡ deposit_of (params_of state) * waiting_of state.queue row.who) state.rows
  pub waiting : IsSoundWaiting state state.waiting

-- nothing is wrong with its slashes
pub record HasSoundSlashes (state : State) : Type 0 where
  pub next_slash : IsNextNumber state.due state.next_slash
  pub slashes : EachIs (IsSoundSlash (era_before state) (defer_of state) state.next_slash state.rows) state.slashes
