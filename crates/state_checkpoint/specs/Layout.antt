-- How the state of a chain is spelled: its parts in order, each by its layout.
use Rattle.std.specs.Prelude.{ℕ, List, [], ◌∷◌, Option}
use Rattle.npos_base.specs.declared.limits.TheConstants.{MOST_SEATS, MOST_QUEUED, MOST_SOLUTION_BYTES}
use Rattle.scale_wire.specs.Form.{Form}
use Rattle.scale_wire.specs.Parts.{account_form, compact_u16, compact_u32, compact_u64}
use Rattle.scale_wire.specs.Values.{flag_form, score_form, edge_form}
use Rattle.scale_wire.specs.Composite.{pair, triple, seen, list, byte_list, optional, run, Fields, fields, Choice, choice}
use Rattle.stake_ledger.specs.declared.chunks.Chunk.{Chunk}
use Rattle.stake_ledger.specs.declared.book_row.BookRow.{BookRow}
use Rattle.era_book.specs.declared.exposure.Backer.{Backer}
use Rattle.era_book.specs.declared.deferred.DeferredSlash.{DeferredSlash}
use Rattle.block_wire.specs.declared.genesis.Params.{Params}
use Rattle.block_wire.specs.Genesis.{params_form}
use Rattle.block_wire.specs.Bundles.{voter_form}
use Rattle.state_rules.specs.declared.state.State.{State}
use Rattle.state_rules.specs.declared.state.RoleRow.{RoleRow}
use Rattle.state_rules.specs.declared.state.RoleKind.{RoleKind}
use Rattle.state_rules.specs.declared.state.RoleKind.TheVariants.{Nominator, Validator}
use Rattle.state_rules.specs.declared.state.EraRow.{EraRow}
use Rattle.state_rules.specs.declared.state.MemberRow.{MemberRow}
use Rattle.state_rules.specs.declared.state.RoundRow.{RoundRow}
use Rattle.state_rules.specs.declared.state.QueueRow.{QueueRow}
use Rattle.state_rules.specs.declared.state.WaitingRow.{WaitingRow}
use Rattle.block_wire.specs.declared.limits.TheConstants.{MOST_NAMED}
use Rattle.state_checkpoint.specs.declared.limits.TheConstants.{MOST_CHUNKS, MOST_MEMBERS, MOST_BACKERS, MOST_TARGETS, MOST_VOTERS, MOST_EDGES, MOST_SLASHES, MOST_LINES}

-- ## What accounts have, and what they do

-- value, release
abbrev pub chunk_form : Form Chunk
chunk_form = seen (pair compact_u64 compact_u32) (λ chunk. (chunk.value, chunk.release))

-- account, free, active, chunks, held
abbrev pub row_form : Form BookRow
row_form = seen
    (triple (triple account_form compact_u64 compact_u64) (list chunk_form MOST_CHUNKS) compact_u64)
    (λ row. ((row.who, row.free, row.active), row.chunks, row.held))

-- what behind the tag of a role stands: its targets, or its commission
abbrev pub kinds : List Fields
kinds = fields (list account_form MOST_NAMED) ∷ fields compact_u32 ∷ []

abbrev pub kind_choice : RoleKind → Choice kinds
kind_choice (Nominator targets) = record { tag = 0; values = targets }
kind_choice (Validator commission) = record { tag = 1; values = commission }

abbrev pub kind_form : Form RoleKind
kind_form = seen (choice kinds) kind_choice

-- account, bag, role
abbrev pub role_form : Form RoleRow
role_form =
    seen (triple account_form compact_u32 kind_form) (λ role. (role.who, role.bag, role.role))

-- ## Eras

-- account, amount
abbrev pub backer_form : Form Backer
backer_form = seen (pair account_form compact_u64) (λ backer. (backer.who, backer.amount))

-- account, commission, backers, points, claimed, kept fraction
abbrev pub member_form : Form MemberRow
member_form = seen
    (triple
    (pair account_form compact_u32)
    (list backer_form MOST_BACKERS)
    (triple compact_u32 flag_form compact_u32))
    (λ member. (
      (member.who, member.commission),
      member.backers,
      (member.points, member.claimed, member.fraction),
    ))

-- era, members
abbrev pub era_form : Form EraRow
era_form = seen (pair compact_u32 (list member_form MOST_MEMBERS)) (λ era. (era.era, era.members))

-- ## Elections

-- a snapshot: targets with their commissions, and voters
abbrev pub round_form : Form RoundRow
round_form = seen
    (pair (list (pair account_form compact_u32) MOST_TARGETS) (list voter_form MOST_VOTERS))
    (λ round. (round.targets, round.voters))

-- number, account, claimed score, bytes
abbrev pub queued_form : Form QueueRow
queued_form = seen
    (triple (pair compact_u64 account_form) score_form (byte_list MOST_SOLUTION_BYTES))
    (λ item. ((item.number, item.who), item.score, item.bytes))

-- snapshot, committee, edges
abbrev pub waiting_form : Form WaitingRow
waiting_form = seen
    (triple round_form (list compact_u16 MOST_SEATS) (list edge_form MOST_EDGES))
    (λ waiting. (waiting.round, waiting.committee, waiting.edges))

-- number, due era, lines
abbrev pub slash_form : Form DeferredSlash
slash_form = seen
    (triple compact_u64 compact_u32 (list backer_form MOST_LINES))
    (λ slash. (slash.number, slash.due, slash.lines))

-- ## The state

-- params with the eras that a slash waits, due block; genesis, minted, burned
abbrev pub Head : Type 0
Head = Option (Params × ℕ) × ℕ × (ℕ × ℕ × ℕ)

abbrev pub head_form : Form Head
head_form = triple
    (optional (pair params_form compact_u32))
    compact_u64
    (triple compact_u64 compact_u64 compact_u64)

abbrev pub head_of : State → Head
head_of state = (state.params, state.due, (state.genesis, state.minted, state.burned))

-- rows, roles, eras
abbrev pub Runs : Type 0
Runs = List BookRow × List RoleRow × List EraRow

abbrev pub runs_form : Form Runs
runs_form = triple (run row_form) (run role_form) (run era_form)

abbrev pub runs_of : State → Runs
runs_of state = (state.rows, state.roles, state.eras)

-- the committee that waits; next number and slashes
abbrev pub Waits : Type 0
Waits = Option WaitingRow × (ℕ × List DeferredSlash)

abbrev pub waits_form : Form Waits
waits_form = pair (optional waiting_form) (pair compact_u64 (list slash_form MOST_SLASHES))

abbrev pub waits_of : State → Waits
waits_of state = (state.waiting, (state.next_slash, state.slashes))

-- round; next number and submissions; what waits
abbrev pub Tail : Type 0
Tail = Option RoundRow × (ℕ × List QueueRow) × Waits

abbrev pub tail_form : Form Tail
tail_form =
    triple (optional round_form) (pair compact_u64 (list queued_form MOST_QUEUED)) waits_form

abbrev pub tail_of : State → Tail
tail_of state = (state.round, (state.next_submission, state.queue), waits_of state)

abbrev pub Parts : Type 0
Parts = Head × Runs × Tail

abbrev pub parts_form : Form Parts
parts_form = triple head_form runs_form tail_form

abbrev pub parts_of : State → Parts
parts_of state = (head_of state, runs_of state, tail_of state)

-- there is one form of a state, that of the tag 0
abbrev pub states : List Fields
states = fields parts_form ∷ []

abbrev pub state_choice : State → Choice states
state_choice state = record { tag = 0; values = parts_of state }

abbrev pub state_form : Form State
state_form = seen (choice states) state_choice
