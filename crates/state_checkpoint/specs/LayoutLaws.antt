-- Proofs: states, and what they are made of, keep the laws of a form.
use Rattle.std.specs.Prelude.{◌≡◌, length, refl}
use Rattle.std.proofs.Common.{lit<}
use Rattle.npos_base.specs.declared.limits.TheConstants.{MOST_SEATS, MOST_QUEUED, MOST_SOLUTION_BYTES}
use Rattle.scale_wire.specs.Form.{IsWire}
use Rattle.scale_wire.specs.Parts.{account_form, compact_u16, compact_u32, compact_u64}
use Rattle.scale_wire.specs.Values.{flag_form, score_form, edge_form}
use Rattle.scale_wire.specs.Composite.{pair, triple, list, byte_list, optional, run}
use Rattle.scale_wire.specs.PartLaws.{tag_laws, byte_string_laws}
use Rattle.scale_wire.specs.AccountLaws.{account_laws}
use Rattle.scale_wire.specs.CompactLaws.{compact_u16_laws, compact_u32_laws, compact_u64_laws, length_laws}
use Rattle.scale_wire.specs.ValueLaws.{flag_laws, score_laws, edge_laws}
use Rattle.scale_wire.specs.FormLaws.{pair_laws, triple_laws, seen_laws, list_laws, byte_list_laws, optional_laws, AreVariants, HasChoice, given_at, enum_laws}
use Rattle.scale_wire.specs.RunLaws.{run_laws}
use Rattle.block_wire.specs.Genesis.{params_form}
use Rattle.block_wire.specs.GenesisLaws.{params_laws}
use Rattle.block_wire.specs.Bundles.{voter_form}
use Rattle.block_wire.specs.BundleLaws.{voter_laws}
use Rattle.state_rules.specs.declared.state.RoleKind.{RoleKind}
use Rattle.state_rules.specs.declared.state.RoleKind.TheVariants.{Nominator, Validator}
use Rattle.state_rules.specs.declared.state.State.{State}
use Rattle.block_wire.specs.declared.limits.TheConstants.{MOST_NAMED}
use Rattle.state_checkpoint.specs.declared.limits.TheConstants.{MOST_CHUNKS, MOST_MEMBERS, MOST_BACKERS, MOST_TARGETS, MOST_VOTERS, MOST_EDGES, MOST_SLASHES, MOST_LINES}
use Rattle.state_checkpoint.specs.Layout.{chunk_form, row_form, kinds, kind_choice, kind_form, role_form, backer_form}
use Rattle.state_checkpoint.specs.Layout.{member_form, era_form, round_form, queued_form, waiting_form, slash_form, head_form}
use Rattle.state_checkpoint.specs.Layout.{runs_form, waits_form, tail_form, Parts, parts_form, states, state_choice, state_form}

-- ## What accounts have, and what they do

chunk_laws : IsWire chunk_form
chunk_laws = seen_laws (pair compact_u64 compact_u32) (λ chunk. (chunk.value, chunk.release))
    (λ f. record { value = f.0; release = f.1 }) (λ _. refl) (λ _. refl)
    (pair_laws compact_u64 compact_u32 compact_u64_laws compact_u32_laws)

chunks_laws : IsWire (list chunk_form MOST_CHUNKS)
chunks_laws = list_laws chunk_form MOST_CHUNKS (length_laws MOST_CHUNKS (lit< tt)) chunk_laws

row_laws : IsWire row_form
row_laws = seen_laws (triple (triple account_form compact_u64 compact_u64) (list chunk_form MOST_CHUNKS) compact_u64)
    (λ row. ((row.who, row.free, row.active), row.chunks, row.held))
    (λ f. record { who = f.0.0; free = f.0.1; active = f.0.2; chunks = f.1; held = f.2 }) (λ _. refl) (λ _. refl)
    (triple_laws (triple account_form compact_u64 compact_u64) (list chunk_form MOST_CHUNKS) compact_u64
    (triple_laws account_form compact_u64 compact_u64 account_laws compact_u64_laws compact_u64_laws) chunks_laws compact_u64_laws)

named_laws : IsWire (list account_form MOST_NAMED)
named_laws = list_laws account_form MOST_NAMED (length_laws MOST_NAMED (lit< tt)) account_laws

-- Each kind keeps the laws, and is given by its tag and what stands behind it.
abbrev kinds_are : AreVariants kinds (HasChoice kinds kind_choice)
kinds_are = (named_laws, (λ targets. (Nominator targets, refl)), (compact_u32_laws, (λ commission. (Validator commission, refl)), tt))

kind_back : (kind : RoleKind) → (given_at kinds (HasChoice kinds kind_choice) kinds_are (kind_choice kind).tag (kind_choice kind).values).0 ≡ kind
kind_back (Nominator targets) = refl
kind_back (Validator commission) = refl

kind_laws : IsWire kind_form
kind_laws = enum_laws kinds kind_choice kinds_are kind_back (tag_laws (length kinds))

role_laws : IsWire role_form
role_laws = seen_laws (triple account_form compact_u32 kind_form) (λ role. (role.who, role.bag, role.role))
    (λ f. record { who = f.0; bag = f.1; role = f.2 }) (λ _. refl) (λ _. refl)
    (triple_laws account_form compact_u32 kind_form account_laws compact_u32_laws kind_laws)

-- ## Eras

backer_laws : IsWire backer_form
backer_laws = seen_laws (pair account_form compact_u64) (λ backer. (backer.who, backer.amount))
    (λ f. record { who = f.0; amount = f.1 }) (λ _. refl) (λ _. refl)
    (pair_laws account_form compact_u64 account_laws compact_u64_laws)

backers_laws : IsWire (list backer_form MOST_BACKERS)
backers_laws = list_laws backer_form MOST_BACKERS (length_laws MOST_BACKERS (lit< tt)) backer_laws

member_laws : IsWire member_form
member_laws = seen_laws (triple (pair account_form compact_u32) (list backer_form MOST_BACKERS) (triple compact_u32 flag_form compact_u32))
    (λ member. ((member.who, member.commission), member.backers, (member.points, member.claimed, member.fraction)))
    (λ f. record { who = f.0.0; commission = f.0.1; backers = f.1; points = f.2.0; claimed = f.2.1; fraction = f.2.2 }) (λ _. refl) (λ _. refl)
    (triple_laws (pair account_form compact_u32) (list backer_form MOST_BACKERS) (triple compact_u32 flag_form compact_u32)
    (pair_laws account_form compact_u32 account_laws compact_u32_laws) backers_laws
    (triple_laws compact_u32 flag_form compact_u32 compact_u32_laws flag_laws compact_u32_laws))

members_laws : IsWire (list member_form MOST_MEMBERS)
members_laws = list_laws member_form MOST_MEMBERS (length_laws MOST_MEMBERS (lit< tt)) member_laws

era_laws : IsWire era_form
era_laws = seen_laws (pair compact_u32 (list member_form MOST_MEMBERS)) (λ era. (era.era, era.members))
    (λ f. record { era = f.0; members = f.1 }) (λ _. refl) (λ _. refl)
    (pair_laws compact_u32 (list member_form MOST_MEMBERS) compact_u32_laws members_laws)

-- ## Elections

targets_laws : IsWire (list (pair account_form compact_u32) MOST_TARGETS)
targets_laws = list_laws (pair account_form compact_u32) MOST_TARGETS (length_laws MOST_TARGETS (lit< tt))
    (pair_laws account_form compact_u32 account_laws compact_u32_laws)

voters_laws : IsWire (list voter_form MOST_VOTERS)
voters_laws = list_laws voter_form MOST_VOTERS (length_laws MOST_VOTERS (lit< tt)) voter_laws

round_laws : IsWire round_form
round_laws = seen_laws (pair (list (pair account_form compact_u32) MOST_TARGETS) (list voter_form MOST_VOTERS)) (λ round. (round.targets, round.voters))
    (λ f. record { targets = f.0; voters = f.1 }) (λ _. refl) (λ _. refl)
    (pair_laws (list (pair account_form compact_u32) MOST_TARGETS) (list voter_form MOST_VOTERS) targets_laws voters_laws)

bytes_laws : IsWire (byte_list MOST_SOLUTION_BYTES)
bytes_laws = byte_list_laws MOST_SOLUTION_BYTES (length_laws MOST_SOLUTION_BYTES (lit< tt)) byte_string_laws

queued_laws : IsWire queued_form
queued_laws = seen_laws (triple (pair compact_u64 account_form) score_form (byte_list MOST_SOLUTION_BYTES))
    (λ item. ((item.number, item.who), item.score, item.bytes))
    (λ f. record { number = f.0.0; who = f.0.1; score = f.1; bytes = f.2 }) (λ _. refl) (λ _. refl)
    (triple_laws (pair compact_u64 account_form) score_form (byte_list MOST_SOLUTION_BYTES)
    (pair_laws compact_u64 account_form compact_u64_laws account_laws) score_laws bytes_laws)

committee_laws : IsWire (list compact_u16 MOST_SEATS)
committee_laws = list_laws compact_u16 MOST_SEATS (length_laws MOST_SEATS (lit< tt)) compact_u16_laws

edges_laws : IsWire (list edge_form MOST_EDGES)
edges_laws = list_laws edge_form MOST_EDGES (length_laws MOST_EDGES (lit< tt)) edge_laws

waiting_laws : IsWire waiting_form
waiting_laws = seen_laws (triple round_form (list compact_u16 MOST_SEATS) (list edge_form MOST_EDGES))
    (λ waiting. (waiting.round, waiting.committee, waiting.edges))
    (λ f. record { round = f.0; committee = f.1; edges = f.2 }) (λ _. refl) (λ _. refl)
    (triple_laws round_form (list compact_u16 MOST_SEATS) (list edge_form MOST_EDGES) round_laws committee_laws edges_laws)

lines_laws : IsWire (list backer_form MOST_LINES)
lines_laws = list_laws backer_form MOST_LINES (length_laws MOST_LINES (lit< tt)) backer_laws

slash_laws : IsWire slash_form
slash_laws = seen_laws (triple compact_u64 compact_u32 (list backer_form MOST_LINES)) (λ slash. (slash.number, slash.due, slash.lines))
    (λ f. record { number = f.0; due = f.1; lines = f.2 }) (λ _. refl) (λ _. refl)
    (triple_laws compact_u64 compact_u32 (list backer_form MOST_LINES) compact_u64_laws compact_u32_laws lines_laws)

-- ## The state

head_laws : IsWire head_form
head_laws = triple_laws (optional (pair params_form compact_u32)) compact_u64 (triple compact_u64 compact_u64 compact_u64)
    (optional_laws (pair params_form compact_u32) (pair_laws params_form compact_u32 params_laws compact_u32_laws) (tag_laws 2)) compact_u64_laws
    (triple_laws compact_u64 compact_u64 compact_u64 compact_u64_laws compact_u64_laws compact_u64_laws)

runs_laws : IsWire runs_form
runs_laws = triple_laws (run row_form) (run role_form) (run era_form)
    (run_laws row_form row_laws (tag_laws 2)) (run_laws role_form role_laws (tag_laws 2)) (run_laws era_form era_laws (tag_laws 2))

submissions_laws : IsWire (pair compact_u64 (list queued_form MOST_QUEUED))
submissions_laws = pair_laws compact_u64 (list queued_form MOST_QUEUED) compact_u64_laws
    (list_laws queued_form MOST_QUEUED (length_laws MOST_QUEUED (lit< tt)) queued_laws)

slashes_laws : IsWire (pair compact_u64 (list slash_form MOST_SLASHES))
slashes_laws = pair_laws compact_u64 (list slash_form MOST_SLASHES) compact_u64_laws
    (list_laws slash_form MOST_SLASHES (length_laws MOST_SLASHES (lit< tt)) slash_laws)

waits_laws : IsWire waits_form
waits_laws = pair_laws (optional waiting_form) (pair compact_u64 (list slash_form MOST_SLASHES))
    (optional_laws waiting_form waiting_laws (tag_laws 2)) slashes_laws

tail_laws : IsWire tail_form
tail_laws = triple_laws (optional round_form) (pair compact_u64 (list queued_form MOST_QUEUED)) waits_form
    (optional_laws round_form round_laws (tag_laws 2)) submissions_laws waits_laws

parts_laws : IsWire parts_form
parts_laws = triple_laws head_form runs_form tail_form head_laws runs_laws tail_laws

-- the state that has these parts
abbrev state_of : Parts → State
state_of f = record {
  params = f.0.0;
  due = f.0.1;
  genesis = f.0.2.0;
  minted = f.0.2.1;
  burned = f.0.2.2;
  rows = f.1.0;
  roles = f.1.1;
  eras = f.1.2;
  round = f.2.0;
  next_submission = f.2.1.0;
  queue = f.2.1.1;
  waiting = f.2.2.0;
  next_slash = f.2.2.1.0;
  slashes = f.2.2.1.1;
}

abbrev states_are : AreVariants states (HasChoice states state_choice)
states_are = (parts_laws, (λ parts. (state_of parts, refl)), tt)

state_back : (state : State) → (given_at states (HasChoice states state_choice) states_are (state_choice state).tag (state_choice state).values).0 ≡ state
state_back state = refl

pub state_laws : IsWire state_form
state_laws = enum_laws states state_choice states_are state_back (tag_laws (length states))
