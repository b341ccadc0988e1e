-- Bundles: an election, and the work that was done on it.
use Rattle.std.specs.Prelude.{ℕ, List, [], ◌∷◌}
use Rattle.npos_base.specs.declared.account.AccountId.{AccountId}
use Rattle.npos_base.specs.declared.figures.Edge.{Edge}
use Rattle.scale_wire.specs.Form.{Form}
use Rattle.scale_wire.specs.Parts.{account_form, compact_u16, compact_u32, compact_u64}
use Rattle.scale_wire.specs.Values.{edge_form, score_form}
use Rattle.scale_wire.specs.Composite.{nothing, pair, triple, seen, list, byte_list, Fields, fields, Choice, choice}
use Rattle.npos_base.specs.declared.limits.TheConstants.{MOST_SOLUTION_BYTES}
use Rattle.block_wire.specs.declared.limits.TheConstants.{MOST_TARGETS, MOST_VOTERS, MOST_VOTES, MOST_EDGES}
use Rattle.block_wire.specs.declared.bundle.Bundle.{Bundle}
use Rattle.block_wire.specs.declared.bundle.BundleVoter.{BundleVoter}
use Rattle.block_wire.specs.declared.bundle.Work.{Work}
use Rattle.block_wire.specs.declared.bundle.Work.TheVariants.{Nothing, Packed, Plain}

abbrev pub voter_form : Form BundleVoter
voter_form = seen
    (triple account_form compact_u64 (list compact_u16 MOST_VOTES))
    (λ voter. (voter.account, voter.stake, voter.votes))

-- ## Work

-- a committee, as positions of targets, and its edges
abbrev pub plain_form : Form (List ℕ × List Edge)
plain_form = pair (list compact_u16 MOST_TARGETS) (list edge_form MOST_EDGES)

-- the fields of each kind of work, in the order of the tags from 0
abbrev pub works : List Fields
works =
    fields nothing
    ∷ fields (pair score_form (byte_list MOST_SOLUTION_BYTES))
    ∷ fields plain_form
    ∷ []

abbrev pub work_choice : Work → Choice works
work_choice Nothing = record { tag = 0; values = tt }
work_choice (Packed claim bytes) = record { tag = 1; values = (claim, bytes) }
work_choice (Plain committee edges) = record { tag = 2; values = (committee, edges) }

abbrev pub work_form : Form Work
work_form = seen (choice works) work_choice

-- ## Bundles

-- the targets, the voters and the work
abbrev pub election_form : Form (List AccountId × List BundleVoter × Work)
election_form = triple (list account_form MOST_TARGETS) (list voter_form MOST_VOTERS) work_form

abbrev pub bundle_form : Form Bundle
bundle_form = seen
    (pair compact_u32 election_form)
    (λ bundle. (bundle.seats, (bundle.targets, bundle.voters, bundle.work)))
