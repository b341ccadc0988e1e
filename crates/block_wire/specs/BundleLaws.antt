-- Proofs: bundles keep the laws of a form.
use Rattle.std.specs.Prelude.{◌≡◌, refl}
use Rattle.std.proofs.Common.{lit<}
use Rattle.scale_wire.specs.Form.{IsWire}
use Rattle.scale_wire.specs.Parts.{account_form, compact_u16, compact_u32, compact_u64}
use Rattle.scale_wire.specs.Values.{edge_form, score_form}
use Rattle.scale_wire.specs.Composite.{pair, triple, list, byte_list}
use Rattle.scale_wire.specs.PartLaws.{byte_string_laws, tag_laws}
use Rattle.scale_wire.specs.AccountLaws.{account_laws}
use Rattle.scale_wire.specs.ValueLaws.{edge_laws, score_laws}
use Rattle.scale_wire.specs.CompactLaws.{compact_u16_laws, compact_u32_laws, compact_u64_laws, length_laws}
use Rattle.scale_wire.specs.FormLaws.{nothing_laws, pair_laws, triple_laws, seen_laws, list_laws, byte_list_laws, AreVariants, HasChoice, given_at, enum_laws}
use Rattle.npos_base.specs.declared.limits.TheConstants.{MOST_SOLUTION_BYTES}
use Rattle.block_wire.specs.declared.limits.TheConstants.{MOST_TARGETS, MOST_VOTERS, MOST_VOTES, MOST_EDGES}
use Rattle.block_wire.specs.declared.bundle.Work.{Work}
use Rattle.block_wire.specs.declared.bundle.Work.TheVariants.{Nothing, Packed, Plain}
use Rattle.block_wire.specs.Bundles.{voter_form, works, work_choice, work_form, election_form, bundle_form}

pub voter_laws : IsWire voter_form
voter_laws =
    seen_laws (triple account_form compact_u64 (list compact_u16 MOST_VOTES)) (λ voter. (voter.account, voter.stake, voter.votes))
    (λ fields. record { account = fields.0; stake = fields.1; votes = fields.2 }) (λ voter. refl) (λ fields. refl)
    (triple_laws account_form compact_u64 (list compact_u16 MOST_VOTES) account_laws compact_u64_laws
    (list_laws compact_u16 MOST_VOTES (length_laws MOST_VOTES (lit< tt)) compact_u16_laws))

-- ## Work

abbrev works_are : AreVariants works (HasChoice works work_choice)
works_are = (
  nothing_laws,
  (λ values. (Nothing, refl)),
  (
    pair_laws score_form (byte_list MOST_SOLUTION_BYTES) score_laws
        (byte_list_laws MOST_SOLUTION_BYTES (length_laws MOST_SOLUTION_BYTES (lit< tt)) byte_string_laws),
    (λ values. (Packed values.0 values.1, refl)),
    (
      pair_laws (list compact_u16 MOST_TARGETS) (list edge_form MOST_EDGES)
          (list_laws compact_u16 MOST_TARGETS (length_laws MOST_TARGETS (lit< tt)) compact_u16_laws)
          (list_laws edge_form MOST_EDGES (length_laws MOST_EDGES (lit< tt)) edge_laws),
      (λ values. (Plain values.0 values.1, refl)),
      tt,
    ),
  ),
)

work_back : (work : Work) → (given_at works (HasChoice works work_choice) works_are (work_choice work).tag (work_choice work).values).0 ≡ work
work_back Nothing = refl
work_back (Packed claim bytes) = refl
work_back (Plain committee edges) = refl

pub work_laws : IsWire work_form
work_laws = enum_laws works work_choice works_are work_back (tag_laws 3)

-- ## Bundles

election_laws : IsWire election_form
election_laws =
    triple_laws (list account_form MOST_TARGETS) (list voter_form MOST_VOTERS) work_form
    (list_laws account_form MOST_TARGETS (length_laws MOST_TARGETS (lit< tt)) account_laws)
    (list_laws voter_form MOST_VOTERS (length_laws MOST_VOTERS (lit< tt)) voter_laws) work_laws

pub bundle_laws : IsWire bundle_form
bundle_laws =
    seen_laws (pair compact_u32 election_form) (λ bundle. (bundle.seats, (bundle.targets, bundle.voters, bundle.work)))
    (λ f. record { seats = f.0; targets = f.1.0; voters = f.1.1; work = f.1.2 }) (λ bundle. refl) (λ f. refl)
    (pair_laws compact_u32 election_form compact_u32_laws election_laws)
