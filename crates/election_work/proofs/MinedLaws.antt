-- What the miners make: one list of weights for each election, feasible, which can be packed.
use Rattle.std.proofs.Common.{◌≡◌, ℕ, Bool, true, false, zero, suc, ◌<◌, ◌≤◌, List, [], ◌∷◌, length, get_or, filter, Option, Some, None, Result, Ok, Err, All, refl, sym, ◌∙◌, ap, subst, arith}
use Rattle.std.specs.List.{range_with_len}
use Rattle.std.proofs.lemmas.Bool.{true≢false}
use Rattle.std.proofs.lemmas.List.Elements.{All-head, All-tail, All-filter}
use Rattle.std.proofs.lemmas.List.FromFn.{length-range_with_len, get_or-range_with_len}
use Rattle.npos_base.specs.declared.figures.Edge.{Edge}
use Rattle.election_snapshot.specs.Snapshot.{Snapshot, IsWellFormed, has, stakes_of}
use Rattle.weight_book.specs.Weights.{Weights, IsFeasible}
use Rattle.quota_fill.specs.Filled.{filled}
use Rattle.seq_phragmen.specs.Mined.{mined}
use Rattle.seq_phragmen.proofs.FeasibleLemmas.{mined_feasible as seq_feasible, mined_above as seq_above}
use Rattle.quota_fill.proofs.PassingLemmas.{fill_passes}
use Rattle.phragmms_miner.proofs.OneLemmas.{one_run}
use Rattle.phragmms_miner.proofs.AnyLemmas.{any_run}
use Rattle.compact_solution.specs.Solution.{Entry, solution_form}
use Rattle.compact_solution.specs.SolutionLaws.{solution_laws}
use Rattle.compact_solution.specs.Decoded.{decoded}
use Rattle.compact_solution.specs.Packing.{kept_of, groups_for, groups_of, lost_among, packed_or_lost}
use Rattle.compact_solution.proofs.FitLemmas.{packed_fits}
use Rattle.compact_solution.proofs.GroupLemmas.{in_form}
use Rattle.scale_wire.specs.WholeReading.{read_value}
use Rattle.election_check.specs.Laws.{packed_of}
use Rattle.election_check.specs.Packed.{expanded}
use Rattle.election_check.proofs.PackingLemmas.{packable}
use Rattle.npos_base.specs.declared.miner.Miner.{Miner}
use Rattle.npos_base.specs.declared.miner.Miner.TheVariants as miners
use Rattle.npos_base.specs.Miner.{HasRounds, is_packed}
use Rattle.election_work.specs.declared.finding.Finding.{Finding}
use Rattle.election_work.specs.Mining.{IsMined, Outcome, packed_mined, mined_by, IsMining, AreTargets}
use Rattle.election_work.proofs.SpelledLaws.{bytes_solution}

pub one_mined : (miner : Miner) (snapshot : Snapshot) (one other : Weights) → IsMined miner snapshot one → IsMined miner snapshot other → one ≡ other
one_mined miners.Fill snapshot one other first second = first ∙ sym second
one_mined miners.Seq snapshot one other first second = first ∙ sym second
one_mined (miners.Mms rounds) snapshot one other first second = one_run snapshot rounds one other first.0 second.0

pub any_mined : (miner : Miner) → HasRounds miner → (snapshot : Snapshot) → snapshot.seats ≤ length snapshot.targets → (weights : Weights) × IsMined miner snapshot weights
any_mined miners.Fill some snapshot enough = (filled snapshot, refl)
any_mined miners.Seq some snapshot enough = (mined snapshot, refl)
any_mined (miners.Mms rounds) some snapshot enough = let run = any_run snapshot rounds some enough in (run.0, (run.1, run.2))

-- ## What a miner makes is feasible

pub mined_feasible : (miner : Miner) (snapshot : Snapshot) (weights : Weights) → IsWellFormed snapshot → IsMined miner snapshot weights → IsFeasible snapshot weights
mined_feasible miners.Fill snapshot weights well is = subst (λ (w : Weights). IsFeasible snapshot w) (sym is) (fill_passes snapshot well).feasible
mined_feasible miners.Seq snapshot weights well is = subst (λ (w : Weights). IsFeasible snapshot w) (sym is) (seq_feasible snapshot well)
mined_feasible (miners.Mms rounds) snapshot weights well is = is.1

-- ## Weights that are packed

-- feasible weights that give something along each edge
pub record IsGiving (snapshot : Snapshot) (weights : Weights) : Type 0 where
  pub feasible : IsFeasible snapshot weights
  pub above : All (λ (edge : Edge). 0 < edge.amount) weights.edges

packed_above : (miner : Miner) → is_packed miner ≡ true → (snapshot : Snapshot) (weights : Weights) → IsWellFormed snapshot → IsMined miner snapshot weights
    → All (λ (edge : Edge). 0 < edge.amount) weights.edges
packed_above miners.Fill packs snapshot weights well is = absurd (true≢false (sym packs))
packed_above miners.Seq packs snapshot weights well is = subst (λ (w : Weights). All (λ (edge : Edge). 0 < edge.amount) w.edges) (sym is) (seq_above snapshot well)
packed_above (miners.Mms rounds) packs snapshot weights well is = is.0.listed.above

pub packed_gives : (miner : Miner) → is_packed miner ≡ true → (snapshot : Snapshot) (weights : Weights) → IsWellFormed snapshot → IsMined miner snapshot weights → IsGiving snapshot weights
packed_gives miner packs snapshot weights well is =
    record { feasible = mined_feasible miner snapshot weights well is; above = packed_above miner packs snapshot weights well is }

small : (most : ℕ) (numbers : List ℕ) → most ≤ 65536 → All (λ number. number < most) numbers → (i : ℕ) → get_or numbers i 0 < 65536
small most [] few all i = omega arith
small most (number ∷ numbers) few all zero = omega (arith, few, All-head (λ n. n < most) number numbers all)
small most (number ∷ numbers) few all (suc i) = small most numbers few (All-tail (λ n. n < most) number numbers all) i

abbrev kept_by : Snapshot → Weights → List (List Edge)
kept_by snapshot weights = kept_of (stakes_of snapshot.voters) weights.edges

-- the solution that they pack to can be spelled
in_range : (snapshot : Snapshot) (weights : Weights) → IsWellFormed snapshot → IsGiving snapshot weights → (solution : List (List Entry)) → packed_of snapshot weights ≡ Ok solution
    → solution_form.in_range solution
in_range snapshot weights well giving solution is = by (lost_among (kept_by snapshot weights) weights.committee) is where
  by : (lost : Option ℕ) → packed_or_lost lost (groups_of (stakes_of snapshot.voters) (kept_by snapshot weights)) ≡ Ok solution → solution_form.in_range solution
  by None is =
      let same : groups_of (stakes_of snapshot.voters) (kept_by snapshot weights) ≡ solution = cc in
      subst (λ (s : List (List Entry)). solution_form.in_range s) same
      (in_form (kept_by snapshot weights) (groups_of (stakes_of snapshot.voters) (kept_by snapshot weights))
      (packed_fits (stakes_of snapshot.voters) weights.committee weights.edges (packable snapshot weights well giving.feasible giving.above)
      (small (length snapshot.targets) weights.committee (omega (arith, well.voters.targets_few)) giving.feasible.follows.members_in_range) (groups_for (kept_by snapshot weights))))
  by (Some member) is = absurd (cc)

-- and its bytes spell it
pub solution_read : (snapshot : Snapshot) (weights : Weights) → IsWellFormed snapshot → IsGiving snapshot weights → (solution : List (List Entry)) → packed_of snapshot weights ≡ Ok solution
    → decoded (solution_form.spelling solution) ≡ Ok solution
solution_read snapshot weights well giving solution is =
    read_value solution_form solution_laws (solution_form.spelling solution) solution (bytes_solution solution) (in_range snapshot weights well giving solution is) refl

-- ## What its weights come to

-- one thing, and always something
pub one_mining : (miner : Miner) (snapshot : Snapshot) (one other : Result Outcome Finding) → IsMining miner snapshot one → IsMining miner snapshot other → one ≡ other
one_mining miner snapshot one other first second =
    first.2 ∙ (ap (mined_by (is_packed miner) snapshot) (one_mined miner snapshot first.0 second.0 first.1 second.1) ∙ sym second.2)

pub any_mining : (miner : Miner) → HasRounds miner → (snapshot : Snapshot) → snapshot.seats ≤ length snapshot.targets → (due : Result Outcome Finding) × IsMining miner snapshot due
any_mining miner some snapshot enough =
    let mined = any_mined miner some snapshot enough in
    (mined_by (is_packed miner) snapshot mined.0, (mined.0, mined.1, refl))

-- each member is a target
from_targets : (targets : ℕ) (test : ℕ → Bool) → All (λ (member : ℕ). member < targets) (filter test (range_with_len 0 targets))
from_targets targets test = All-filter test (λ member. member < targets) (range_with_len 0 targets)
    (λ k d h. let short : k < targets = omega (arith, h, length-range_with_len 0 targets) in omega (arith, get_or-range_with_len 0 targets k d short, short))

pub packed_targets : (snapshot : Snapshot) (packed : Result (List (List Entry)) ℕ) → AreTargets (packed_mined snapshot packed)
packed_targets snapshot (Ok solution) = from_targets (length snapshot.targets) (has (expanded snapshot solution).committee)
packed_targets snapshot (Err member) = tt

pub by_targets : (packed : Bool) (snapshot : Snapshot) (weights : Weights) → AreTargets (mined_by packed snapshot weights)
by_targets true snapshot weights = packed_targets snapshot (packed_of snapshot weights)
by_targets false snapshot weights = from_targets (length snapshot.targets) (has weights.committee)
