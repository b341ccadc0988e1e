use Rattle.std.proofs.Common.{arith, nat_eq}
use Rattle.npos_base.specs.declared.figures.Edge.{Edge}
use Rattle.weight_book.proofs.StakeLemmas.{amounts_within}
use Rattle.weight_book.proofs.SumLemmas.{sum_filter-le}
use Rattle.election_check.proofs.elected.Elected.support.Goals as goal

pub overflow_cast-result : goal.overflow_cast-result
overflow_cast-result c =
    let plain = c.self.inside.weights.plain in
    omega (
      arith,
      c.support.ensures,
      sum_filter-le (λ (e : Edge). nat_eq e.target c.args.member) (λ (e : Edge). e.amount) plain.edges,
      amounts_within c.self.inside.snapshot plain c.self.invariant.1.feasible,
      c.self.invariant.0.voters.total_fits,
    )
