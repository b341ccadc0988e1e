use Rattle.std.proofs.Common.{◌≡◌, List, ◌∷◌, length, arith, ap, sym, subst, ◌∙◌}
use Rattle.std.specs.Vec.Iter.{into_iter_items}
use Rattle.era_book.specs.declared.exposure.Backer.{Backer}
use Rattle.npos_runtime.specs.Rules.Outcome.{told_after}
use Rattle.npos_runtime.specs.Live.{IsLive}
use Rattle.npos_runtime.specs.Rules.Offices.{slash_outcome, slashes}
use Rattle.npos_runtime.proofs.Rules.OfficeCallLemmas.{slashed_live}
use Rattle.npos_runtime.proofs.Rules.OutcomeLemmas.{told_more}
use Rattle.npos_runtime.proofs.offices.slash_all.Goals as goal

pub dues-preserved : goal.dues-preserved
dues-preserved c =
    let goes = c.slash.ensures.goes in
    let left : into_iter_items c.dues.due-iterator ≡ c.in-Some.due ∷ into_iter_items c.next.new.self = c.in-Some.ensures.steps.0 in
    record {
      live = subst IsLive (sym goes.state) (slashed_live c.in-Some.due c.dues.chain c.dues.invariant.live);
      room = omega (arith, ap length left, c.slash.ensures.len, c.slash.ensures.capacity, c.dues.invariant.room);
      told = told_more (slash_outcome c.in-Some.due c.dues.chain) (slashes (into_iter_items c.next.new.self)) c.slash.new.chain c.dues.more.items c.slash.new.more.items goes
          ∙ (ap (λ (dues : List Backer). told_after c.dues.more.items (slashes dues c.dues.chain)) (sym left) ∙ c.dues.invariant.told);
    }
