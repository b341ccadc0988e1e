use Rattle.std.proofs.Common.{◌≡◌, ◌+◌, List, ◌∷◌, length, ap, sym, subst, ◌∙◌, arith}
use Rattle.std.specs.Vec.Iter.{into_iter_items}
use Rattle.block_wire.specs.declared.call.Call.{Call}
use Rattle.npos_runtime.specs.declared.chain.Chain.{Chain}
use Rattle.npos_runtime.specs.Rules.Outcome.{told_after}
use Rattle.npos_runtime.specs.Step.{call_outcome, calls_outcome}
use Rattle.npos_runtime.specs.Live.{IsLive, CanDefer}
use Rattle.npos_runtime.proofs.Rules.LiveLemmas.{live_call, next_call, can_call, slash_call}
use Rattle.npos_runtime.proofs.Rules.OutcomeLemmas.{told_more}
use Rattle.npos_runtime.proofs.step.take_calls.Goals as goal

pub turns-preserved : goal.turns-preserved
turns-preserved c =
    let goes = c.in_ok-take_call.ensures in
    let left : into_iter_items c.turns.call-iterator ≡ c.in-Some.call ∷ into_iter_items c.next.new.self = c.in-Some.ensures.steps.0 in
    record {
      live = subst IsLive (sym goes.state) (live_call c.turns.index c.in-Some.call c.turns.chain c.turns.invariant.live);
      numbers = omega (
        arith,
        ap length left,
        c.turns.invariant.numbers,
        ap (λ (chain : Chain). chain.next) goes.state,
        next_call c.turns.index c.in-Some.call c.turns.chain,
      );
      slashes = subst CanDefer (sym goes.state) (can_call c.turns.index c.in-Some.call c.turns.chain c.turns.invariant.slashes);
      slash_numbers = omega (
        arith,
        ap length left,
        c.turns.invariant.slash_numbers,
        ap (λ (chain : Chain). chain.eras.next_slash) goes.state,
        slash_call c.turns.index c.in-Some.call c.turns.chain,
      );
      counted = omega (arith, ap length left, c.turns.invariant.counted);
      told = told_more (call_outcome c.turns.index c.in-Some.call c.turns.chain) (calls_outcome (c.turns.index + 1) (into_iter_items c.next.new.self))
          c.take_call.new.chain c.turns.lines.items c.take_call.new.lines.items goes
          ∙ (ap (λ (calls : List Call). told_after c.turns.lines.items (calls_outcome c.turns.index calls c.turns.chain)) (sym left) ∙ c.turns.invariant.told);
    }

pub take_call-requires-clause-numbers : goal.take_call-requires-clause-numbers
take_call-requires-clause-numbers c =
    let left : into_iter_items c.turns.call-iterator ≡ c.in-Some.call ∷ into_iter_items c.next.new.self = c.in-Some.ensures.steps.0 in
    omega (arith, ap length left, c.turns.invariant.numbers, c.requires.numbers)

pub take_call-requires-clause-slash_numbers : goal.take_call-requires-clause-slash_numbers
take_call-requires-clause-slash_numbers c =
    let left : into_iter_items c.turns.call-iterator ≡ c.in-Some.call ∷ into_iter_items c.next.new.self = c.in-Some.ensures.steps.0 in
    omega (arith, ap length left, c.turns.invariant.slash_numbers, c.requires.slash_numbers)
