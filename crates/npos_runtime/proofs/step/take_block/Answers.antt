use Rattle.std.proofs.Common.{◌≡◌, ◌+◌, ◌-◌, arith, ap, sym, subst, ◌∙◌}
use Rattle.npos_runtime.specs.declared.chain.Chain.{Chain}
use Rattle.npos_runtime.specs.Step.{before_calls, era_phase, calls_outcome}
use Rattle.npos_runtime.specs.Rules.Rounds.{round_phase}
use Rattle.npos_runtime.specs.Rules.Deciding.{decision_phase}
use Rattle.block_wire.specs.declared.block.Block.{Block}
use Rattle.npos_runtime.specs.Live.{IsLive, CanDefer, IsBetweenBlocks}
use Rattle.npos_runtime.proofs.Histories.TimeLemmas.{between_step}
use Rattle.chain_params.proofs.PhaseLemmas.{era_within}
use Rattle.npos_runtime.proofs.Rules.PhaseTable.{live_era, live_round}
use Rattle.npos_runtime.proofs.Histories.WaitingLemmas.{sound_waiting}
use Rattle.npos_runtime.proofs.Rules.LiveLemmas.{can_before, slash_before, slash_calls, live_before, due_before, next_before, due_calls, next_calls}
use Rattle.npos_runtime.proofs.step.take_block.Goals as goal

-- the chain when its calls begin
begun : (old era round decided : Chain) → era ≡ (era_phase old).state → round ≡ (round_phase era).state
    → decided ≡ (decision_phase round).state → decided ≡ before_calls old
begun old era round decided e r d =
    d ∙ ap (λ (c : Chain). (decision_phase c).state) (r ∙ ap (λ (c : Chain). (round_phase c).state) e)

pub begin_era-requires-clause-more : goal.begin_era-requires-clause-more
begin_era-requires-clause-more c =
    omega (
      arith,
      c.requires.ready.between.era,
      era_within c.args.chain.now.params (c.args.chain.now.due - 1),
      c.requires.ready.between.live.due.at_most,
    )

pub begin_round-requires : goal.begin_round-requires
begin_round-requires c = subst IsLive (sym c.in_ok-begin_era.ensures.state) (live_era c.args.chain.now c.requires.ready.between.live)

pub decide_round-requires : goal.decide_round-requires
decide_round-requires c =
    subst IsLive (sym c.in_ok-begin_round.ensures.state)
    (live_round c.begin_era.new.chain
    (subst IsLive (sym c.in_ok-begin_era.ensures.state) (live_era c.args.chain.now c.requires.ready.between.live)))

pub take_calls-requires-clause-live : goal.take_calls-requires-clause-live
take_calls-requires-clause-live c =
    subst IsLive
    (sym (begun c.args.chain.now c.begin_era.new.chain c.begin_round.new.chain c.decide_round.new.chain
    c.in_ok-begin_era.ensures.state c.in_ok-begin_round.ensures.state c.in_ok-decide_round.ensures.state))
    (live_before c.args.chain.now c.requires.ready.between.live)

pub take_calls-requires-clause-numbers : goal.take_calls-requires-clause-numbers
take_calls-requires-clause-numbers c =
    let same = begun c.args.chain.now c.begin_era.new.chain c.begin_round.new.chain c.decide_round.new.chain
    c.in_ok-begin_era.ensures.state c.in_ok-begin_round.ensures.state c.in_ok-decide_round.ensures.state in
    omega (
      arith,
      ap (λ (chain : Chain). chain.next) same,
      next_before c.args.chain.now,
      c.requires.ready.numbered,
      c.requires.ready.between.live.due.at_most,
      c.requires.few,
    )

pub take_calls-requires-clause-slashes : goal.take_calls-requires-clause-slashes
take_calls-requires-clause-slashes c =
    let rests = c.requires.ready.between in
    subst CanDefer
    (sym (begun c.args.chain.now c.begin_era.new.chain c.begin_round.new.chain c.decide_round.new.chain
    c.in_ok-begin_era.ensures.state c.in_ok-begin_round.ensures.state c.in_ok-decide_round.ensures.state))
    (can_before c.args.chain.now rests.live rests.era (sound_waiting c.args.chain.now.waiting rests.elected rests.live.waiting) rests.slashes)

pub take_calls-requires-clause-slash_numbers : goal.take_calls-requires-clause-slash_numbers
take_calls-requires-clause-slash_numbers c =
    let same = begun c.args.chain.now c.begin_era.new.chain c.begin_round.new.chain c.decide_round.new.chain
    c.in_ok-begin_era.ensures.state c.in_ok-begin_round.ensures.state c.in_ok-decide_round.ensures.state in
    omega (
      arith,
      ap (λ (chain : Chain). chain.eras.next_slash) same,
      slash_before c.args.chain.now,
      c.requires.ready.slash_numbered,
      c.requires.ready.between.live.due.at_most,
      c.requires.few,
    )

pub returns-clause-ready_after : goal.returns-clause-ready_after
returns-clause-ready_after c =
    let same = begun c.args.chain.now c.begin_era.new.chain c.begin_round.new.chain c.decide_round.new.chain
    c.in_ok-begin_era.ensures.state c.in_ok-begin_round.ensures.state c.in_ok-decide_round.ensures.state in
    let called = c.in_ok-take_calls.ensures.goes.state in
    let whole = called ∙ ap (λ (chain : Chain). (calls_outcome 0 c.args.calls.items chain).state) same in
    let block : Block = record { number = c.args.number; calls = c.args.calls.items } in
    record {
      between = subst (λ (chain : Chain). IsBetweenBlocks (record chain { due = chain.due + 1 })) (sym whole)
          (between_step c.args.chain.now block c.requires.ready.between (omega (arith, c.requires.due)));
      numbered = omega (
        arith,
        ap (λ (chain : Chain). chain.next) called,
        next_calls 0 c.args.calls.items c.decide_round.new.chain,
        ap (λ (chain : Chain). chain.next) same,
        next_before c.args.chain.now,
        ap (λ (chain : Chain). chain.due) called,
        due_calls 0 c.args.calls.items c.decide_round.new.chain,
        ap (λ (chain : Chain). chain.due) same,
        due_before c.args.chain.now,
        c.requires.ready.numbered,
        c.requires.ready.between.live.due.at_least,
        c.requires.few,
      );
      slash_numbered = omega (
        arith,
        ap (λ (chain : Chain). chain.eras.next_slash) called,
        slash_calls 0 c.args.calls.items c.decide_round.new.chain,
        ap (λ (chain : Chain). chain.eras.next_slash) same,
        slash_before c.args.chain.now,
        ap (λ (chain : Chain). chain.due) called,
        due_calls 0 c.args.calls.items c.decide_round.new.chain,
        ap (λ (chain : Chain). chain.due) same,
        due_before c.args.chain.now,
        c.requires.ready.slash_numbered,
        c.requires.ready.between.live.due.at_least,
        c.requires.few,
      );
    }
