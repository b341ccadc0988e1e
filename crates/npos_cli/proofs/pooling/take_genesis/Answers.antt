use Rattle.std.proofs.Common.{rules, ◌≡◌, ◌++◌, ◌∙◌, ℕ, Bool, List, false, Some, None, Ok, Err, ap, sym, subst}
use Rattle.std.proofs.lemmas.Result.{err_from_is_err_and}
use Rattle.scale_wire.specs.declared.fault.ReadFault.TheVariants.{Wire}
use Rattle.scale_wire.specs.Reading.{Place}
use Rattle.stake_pools.specs.Input.{pool_genesis_form}
use Rattle.run_edges.specs.Ahead.{HasSeen}
use Rattle.run_edges.specs.Intake.{Held, IsTimely, TakesOrWaits}
use Rattle.run_edges.proofs.IntakeLaws.{seen_on}
use Rattle.npos_cli.proofs.pooling.take_genesis.Goals as goal

pub returns-in-Ok-Some-clause-timely : goal.returns-in-Ok-Some-clause-timely
returns-in-Ok-Some-clause-timely g c =
    let takes : TakesOrWaits pool_genesis_form c.pieces.intake (Ok (Some c.in-Ok-Some.genesis)) c.try_genesis.new.intake = search rules in
    λ first so_far. subst (λ (ended : Bool). IsTimely first (g.S.Source.asked c.pieces.source) ended) (sym takes.1) (c.pieces.invariant.timely first so_far)

pub pieces-preserved : goal.pieces-preserved
pieces-preserved g c =
    let waits : TakesOrWaits pool_genesis_form c.pieces.intake (Ok None) c.try_genesis.new.intake = search rules in
    let unended : c.try_genesis.new.intake.ended ≡ false = ap (λ (h : Held). h.ended) waits.1 ∙ waits.0 in
    let reads = c.in_ok-read_on-in-Ok-None.ensures in
    let rest : c.read_on.new.self.place.rest ≡ c.pieces.intake.place.rest ++ reads.more.0 =
    ap (λ (p : Place). p.rest) reads.more.2 ∙ ap (λ (h : Held). h.place.rest ++ reads.more.0) waits.1 in
    record {
      faults = reads.faults ∙ c.pieces.invariant.faults;
      timely = λ first so_far. reads.timely first (subst (λ (h : Held). IsTimely first (g.S.Source.asked c.pieces.source) h.ended) (sym waits.1) (c.pieces.invariant.timely first so_far));
      at = ap (λ (p : Place). p.at) reads.more.2 ∙ (ap (λ (h : Held). h.place.at) waits.1 ∙ c.pieces.invariant.at);
      seen = subst (λ (bytes : List ℕ). HasSeen (g.S.Source.left c.args.source.now) (g.S.Source.left c.read_on.new.source) bytes false c.read_on.new.self.ended) (sym rest)
          (seen_on (g.S.Source.left c.args.source.now) (g.S.Source.left c.pieces.source)
          (g.S.Source.left c.read_on.new.source) c.pieces.intake.place.rest c.try_genesis.new.intake
          c.read_on.new.self unended
          (subst (λ (h : Held). HasSeen (g.S.Source.left c.args.source.now) (g.S.Source.left c.pieces.source)
          c.pieces.intake.place.rest false h.ended) (sym waits.1) c.pieces.invariant.seen) reads.more);
    }

pub returns-in_err-read_on-in-Ok-None-clause-timely : goal.returns-in_err-read_on-in-Ok-None-clause-timely
returns-in_err-read_on-in-Ok-None-clause-timely g c =
    let waits : TakesOrWaits pool_genesis_form c.pieces.intake (Ok None) c.try_genesis.new.intake = search rules in
    rw (err_from_is_err_and c.from_residual.result c.from_residual.ensures.1).1 (λ first so_far. c.in_err-read_on-in-Ok-None.ensures.timely first
    (subst (λ (h : Held). IsTimely first (g.S.Source.asked c.pieces.source) h.ended) (sym waits.1) (c.pieces.invariant.timely first so_far)))

pub returns-in-Err-Wire-clause-timely : goal.returns-in-Err-Wire-clause-timely
returns-in-Err-Wire-clause-timely g c =
    let takes : TakesOrWaits pool_genesis_form c.pieces.intake (Err (Wire c.in-Err-Wire.fault)) c.try_genesis.new.intake = search rules in
    λ first so_far. subst (λ (h : Held). IsTimely first (g.S.Source.asked c.pieces.source) h.ended) (sym takes.2) (c.pieces.invariant.timely first so_far)

pub returns-in-Err-NoMemory-clause-timely : goal.returns-in-Err-NoMemory-clause-timely
returns-in-Err-NoMemory-clause-timely g c = λ first so_far. (c.pieces.invariant.timely first so_far).in_time
