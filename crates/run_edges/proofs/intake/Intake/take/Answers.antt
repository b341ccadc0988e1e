use Rattle.std.proofs.Common.{rules, ◌≡◌, false, Err, refl, sym, subst}
use Rattle.scale_wire.specs.declared.fault.ReadFault.TheVariants.{Wire}
use Rattle.scale_wire.specs.declared.fault.WireFault.{WireFault}
use Rattle.scale_wire.specs.Reading.{IsFault}
use Rattle.run_edges.specs.Ahead.{IsSure}
use Rattle.run_edges.specs.Intake.{TakesOrWaits}
use Rattle.run_edges.proofs.intake.Intake.take.Goals as goal

pub returns-else-is_cut-clause-takes : goal.returns-else-is_cut-clause-takes
returns-else-is_cut-clause-takes g c =
    let r : IsFault g.T.Wire.form c.args.self.now.place c.in-Err-Wire.fault c.read.new.cursor = search rules in
    let is : IsFault g.T.Wire.form c.args.self.now.place c.in-Err-Wire.fault c.args.self.now.place = record { place = r.place; bad = r.bad; at_is = r.at_is; unchanged = refl } in
    let no : c.is_cut.result ≡ false = search rules in
    let sure : IsSure c.args.self.now.ended c.in-Err-Wire.fault.why = search (rules, c.is_cut.ensures.no no) in
    subst (λ (f : WireFault). TakesOrWaits g.T.Wire.form c.args.self.now (Err (Wire f)) c.args.self.now) (sym c.in-Err-Wire.fault-is) (is, sure, refl)
