use Rattle.std.proofs.Common.{◌+◌, subst}
use Rattle.scale_wire.specs.Reading.{Place, IsRead}
use Rattle.scale_wire.specs.Parts.{compact_form}
use Rattle.scale_wire.proofs.PartLemmas.{compact_read}
use Rattle.scale_wire.proofs.cursor.Cursor.take_compact.Goals as goal

pub returns-in-Ok : goal.returns-in-Ok
returns-in-Ok c =
    let old : Place = record { at = c.self.inside.at; rest = c.self.inside.rest.now } in
    subst (λ (p : Place). IsRead (compact_form c.args.most (c.args.max + 1) 9) p c.in-Ok.number (record { at = c.self.inside.at + c.in-Ok.size; rest = c.split_at.result.1.now })) c.self.view_is
    (compact_read c.args.most (c.args.max + 1) (record { at = c.self.inside.at; rest = c.self.inside.rest.now }) c.split_at.result.1.now c.in-Ok.number c.in-Ok.size c.requires
    c.in-Ok.ensures.are_bytes c.in-Ok.ensures.read.0 c.in-Ok.ensures.read.1 c.in-Ok.ensures.read.2 c.split_at.ensures.back)
