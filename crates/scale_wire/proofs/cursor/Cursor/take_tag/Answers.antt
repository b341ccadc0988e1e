use Rattle.std.proofs.Common.{subst}
use Rattle.scale_wire.specs.Reading.{Place, IsRead}
use Rattle.scale_wire.specs.Parts.{fixed_u8}
use Rattle.scale_wire.proofs.PartLemmas.{tag_read, tag_fault}
use Rattle.scale_wire.proofs.cursor.Cursor.take_tag.Goals as goal

pub returns-then-tag-below : goal.returns-then-tag-below
returns-then-tag-below c =
    tag_read c.args.below c.args.self.now c.take_u8.new.self c.in_ok-tag.tag
    (subst (λ (p : Place). IsRead fixed_u8 p c.in_ok-tag.tag c.take_u8.new.self) c.fork-here.ensures c.in_ok-tag.ensures)
    c.if-tag-below.true

pub returns-else-tag-below : goal.returns-else-tag-below
returns-else-tag-below c =
    tag_fault c.args.below c.args.self.now c.take_u8.new.self c.in_ok-tag.tag c.fault.result
    (subst (λ (p : Place). IsRead fixed_u8 p c.in_ok-tag.tag c.take_u8.new.self) c.fork-here.ensures c.in_ok-tag.ensures)
    c.if-tag-below.false c.fault.ensures
