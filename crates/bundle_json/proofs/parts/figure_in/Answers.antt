use Rattle.std.proofs.Common.{◌∙◌, sym, ap}
use Rattle.std.specs.Str.{bytes_eq}
use Rattle.bundle_json.proofs.Figures.{figure_unread, figure_other, figure_parsed}
use Rattle.bundle_json.proofs.parts.figure_in.Goals as goal

pub returns-then-eq : goal.returns-then-eq
returns-then-eq c =
    let text = c.args.text.now in
    let is = sym (ap (λ s. bytes_eq s text) c.format.ensures.text) ∙ (sym c.eq.ensures ∙ c.if-eq.true) in
    sym (figure_parsed text c.parse.result c.in-Ok.number c.parse.ensures.value.0 c.in-Ok.is is)

pub returns-else-eq : goal.returns-else-eq
returns-else-eq c =
    let text = c.args.text.now in
    let is = sym (ap (λ s. bytes_eq s text) c.format.ensures.text) ∙ (sym c.eq.ensures ∙ c.if-eq.false) in
    sym (figure_other text c.parse.result c.in-Ok.number c.parse.ensures.value.0 c.in-Ok.is is)

pub returns-in-Err : goal.returns-in-Err
returns-in-Err c = sym (figure_unread c.args.text.now c.in-Err.field-0 c.in-Err.ensures.value.0)
