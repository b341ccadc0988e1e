use Rattle.std.proofs.Common.{◌≡◌, ◌∷◌, Some, codes, IfOk, sym, ap, ◌∙◌, subst, arith}
use Rattle.std.proofs.lemmas.Slice.Eq.{bytes_eq-Decides}
use Rattle.json.specs.Json.{read_key}
use Rattle.json.specs.Token.{begin_object, key, null}
use Rattle.json.proofs.Grammar.{read_key_is}
use Rattle.bundle_json.specs.Shape.{work_in}
use Rattle.bundle_json.specs.Text.{Front}
use Rattle.bundle_json.proofs.Fronts.{nothing_front}
use Rattle.bundle_json.proofs.work.work_at.Goals as goal

pub returns-in-Some-Null : goal.returns-in-Some-Null
returns-in-Some-Null c =
    let is : c.args.tokens.now ≡ null ∷ c.next.new.self = grind arith in
    nothing_front _ _ is

pub returns-then-eq-2 : goal.returns-then-eq-2
returns-then-eq-2 c =
    let first = c.in-Ok-Some.first.now in
    let rest = c.next_key.new.self in
    let opened : c.args.tokens.now ≡ begin_object ∷ c.next.new.self = grind arith in
    let named : read_key c.next.new.self ≡ Some (Some first, rest) = grind arith in
    let same : first ≡ codes "committee" = (bytes_eq-Decides first (codes "committee")).0 (sym c.eq-else-eq.ensures ∙ c.if-eq-2.true) in
    let all : c.args.tokens.now ≡ begin_object ∷ key (codes "committee") ∷ rest =
    opened ∙ ap (λ ts. begin_object ∷ ts) (read_key_is _ _ _ named ∙ ap (λ k. key k ∷ rest) same) in
    subst (λ ts. IfOk c.plain_at.result (λ work. Front work_in 3 ts work c.plain_at.new.tokens)) (sym all) c.plain_at.ensures
