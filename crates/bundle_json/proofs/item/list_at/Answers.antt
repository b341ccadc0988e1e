use Rattle.std.proofs.Common.{◌≡◌, ℕ, ◌-◌, ◌≤◌, [], ◌∷◌, ◌++◌, length, None, sym, ap, ◌∙◌, subst, arith}
use Rattle.json.specs.Json.{after_end_array}
use Rattle.bundle_json.specs.Shape.{list_in}
use Rattle.bundle_json.specs.Text.{Front}
use Rattle.bundle_json.proofs.Fronts.{list_front}
use Rattle.bundle_json.proofs.Grammar.{behind, listed, front_shorter, one_more, no_more}
use Rattle.bundle_json.proofs.item.list_at.Goals as goal

pub loop-alloc-smaller : goal.loop-alloc-smaller
loop-alloc-smaller g c =
    let l = c.loop-alloc in
    let going : (after_end_array l.tokens ≡ None) × (c.take_end_array.new.self ≡ l.tokens) = grind arith in
    let least : g.T.Item.nests ≤ g.T.Item.nests = omega arith in
    let read = c.in_ok-from_tokens.ensures g.T.Item.nests least in
    let less = front_shorter g.T.Item.read g.T.Item.nests _ _ _ read in
    omega (arith, less, ap length going.1)

pub loop-alloc-preserved : goal.loop-alloc-preserved
loop-alloc-preserved g c =
    let l = c.loop-alloc in
    let n = l.invariant.0 in
    let going : (after_end_array l.tokens ≡ None) × (c.take_end_array.new.self ≡ l.tokens) = grind arith in
    let least : g.T.Item.nests ≤ g.T.Item.nests = omega arith in
    let found = l.found.items in
    let x = c.in_ok-from_tokens.field-0 in
    let r = c.from_tokens.new.tokens in
    let front = subst (λ ts. Front g.T.Item.read g.T.Item.nests ts x r) going.1 c.in_ok-from_tokens.ensures in
    let turn = λ (depth : ℕ) (enough : g.T.Item.nests ≤ depth). one_more g.T.Item.read depth n l.tokens r found x l.invariant.1 going.0 (front depth enough) in
    let long : length c.push.new.self.items ≤ c.args.most = grind arith in (
      n - 1,
      (turn g.T.Item.nests least).0,
      long,
      λ depth enough.
          l.invariant.3 depth enough ∙ (turn depth enough).1
          ∙ ap (λ xs. behind xs (listed g.T.Item.read depth (n - 1) r)) {x = found ++ x ∷ []} (sym c.in_ok-push.ensures.items),
    )

pub returns : goal.returns
returns g c =
    let l = c.loop-alloc in
    let all = λ (depth : ℕ) (enough : g.T.Item.nests ≤ depth).
    l.invariant.3 depth enough ∙ no_more g.T.Item.read depth l.invariant.0 l.tokens c.take_end_array.new.self l.found.items l.invariant.1 (grind arith) in
    subst (λ xs. Front (list_in g.T.Item.read c.args.most) _ c.args.tokens.now xs c.take_end_array.new.self) (sym c.from_vec.ensures)
    (list_front g.T.Item.read g.T.Item.nests c.args.most _ _ _ l.found.items c.in_ok-open_array.ensures l.invariant.2 all)
