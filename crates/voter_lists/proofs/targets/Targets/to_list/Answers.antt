-- One target after another is copied.
use Rattle.std.proofs.Common.{◌<◌, ◌∙◌, ◌++◌, ◌∷◌, [], length, take_all, ap₂, sym, arith}
use Rattle.std.proofs.lemmas.List.{take_more}
use Rattle.std.proofs.lemmas.Option.{get_or_from_slice_get}
use Rattle.voter_lists.proofs.targets.Targets.to_list.Goals as goal

pub loop-i-init : goal.loop-i-init
loop-i-init c = record { items = c.in_ok-accounts.ensures.items; count = c.in_ok-accounts.ensures.len; room = omega (arith, c.in_ok-accounts.ensures.capacity, c.len.ensures) }

pub push_reserved-requires : goal.push_reserved-requires
push_reserved-requires c = omega (arith, c.loop-i.invariant.count, c.loop-i.invariant.room, c.loop-i-test.true, c.len-i-end.ensures)

pub loop-i-preserved : goal.loop-i-preserved
loop-i-preserved c =
    let below : c.loop-i.i < length c.args.self.now = omega (arith, c.loop-i-test.true, c.len-i-end.ensures) in
    record {
      items = c.push_reserved.ensures.items
          ∙ ap₂ (λ items target. items ++ target ∷ []) c.loop-i.invariant.items (sym (get_or_from_slice_get c.args.self.now c.loop-i.i c.at.result c.at.result c.at.ensures))
          ∙ sym (take_more c.args.self.now c.loop-i.i c.at.result below);
      count = omega (arith, c.push_reserved.ensures.len, c.loop-i.invariant.count);
      room = omega (arith, c.push_reserved.ensures.capacity, c.loop-i.invariant.room);
    }

pub returns : goal.returns
returns c = c.from_vec.ensures ∙ c.loop-i.invariant.items ∙ take_all c.loop-i.i c.args.self.now (omega (arith, c.loop-i-test.false, c.len-i-end.ensures))
