use Rattle.std.proofs.Common.{rules, ◌≡◌, ◌<◌, ℕ, Bool, true, false, length, get_or, slice_index_or, inl, inr, ap, sym, ◌∙◌}
use Rattle.support_balance.proofs.Edges.{no_edge}
use Rattle.support_balance.proofs.LayLemmas.{skipped, taken, passed, all_laid}
use Rattle.support_balance.proofs.laying.lay.Goals.{then-is_member-from+in_ok-push, else-is_member-from}
use Rattle.support_balance.proofs.laying.lay.Goals as goal

pub loop-slot-preserved : goal.loop-slot-preserved
loop-slot-preserved c =
    let slots = c.args.slots.now in
    let i = c.loop-slot.slot-index in
    let h : i < length slots = search rules in
    let marks : ℕ → Bool = λ target. slice_index_or c.args.is_member.now target false in
    elim c.if-is_member-from.branch [
      | then-is_member-from+in_ok-push w ↦
          let t : marks (get_or slots i no_edge).target ≡ true = ap marks (sym c.from.ensures) ∙ w.if-is_member-from.true in
          rw (w.laid-is, w.at-is, w.in_ok-push.ensures.items) (elim w.amount_along-amount.ensures [
            | inl took ↦ taken marks slots c.args.edges.now c.requires.slots c.requires.edges i _ _ c.loop-slot.invariant h no_edge t _ w.amount_along-amount.type_inv _ took
            | inr pass ↦ passed marks slots c.args.edges.now c.requires.slots c.requires.edges i _ _ c.loop-slot.invariant h no_edge t _ w.amount_along-amount.type_inv _ pass
          ])
      | else-is_member-from w ↦
          let f : marks (get_or slots i no_edge).target ≡ false = ap marks (sym c.from.ensures) ∙ w.if-is_member-from.false in
          rw (w.laid-is, w.at-is) (skipped marks slots c.args.edges.now c.requires.slots c.requires.edges i _ _ c.loop-slot.invariant h no_edge f)
    ]

pub returns : goal.returns
returns c = all_laid _ _ _ _ _ _ c.loop-slot.invariant (search rules)
