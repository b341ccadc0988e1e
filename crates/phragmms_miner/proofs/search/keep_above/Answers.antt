use Rattle.std.proofs.Common.{arith, ◌≡◌, ◌<◌, ◌+◌, ℕ, Bool, true, false, nat_lt, length, get_or, slice_index_or, ap, sym, ◌∙◌}
use Rattle.std.proofs.lemmas.List.{get_or-drop, get_or_default}
use Rattle.std.proofs.lemmas.List.Filters.{FiltersInPlace-more_no, FiltersInPlace-more_set}
use Rattle.std.proofs.lemmas.Bool.{lt-ltb, le-ltb}
use Rattle.phragmms_miner.proofs.search.keep_above.Goals.{then-prescores-from, else-prescores-from}
use Rattle.phragmms_miner.proofs.search.keep_above.Goals as goal

pub bounds-prescores-from : goal.bounds-prescores-from
bounds-prescores-from c =
    let i = c.loop-i.i in
    let here : i + 0 ≡ i = omega arith in
    let unread : get_or c.loop-i.alive i 0 ≡ get_or c.args.alive.now i 0 =
    ap (λ n. get_or c.loop-i.alive n 0) (sym here) ∙ sym (get_or-drop i c.loop-i.alive 0 0) ∙ ap (λ xs. get_or xs 0 0) c.loop-i.invariant.rest
    ∙ get_or-drop i c.args.alive.now 0 0 ∙ ap (λ n. get_or c.args.alive.now n 0) here in
    omega (arith, c.from.ensures, unread, c.requires i 0 c.loop-i-test.true)

pub loop-i-preserved : goal.loop-i-preserved
loop-i-preserved c =
    let i = c.loop-i.i in
    let p : ℕ → Bool = λ target. nat_lt c.args.test (slice_index_or c.args.prescores.now target 0) in
    let x = get_or c.loop-i.alive i 0 in
    let h : i < length c.loop-i.alive = omega (arith, c.loop-i-test.true, c.loop-i.invariant.long) in
    let same : x ≡ get_or c.loop-i.alive i x = get_or_default c.loop-i.alive i 0 x h in
    elim c.if-prescores-from.branch [
      | then-prescores-from w ↦
          let t : p x ≡ true = lt-ltb c.args.test (slice_index_or c.args.prescores.now x 0) (rw c.from.ensures at w.if-prescores-from.true) in
          rw (w.alive-is, w.count-is) (FiltersInPlace-more_set c.loop-i.invariant h t same)
      | else-prescores-from w ↦
          let f : p x ≡ false = le-ltb c.args.test (slice_index_or c.args.prescores.now x 0) (rw c.from.ensures at w.if-prescores-from.false) in
          rw (w.alive-is, w.count-is) (FiltersInPlace-more_no c.loop-i.invariant h f same)
    ]
