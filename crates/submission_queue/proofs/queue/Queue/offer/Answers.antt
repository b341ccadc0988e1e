use Rattle.std.proofs.Common.{◌≡◌, ◌≤◌, ◌-◌, ℕ, List, length, take, slice_get, Some, true, false, vec_len, subst, ap, sym, ◌∙◌, arith}
use Rattle.submission_queue.specs.declared.submission.Submission.{Submission}
use Rattle.submission_queue.specs.Rank.{outranks, placed}
use Rattle.submission_queue.specs.Ranking.{Ranking, offered}
use Rattle.submission_queue.proofs.QueueLemmas.{placed_fits, placed_over_last, refused_stays, placed_ordered, replaced_ordered}
use Rattle.submission_queue.proofs.queue.Queue.offer.Goals as goal

pub invariant_of-self : goal.invariant_of-self
invariant_of-self c =
    let was : Ranking = record { items = c.self.inside.items.items; places = c.self.inside.places } in
    rw c.put.ensures.items (placed_ordered was c.args.item c.self.invariant.0 (omega arith), omega (arith, c.put.ensures.capacity, c.self.invariant.1))

pub returns-then-len-self-clause-after : goal.returns-then-len-self-clause-after
returns-then-len-self-clause-after c =
    let places : ℕ = c.self.inside.places in
    ap (λ (zs : List Submission). record { items = zs; places = places })
    (c.put.ensures.items ∙ placed_fits places c.self.inside.items.items c.args.item c.self.invariant.0.by_rank (omega arith))
    ∙ ap (λ queue. offered queue c.args.item) c.self.view_is

pub returns-then-not-better_than-clause-after : goal.returns-then-not-better_than-clause-after
returns-then-not-better_than-clause-after c =
    let places : ℕ = c.self.inside.places in
    let xs : List Submission = c.self.inside.items.items in
    let some : 1 ≤ c.self.inside.places = c.self.invariant.0.some in
    let fits : length c.self.inside.items.items ≤ c.self.inside.places = c.self.invariant.0.fits in
    let full : length c.self.inside.items.items ≡ c.self.inside.places = omega arith in
    let last : slice_get c.self.inside.items.items (length c.self.inside.items.items - 1) ≡ Some c.in-Some.last.now =
    ap (λ zs. slice_get zs (length zs - 1)) (sym c.deref.ensures.value) ∙ sym c.in-Some.ensures.value in
    let worse : outranks c.args.item c.in-Some.last.now ≡ false = sym c.better_than.ensures ∙ c.if-not-better_than.true in
    subst (λ queue. queue ≡ offered queue c.args.item) c.self.view_is
    (ap (λ (zs : List Submission). record { items = zs; places = places })
    (sym (refused_stays places xs c.args.item c.in-Some.last.now c.self.invariant.0.by_rank some full last worse)))

pub invariant_of-self-2 : goal.invariant_of-self-2
invariant_of-self-2 c =
    let was : Ranking = record { items = c.self.inside.items.items; places = c.self.inside.places } in
    let fits : length c.self.inside.items.items ≤ c.self.inside.places = c.self.invariant.0.fits in
    let full : length c.self.inside.items.items ≡ c.self.inside.places = omega arith in
    let count : vec_len c.self.inside.items ≡ length c.self.inside.items.items = omega arith in
    let now : c.put-2.new.items.items ≡ placed (take (length c.self.inside.items.items - 1) c.self.inside.items.items) c.args.item =
    c.put-2.ensures.items ∙ ap (λ zs. placed zs c.args.item) (c.pop-ejected.ensures.rest ∙ ap (λ n. take (n - 1) c.self.inside.items.items) count) in
    rw now (replaced_ordered was c.args.item c.self.invariant.0 full, omega (arith, c.put-2.ensures.capacity, c.pop-ejected.ensures.capacity, c.self.invariant.1))

pub returns-clause-after : goal.returns-clause-after
returns-clause-after c =
    let places : ℕ = c.self.inside.places in
    let xs : List Submission = c.self.inside.items.items in
    let some : 1 ≤ c.self.inside.places = c.self.invariant.0.some in
    let fits : length c.self.inside.items.items ≤ c.self.inside.places = c.self.invariant.0.fits in
    let full : length c.self.inside.items.items ≡ c.self.inside.places = omega arith in
    let last : slice_get c.self.inside.items.items (length c.self.inside.items.items - 1) ≡ Some c.in-Some.last.now =
    ap (λ zs. slice_get zs (length zs - 1)) (sym c.deref.ensures.value) ∙ sym c.in-Some.ensures.value in
    let better : outranks c.args.item c.in-Some.last.now ≡ true = sym c.better_than.ensures ∙ c.if-not-better_than.false in
    let count : vec_len c.self.inside.items ≡ length c.self.inside.items.items = omega arith in
    let now : c.put-2.new.items.items ≡ placed (take (length c.self.inside.items.items - 1) c.self.inside.items.items) c.args.item =
    c.put-2.ensures.items ∙ ap (λ zs. placed zs c.args.item) (c.pop-ejected.ensures.rest ∙ ap (λ n. take (n - 1) c.self.inside.items.items) count) in
    ap (λ (zs : List Submission). record { items = zs; places = places })
    (now ∙ placed_over_last places xs c.args.item c.in-Some.last.now c.self.invariant.0.by_rank some full last better)
    ∙ ap (λ queue. offered queue c.args.item) c.self.view_is
