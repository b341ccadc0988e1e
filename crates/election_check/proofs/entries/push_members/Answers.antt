use Rattle.std.proofs.Common.{ℕ, List, [], ◌∷◌, ◌++◌, nat_lt, get_or, sym, ◌∙◌, ap, subst, arith}
use Rattle.std.proofs.lemmas.Bool.{lt-ltb, le-ltb}
use Rattle.weight_book.specs.Room.{WeightBook, KeepsRoom}
use Rattle.election_check.proofs.TakingLemmas.{member_yes, member_no, keeps_then}
use Rattle.election_check.proofs.entries.push_members.Goals as goal
use Rattle.election_check.proofs.entries.push_members.Goals.{then-stamps-target-gt0, else-stamps-target-gt0}

pub loop-target-preserved : goal.loop-target-preserved
loop-target-preserved c =
    let is_stamped = λ (target : ℕ). nat_lt 0 (get_or c.args.stamps.now target 0) in
    let target = c.loop-target.target in
    elim c.if-stamps-target-gt0.branch [
      | then-stamps-target-gt0 w ↦ record {
        members = ap (λ (b : WeightBook). b.plain.committee) w.weights-is ∙ (w.push_member.ensures.members
            ∙ (ap (λ (ms : List ℕ). ms ++ target ∷ []) c.loop-target.invariant.members
            ∙ sym (member_yes is_stamped target (lt-ltb 0 (get_or c.args.stamps.now target 0) w.if-stamps-target-gt0.true))));
        edges = ap (λ (b : WeightBook). b.plain.edges) w.weights-is ∙ (w.push_member.ensures.edges ∙ c.loop-target.invariant.edges);
        spare = omega (arith, ap (λ (b : WeightBook). b.member_spare) w.weights-is, w.push_member.ensures.member_spare, c.loop-target.invariant.spare);
        room = subst (λ (b : WeightBook). KeepsRoom c.args.weights.now b) (sym w.weights-is)
            (keeps_then c.args.weights.now c.loop-target.weights w.push_member.new.self c.loop-target.invariant.room w.push_member.ensures.room);
      }
      | else-stamps-target-gt0 w ↦ record {
        members = ap (λ (b : WeightBook). b.plain.committee) w.weights-is ∙ (c.loop-target.invariant.members
            ∙ sym (member_no is_stamped target (le-ltb 0 (get_or c.args.stamps.now target 0) w.if-stamps-target-gt0.false)));
        edges = ap (λ (b : WeightBook). b.plain.edges) w.weights-is ∙ c.loop-target.invariant.edges;
        spare = omega (arith, ap (λ (b : WeightBook). b.member_spare) w.weights-is, c.loop-target.invariant.spare);
        room = subst (λ (b : WeightBook). KeepsRoom c.args.weights.now b) (sym w.weights-is) c.loop-target.invariant.room;
      }
    ]
