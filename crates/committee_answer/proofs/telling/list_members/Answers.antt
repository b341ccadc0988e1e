use Rattle.std.proofs.Common.{rules, ◌≡◌, ℕ, ◌&&◌, Bool, true, false, cond, List, [], ◌∷◌, ◌++◌, get_or, filter, ap, sym, ◌∙◌}
use Rattle.std.specs.List.{range_with_len}
use Rattle.std.proofs.lemmas.List.{append-nil}
use Rattle.election_snapshot.specs.Snapshot.{has}
use Rattle.committee_answer.proofs.TableLemmas.{kept_next}
use Rattle.committee_answer.proofs.telling.list_members.Goals.{then-has+then-marks-target+in_ok-push, else-has, else-has-via-then-has+else-marks-target, else-has-via-else-has}
use Rattle.committee_answer.proofs.telling.list_members.Goals as goal

pub loop-target-preserved : goal.loop-target-preserved
loop-target-preserved c =
    let n = c.loop-target.target in
    let p : ℕ → Bool = λ t. has c.args.committee.now t && get_or c.args.marks.now t false in
    let before = filter p (range_with_len 0 n) in
    let next = kept_next p n in
    elim c.if-has.branch [
      | then-has+then-marks-target+in_ok-push w ↦
          let yes : p n ≡ true = search rules in
          let pushed : c.if-has.members.items ≡ c.loop-target.members.items ++ n ∷ [] = rw w.members-is (search rules) in
          pushed ∙ ap (λ (ms : List ℕ). ms ++ n ∷ []) c.loop-target.invariant ∙ sym (next ∙ ap (λ (b : Bool). before ++ cond b (n ∷ []) []) yes)
      | else-has w ↦
          let no : p n ≡ false = elim w.else-has.branch [
            | else-has-via-then-has+else-marks-target v ↦ search rules
            | else-has-via-else-has v ↦ search rules
          ] in
          let same : c.if-has.members.items ≡ c.loop-target.members.items = rw w.members-is (search rules) in
          same ∙ c.loop-target.invariant ∙ sym (next ∙ ap (λ (b : Bool). before ++ cond b (n ∷ []) []) no ∙ append-nil before)
    ]
