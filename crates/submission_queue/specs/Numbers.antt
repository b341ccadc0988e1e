-- The numbers of the submissions that wait.
use Rattle.std.specs.Prelude.{◌≡◌, ℕ, ◌+◌, ◌≤◌, ◌<◌, nat_eq, List, map, drop, All}
use Rattle.std.specs.List.{IsDistinct}
use Rattle.submission_queue.specs.declared.submission.Submission.{Submission}
use Rattle.submission_queue.specs.Ranking.{Ranking, offered}

-- no two have one number, and each was given, from 1 on, before the next one
pub record AreNumbered (next : ℕ) (items : List Submission) : Type 0 where
  pub distinct : IsDistinct nat_eq (map (λ item. item.number) items)
  pub given : All (λ item. 1 ≤ item.number) items
  pub before : All (λ item. item.number < next) items

-- A submission that takes the next number, and is offered, leaves those that wait numbered; so does
-- taking the best one out.
abbrev pub NumbersLaw : Type 0
NumbersLaw = ((next : ℕ) (queue : Ranking) (item : Submission) → 1 ≤ next → item.number ≡ next →
    AreNumbered next queue.items → AreNumbered (next + 1) (offered queue item).items)
    × ((next : ℕ) (items : List Submission) → AreNumbered next items → AreNumbered next (drop 1 items))
