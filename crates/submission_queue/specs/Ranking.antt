-- A queue with places for the best submissions: what an offer answers, and what it leaves.
use Rattle.std.specs.Prelude.{ℕ, ◌-◌, ◌≤◌, List, [], ◌∷◌, ◌++◌, length, take, fold, slice_get, nat_lt, if◌then◌else◌, Option, Some, None, Result, Ok, Err}
use Rattle.npos_base.specs.declared.limits.TheConstants.{MOST_QUEUED}
use Rattle.submission_queue.specs.declared.submission.Submission.{Submission}
use Rattle.submission_queue.specs.declared.submission.NotBetter.{NotBetter}
use Rattle.submission_queue.specs.Rank.{outranks, ranked, IsRanked}

-- the submissions that wait, by rank, and how many can wait at a time
pub record Ranking : Type 0 where
  pub items : List Submission
  pub places : ℕ

-- a queue in which nothing waits
abbrev pub empty_queue : ℕ → Ranking
empty_queue places = record { items = []; places = places }

-- an offer ranks the item among those that wait, and cuts the list at the places
abbrev pub offered : Ranking → Submission → Ranking
offered queue item =
    record queue { items = take queue.places (ranked (queue.items ++ item ∷ [])) }

-- against the last of a full queue, which has at least one place: a better claim ejects it, any
-- other is refused and handed back
abbrev pub against : Option Submission → Submission
    → Result (Option Submission) (NotBetter × Submission)
against None item = Ok None
against (Some last) item =
    if outranks item last then Ok (Some last)
    else Err (record { worst = last.score }, item)

-- while there is a free place nothing is ejected or refused
abbrev pub offer_answer : Ranking → Submission
    → Result (Option Submission) (NotBetter × Submission)
offer_answer queue item =
    if nat_lt (length queue.items) queue.places then Ok None
    else against (slice_get queue.items (length queue.items - 1)) item

-- after offers one after another
abbrev pub after_offers : Ranking → List Submission → Ranking
after_offers queue offers = fold offered queue offers

-- what holds of every queue
pub record IsOrdered (queue : Ranking) : Type 0 where
  pub some : 1 ≤ queue.places
  pub most : queue.places ≤ MOST_QUEUED
  pub fits : length queue.items ≤ queue.places
  pub by_rank : IsRanked queue.items
