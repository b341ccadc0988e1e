-- What holds of a queue after any offers, the refused ones included.
use Rattle.std.specs.Prelude.{◌≡◌, ℕ, ◌<◌, ◌≤◌, List, [], ◌∷◌, ◌++◌, length, take, find, All, Contains, Bool, true, false, MatchOption, Ok, None}
use Rattle.submission_queue.specs.declared.submission.Submission.{Submission}
use Rattle.submission_queue.specs.Rank.{outranks, ranked, IsRanked}
use Rattle.submission_queue.specs.Ranking.{Ranking, IsOrdered, empty_queue, offered, offer_answer, after_offers}

-- the best of all that was offered wait, as many as there are places
abbrev pub BestOfAllLaw : Type 0
BestOfAllLaw = (places : ℕ) (offers : List Submission) →
    (after_offers (empty_queue places) offers).items ≡ take places (ranked offers)

-- the same where some wait already
abbrev pub BestOfBothLaw : Type 0
BestOfBothLaw = (queue : Ranking) (offers : List Submission) → IsOrdered queue →
    (after_offers queue offers).items ≡ take queue.places (ranked (queue.items ++ offers))

-- A valid submission that was offered is no better than the first valid one by rank; where none of
-- those that wait is valid, they fill all places.
abbrev pub CrowdingLaw : Type 0
CrowdingLaw =
    (valid : Submission → Bool) (places : ℕ) (offers : List Submission) (item : Submission) →
    Contains offers item → valid item ≡ true →
    let kept : List Submission = (after_offers (empty_queue places) offers).items in
    MatchOption (find valid kept)
    ((length kept ≡ places) × All (λ other. valid other ≡ false) kept)
    (λ winner. outranks item winner ≡ false)

-- Who is offered last by rank, while there is a free place, waits behind the others: so a queue is
-- made anew by offering its submissions in their order.
abbrev pub OffersAppendLaw : Type 0
OffersAppendLaw =
    (queue : Ranking) (item : Submission) → length queue.items < queue.places →
    IsRanked (queue.items ++ item ∷ []) →
    (offer_answer queue item ≡ Ok None)
    × (offered queue item ≡ record queue { items = queue.items ++ item ∷ [] })

-- submissions by rank are offered one after another, and wait as they were
abbrev pub OffersRestoreLaw : Type 0
OffersRestoreLaw =
    (places : ℕ) (items : List Submission) → length items ≤ places → IsRanked items →
    after_offers (empty_queue places) items ≡ record { items = items; places = places }
