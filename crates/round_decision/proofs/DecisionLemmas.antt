-- The submissions of a round, judged one after the other.
use Rattle.std.proofs.Common.{◌≡◌, ℕ, suc, ◌+◌, Bool, true, false, not, List, [], ◌∷◌, ◌++◌, take, drop, map, refl, sym, ◌∙◌, ap, subst, arith, append_assoc, true≢false, Result, Ok, Err, OnErr}
use Rattle.std.specs.List.{prefix_len}
use Rattle.stake_ledger.specs.Ledger.{Ledger}
use Rattle.submission_queue.specs.declared.submission.Submission.{Submission}
use Rattle.submission_queue.specs.Ranking.{Ranking}
use Rattle.election_snapshot.specs.Snapshot.{Snapshot}
use Rattle.election_check.specs.declared.verdict.Verdict.{Verdict}
use Rattle.election_check.specs.declared.verdict.Verdict.TheVariants as verdicts
use Rattle.compact_solution.specs.Decoded.{decoded}
use Rattle.election_check.specs.Packed.{weights_decoded}
use Rattle.quota_fill.specs.Filled.{filled}
use Rattle.weight_book.specs.Weights.{Weights}
use Rattle.block_receipts.specs.declared.line.Line.{Line}
use Rattle.block_receipts.specs.declared.line.Line.TheVariants as lines
use Rattle.std.proofs.lemmas.List.{append-nil}
use Rattle.round_decision.specs.Deposits.{burned, all_burned}
use Rattle.round_decision.specs.Decision.{judged, is_yes, fails, losers, others, decided_weights, forfeit_line, paid_out, paid_lines, rising, seat_line, books_decided, deposit_lines, Stops, IsLeft}

no_yes : (verdict : Verdict) → (verdict ≡ verdicts.Yes → ⊥) → is_yes verdict ≡ false
no_yes verdicts.Yes other = absurd (other refl)
no_yes (verdicts.Undecodable at why) other = refl
no_yes (verdicts.NoVoter voter) other = refl
no_yes (verdicts.NoTarget target) other = refl
no_yes (verdicts.VoterTwice voter) other = refl
no_yes (verdicts.TargetTwice target) other = refl
no_yes (verdicts.NotNominated voter target) other = refl
no_yes (verdicts.BadShare voter) other = refl
no_yes (verdicts.WrongSize found) other = refl
no_yes (verdicts.WrongScore actual) other = refl
no_yes (verdicts.Outweighed target prescore) other = refl
no_yes (verdicts.Overspent voter) other = refl

yes_only : (verdict : Verdict) → is_yes verdict ≡ true → verdict ≡ verdicts.Yes
yes_only verdicts.Yes e = refl
yes_only (verdicts.Undecodable at why) e = absurd (true≢false (sym e))
yes_only (verdicts.NoVoter voter) e = absurd (true≢false (sym e))
yes_only (verdicts.NoTarget target) e = absurd (true≢false (sym e))
yes_only (verdicts.VoterTwice voter) e = absurd (true≢false (sym e))
yes_only (verdicts.TargetTwice target) e = absurd (true≢false (sym e))
yes_only (verdicts.NotNominated voter target) e = absurd (true≢false (sym e))
yes_only (verdicts.BadShare voter) e = absurd (true≢false (sym e))
yes_only (verdicts.WrongSize found) e = absurd (true≢false (sym e))
yes_only (verdicts.WrongScore actual) e = absurd (true≢false (sym e))
yes_only (verdicts.Outweighed target prescore) e = absurd (true≢false (sym e))
yes_only (verdicts.Overspent voter) e = absurd (true≢false (sym e))

one_more : (n : ℕ) → 1 + n ≡ suc n
one_more n = omega arith

-- one that does not hold loses its deposit, and the next is judged
pub fails_first : (snapshot : Snapshot) (item : Submission) (rest : List Submission) → fails snapshot item ≡ true
    → (losers snapshot (item ∷ rest) ≡ item ∷ losers snapshot rest) × (others snapshot (item ∷ rest) ≡ others snapshot rest)
fails_first snapshot item rest e =
    let count : prefix_len (fails snapshot) (item ∷ rest) ≡ suc (prefix_len (fails snapshot) rest) = rw e (one_more (prefix_len (fails snapshot) rest)) in
    (ap (λ n. take n (item ∷ rest)) count, ap (λ n. drop n (item ∷ rest)) count)

-- the first that holds wins
pub holds_first : (snapshot : Snapshot) (item : Submission) (rest : List Submission) → fails snapshot item ≡ false
    → (losers snapshot (item ∷ rest) ≡ []) × (others snapshot (item ∷ rest) ≡ item ∷ rest)
holds_first snapshot item rest e =
    let count : prefix_len (fails snapshot) (item ∷ rest) ≡ 0 = rw e refl in
    (ap (λ n. take n (item ∷ rest)) count, ap (λ n. drop n (item ∷ rest)) count)

pub fails_by : (snapshot : Snapshot) (item : Submission) → (judged snapshot item ≡ verdicts.Yes → ⊥) → fails snapshot item ≡ true
fails_by snapshot item other = ap not (no_yes (judged snapshot item) other)

pub holds_by : (snapshot : Snapshot) (item : Submission) → judged snapshot item ≡ verdicts.Yes → fails snapshot item ≡ false
holds_by snapshot item e = ap (λ v. not (is_yes v)) e

not_false : (t : Bool) → not t ≡ false → t ≡ true
not_false true f = refl
not_false false f = absurd (true≢false f)

first_same : (item winner : Submission) (items rest : List Submission) → item ∷ items ≡ winner ∷ rest → item ≡ winner
first_same item winner items rest e = cc

-- the first of the others holds
pub winner_holds : (snapshot : Snapshot) (items : List Submission) (winner : Submission) (rest : List Submission)
    → others snapshot items ≡ winner ∷ rest → judged snapshot winner ≡ verdicts.Yes
winner_holds snapshot [] winner rest is = cc
winner_holds snapshot (item ∷ items) winner rest is = at (fails snapshot item) refl (winner_holds snapshot items winner rest) where
  at : (b : Bool) → fails snapshot item ≡ b → (others snapshot items ≡ winner ∷ rest → judged snapshot winner ≡ verdicts.Yes)
      → judged snapshot winner ≡ verdicts.Yes
  at true e later = later (sym (fails_first snapshot item items e).1 ∙ is)
  at false e later =
      subst (λ (w : Submission). judged snapshot w ≡ verdicts.Yes)
      (first_same item winner items rest (sym (holds_first snapshot item items e).1 ∙ is))
      (yes_only (judged snapshot item) (not_false (is_yes (judged snapshot item)) e))

-- ## What a decision leaves and tells, once somebody won or nobody did

module _ (number amount : ℕ) (snapshot : Snapshot) (items : List Submission) (book left : Ledger) (burnt : left ≡ all_burned (losers snapshot items) book) where
  pub won_books : (winner : Submission) (rest : List Submission) (new : Ledger) → others snapshot items ≡ winner ∷ rest
      → new ≡ paid_out amount (winner ∷ rest) left → new ≡ books_decided amount snapshot items book
  won_books winner rest new kept paid = paid ∙ (λ i. paid_out amount (sym kept i) (burnt i))

  pub lost_books : others snapshot items ≡ [] → left ≡ books_decided amount snapshot items book
  lost_books none = burnt ∙ (λ i. paid_out amount (sym none i) (all_burned (losers snapshot items) book))

  module _ (told found : List Line) (forfeits : found ≡ told ++ map (forfeit_line snapshot) (losers snapshot items)) where
    pub won_lines : (winner : Submission) (rest : List Submission) (pushed : List Line) → others snapshot items ≡ winner ∷ rest
        → pushed ≡ found ++ (paid_lines amount (winner ∷ rest) left ++ lines.SeatSigned number winner.number ∷ [])
        → pushed ≡ told ++ deposit_lines number amount snapshot items book
    won_lines winner rest pushed kept pays =
        let gone : List Line = map (forfeit_line snapshot) (losers snapshot items) in
        let pay : List Line = paid_lines amount (winner ∷ rest) left ++ lines.SeatSigned number winner.number ∷ [] in
        pays
        ∙ (ap (λ xs. xs ++ pay) forfeits
        ∙ (append_assoc told gone pay
        ∙ (λ i. told ++ (gone ++ (paid_lines amount (sym kept i) (burnt i) ++ seat_line number (sym kept i) ∷ [])))))

    pub lost_lines : (pushed : List Line) → others snapshot items ≡ [] → pushed ≡ found ++ lines.SeatFill number ∷ []
        → pushed ≡ told ++ deposit_lines number amount snapshot items book
    lost_lines pushed none pushes =
        let gone : List Line = map (forfeit_line snapshot) (losers snapshot items) in
        pushes
        ∙ (ap (λ xs. xs ++ lines.SeatFill number ∷ []) forfeits
        ∙ (append_assoc told gone (lines.SeatFill number ∷ [])
        ∙ (λ i. told ++ (gone ++ (paid_lines amount (sym none i) (all_burned (losers snapshot items) book) ++ seat_line number (sym none i) ∷ [])))))

pub won_weights : (snapshot now : Snapshot) (items : List Submission) (winner : Submission) (rest : List Submission) (weights : Weights)
    → others snapshot items ≡ winner ∷ rest → now ≡ snapshot → weights ≡ rising now (weights_decoded now (decoded winner.bytes))
    → weights ≡ rising snapshot (decided_weights snapshot (others snapshot items))
won_weights snapshot now items winner rest weights kept same is =
    is ∙ ((λ i. rising (same i) (weights_decoded (same i) (decoded winner.bytes))) ∙ (λ i. rising snapshot (decided_weights snapshot (sym kept i))))

pub lost_weights : (snapshot now : Snapshot) (items : List Submission) (weights : Weights)
    → others snapshot items ≡ [] → now ≡ snapshot → weights ≡ rising now (filled now)
    → weights ≡ rising snapshot (decided_weights snapshot (others snapshot items))
lost_weights snapshot now items weights none same is =
    is ∙ ((λ i. rising (same i) (filled (same i))) ∙ (λ i. rising snapshot (decided_weights snapshot (sym none i))))

-- ## Where a decision stops

-- nothing has happened yet
pub stops_here : (snapshot : Snapshot) (items : List Submission) (book : Ledger) (told : List Line) → Stops snapshot items book book told told
stops_here snapshot items book told = (0, refl, sym (append-nil told))

-- one that does not hold lost its deposit, and the decision stopped behind it
pub stops_later : (snapshot : Snapshot) (item : Submission) (rest : List Submission) (book now : Ledger) (told told_now : List Line) → fails snapshot item ≡ true
    → Stops snapshot rest (burned book item) now (told ++ forfeit_line snapshot item ∷ []) told_now → Stops snapshot (item ∷ rest) book now told told_now
stops_later snapshot item rest book now told told_now fails stops =
    let count = stops.0 in
    let first : take (suc count) (losers snapshot (item ∷ rest)) ≡ item ∷ take count (losers snapshot rest) = ap (take (suc count)) (fails_first snapshot item rest fails).0 in (
      suc count,
      stops.1 ∙ sym (ap (λ xs. all_burned xs book) first),
      stops.2
          ∙ (append_assoc told (forfeit_line snapshot item ∷ []) (map (forfeit_line snapshot) (take count (losers snapshot rest)))
          ∙ sym (ap (λ xs. told ++ map (forfeit_line snapshot) xs) first)),
    )

pub on_err : {T E : Type 0} {P : Type 0} (result : Result T E) → P → OnErr result P
on_err (Ok value) holds = tt
on_err (Err error) holds = holds

-- nothing was taken from the queue
pub left_whole : (queue : Ranking) → IsLeft queue queue
left_whole queue = record { places = refl; taken = []; split = refl }

-- one more was taken, if there was one
pub left_later : (queue now next : Ranking) → IsLeft queue now → next ≡ record now { items = drop 1 now.items } → IsLeft queue next
left_later queue now next left is = at now.items refl where
  at : (items : List Submission) → now.items ≡ items → IsLeft queue next
  at [] e = record {
    places = ap (λ (q : Ranking). q.places) is ∙ left.places;
    taken = left.taken;
    split = left.split ∙ ap (λ xs. left.taken ++ xs) (e ∙ sym (ap (λ (q : Ranking). q.items) is ∙ ap (drop 1) e));
  }
  at (item ∷ items) e = record {
    places = ap (λ (q : Ranking). q.places) is ∙ left.places;
    taken = left.taken ++ item ∷ [];
    split = left.split ∙ (ap (λ xs. left.taken ++ xs) (e ∙ ap (λ xs. item ∷ xs) (sym (ap (λ (q : Ranking). q.items) is ∙ ap (drop 1) e)))
        ∙ sym (append_assoc left.taken (item ∷ []) next.items));
  }

-- by these `decision` goes on
pub ruleset leaving = (left_later, left_whole)
