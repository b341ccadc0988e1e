-- What waits in a sound chain is sound in the state that the chain keeps.
use Rattle.std.proofs.Common.{◌≡◌, ℕ, ◌≤◌, ◌<◌, Bool, true, false, not, ◌&&◌, nat_eq, nat_lt, is_some, All, List, length, map, Option, Some, None, refl, ap, ◌∙◌, arith}
use Rattle.std.proofs.lemmas.Bool.{lt-ltb, or_left, or_right}
use Rattle.std.proofs.lemmas.List.{length-map, length-take-le}
use Rattle.std.proofs.lemmas.List.Elements.{All-map, All-weaker}
use Rattle.npos_base.specs.declared.account.AccountId.{AccountId}
use Rattle.npos_base.specs.Score.{is_better}
use Rattle.npos_base.proofs.NumberTests.{number_test}
use Rattle.block_wire.specs.declared.genesis.Params.{Params}
use Rattle.stake_ledger.specs.Ledger.{Ledger, row_of}
use Rattle.submission_queue.specs.declared.submission.Submission.{Submission}
use Rattle.election_check.proofs.ListFacts.{All-of_map}
use Rattle.chain_params.specs.Rules.{places_of, solution_max_of}
use Rattle.state_rules.specs.declared.state.QueueRow.{QueueRow}
use Rattle.state_rules.specs.Known.{has_row}
use Rattle.state_rules.specs.Queue.{outranks}
use Rattle.state_rules.specs.Terms.{params_of}
use Rattle.state_rules.specs.Sound.{EachIs, IsSoundItem, IsNextNumber}
use Rattle.npos_runtime.specs.declared.chain.Chain.{Chain}
use Rattle.npos_runtime.specs.declared.round.Round.{Round}
use Rattle.npos_runtime.specs.declared.round.Round.TheVariants as rounds
use Rattle.npos_runtime.specs.Kept.Parts.{open_of}
use Rattle.npos_runtime.specs.Kept.State.{book_row, open_row, queue_row, kept, IsTold}
use Rattle.npos_runtime.specs.Live.{IsInTime, IsReady}
use Rattle.npos_runtime.specs.Kept.Sound.{AreKnown, StandsBefore, IsSoundChain}
use Rattle.npos_runtime.proofs.Kept.RowLemmas.{row_known, pairs_follow, pairs_apart, pairs_map}
use Rattle.npos_runtime.proofs.Kept.Causes.RowLemmas.{params_kept}

-- ## Rows of a list

-- whoever is known has a row in the state
pub known_in_rows : {A : Type 0} (book : Ledger) (who : A → AccountId) (items : List A) → AreKnown book (map who items)
    → All (λ item. has_row (map book_row book.rows) (who item) ≡ true) items
known_in_rows book who items known =
    All-weaker (λ item. is_some (row_of book (who item)) ≡ true) (λ item. has_row (map book_row book.rows) (who item) ≡ true)
    (λ item is. row_known book (who item) ∙ is) items
    (All-of_map (λ (account : AccountId). is_some (row_of book account) ≡ true) who items known)

-- ## Submissions

-- where something waits a round is open
open_round : (round : Option Round) (params : Option Params) (due : ℕ) (items : List Submission) → IsInTime round params due items → 0 < length items
    → is_some (open_row (open_of round)) ≡ true
open_round None params due items timely some = absurd (omega (arith, some, ap length timely))
open_round (Some (rounds.Void number)) params due items timely some = absurd (omega (arith, some, ap length timely))
open_round (Some (rounds.Open number snapshot commissions)) params due items timely some = refl

-- who stands before another outranks it
stands_above : (first later : Submission) → StandsBefore first later → outranks (queue_row first) (queue_row later) ≡ true
stands_above first later stands = at (is_better first.score later.score) refl where
  at : (b : Bool) → is_better first.score later.score ≡ b → outranks (queue_row first) (queue_row later) ≡ true
  at true better = or_left (is_better first.score later.score) _ better
  at false other =
      or_right (is_better first.score later.score) _
      (ap (λ (b : Bool). not b && nat_lt first.number later.number) stands.not_better ∙ lt-ltb first.number later.number (stands.earlier other))

pub sound_next_submission : (chain : Chain) → IsReady chain → IsTold chain → IsSoundChain chain
    → IsNextNumber (kept chain).due (kept chain).next_submission
sound_next_submission chain ready told sound = record { some = sound.queue.first; within = sound.queue.few }

pub sound_queue : (chain : Chain) → IsReady chain → IsTold chain → IsSoundChain chain
    → EachIs (IsSoundItem (is_some (kept chain).round) (places_of (params_of (kept chain))) (solution_max_of (params_of (kept chain)))
    (kept chain).rows (kept chain).next_submission) (kept chain).queue
sound_queue chain ready told sound place d few = record {
  round = open_round chain.round chain.params chain.due items ready.between.timely (omega (arith, fewer));
  place = omega (
    arith,
    few,
    fewer,
    length-take-le place (map queue_row items) (omega (arith, few)),
    ready.between.live.queue.fits,
    ready.between.places,
    ap places_of (params_kept chain),
  );
  known = All-map (λ (row : QueueRow). has_row (kept chain).rows row.who ≡ true) queue_row items
      (known_in_rows chain.book (λ (item : Submission). item.who) items sound.queue.known) place d few;
  numbered = All-map (λ (row : QueueRow). 1 ≤ row.number) queue_row items (λ k e lt. (sound.queue.accepted k e lt).numbered) place d few;
  given = All-map (λ (row : QueueRow). row.number < chain.next) queue_row items (λ k e lt. (sound.queue.accepted k e lt).given) place d few;
  fresh = pairs_apart (λ (first later : QueueRow). nat_eq first.number later.number ≡ false) (λ first later. nat_eq first.number later.number)
      (λ first later apart. apart) (map queue_row items)
      (pairs_map queue_row (λ (first later : QueueRow). nat_eq first.number later.number ≡ false) items
      (λ i j e lt within. number_test _ _ (sound.queue.apart i j e lt within))) place d few;
  rank = pairs_follow (λ (first later : QueueRow). outranks first later ≡ true) outranks (λ first later above. above) (map queue_row items)
      (pairs_map queue_row (λ (first later : QueueRow). outranks first later ≡ true) items
      (λ i j e lt within. stands_above _ _ (sound.queue.ranked i j e lt within))) place d few;
  bytes = omega (
    arith,
    All-map (λ (row : QueueRow). length row.bytes ≤ solution_max_of chain.params) queue_row items (λ k e lt. (sound.queue.accepted k e lt).fits) place d few,
    ap solution_max_of (params_kept chain),
  );
} where
  items : List Submission
  items = chain.queue.items

  fewer : place < length items
  fewer = omega (arith, few, length-map items queue_row)
