-- What parts of a step settle: what leaves the queue is settled once, and what joins it takes the
-- next number.
use Rattle.std.proofs.Common.{◌≡◌, ℕ, ◌+◌, cond, ◌==◌, List, [], ◌∷◌, ◌++◌, map, refl, ap, arith}
use Rattle.std.specs.List.{prefix_len}
use Rattle.std.proofs.lemmas.List.{take-append-drop}
use Rattle.std.proofs.lemmas.List.Sums.{sum_by-append, sum_by-cons}
use Rattle.stake_ledger.specs.Ledger.{Ledger}
use Rattle.election_snapshot.specs.Snapshot.{Snapshot}
use Rattle.weight_book.specs.Weights.{Weights}
use Rattle.submission_queue.specs.declared.submission.Submission.{Submission}
use Rattle.submission_queue.specs.Ranking.{Ranking}
use Rattle.npos_runtime.specs.declared.chain.Chain.{Chain}
use Rattle.block_receipts.specs.declared.line.Line.{Line}
use Rattle.block_receipts.specs.declared.line.Line.TheVariants as lines
use Rattle.chain_params.specs.Rules.{reward_of}
use Rattle.round_decision.specs.Deposits.{returned, return_lines, all_burned}
use Rattle.round_decision.specs.Decision.{fails, losers, others, forfeit_line, reward_in, paid_lines, seat_line, member_line}
use Rattle.npos_runtime.specs.Rules.Deciding.{committee_of, decided}
use Rattle.npos_runtime.specs.Histories.Fates.{fate, waiting_with, issued}
use Rattle.npos_runtime.proofs.Rules.OfficeCallLemmas.{settling, settled_more}

module _ (number : ℕ) where
  abbrev pub numbered : Submission → ℕ
  numbered item = cond (item.number == number) 1 0

  -- what the lines settle, left the queue, and what joined it was given a number
  abbrev pub IsFair : Chain → List Line → Chain → Type 0
  IsFair old told new =
      fate number told + (waiting_with number new.queue.items + issued number old.next)
      ≡ waiting_with number old.queue.items + issued number new.next

  pub fair_then : (a b c : Chain) (first next : List Line) → IsFair a first b → IsFair b next c → IsFair a (first ++ next) c
  fair_then a b c first next p q = omega (arith, sum_by-append (settling number) first next, p, q)

  -- nothing is settled and nothing joins
  pub fair_quiet : (old new : Chain) (told : List Line) → fate number told ≡ 0 → new.queue ≡ old.queue → new.next ≡ old.next
      → IsFair old told new
  fair_quiet old new told none same next =
      omega (arith, none, ap (λ (q : Ranking). waiting_with number q.items) same, ap (issued number) next)

  pub waiting_more : (item : Submission) (items : List Submission)
      → waiting_with number (item ∷ items) ≡ numbered item + waiting_with number items
  waiting_more item items = sum_by-cons numbered item items

  pub returns_settle : (items : List Submission) → fate number (return_lines items) ≡ waiting_with number items
  returns_settle [] = refl
  returns_settle (item ∷ items) =
      omega (
        arith,
        settled_more number (lines.Returned item.number item.deposit)
            (return_lines items),
        waiting_more item items,
        returns_settle items,
      )

  forfeits_settle : (snapshot : Snapshot) (items : List Submission)
      → fate number (map (forfeit_line snapshot) items) ≡ waiting_with number items
  forfeits_settle snapshot [] = refl
  forfeits_settle snapshot (item ∷ items) =
      omega (
        arith,
        settled_more number (forfeit_line snapshot item)
            (map (forfeit_line snapshot) items),
        waiting_more item items,
        forfeits_settle snapshot items,
      )

  members_settle : (snapshot : Snapshot) (weights : Weights) (members : List ℕ)
      → fate number (map (member_line snapshot weights) members) ≡ 0
  members_settle snapshot weights [] = refl
  members_settle snapshot weights (member ∷ members) =
      omega (
        arith,
        settled_more number (member_line snapshot weights member)
            (map (member_line snapshot weights) members),
        members_settle snapshot weights members,
      )

  pays_settle : (reward : ℕ) (items : List Submission) (book : Ledger)
      → fate number (paid_lines reward items book) ≡ waiting_with number items
  pays_settle reward [] book = refl
  pays_settle reward (winner ∷ rest) book =
      omega (
        arith,
        settled_more number (lines.Returned winner.number winner.deposit)
            (lines.Reward winner.number (reward_in reward (returned book winner)) ∷ return_lines rest),
        settled_more number (lines.Reward winner.number (reward_in reward (returned book winner))) (return_lines rest),
        returns_settle rest,
        waiting_more winner rest,
      )

  seat_settles : (round : ℕ) (items : List Submission) → fate number (seat_line round items ∷ []) ≡ 0
  seat_settles round [] = refl
  seat_settles round (winner ∷ rest) = refl

  -- a decision settles all that wait
  pub decided_fair : (round : ℕ) (snapshot : Snapshot) (commissions : List ℕ) (chain : Chain)
      → IsFair chain (decided round snapshot commissions chain).lines (decided round snapshot commissions chain).state
  decided_fair round snapshot commissions chain =
      let items : List Submission = chain.queue.items in
      let left : Ledger = all_burned (losers snapshot items) chain.book in
      let weights : Weights = (committee_of snapshot commissions items).weights in
      let gone : List Line = map (forfeit_line snapshot) (losers snapshot items) in
      let paid : List Line = paid_lines (reward_of chain.params) (others snapshot items) left in
      let seat : List Line = seat_line round (others snapshot items) ∷ [] in
      omega (
        arith,
        sum_by-append (settling number) (gone ++ (paid ++ seat)) (map (member_line snapshot weights) weights.committee),
        sum_by-append (settling number) gone (paid ++ seat),
        sum_by-append (settling number) paid seat,
        forfeits_settle snapshot (losers snapshot items),
        pays_settle (reward_of chain.params) (others snapshot items) left,
        seat_settles round (others snapshot items),
        members_settle snapshot weights weights.committee,
        sum_by-append numbered (losers snapshot items) (others snapshot items),
        ap (waiting_with number) (take-append-drop (prefix_len (fails snapshot) items) items),
      )
