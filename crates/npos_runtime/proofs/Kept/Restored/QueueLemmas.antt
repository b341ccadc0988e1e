-- The submissions that wait in a chain that goes on from a state.
use Rattle.std.proofs.Common.{◌≡◌, ◌≢◌, suc, ◌≤◌, ◌<◌, Bool, true, false, not, ◌&&◌, ◌||◌, nat_eq, nat_lt, is_some, List}
use Rattle.std.proofs.Common.{[], ◌∷◌, length, map, Option, Some, None, refl, ap, subst, ◌∙◌, arith, true≢false, sym}
use Rattle.std.specs.List.{AllPairs}
use Rattle.std.proofs.lemmas.Bool.Decides.{nat_tests}
use Rattle.std.proofs.lemmas.List.{length-map, length-take-le}
use Rattle.std.proofs.lemmas.List.Elements.{All-map}
use Rattle.npos_base.specs.declared.account.AccountId.{AccountId}
use Rattle.npos_base.specs.Score.{is_better}
use Rattle.npos_base.proofs.NumberTests.{other_number}
use Rattle.block_wire.specs.declared.genesis.Params.{Params}
use Rattle.submission_queue.specs.declared.submission.Submission.{Submission}
use Rattle.submission_queue.specs.Rank.{IsRanked}
use Rattle.submission_queue.specs.Ranking.{IsOrdered}
use Rattle.submission_queue.proofs.RankLemmas.{no_better_through}
use Rattle.chain_params.specs.Rules.{places_of}
use Rattle.chain_params.specs.Faults.{AreSound}
use Rattle.chain_params.proofs.FaultLemmas.{places_within}
use Rattle.state_rules.specs.declared.state.State.{State}
use Rattle.state_rules.specs.declared.state.QueueRow.{QueueRow}
use Rattle.state_rules.specs.Queue.{outranks}
use Rattle.state_rules.specs.Sound as rule
use Rattle.state_rules.specs.Terms.{params_of}
use Rattle.npos_runtime.specs.Kept.Chain.{submission_in, chain_of}
use Rattle.npos_runtime.specs.Kept.Sound.{AreKnown, StandsBefore, WasAccepted, AreSoundSubmissions}
use Rattle.npos_runtime.proofs.Kept.RowLemmas.{pairs_map}
use Rattle.npos_runtime.proofs.Kept.Restored.ListLemmas.{follow_pairs, apart_pairs, within_most}
use Rattle.npos_runtime.proofs.Kept.Restored.BookLemmas.{are_known}

-- ## Ranks

-- no later claim is better, and of equal claims the earlier one stands first
record RowBefore (first later : QueueRow) : Type 0 where
  not_better : is_better later.score first.score ≡ false
  earlier : is_better first.score later.score ≡ false → first.number < later.number

before_told : (first later : QueueRow) → outranks first later ≡ true → RowBefore first later
before_told first later above = at (is_better first.score later.score) (is_better later.score first.score) refl refl above where
  both_better : is_better first.score later.score ≡ true → is_better later.score first.score ≡ true → ⊥
  both_better one other = both (grind (arith, nat_tests, one, other)) where
    both : true ≡ false → ⊥
    both e = true≢false e

  at : (a b : Bool) → is_better first.score later.score ≡ a → is_better later.score first.score ≡ b
      → (a || (not b && nat_lt first.number later.number)) ≡ true → RowBefore first later
  at true true one other e = absurd (both_better one other)
  at true false one other e = record { not_better = other; earlier = λ none. absurd (true≢false (sym one ∙ none)) }
  at false true one other e = absurd (true≢false (sym e))
  at false false one other e = record { not_better = other; earlier = λ none. grind (arith, nat_tests, e) }

before_on : (first next later : QueueRow) → RowBefore first next → RowBefore next later → RowBefore first later
before_on first next later one two = record {
  not_better = no_better_through first.score next.score later.score one.not_better two.not_better;
  earlier = λ none.
      omega (
        arith,
        one.earlier (no_better_through next.score later.score first.score two.not_better none),
        two.earlier (no_better_through later.score first.score next.score none one.not_better),
      );
}

ranked_from : (items : List Submission) → AllPairs StandsBefore items → IsRanked items
ranked_from [] pairs = tt
ranked_from (item ∷ items) pairs = (
  λ k d few. (pairs 0 (suc k) d (omega arith) (omega (arith, few))).not_better,
  ranked_from items (λ i j d lt few. pairs (suc i) (suc j) d (omega (arith, lt)) (omega (arith, few))),
)

-- ## The submissions

some_places : (params : Option Params) → AreSound params → (1 ≤ places_of params) × (places_of params ≤ 16)
some_places None sound = (omega arith, omega arith)
some_places (Some params) sound = places_within params sound

module _ (state : State) (sound : rule.IsSoundState state) where
  abbrev items : List Submission
  items = map (submission_in (params_of state)) state.queue

  ranked : AllPairs StandsBefore items
  ranked =
      pairs_map (submission_in (params_of state)) StandsBefore state.queue
      (λ i j d lt few. stands (follow_pairs RowBefore before_on outranks before_told state.queue (λ k e within. (sound.queue k e within).rank) i j d lt few)) where
        stands : {first later : QueueRow} → RowBefore first later → StandsBefore (submission_in (params_of state) first) (submission_in (params_of state) later)
        stands before = record { not_better = before.not_better; earlier = before.earlier }

  fits : length state.queue ≤ places_of (params_of state)
  fits =
      within_most state.queue (places_of (params_of state))
      (λ place d few. omega (arith, (sound.queue place d few).place, length-take-le place state.queue (omega (arith, few))))

  pub restored_order : AreSound (params_of state) → IsOrdered (chain_of state).queue
  restored_order params = record {
    some = (some_places (params_of state) params).0;
    most = (some_places (params_of state) params).1;
    fits = omega (arith, fits, length-map state.queue (submission_in (params_of state)));
    by_rank = ranked_from items ranked;
  }

  -- where no round is open nothing waits
  pub none_waits : state.round ≡ None → items ≡ []
  none_waits none = at state.queue (λ d some. opened d some) where
    opened : (d : QueueRow) → 0 < length state.queue → is_some state.round ≡ true
    opened d some = (sound.queue 0 d some).round

    at : (queue : List QueueRow) → ((d : QueueRow) → 0 < length queue → is_some state.round ≡ true) → map (submission_in (params_of state)) queue ≡ []
    at [] open_round = refl
    at (row ∷ queue) open_round = absurd (true≢false (sym (open_round row (omega arith)) ∙ ap is_some none))

  pub restored_submissions : AreSoundSubmissions (chain_of state)
  restored_submissions = record {
    known = known_items state.queue (are_known state (λ (row : QueueRow). row.who) state.queue (λ k d few. (sound.queue k d few).known));
    accepted = All-map (WasAccepted (chain_of state)) (submission_in (params_of state)) state.queue
        (λ k d few. record { numbered = (sound.queue k d few).numbered; given = (sound.queue k d few).given; fits = (sound.queue k d few).bytes });
    apart = pairs_map (submission_in (params_of state)) (λ (first later : Submission). first.number ≢ later.number) state.queue
        (λ i j d lt few.
        other_number _ _ (apart_pairs (λ (first later : QueueRow). nat_eq first.number later.number) state.queue (λ k e within. (sound.queue k e within).fresh) i j d lt few));
    ranked = ranked;
    first = sound.next_submission.some;
    few = sound.next_submission.within;
  } where
    known_items : (queue : List QueueRow) → AreKnown (chain_of state).book (map (λ (row : QueueRow). row.who) queue)
        → AreKnown (chain_of state).book (map (λ (item : Submission). item.who) (map (submission_in (params_of state)) queue))
    known_items queue known = subst (AreKnown (chain_of state).book) (same queue) known where
      same : (rows : List QueueRow) → map (λ (row : QueueRow). row.who) rows ≡ map (λ (item : Submission). item.who) (map (submission_in (params_of state)) rows)
      same [] = refl
      same (row ∷ rows) = ap (λ (more : List AccountId). row.who ∷ more) (same rows)
