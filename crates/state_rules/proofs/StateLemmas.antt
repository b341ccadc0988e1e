-- No cause stands in a sound state, and a state where none stands is sound.
use Rattle.std.proofs.Common.{◌≡◌, ℕ, suc, ◌+◌, ◌*◌, Bool, true, false, not, ◌||◌, if◌then◌else◌, List, [], ◌∷◌, ◌++◌, Option, Some, None, is_some, option_map, refl, sym, ◌∙◌, ap, arith, length}
use Rattle.std.specs.List.{list_any}
use Rattle.std.specs.Option.{option_or}
use Rattle.std.proofs.lemmas.Bool.Decides.{nat_tests}
use Rattle.std.proofs.lemmas.Bool.{or_parts}
use Rattle.chain_params.specs.Rules.{bonding_eras_of, thresholds_in, seats_of, places_of, solution_max_of, deposit_of}
use Rattle.stake_ledger.specs.declared.book_row.BookRow.{BookRow}
use Rattle.stake_ledger.specs.declared.rows_fault.RowsFault.TheVariants.{BadRow, BadSum}
use Rattle.stake_ledger.specs.BookRows as book
use Rattle.state_rules.specs.declared.fault.CauseFault.{CauseFault}
use Rattle.state_rules.specs.declared.state.State.{State}
use Rattle.state_rules.specs.declared.state.RoundRow.{RoundRow}
use Rattle.state_rules.specs.declared.state.RoleRow.{RoleRow}
use Rattle.state_rules.specs.declared.state.EraRow.{EraRow}
use Rattle.state_rules.specs.declared.state.QueueRow.{QueueRow}
use Rattle.era_book.specs.declared.deferred.DeferredSlash.{DeferredSlash}
use Rattle.state_rules.specs.declared.state.WaitingRow.{WaitingRow}
use Rattle.state_rules.specs.Lists.{bad_from, bad_place, last_of}
use Rattle.state_rules.specs.Terms.{params_of, defer_of, era_before, is_open, is_decided, is_next_number}
use Rattle.state_rules.specs.Rows.{is_late, is_bad_row}
use Rattle.state_rules.specs.Roles.{is_bad_role}
use Rattle.state_rules.specs.Eras.{is_bad_era}
use Rattle.state_rules.specs.Rounds.{is_bad_round}
use Rattle.state_rules.specs.Queue.{is_bad_item, is_bad_held, waiting_of}
use Rattle.state_rules.specs.Waiting.{is_bad_committee}
use Rattle.state_rules.specs.Slashes.{is_bad_slash}
use Rattle.state_rules.specs.Causes.{at_place, stated, row_cause, sum_cause, role_cause, era_cause, is_bad_open}
use Rattle.state_rules.specs.Causes.{round_cause, next_submission_cause, queue_cause, held_cause, is_bad_waiting}
use Rattle.state_rules.specs.Causes.{waiting_cause, first_cause, next_slash_cause, waiting_slash_cause, slash_cause}
use Rattle.state_rules.specs.Sound.{IsSoundRole, IsSoundEra, IsSoundOpen, IsSoundItem, IsSoundWaiting, IsSoundSlash, IsSoundState, HasSoundSlashes}
use Rattle.state_rules.proofs.CauseLemmas.{neither, none_due}
use Rattle.state_rules.proofs.RowLemmas.{last_put}
use Rattle.state_rules.proofs.SoundLemmas as sound

unplaced : (number : ℕ) (place : Option ℕ) → at_place number place ≡ None → place ≡ None
unplaced number None e = refl
unplaced number (Some place) e = cc

unstated : (number : ℕ) (bad : Bool) → stated number bad ≡ None → bad ≡ false
unstated number true e = cc
unstated number false e = refl

-- ## Rows

-- what of a row a book looks at, and what the eras
book_from : (latest : ℕ) (before rows : List BookRow) → bad_from (is_bad_row latest) before rows ≡ None
    → (book.first_bad_row (option_map (λ row. row.who) (last_of before)) rows ≡ None) × (list_any (is_late latest) rows ≡ false)
book_from latest before [] e = (refl, refl)
book_from latest before (row ∷ rows) e =
    at (book.is_bad_row (option_map (λ r. r.who) (last_of before)) row) (is_late latest row) refl refl e (book_from latest (before ++ row ∷ []) rows) where
      at : (bad late : Bool) → book.is_bad_row (option_map (λ r. r.who) (last_of before)) row ≡ bad → is_late latest row ≡ late
          → (if bad || late then Some (length before) else bad_from (is_bad_row latest) (before ++ row ∷ []) rows) ≡ None
          → (bad_from (is_bad_row latest) (before ++ row ∷ []) rows ≡ None
          → (book.first_bad_row (option_map (λ r. r.who) (last_of (before ++ row ∷ []))) rows ≡ None) × (list_any (is_late latest) rows ≡ false))
          → (book.first_bad_row (option_map (λ r. r.who) (last_of before)) (row ∷ rows) ≡ None) × (list_any (is_late latest) (row ∷ rows) ≡ false)
      at true late f g e rest = cc
      at false true f g e rest = cc
      at false false f g e rest =
          let more : book.first_bad_row (Some row.who) rows ≡ None =
          sym (ap (λ (o : Option BookRow). book.first_bad_row (option_map (λ r. r.who) o) rows) (last_put before row)) ∙ (rest e).0 in
          (rw f (ap (option_map suc) more), rw g (rest e).1)

uncounted : (o : Option ℕ) → option_map suc o ≡ None → o ≡ None
uncounted None e = refl
uncounted (Some n) e = cc

from_book : (latest : ℕ) (before rows : List BookRow) → book.first_bad_row (option_map (λ row. row.who) (last_of before)) rows ≡ None
    → list_any (is_late latest) rows ≡ false → bad_from (is_bad_row latest) before rows ≡ None
from_book latest before [] e late = refl
from_book latest before (row ∷ rows) e late =
    at (book.is_bad_row (option_map (λ r. r.who) (last_of before)) row) refl (from_book latest (before ++ row ∷ []) rows) where
      both : (is_late latest row ≡ false) × (list_any (is_late latest) rows ≡ false)
      both = or_parts (is_late latest row) (list_any (is_late latest) rows) late

      at : (bad : Bool) → book.is_bad_row (option_map (λ r. r.who) (last_of before)) row ≡ bad
          → (book.first_bad_row (option_map (λ r. r.who) (last_of (before ++ row ∷ []))) rows ≡ None → list_any (is_late latest) rows ≡ false
          → bad_from (is_bad_row latest) (before ++ row ∷ []) rows ≡ None)
          → bad_from (is_bad_row latest) before (row ∷ rows) ≡ None
      at true f rest = let here : ◌≡◌ {A = Option ℕ} (Some 0) None = rw f at e in cc
      at false f rest =
          let more : book.first_bad_row (Some row.who) rows ≡ None = uncounted (book.first_bad_row (Some row.who) rows) (rw f at e) in
          rw (f, both.0) (rest (ap (λ (o : Option BookRow). book.first_bad_row (option_map (λ r. r.who) o) rows) (last_put before row) ∙ more) both.1)

-- a book has the rows and the sums where no row is bad and the sums hold
book_parts : (rows : List BookRow) (genesis minted burned : ℕ) → book.rows_fault rows genesis minted burned ≡ None
    → (book.first_bad_row None rows ≡ None) × (book.is_bad_sum rows genesis minted burned ≡ false)
book_parts rows genesis minted burned e = at (book.first_bad_row None rows) (book.is_bad_sum rows genesis minted burned) refl refl where
  at : (o : Option ℕ) (bad : Bool) → book.first_bad_row None rows ≡ o → book.is_bad_sum rows genesis minted burned ≡ bad → (o ≡ None) × (bad ≡ false)
  at (Some place) bad f g = let here : Some (BadRow place) ≡ None = rw f at e in cc
  at None true f g = let here : Some BadSum ≡ None = rw (f, g) at e in cc
  at None false f g = (refl, refl)

parts_book : (rows : List BookRow) (genesis minted burned : ℕ) → book.first_bad_row None rows ≡ None → book.is_bad_sum rows genesis minted burned ≡ false
    → book.rows_fault rows genesis minted burned ≡ None
parts_book rows genesis minted burned f g = rw (f, g) refl

-- ## Rounds and committees

open_sound : (state : State) (round : Option RoundRow) → is_bad_open state round ≡ false → IsSoundOpen state round
open_sound state None e = tt
open_sound state (Some round) e =
    let both = or_parts (not (is_open state)) (is_bad_round state.rows (seats_of (params_of state)) round) e in
    (sound.holds (is_open state) both.0, sound.good_round state.rows (seats_of (params_of state)) round both.1)

sound_open : (state : State) (round : Option RoundRow) → IsSoundOpen state round → is_bad_open state round ≡ false
sound_open state None is = refl
sound_open state (Some round) is =
    sound.none_of (not (is_open state)) (is_bad_round state.rows (seats_of (params_of state)) round) (ap not is.0)
    (sound.round_good state.rows (seats_of (params_of state)) round is.1)

waiting_sound : (state : State) (waiting : Option WaitingRow) → is_bad_waiting state waiting ≡ false → IsSoundWaiting state waiting
waiting_sound state None e = tt
waiting_sound state (Some waiting) e =
    let both = or_parts (not (is_decided state)) (is_bad_committee state.rows (seats_of (params_of state)) waiting) e in
    (sound.holds (is_decided state) both.0, sound.good_committee state.rows (seats_of (params_of state)) waiting both.1)

sound_waiting : (state : State) (waiting : Option WaitingRow) → IsSoundWaiting state waiting → is_bad_waiting state waiting ≡ false
sound_waiting state None is = refl
sound_waiting state (Some waiting) is =
    sound.none_of (not (is_decided state)) (is_bad_committee state.rows (seats_of (params_of state)) waiting) (ap not is.0)
    (sound.committee_good state.rows (seats_of (params_of state)) waiting is.1)

-- ## The whole

module _ (state : State) where
  abbrev latest : ℕ
  latest = era_before state + bonding_eras_of (params_of state)

  abbrev Held : List BookRow → BookRow → Type 0
  Held before row = row.held ≡ deposit_of (params_of state) * waiting_of state.queue row.who

  good_held : (before : List BookRow) (row : BookRow) → is_bad_held (deposit_of (params_of state)) state.queue before row ≡ false → Held before row
  good_held before row e = grind (arith, nat_tests)

  held_good : (before : List BookRow) (row : BookRow) → Held before row → is_bad_held (deposit_of (params_of state)) state.queue before row ≡ false
  held_good before row is = grind (arith, nat_tests, is)

  abbrev bad_roles : List RoleRow → RoleRow → Bool
  bad_roles = is_bad_role (thresholds_in (params_of state)) state.rows

  abbrev bad_eras : List EraRow → EraRow → Bool
  bad_eras = is_bad_era (is_some state.params) (era_before state) state.rows

  abbrev bad_items : List QueueRow → QueueRow → Bool
  bad_items = is_bad_item (is_some state.round) (places_of (params_of state)) (solution_max_of (params_of state)) state.rows state.next_submission

  abbrev bad_slashes : List DeferredSlash → DeferredSlash → Bool
  bad_slashes = is_bad_slash (era_before state) (defer_of state) state.next_slash state.rows

  abbrev from_held : Option CauseFault
  from_held = option_or (held_cause state) (waiting_cause state)

  abbrev from_queue : Option CauseFault
  from_queue = option_or (queue_cause state) from_held

  abbrev from_next : Option CauseFault
  from_next = option_or (next_submission_cause state) from_queue

  abbrev from_round : Option CauseFault
  from_round = option_or (round_cause state) from_next

  abbrev from_eras : Option CauseFault
  from_eras = option_or (era_cause state) from_round

  abbrev from_roles : Option CauseFault
  from_roles = option_or (role_cause state) from_eras

  abbrev from_sums : Option CauseFault
  from_sums = option_or (sum_cause state) from_roles

  pub state_sound : first_cause state ≡ None → IsSoundState state
  state_sound e =
      let rows = neither (row_cause state) from_sums e in
      let sums = neither (sum_cause state) from_roles rows.1 in
      let roles = neither (role_cause state) from_eras sums.1 in
      let eras = neither (era_cause state) from_round roles.1 in
      let round = neither (round_cause state) from_next eras.1 in
      let next = neither (next_submission_cause state) from_queue round.1 in
      let queue = neither (queue_cause state) from_held next.1 in
      let held = neither (held_cause state) (waiting_cause state) queue.1 in
      let taken = book_from latest [] state.rows (unplaced 3 (bad_place (is_bad_row latest) state.rows) rows.0) in
      record {
        book = parts_book state.rows state.genesis state.minted state.burned taken.0
            (unstated 4 (book.is_bad_sum state.rows state.genesis state.minted state.burned) sums.0);
        releases = taken.1;
        roles = sound.each_is bad_roles (IsSoundRole (thresholds_in (params_of state)) state.rows) state.roles
            (sound.good_role (thresholds_in (params_of state)) state.rows) (unplaced 5 (bad_place bad_roles state.roles) roles.0);
        eras = sound.each_is bad_eras (IsSoundEra (is_some state.params) (era_before state) state.rows) state.eras
            (sound.good_era (is_some state.params) (era_before state) state.rows) (unplaced 6 (bad_place bad_eras state.eras) eras.0);
        round = open_sound state state.round (unstated 7 (is_bad_open state state.round) round.0);
        next_submission = sound.good_number state.due state.next_submission (unstated 8 (not (is_next_number state.due state.next_submission)) next.0);
        queue = sound.each_is bad_items
            (IsSoundItem (is_some state.round) (places_of (params_of state)) (solution_max_of (params_of state)) state.rows state.next_submission) state.queue
            (sound.good_item (is_some state.round) (places_of (params_of state)) (solution_max_of (params_of state)) state.rows state.next_submission)
            (unplaced 8 (bad_place bad_items state.queue) queue.0);
        held = sound.each_is (is_bad_held (deposit_of (params_of state)) state.queue) Held state.rows good_held
            (unplaced 9 (bad_place (is_bad_held (deposit_of (params_of state)) state.queue) state.rows) held.0);
        waiting = waiting_sound state state.waiting (unstated 10 (is_bad_waiting state state.waiting) held.1);
      }

  pub sound_state : IsSoundState state → first_cause state ≡ None
  sound_state is =
      let parts = book_parts state.rows state.genesis state.minted state.burned is.book in
      none_due (row_cause state) from_sums (ap (at_place 3) (from_book latest [] state.rows parts.0 is.releases))
      (none_due (sum_cause state) from_roles (ap (stated 4) parts.1)
      (none_due (role_cause state) from_eras
      (ap (at_place 5) (sound.none_is bad_roles (IsSoundRole (thresholds_in (params_of state)) state.rows) state.roles
      (sound.role_good (thresholds_in (params_of state)) state.rows) is.roles))
      (none_due (era_cause state) from_round
      (ap (at_place 6) (sound.none_is bad_eras (IsSoundEra (is_some state.params) (era_before state) state.rows) state.eras
      (sound.era_good (is_some state.params) (era_before state) state.rows) is.eras))
      (none_due (round_cause state) from_next (ap (stated 7) (sound_open state state.round is.round))
      (none_due (next_submission_cause state) from_queue (ap (stated 8) (sound.number_good state.due state.next_submission is.next_submission))
      (none_due (queue_cause state) from_held
      (ap (at_place 8) (sound.none_is bad_items
      (IsSoundItem (is_some state.round) (places_of (params_of state)) (solution_max_of (params_of state)) state.rows state.next_submission) state.queue
      (sound.item_good (is_some state.round) (places_of (params_of state)) (solution_max_of (params_of state)) state.rows state.next_submission) is.queue))
      (none_due (held_cause state) (waiting_cause state)
      (ap (at_place 9) (sound.none_is (is_bad_held (deposit_of (params_of state)) state.queue) Held state.rows held_good is.held))
      (ap (stated 10) (sound_waiting state state.waiting is.waiting)))))))))

  pub slashes_sound : slash_cause state ≡ None → HasSoundSlashes state
  slashes_sound e =
      let both = neither (next_slash_cause state) (waiting_slash_cause state) e in
      record {
        next_slash = sound.good_number state.due state.next_slash (unstated 12 (not (is_next_number state.due state.next_slash)) both.0);
        slashes = sound.each_is bad_slashes (IsSoundSlash (era_before state) (defer_of state) state.next_slash state.rows) state.slashes
            (sound.good_slash (era_before state) (defer_of state) state.next_slash state.rows) (unplaced 12 (bad_place bad_slashes state.slashes) both.1);
      }

  pub sound_slashes : HasSoundSlashes state → slash_cause state ≡ None
  sound_slashes is =
      none_due (next_slash_cause state) (waiting_slash_cause state) (ap (stated 12) (sound.number_good state.due state.next_slash is.next_slash))
      (ap (at_place 12) (sound.none_is bad_slashes (IsSoundSlash (era_before state) (defer_of state) state.next_slash state.rows) state.slashes
      (sound.slash_good (era_before state) (defer_of state) state.next_slash state.rows) is.slashes))
