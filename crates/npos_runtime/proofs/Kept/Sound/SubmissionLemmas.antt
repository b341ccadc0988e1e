-- The submissions that wait stay sound: accounts with rows, numbers that were given, and their order.
use Rattle.std.proofs.Common.{◌≡◌, ◌≢◌, ◌⊎◌, inl, inr, ℕ, zero, suc, ◌+◌, ◌-◌, ◌*◌, ◌<◌, ◌≤◌, Bool, true, false}
use Rattle.std.proofs.Common.{not, cond, nat_lt, ◌==◌, ◌||◌, All, List, [], ◌∷◌, length, take, get_or, Option}
use Rattle.std.proofs.Common.{Some, None, is_some, refl, ap, sym, subst, ◌∙◌, true≢false, arith, if◌then◌else◌}
use Rattle.std.specs.List.{AllPairs}
use Rattle.std.specs.Option.{option_or}
use Rattle.std.proofs.lemmas.Bool.{ltb-false}
use Rattle.std.proofs.lemmas.Bool.Decides.{nat_tests}
use Rattle.std.proofs.lemmas.List.Elements.{All-nil, All-cons, All-head, All-tail, All-take, All-map, All-weaker}
use Rattle.std.proofs.lemmas.List.Kept.{AllPairs-cons}
use Rattle.npos_base.specs.declared.account.AccountId.{AccountId}
use Rattle.npos_base.specs.declared.figures.Score.{Score}
use Rattle.npos_base.specs.Score.{is_better}
use Rattle.npos_base.proofs.AccountOrder.{same_itself}
use Rattle.block_wire.specs.declared.genesis.Params.{Params}
use Rattle.block_wire.specs.declared.call.Call.{Call}
use Rattle.block_wire.specs.declared.genesis.Genesis.{Genesis}
use Rattle.stake_ledger.specs.Ledger.{Ledger, row_of}
use Rattle.stake_ledger.specs.Calls.{deposit_held}
use Rattle.stake_ledger.specs.Rows.{deposited}
use Rattle.stake_ledger.proofs.AccountLemmas.{known-changed}
use Rattle.submission_queue.specs.declared.submission.Submission.{Submission}
use Rattle.submission_queue.specs.Rank.{outranks, placed, IsRanked}
use Rattle.submission_queue.specs.Ranking.{Ranking}
use Rattle.submission_queue.proofs.RankLemmas.{no_better_than_itself, behind_better, all_placed}
use Rattle.submission_queue.proofs.QueueLemmas.{offered_placed}
use Rattle.election_check.proofs.ListFacts.{All-of_map}
use Rattle.block_receipts.specs.declared.refusal.Refusal.{Refusal}
use Rattle.block_receipts.specs.declared.refusal.Refusal.TheVariants.{WrongPhase, WrongRound, SolutionTooLong}
use Rattle.chain_params.specs.Rules.{solution_max_of, is_decision}
use Rattle.npos_runtime.specs.declared.chain.Chain.{Chain}
use Rattle.npos_runtime.specs.declared.round.Round.{Round}
use Rattle.npos_runtime.specs.declared.round.Round.TheVariants as rounds
use Rattle.npos_runtime.specs.Rules.CallRule.{CallRule}
use Rattle.npos_runtime.specs.Rules.Calls.{rule_for}
use Rattle.npos_runtime.specs.Rules.Deciding.{decision_of, decision_phase}
use Rattle.npos_runtime.specs.Rules.Outcome.{quiet}
use Rattle.npos_runtime.specs.Genesis.{genesis_chain}
use Rattle.npos_runtime.specs.Rules.Signed.{takes_submissions, current_round, submission_of, form_refusal, offer_refusal, ejected, submitted}
use Rattle.npos_runtime.specs.Step.{before_calls, call_after, call_outcome, calls_outcome}
use Rattle.npos_runtime.specs.Kept.Sound.{StandsBefore, WasAccepted, AreSoundSubmissions}
use Rattle.npos_runtime.specs.Kept.Soundness.{after_block, SubmissionsStaySound}
use Rattle.npos_runtime.proofs.Rules.CallTable.{lawful_call}
use Rattle.npos_runtime.proofs.Kept.KnownRowLemmas.{StayKnown, known_all_returned, known_era, known_rule, known_changed}
use Rattle.npos_runtime.proofs.Histories.LawLemmas.{undecided}
use Rattle.npos_runtime.proofs.Rules.LiveLemmas.{next_before, due_before, next_calls, fixed_calls}
use Rattle.npos_runtime.proofs.Rules.PartLemmas.{first_none}
use Rattle.npos_runtime.proofs.Rules.RuleLemmas.{IsFixed, LeavesQueue, Submits}

-- ## The order of what waits

-- the one stands before the other, and they have different numbers
abbrev Stands : Submission → Submission → Type 0
Stands first later = StandsBefore first later × (first.number ≢ later.number)

abbrev InOrder : List Submission → Type 0
InOrder [] = Unit {0}
InOrder (first ∷ rest) = All (Stands first) rest × InOrder rest

in_order : (items : List Submission) → AllPairs StandsBefore items → AllPairs (λ (first later : Submission). first.number ≢ later.number) items
    → InOrder items
in_order [] ranks apart = tt
in_order (first ∷ rest) ranks apart = (
  λ k d within. (ranks 0 (suc k) d (omega arith) (omega (arith, within)), apart 0 (suc k) d (omega arith) (omega (arith, within))),
  in_order rest (λ i j d below within. ranks (suc i) (suc j) d (omega (arith, below)) (omega (arith, within)))
      (λ i j d below within. apart (suc i) (suc j) d (omega (arith, below)) (omega (arith, within))),
)

by_pairs : (R : Submission → Submission → Type 0) → ((a b : Submission) → Stands a b → R a b) → (items : List Submission) → InOrder items → AllPairs R items
by_pairs R each [] ordered = λ i j d below within. absurd (omega (arith, within))
by_pairs R each (first ∷ rest) ordered =
    AllPairs-cons R first rest (All-weaker (Stands first) (R first) (λ later stands. each first later stands) rest ordered.0)
    (by_pairs R each rest ordered.1)

ranked_then : (items : List Submission) → InOrder items → IsRanked items
ranked_then [] ordered = tt
ranked_then (first ∷ rest) ordered =
    (All-weaker (Stands first) (λ later. outranks later first ≡ false) (λ later stands. stands.0.not_better) rest ordered.0, ranked_then rest ordered.1)

better_through : (x a b : Score) → is_better x a ≡ true → is_better b a ≡ false → is_better x b ≡ true
better_through x a b p q = grind (arith, nat_tests)

-- whom it outranks a later item stands before, and all behind that one
before_worse : (x first other : Submission) → outranks x first ≡ true → is_better other.score first.score ≡ false → other.number < x.number → Stands x other
before_worse x first other better worse given = (
  record {
    not_better = behind_better x.score first.score other.score better worse;
    earlier = λ equal. absurd (true≢false (sym (better_through x.score first.score other.score better worse) ∙ equal));
  },
  λ same. absurd (omega (arith, same, given)),
)

placed_in_order : (items : List Submission) (x : Submission) → InOrder items → All (λ item. item.number < x.number) items → InOrder (placed items x)
placed_in_order [] x ordered below = (All-nil (Stands x), tt)
placed_in_order (first ∷ rest) x ordered below =
    at (outranks x first) refl
    (placed_in_order rest x ordered.1 (All-tail (λ (item : Submission). item.number < x.number) first rest below)) where
      at : (b : Bool) → outranks x first ≡ b → InOrder (placed rest x) → InOrder (cond b (x ∷ first ∷ rest) (first ∷ placed rest x))
      at true better more = (
        All-cons (Stands x) first rest
            (before_worse x first first better (no_better_than_itself first.score) (All-head (λ (item : Submission). item.number < x.number) first rest below))
            (λ k d within. before_worse x first (get_or rest k d) better (ordered.0 k d within).0.not_better (below (suc k) d (omega (arith, within)))),
        ordered,
      )
      at false other more = (
        all_placed (Stands first) rest x (
          record {
            not_better = other;
            earlier = λ equal. All-head (λ (item : Submission). item.number < x.number) first rest below;
          },
          λ same. absurd (omega (arith, same, All-head (λ (item : Submission). item.number < x.number) first rest below)),
        ) ordered.0,
        more,
      )

take_in_order : (n : ℕ) (items : List Submission) → InOrder items → InOrder (take n items)
take_in_order zero items ordered = tt
take_in_order (suc n) [] ordered = tt
take_in_order (suc n) (first ∷ rest) ordered = (All-take (Stands first) n rest ordered.0, take_in_order n rest ordered.1)

-- ## What waits while a block is taken

-- a number that was given, an account with a row, and bytes that are not too many
record IsTaken (book : Ledger) (params : Option Params) (next : ℕ) (item : Submission) : Type 0 where
  pub known : is_some (row_of book item.who) ≡ true
  pub numbered : 1 ≤ item.number
  pub given : item.number < next
  pub fits : length item.bytes ≤ solution_max_of params

record AreTaken (book : Ledger) (params : Option Params) (next : ℕ) (items : List Submission) : Type 0 where
  pub each : All (IsTaken book params next) items
  pub ordered : InOrder items
  pub first : 1 ≤ next

abbrev HasTaken : Chain → Type 0
HasTaken chain = AreTaken chain.book chain.params chain.next chain.queue.items

taken_later : (old new : Ledger) (params : Option Params) (next more : ℕ) (item : Submission) → StayKnown old new → next ≤ more → IsTaken old params next item
    → IsTaken new params more item
taken_later old new params next more item stay later is = record {
  known = stay item.who is.known;
  numbered = is.numbered;
  given = omega (arith, later, is.given);
  fits = is.fits;
}

-- nothing is taken, and rows stay
taken_stays : (old new : Chain) → StayKnown old.book new.book → new.params ≡ old.params → new.next ≡ old.next → new.queue ≡ old.queue
    → HasTaken old → HasTaken new
taken_stays old new stay params next queue taken =
    subst (λ (ps : Option Params). AreTaken new.book ps new.next new.queue.items) (sym params)
    (subst (λ (n : ℕ). AreTaken new.book old.params n new.queue.items) (sym next)
    (subst (λ (q : Ranking). AreTaken new.book old.params old.next q.items) (sym queue) (record {
      each = All-weaker (IsTaken old.book old.params old.next) (IsTaken new.book old.params old.next)
          (λ item is. taken_later old.book new.book old.params old.next old.next item stay (omega arith) is) old.queue.items taken.each;
      ordered = taken.ordered;
      first = taken.first;
    })))

-- ## One submission more

short_enough : (chain : Chain) (round : ℕ) (bytes : List ℕ) → form_refusal chain round bytes ≡ None → length bytes ≤ solution_max_of chain.params
short_enough chain round bytes none =
    at (takes_submissions chain) (round == current_round chain) (nat_lt (solution_max_of chain.params) (length bytes)) refl none where
      at : (takes current long : Bool) → nat_lt (solution_max_of chain.params) (length bytes) ≡ long
          → (if not takes then Some WrongPhase else if not current then Some WrongRound else if long then Some SolutionTooLong else None) ≡ None
          → length bytes ≤ solution_max_of chain.params
      at false current long e free = absurd (cc)
      at true false long e free = absurd (cc)
      at true true true e free = absurd (cc)
      at true true false e free = ltb-false (solution_max_of chain.params) (length bytes) e

submitted_taken : (chain : Chain) (item : Submission) → item.number ≡ chain.next → length item.bytes ≤ solution_max_of chain.params → HasTaken chain
    → HasTaken (submitted chain item)
submitted_taken chain item numbered fits taken =
    let held : Ledger = deposit_held item.who item.deposit chain.book in
    let new : Ledger = (submitted chain item).book in
    let back : StayKnown held new = known_all_returned (ejected chain.queue item) held in
    let stay : StayKnown chain.book new = λ who known. back who (known_changed item.who (deposited item.deposit) chain.book who known) in
    let own : IsTaken new chain.params (chain.next + 1) item = record {
      known = back item.who (known-changed item.who (deposited item.deposit) chain.book item.who
          ∙ ap (λ b. b || is_some (row_of chain.book item.who)) (same_itself item.who));
      numbered = omega (arith, numbered, taken.first);
      given = omega (arith, numbered);
      fits = fits;
    } in
    let old : All (IsTaken new chain.params (chain.next + 1)) chain.queue.items =
    All-weaker (IsTaken chain.book chain.params chain.next) (IsTaken new chain.params (chain.next + 1))
    (λ other is. taken_later chain.book new chain.params chain.next (chain.next + 1) other stay (omega arith) is) chain.queue.items taken.each in
    let below : All (λ other. other.number < item.number) chain.queue.items =
    All-weaker (IsTaken chain.book chain.params chain.next) (λ (other : Submission). other.number < item.number)
    (λ other is. omega (arith, is.given, numbered)) chain.queue.items taken.each in
    subst (AreTaken new chain.params (chain.next + 1)) (sym (offered_placed chain.queue.places chain.queue.items item (ranked_then chain.queue.items taken.ordered)))
    (record {
      each = All-take (IsTaken new chain.params (chain.next + 1)) chain.queue.places (placed chain.queue.items item)
          (all_placed (IsTaken new chain.params (chain.next + 1)) chain.queue.items item own old);
      ordered = take_in_order chain.queue.places (placed chain.queue.items item) (placed_in_order chain.queue.items item taken.ordered below);
      first = omega arith;
    })

-- ## Calls

taken_after : (due : Option Refusal) (index : ℕ) (chain : Chain) (who : AccountId) (rule : CallRule) → rule.refusal ≡ due → StayKnown chain.book rule.done.book
    → IsFixed chain rule.done → LeavesQueue chain rule ⊎ Submits chain who rule → HasTaken chain → HasTaken (call_after due index rule chain).state
taken_after (Some refusal) index chain who rule is stay fixed queue taken = taken
taken_after None index chain who rule is stay fixed (inl leaves) taken =
    taken_stays chain rule.done stay fixed.params leaves.next leaves.queue taken
taken_after None index chain who rule is stay fixed (inr submits) taken =
    let item : Submission = submission_of chain who submits.claim submits.bytes in
    let free : option_or (form_refusal chain submits.round submits.bytes) (offer_refusal chain item) ≡ None =
    sym (ap (λ (r : CallRule). r.refusal) submits.is) ∙ is in
    subst (λ (r : CallRule). HasTaken r.done) (sym submits.is)
    (submitted_taken chain item refl
    (short_enough chain submits.round submits.bytes (first_none (form_refusal chain submits.round submits.bytes) (offer_refusal chain item) free)) taken)

taken_call : (index : ℕ) (call : Call) (chain : Chain) → HasTaken chain → HasTaken (call_outcome index call chain).state
taken_call index call chain taken =
    let lawful = lawful_call call chain in
    taken_after (rule_for chain call).refusal index chain call.who (rule_for chain call) refl (known_rule chain call.who call.kind) lawful.fixed lawful.queue taken

taken_calls : (index : ℕ) (calls : List Call) (chain : Chain) → HasTaken chain → HasTaken (calls_outcome index calls chain).state
taken_calls index [] chain taken = taken
taken_calls index (call ∷ calls) chain taken =
    taken_calls (index + 1) calls (call_outcome index call chain).state (taken_call index call chain taken)

-- ## Blocks

taken_of : (round : Option Round) (chain : Chain) → HasTaken chain → HasTaken (decision_of round chain).state
taken_of None chain taken = taken
taken_of (Some (rounds.Void number)) chain taken = taken
taken_of (Some (rounds.Open number snapshot commissions)) chain taken = record {
  each = All-nil (IsTaken (decision_of (Some (rounds.Open number snapshot commissions)) chain).state.book chain.params chain.next);
  ordered = tt;
  first = taken.first;
}

taken_decided : (chain : Chain) → HasTaken chain → HasTaken (decision_phase chain).state
taken_decided chain taken = at (is_decision chain.params chain.due) where
  at : (b : Bool) → HasTaken (if b then decision_of chain.round chain else quiet chain).state
  at true = taken_of chain.round chain taken
  at false = taken

taken_sound : (chain : Chain) → AreSoundSubmissions chain → HasTaken chain
taken_sound chain sound = record {
  each = λ k d within.
      let one = sound.accepted k d within in
      record {
        known = All-of_map (λ who. is_some (row_of chain.book who) ≡ true) (λ (item : Submission). item.who) chain.queue.items sound.known k d within;
        numbered = one.numbered;
        given = one.given;
        fits = one.fits;
      };
  ordered = in_order chain.queue.items sound.ranked sound.apart;
  first = sound.first;
}

sound_taken : (chain : Chain) → HasTaken chain → chain.next ≤ 64 * (chain.due - 1) + 1 → AreSoundSubmissions chain
sound_taken chain taken few = record {
  known = All-map (λ who. is_some (row_of chain.book who) ≡ true) (λ (item : Submission). item.who) chain.queue.items
      (All-weaker (IsTaken chain.book chain.params chain.next) (λ item. is_some (row_of chain.book item.who) ≡ true) (λ item is. is.known)
      chain.queue.items taken.each);
  accepted = All-weaker (IsTaken chain.book chain.params chain.next) (WasAccepted chain)
      (λ item is. record { numbered = is.numbered; given = is.given; fits = is.fits }) chain.queue.items taken.each;
  apart = by_pairs (λ (first later : Submission). first.number ≢ later.number) (λ first later stands. stands.1) chain.queue.items taken.ordered;
  ranked = by_pairs StandsBefore (λ first later stands. stands.0) chain.queue.items taken.ordered;
  first = taken.first;
  few = few;
}

pub submissions_stay : SubmissionsStaySound
submissions_stay chain block can =
    let start : Chain = before_calls chain in
    let called : Chain = (calls_outcome 0 block.calls start).state in
    let new : Chain = after_block chain block in
    let begun : HasTaken (undecided chain) =
    taken_stays chain (undecided chain) (known_era chain) refl refl refl (taken_sound chain can.sound.queue) in
    sound_taken new (taken_calls 0 block.calls start (taken_decided (undecided chain) begun))
    (omega (
      arith,
      next_calls 0 block.calls start,
      next_before chain,
      can.sound.queue.few,
      can.in_range.1.0,
      (fixed_calls 0 block.calls start).due,
      due_before chain,
      can.ready.between.live.due.at_least,
    ))

-- nothing waits at the start
pub submissions_start : (genesis : Genesis) → AreSoundSubmissions (genesis_chain genesis)
submissions_start genesis =
    let start : Chain = genesis_chain genesis in
    sound_taken start (record { each = All-nil (IsTaken start.book start.params 1); ordered = tt; first = omega arith }) (omega arith)
