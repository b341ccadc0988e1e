-- Nothing valid is crowded out: while a round is open, its queue is what the offers to it made of an empty one.
use Rattle.std.proofs.Common.{◌≡◌, ◌⊎◌, inl, inr, ℕ, ◌+◌, ◌-◌, ◌≤◌, ◌<◌, ◌^◌, Bool, true, false, cond, not, nat_lt, ◌==◌}
use Rattle.std.proofs.Common.{◌&&◌, ◌||◌, All, Contains, List, [], ◌∷◌, ◌++◌, length, map, find, slice_get, Option, Some}
use Rattle.std.proofs.Common.{None, MatchOption, refl, sym, ◌∙◌, ap, subst, arith, if◌then◌else◌, true≢false, append_assoc}
use Rattle.std.specs.Option.{option_or}
use Rattle.std.specs.Result.{is_err}
use Rattle.std.specs.List.{prefix_len}
use Rattle.std.proofs.lemmas.Bool.Decides.{nat_tests}
use Rattle.std.proofs.lemmas.List.{append-nil, take-append-drop}
use Rattle.std.proofs.lemmas.List.Sums.{fold-append}
use Rattle.std.proofs.lemmas.List.Elements.{All-nil, All-cons, Contains-append_left, Contains-append_right}
use Rattle.npos_base.specs.declared.account.AccountId.{AccountId}
use Rattle.npos_base.specs.declared.figures.Score.{Score}
use Rattle.block_wire.specs.declared.genesis.Params.{Params}
use Rattle.block_wire.specs.declared.call.Call.{Call}
use Rattle.block_wire.specs.declared.block.Block.{Block}
use Rattle.submission_queue.specs.declared.submission.Submission.{Submission}
use Rattle.submission_queue.specs.Rank.{outranks}
use Rattle.submission_queue.specs.Ranking.{Ranking, IsOrdered, empty_queue, offered, offer_answer, after_offers}
use Rattle.submission_queue.proofs.QueueLemmas.{refused_stays}
use Rattle.submission_queue.proofs.LawLemmas.{crowding}
use Rattle.election_snapshot.specs.Snapshot.{Snapshot}
use Rattle.weight_book.specs.Scoring.{score_of}
use Rattle.election_check.specs.declared.verdict.Verdict.TheVariants as verdicts
use Rattle.election_check.specs.Laws.{PackedYesIsAccepting}
use Rattle.stake_ledger.specs.Ledger.{Ledger, row_at}
use Rattle.stake_ledger.specs.declared.refusal.LedgerRefusal.{LedgerRefusal}
use Rattle.npos_runtime.specs.declared.chain.Chain.{Chain}
use Rattle.block_receipts.specs.declared.line.Line.{Line}
use Rattle.block_receipts.specs.declared.refusal.Refusal.{Refusal}
use Rattle.block_receipts.specs.declared.refusal.Refusal.TheVariants as refusals
use Rattle.npos_runtime.specs.declared.round.Round.{Round}
use Rattle.npos_runtime.specs.declared.round.Round.TheVariants as rounds
use Rattle.chain_params.specs.Rules.{era_of, place_of, is_signed, is_decision, reward_of, solution_max_of, begun_round}
use Rattle.npos_runtime.specs.Rules.Ballots.{snapshot_of, commissions_of}
use Rattle.npos_runtime.specs.Rules.Rounds.{round_after, round_phase, is_few, is_poor}
use Rattle.npos_runtime.specs.Rules.Signed.{is_open, current_round, submission_of, form_refusal, offer_refusal, submit_refusal, submitted, submit_rule}
use Rattle.round_decision.specs.Decision.{judged, is_yes, fails, losers, others, forfeit_line, paid_lines, seat_line, member_lines}
use Rattle.npos_runtime.specs.Rules.Deciding.{committee_of, decision_of, decision_phase}
use Rattle.round_decision.specs.Deposits.{all_burned}
use Rattle.npos_runtime.specs.Rules.Outcome.{Outcome, quiet}
use Rattle.npos_runtime.specs.Rules.CallRule.{CallRule}
use Rattle.npos_runtime.specs.Rules.Calls.{rule_for}
use Rattle.npos_runtime.specs.Step.{before_calls, era_phase, call_after, call_outcome, calls_outcome, closed, step, after_blocks}
use Rattle.chain_params.specs.Faults.{params_fault}
use Rattle.npos_runtime.specs.Live.{IsLive}
use Rattle.npos_runtime.specs.Histories.Offers.{is_offered, offered_to, offer_of, offers_in, offers_by, LosesTo, FillsAfter}
use Rattle.round_decision.proofs.DecisionLemmas.{winner_holds, fails_first, holds_first}
use Rattle.npos_runtime.proofs.Rules.RuleLemmas.{IsFixed, LeavesQueue, Submits}
use Rattle.npos_runtime.proofs.Rules.CallTable.{lawful_call}
use Rattle.npos_runtime.proofs.Rules.LiveLemmas.{live_before, due_before, live_call, live_step, due_step, due_calls}
use Rattle.npos_runtime.proofs.Histories.LawLemmas.{undecided, decides, told_before, told_first, told_later}
use Rattle.chain_params.proofs.PhaseLemmas.{next_place, phases_sound}

-- ## The queue of a round

queue_refused : (queue : Ranking) (item : Submission) → IsOrdered queue → is_err (offer_answer queue item) ≡ true → offered queue item ≡ queue
queue_refused queue item h refused = at (nat_lt (length queue.items) queue.places) refl where
  stays : nat_lt (length queue.items) queue.places ≡ false → (last : Option Submission) → slice_get queue.items (length queue.items - 1) ≡ last → offered queue item ≡ queue
  stays full None is = absurd (true≢false (sym refused ∙ rw (full, is) refl))
  stays full (Some last) is = better (outranks item last) refl where
    better : (b : Bool) → outranks item last ≡ b → offered queue item ≡ queue
    better true e = absurd (true≢false (sym refused ∙ rw (full, is, e) refl))
    better false e =
        let whole : length queue.items ≡ queue.places = (let fits = h.fits in grind (arith, nat_tests)) in
        ap (λ (xs : List Submission). record queue { items = xs }) (refused_stays queue.places queue.items item last h.by_rank h.some whole is e)

  at : (b : Bool) → nat_lt (length queue.items) queue.places ≡ b → offered queue item ≡ queue
  at true free = absurd (true≢false (sym refused ∙ rw free refl))
  at false full = stays full (slice_get queue.items (length queue.items - 1)) refl

module _ (params : Params) (sound : params_fault params ≡ None) (number : ℕ) where
  abbrev place : ℕ → ℕ
  place due = place_of params due

  abbrev era : ℕ → ℕ
  era due = era_of (Some params) due

  -- the queue is what these offers made of an empty one
  abbrev pub Holds : Ranking → List Submission → Type 0
  Holds queue offers = queue ≡ after_offers (empty_queue params.queue) offers

  -- An open round is the current one, from one place of its era to before another, and holds what
  -- was offered to it; else nothing waits.
  abbrev pub IsTimed : ℕ → ℕ → ℕ → Option Round → Ranking → List Submission → Type 0
  IsTimed low high due (Some (rounds.Open round snapshot commissions)) queue offers =
      (round ≡ era due + 1) × (low ≤ place due) × (place due < high) × (round ≡ number → Holds queue offers)
  IsTimed low high due (Some (rounds.Void round)) queue offers = queue ≡ empty_queue params.queue
  IsTimed low high due None queue offers = queue ≡ empty_queue params.queue

  pub record IsAt (low high : ℕ) (chain : Chain) (offers : List Submission) : Type 0 where
    pub params_are : chain.params ≡ Some params
    pub places : chain.queue.places ≡ params.queue
    pub timed : IsTimed low high chain.due chain.round chain.queue offers
    -- nothing was offered to a round that has not begun
    pub later : era chain.due + 1 < number → offers ≡ []
    pub same : number ≡ era chain.due + 1 → place chain.due < low → offers ≡ []

  abbrev pub first_place : ℕ
  first_place = params.offset

  abbrev pub end_place : ℕ
  end_place = params.offset + params.signed

  -- where the round begins, nothing waits
  empty_before : (due : ℕ) (round : Option Round) (queue : Ranking) (offers : List Submission)
      → IsTimed (first_place + 1) (end_place + 1) due round queue offers → place due ≡ first_place → queue ≡ empty_queue params.queue
  empty_before due None queue offers timed e = timed
  empty_before due (Some (rounds.Void round)) queue offers timed e = timed
  empty_before due (Some (rounds.Open round snapshot commissions)) queue offers timed e = absurd (omega (arith, timed.1, e))

  wider : (due : ℕ) (round : Option Round) (queue : Ranking) (offers : List Submission)
      → IsTimed (first_place + 1) (end_place + 1) due round queue offers → IsTimed first_place (end_place + 1) due round queue offers
  wider due None queue offers timed = timed
  wider due (Some (rounds.Void round)) queue offers timed = timed
  wider due (Some (rounds.Open round snapshot commissions)) queue offers timed = (timed.0, omega (arith, timed.1), timed.2, timed.3)

  -- the round begins
  begins : (chain : Chain) (offers : List Submission) → IsAt (first_place + 1) (end_place + 1) chain offers → IsAt first_place (end_place + 1) (undecided chain) offers
  begins chain offers h = record {
    params_are = h.params_are;
    places = h.places;
    timed = subst (λ (ps : Option Params). IsTimed first_place (end_place + 1) chain.due (round_after (era_phase chain).state (begun_round ps chain.due)) chain.queue offers)
        (sym h.params_are) (at (place chain.due == params.offset) refl);
    later = h.later;
    same = λ e below. h.same e (omega (arith, below));
  } where
    -- the new round is void, or open and nothing was offered to it
    opens : (void : Bool) → place chain.due ≡ first_place
        → IsTimed first_place (end_place + 1) chain.due
        (Some (if void then rounds.Void (era chain.due + 1) else rounds.Open (era chain.due + 1)
        (snapshot_of (era_phase chain).state) (commissions_of (era_phase chain).state.roles))) chain.queue offers
    opens true e = empty_before chain.due chain.round chain.queue offers h.timed e
    opens false e = (
      refl,
      omega (arith, e),
      (let some = (phases_sound params sound).0 in omega (arith, e, some)),
      λ is. empty_before chain.due chain.round chain.queue offers h.timed e
          ∙ ap (λ (xs : List Submission). after_offers (empty_queue params.queue) xs) (sym (h.same (sym is) (omega (arith, e)))),
    )

    at : (b : Bool) → (place chain.due == params.offset) ≡ b
        → IsTimed first_place (end_place + 1) chain.due (round_after (era_phase chain).state (if b then Some (era chain.due + 1) else None)) chain.queue offers
    at true e = opens (is_few (snapshot_of (era_phase chain).state) || is_poor (snapshot_of (era_phase chain).state)) (grind (arith, nat_tests))
    at false e = wider chain.due chain.round chain.queue offers h.timed

  -- and is decided, or not yet
  decided_at : (chain : Chain) (offers : List Submission) → IsAt first_place (end_place + 1) chain offers → IsAt first_place end_place (decision_phase chain).state offers
  decided_at chain offers h =
      subst (λ (ps : Option Params). IsAt first_place end_place (if is_decision ps chain.due then decision_of chain.round chain else quiet chain).state offers)
      (sym h.params_are) (at (place chain.due == end_place) refl) where
        kept : IsTimed first_place end_place chain.due chain.round chain.queue offers → IsAt first_place end_place chain offers
        kept timed = record { params_are = h.params_are; places = h.places; timed = timed; later = h.later; same = h.same }

        over : (round : Option Round) → chain.round ≡ round → IsAt first_place end_place (decision_of round chain).state offers
        over None e =
            kept (subst (λ (r : Option Round). IsTimed first_place end_place chain.due r chain.queue offers) (sym e)
            (subst (λ (r : Option Round). IsTimed first_place (end_place + 1) chain.due r chain.queue offers) e h.timed))
        over (Some (rounds.Void round)) e =
            kept (subst (λ (r : Option Round). IsTimed first_place end_place chain.due r chain.queue offers) (sym e)
            (subst (λ (r : Option Round). IsTimed first_place (end_place + 1) chain.due r chain.queue offers) e h.timed))
        over (Some (rounds.Open round snapshot commissions)) e = record {
          params_are = h.params_are;
          places = h.places;
          timed = ap empty_queue h.places;
          later = h.later;
          same = h.same;
        }

        before : (round : Option Round) → IsTimed first_place (end_place + 1) chain.due round chain.queue offers → (place chain.due == end_place) ≡ false
            → IsTimed first_place end_place chain.due round chain.queue offers
        before None timed e = timed
        before (Some (rounds.Void round)) timed e = timed
        before (Some (rounds.Open round snapshot commissions)) timed e =
            (timed.0, timed.1, (let below = timed.2 in grind (arith, nat_tests)), timed.3)

        at : (b : Bool) → (place chain.due == end_place) ≡ b → IsAt first_place end_place (if b then decision_of chain.round chain else quiet chain).state offers
        at true e = over chain.round refl
        at false e = kept (before chain.round h.timed e)

  -- ## One call

  abbrev IsNow : Chain → List Submission → Type 0
  IsNow chain offers = IsAt first_place end_place chain offers

  -- a call that is no offer
  passed : (chain new : Chain) (offers more : List Submission) → IsNow chain offers → more ≡ [] → new.params ≡ chain.params → new.round ≡ chain.round
      → new.queue ≡ chain.queue → new.due ≡ chain.due → IsNow new (offers ++ more)
  passed chain new offers more h none params_are round queue due =
      let nothing : offers ≡ offers ++ more = sym (ap (λ (xs : List Submission). offers ++ xs) none ∙ append-nil offers) in
      subst (IsNow new) nothing (record {
        params_are = params_are ∙ h.params_are;
        places = ap (λ (q : Ranking). q.places) queue ∙ h.places;
        timed =
            subst (λ (d : ℕ). IsTimed first_place end_place d new.round new.queue offers) (sym due)
            (subst (λ (r : Option Round). IsTimed first_place end_place chain.due r new.queue offers) (sym round)
            (subst (λ (q : Ranking). IsTimed first_place end_place chain.due chain.round q offers) (sym queue) h.timed));
        later = λ below. h.later (omega (arith, below, ap era due));
        same = λ e below. h.same (e ∙ ap (λ d. era d + 1) due) (omega (arith, below, ap place due));
      })

  -- what the form of a submit must be for an offer
  formed : (chain : Chain) (round : ℕ) (bytes : List ℕ) (offer : Option Refusal) → is_offered (option_or (form_refusal chain round bytes) offer) ≡ true
      → (is_open chain.round ≡ true) × (round ≡ current_round chain) × (option_or (form_refusal chain round bytes) offer ≡ offer)
  formed chain round bytes offer is =
      at (is_signed chain.params chain.due) (is_open chain.round) (round == current_round chain) (nat_lt (solution_max_of chain.params) (length bytes)) refl refl is where
        at : (signed stands current long : Bool) → is_open chain.round ≡ stands → (round == current_round chain) ≡ current
            → is_offered (option_or (if not (signed && stands) then Some refusals.WrongPhase else if not current then Some refusals.WrongRound
            else if long then Some refusals.SolutionTooLong else None) offer) ≡ true
            → (is_open chain.round ≡ true) × (round ≡ current_round chain)
            × (option_or (if not (signed && stands) then Some refusals.WrongPhase else if not current then Some refusals.WrongRound
            else if long then Some refusals.SolutionTooLong else None) offer ≡ offer)
        at true true true false opened current is = (opened, grind (arith, nat_tests), refl)
        at true true true true opened current is = absurd (true≢false (sym is))
        at true true false long opened current is = absurd (true≢false (sym is))
        at true false current long opened c is = absurd (true≢false (sym is))
        at false stands current long o c is = absurd (true≢false (sym is))

  abbrev offer_if : Bool → Bool → Submission → List Submission
  offer_if named offered item = if named && offered then item ∷ [] else []

  -- an offer to the open round
  joined : (chain new : Chain) (offers : List Submission) (item : Submission) (round : ℕ) → IsNow chain offers → is_open chain.round ≡ true
      → round ≡ current_round chain → new.params ≡ chain.params → new.round ≡ chain.round → new.queue ≡ offered chain.queue item → new.due ≡ chain.due
      → IsNow new (offers ++ offer_if (round == number) true item)
  joined chain new offers item round h opened current params_are same queue due = at (round == number) refl where
    now : round ≡ era chain.due + 1
    now = current ∙ ap (λ (ps : Option Params). era_of ps chain.due + 1) h.params_are

    more : List Submission
    more = offers ++ item ∷ []

    grown : Holds chain.queue offers → Holds new.queue more
    grown holds =
        queue ∙ (ap (λ q. offered q item) holds ∙ sym (fold-append offered (empty_queue params.queue) offers (item ∷ [])))

    -- the round that is open goes on, and what it holds is known for the number alone
    goes : (all : List Submission) → ((round ≡ number) → Holds chain.queue offers → Holds new.queue all)
        → (r : Option Round) → is_open r ≡ true → IsTimed first_place end_place chain.due r chain.queue offers
        → IsTimed first_place end_place chain.due r new.queue all
    goes all holds None o timed = absurd (true≢false (sym o))
    goes all holds (Some (rounds.Void n)) o timed = absurd (true≢false (sym o))
    goes all holds (Some (rounds.Open n snapshot commissions)) o timed =
        (timed.0, timed.1, timed.2, λ e. holds (now ∙ (sym timed.0 ∙ e)) (timed.3 e))

    begun : (r : Option Round) → is_open r ≡ true → IsTimed first_place end_place chain.due r chain.queue offers → first_place ≤ place chain.due
    begun None o timed = absurd (true≢false (sym o))
    begun (Some (rounds.Void n)) o timed = absurd (true≢false (sym o))
    begun (Some (rounds.Open n snapshot commissions)) o timed = timed.1

    whole : (all : List Submission) → ((round ≡ number) → Holds chain.queue offers → Holds new.queue all)
        → (era chain.due + 1 < number → all ≡ []) → IsNow new all
    whole all holds none = record {
      params_are = params_are ∙ h.params_are;
      places = ap (λ (q : Ranking). q.places) queue ∙ h.places;
      timed =
          subst (λ (d : ℕ). IsTimed first_place end_place d new.round new.queue all) (sym due)
          (subst (λ (r : Option Round). IsTimed first_place end_place chain.due r new.queue all) (sym same)
          (goes all holds chain.round opened h.timed));
      later = λ below. none (omega (arith, below, ap era due));
      same = λ e below. absurd (omega (arith, begun chain.round opened h.timed, below, ap place due));
    }

    at : (b : Bool) → (round == number) ≡ b → IsNow new (offers ++ offer_if b true item)
    at true e =
        let is : round ≡ number = grind (arith, nat_tests) in
        whole more (λ _. grown) (λ below. absurd (omega (arith, below, now, is)))
    at false e =
        subst (IsNow new) (sym (append-nil offers))
        (whole offers (λ is _. absurd (grind (arith, nat_tests))) h.later)

  not_offered : (named : Bool) (item : Submission) → offer_if named false item ≡ []
  not_offered true item = refl
  not_offered false item = refl

  called_submit : (index : ℕ) (who : AccountId) (chain : Chain) (round : ℕ) (claim : Score) (bytes : List ℕ) (offers : List Submission)
      → IsNow chain offers → IsLive chain
      → IsNow (call_after (submit_refusal chain who round claim bytes) index (submit_rule chain who round claim bytes) chain).state
      (offers ++ offer_if (round == number) (is_offered (submit_refusal chain who round claim bytes)) (submission_of chain who claim bytes))
  called_submit index who chain round claim bytes offers h live = at (submit_refusal chain who round claim bytes) refl where
    item : Submission
    item = submission_of chain who claim bytes

    rule : CallRule
    rule = submit_rule chain who round claim bytes

    out : (refusal : Refusal) → is_offered (Some refusal) ≡ false
        → IsNow (call_after (Some refusal) index rule chain).state (offers ++ offer_if (round == number) (is_offered (Some refusal)) item)
    out refusal e =
        passed chain chain offers (offer_if (round == number) (is_offered (Some refusal)) item) h
        (ap (λ b. offer_if (round == number) b item) e ∙ not_offered (round == number) item) refl refl refl refl

    -- refused for want of a better claim
    worse : (low worst : Bool) → (if low then Some (refusals.Ledger Rattle.stake_ledger.specs.declared.refusal.LedgerRefusal.TheVariants.LowFunds)
        else if worst then Some refusals.NotBetter else None) ≡ Some refusals.NotBetter → worst ≡ true
    worse true worst e = cc
    worse false true e = refl
    worse false false e = cc

    at : (due : Option Refusal) → submit_refusal chain who round claim bytes ≡ due
        → IsNow (call_after due index rule chain).state (offers ++ offer_if (round == number) (is_offered due) item)
    at None e =
        let form = formed chain round bytes (offer_refusal chain item) (ap is_offered e) in
        joined chain (submitted chain item) offers item round h form.0 form.1 refl refl refl refl
    at (Some refusals.NotBetter) e =
        let form = formed chain round bytes (offer_refusal chain item) (ap is_offered e) in
        let full = worse (nat_lt (row_at chain.book item.who).free item.deposit) (is_err (offer_answer chain.queue item)) (sym form.2 ∙ e) in
        joined chain chain offers item round h form.0 form.1 refl refl (sym (queue_refused chain.queue item live.queue full)) refl
    at (Some (refusals.Ledger refusal)) e = out (refusals.Ledger refusal) refl
    at (Some (refusals.List refusal)) e = out (refusals.List refusal) refl
    at (Some refusals.WrongPhase) e = out refusals.WrongPhase refl
    at (Some refusals.WrongRound) e = out refusals.WrongRound refl
    at (Some refusals.SolutionTooLong) e = out refusals.SolutionTooLong refl
    at (Some (refusals.Era refusal)) e = out (refusals.Era refusal) refl
    at (Some refusals.NotRoot) e = out refusals.NotRoot refl

  -- what any other call does
  other_after : (due : Option Refusal) (index : ℕ) (rule : CallRule) (chain : Chain) (offers : List Submission) → IsNow chain offers
      → IsFixed chain rule.done → LeavesQueue chain rule → IsNow (call_after due index rule chain).state (offers ++ [])
  other_after None index rule chain offers h fixed leaves =
      passed chain rule.done offers [] h refl fixed.params fixed.round leaves.queue fixed.due
  other_after (Some refusal) index rule chain offers h fixed leaves = passed chain chain offers [] h refl refl refl refl refl

  called_rule : (index : ℕ) (who : AccountId) (rule : CallRule) (chain : Chain) (offers : List Submission) → IsNow chain offers
      → IsLive chain
      → IsFixed chain rule.done → LeavesQueue chain rule ⊎ Submits chain who rule
      → IsNow (call_after rule.refusal index rule chain).state (offers ++ offer_of number rule)
  called_rule index who rule chain offers h live fixed (inl leaves) =
      subst (λ (offer : Option (ℕ × Submission)). IsNow (call_after rule.refusal index rule chain).state
      (offers ++ offered_to number (is_offered rule.refusal) offer))
      (sym leaves.offered) (other_after rule.refusal index rule chain offers h fixed leaves)
  called_rule index who rule chain offers h live fixed (inr submits) =
      subst (λ (r : CallRule). IsNow (call_after r.refusal index r chain).state (offers ++ offer_of number r)) (sym submits.is)
      (called_submit index who chain submits.round submits.claim submits.bytes offers h live)

  called_call : (index : ℕ) (call : Call) (chain : Chain) (offers : List Submission) → IsNow chain offers → IsLive chain
      → IsNow (call_outcome index call chain).state (offers ++ offer_of number (rule_for chain call))
  called_call index call chain offers h live =
      let is = lawful_call call chain in
      called_rule index call.who (rule_for chain call) chain offers h live is.fixed is.queue

  called : (index : ℕ) (calls : List Call) (chain : Chain) (offers : List Submission) → IsNow chain offers → IsLive chain
      → IsNow (calls_outcome index calls chain).state (offers ++ offers_in number index calls chain)
  called index [] chain offers h live = subst (IsNow chain) (sym (append-nil offers)) h
  called index (call ∷ calls) chain offers h live =
      let next : Chain = (call_outcome index call chain).state in
      let one : List Submission = offer_of number (rule_for chain call) in
      let rest : List Submission = offers_in number (index + 1) calls next in
      subst (IsNow (calls_outcome (index + 1) calls next).state) (append_assoc offers one rest)
      (called (index + 1) calls next (offers ++ one) (called_call index call chain offers h live) (live_call index call chain live))

  -- ## Blocks

  closes : (chain : Chain) (offers : List Submission) → IsNow chain offers → 1 ≤ chain.due → IsAt (first_place + 1) (end_place + 1) (closed chain).state offers
  closes chain offers h from = record {
    params_are = h.params_are;
    places = h.places;
    timed = timed chain.round h.timed;
    later = later;
    same = same;
  } where
    within : end_place < params.era_blocks
    within = (phases_sound params sound).1

    next : ((place (chain.due + 1) ≡ place chain.due + 1) × (era (chain.due + 1) ≡ era chain.due))
        ⊎ ((place chain.due + 1 ≡ params.era_blocks) × (era (chain.due + 1) ≡ era chain.due + 1))
    next = next_place params chain.due (omega (arith, within)) from

    timed : (round : Option Round) → IsTimed first_place end_place chain.due round chain.queue offers
        → IsTimed (first_place + 1) (end_place + 1) (chain.due + 1) round chain.queue offers
    timed None t = t
    timed (Some (rounds.Void round)) t = t
    timed (Some (rounds.Open round snapshot commissions)) t = by next where
      by : ((place (chain.due + 1) ≡ place chain.due + 1) × (era (chain.due + 1) ≡ era chain.due))
          ⊎ ((place chain.due + 1 ≡ params.era_blocks) × (era (chain.due + 1) ≡ era chain.due + 1))
          → (round ≡ era (chain.due + 1) + 1) × (first_place + 1 ≤ place (chain.due + 1)) × (place (chain.due + 1) < end_place + 1) × (round ≡ number → Holds chain.queue offers)
      by (inl (on, in_era)) = (omega (arith, t.0, in_era), omega (arith, t.1, on), omega (arith, t.2, on), t.3)
      by (inr (over, past)) = absurd (omega (arith, over, t.2, within))

    later : era (chain.due + 1) + 1 < number → offers ≡ []
    later below = by next where
      by : ((place (chain.due + 1) ≡ place chain.due + 1) × (era (chain.due + 1) ≡ era chain.due))
          ⊎ ((place chain.due + 1 ≡ params.era_blocks) × (era (chain.due + 1) ≡ era chain.due + 1)) → offers ≡ []
      by (inl (on, in_era)) = h.later (omega (arith, below, in_era))
      by (inr (over, past)) = h.later (omega (arith, below, past))

    same : number ≡ era (chain.due + 1) + 1 → place (chain.due + 1) < first_place + 1 → offers ≡ []
    same e below = by next where
      by : ((place (chain.due + 1) ≡ place chain.due + 1) × (era (chain.due + 1) ≡ era chain.due))
          ⊎ ((place chain.due + 1 ≡ params.era_blocks) × (era (chain.due + 1) ≡ era chain.due + 1)) → offers ≡ []
      by (inl (on, in_era)) = h.same (omega (arith, e, in_era)) (omega (arith, below, on))
      by (inr (over, past)) = h.later (omega (arith, e, past))

  abbrev pub IsBetween : Chain → List Submission → Type 0
  IsBetween chain offers = IsAt (first_place + 1) (end_place + 1) chain offers

  pub stepped : (chain : Chain) (block : Block) (offers : List Submission) → IsBetween chain offers → IsLive chain
      → IsBetween (step chain block).state (offers ++ offers_in number 0 block.calls (before_calls chain))
  stepped chain block offers h live =
      let start : Chain = before_calls chain in
      let all : List Submission = offers ++ offers_in number 0 block.calls start in
      closes (calls_outcome 0 block.calls start).state all
      (called 0 block.calls start offers (decided_at (undecided chain) offers (begins chain offers h)) (live_before chain live))
      (omega (arith, due_calls 0 block.calls start, due_before chain, live.due.at_least))

  pub behind : (chain : Chain) (blocks : List Block) (offers : List Submission) → IsBetween chain offers → IsLive chain
      → chain.due + length blocks ≤ 2 ^ 32
      → IsBetween (after_blocks chain blocks) (offers ++ offers_by number chain blocks)
  behind chain [] offers h live fit = subst (IsBetween chain) (sym (append-nil offers)) h
  behind chain (block ∷ more) offers h live fit =
      let next : Chain = (step chain block).state in
      let one : List Submission = offers_in number 0 block.calls (before_calls chain) in
      subst (IsBetween (after_blocks next more)) (append_assoc offers one (offers_by number next more))
      (behind next more (offers ++ one) (stepped chain block offers h live) (live_step chain block live (omega (arith, fit)))
      (omega (arith, fit, due_step chain block)))

  -- a round that is open holds what was offered to it
  pub round_holds : (chain : Chain) (offers : List Submission) (snapshot : Snapshot) (commissions : List ℕ) → IsBetween chain offers
      → chain.round ≡ Some (rounds.Open number snapshot commissions) → Holds chain.queue offers
  round_holds chain offers snapshot commissions h is =
      (subst (λ (r : Option Round). IsTimed (first_place + 1) (end_place + 1) chain.due r chain.queue offers) is h.timed).3 refl

-- ## What the decision tells

abbrev valid : Snapshot → Submission → Bool
valid snapshot item = is_yes (judged snapshot item)

-- whether somebody won
found_others : (snapshot : Snapshot) (items : List Submission) (found : Option Submission) → find (valid snapshot) items ≡ found
    → MatchOption found (others snapshot items ≡ []) (λ winner. (rest : List Submission) × (others snapshot items ≡ winner ∷ rest))
found_others snapshot [] found is = subst (λ (f : Option Submission). MatchOption f (others snapshot [] ≡ []) (λ winner. (rest : List Submission) × (others snapshot [] ≡ winner ∷ rest))) is refl
found_others snapshot (item ∷ items) found is = at (is_yes (judged snapshot item)) refl (found_others snapshot items) is where
  at : (b : Bool) → is_yes (judged snapshot item) ≡ b
      → ((f : Option Submission) → find (valid snapshot) items ≡ f
      → MatchOption f (others snapshot items ≡ []) (λ winner. (rest : List Submission) × (others snapshot items ≡ winner ∷ rest)))
      → cond b (Some item) (find (valid snapshot) items) ≡ found
      → MatchOption found (others snapshot (item ∷ items) ≡ []) (λ winner. (rest : List Submission) × (others snapshot (item ∷ items) ≡ winner ∷ rest))
  at true e more here =
      let first : others snapshot (item ∷ items) ≡ item ∷ items = (holds_first snapshot item items (ap not e)).1 in
      subst (λ (f : Option Submission). MatchOption f (others snapshot (item ∷ items) ≡ []) (λ winner. (rest : List Submission) × (others snapshot (item ∷ items) ≡ winner ∷ rest)))
      here (items, first)
  at false e more here =
      let later : others snapshot (item ∷ items) ≡ others snapshot items = (fails_first snapshot item items (ap not e)).1 in
      subst (λ (xs : List Submission). MatchOption found (xs ≡ []) (λ winner. (rest : List Submission) × (xs ≡ winner ∷ rest))) (sym later) (more found here)

-- the lines of the decision stand among those of its block
in_step : (chain : Chain) (block : Block) (line : Line) → Contains (decision_phase (undecided chain)).lines line → Contains (step chain block).lines line
in_step chain block line within =
    told_before chain block line
    (told_later era_phase (round_phase ∷ decision_phase ∷ []) chain line
    (told_later round_phase (decision_phase ∷ []) (era_phase chain).state line (told_first decision_phase [] (undecided chain) line within)))

all_mapped : {A B : Type 0} (f : A → B) (xs : List A) → All (λ x. Contains (map f xs) (f x)) xs
all_mapped f [] = All-nil (λ x. Contains [] (f x))
all_mapped f (x ∷ xs) =
    All-cons (λ y. Contains (f x ∷ map f xs) (f y)) x xs (0, omega arith, refl)
    (λ k d below. Contains-append_right (f x ∷ []) (map f xs) _ (all_mapped f xs k d below))

module _ (packed : PackedYesIsAccepting) (chain : Chain) (block : Block) (round : ℕ) (snapshot : Snapshot) (commissions : List ℕ) (live : IsLive chain)
    (is : is_decision chain.params chain.due ≡ true) (stands : chain.round ≡ Some (rounds.Open round snapshot commissions)) where
  abbrev items : List Submission
  items = chain.queue.items

  abbrev told : List Line
  told = (step chain block).lines

  parted : losers snapshot items ++ others snapshot items ≡ items
  parted = take-append-drop (prefix_len (fails snapshot) items) items

  -- the lines of this decision
  abbrev book : Ledger
  book = all_burned (losers snapshot items) (undecided chain).book

  abbrev lost_lines : List Line
  lost_lines = map (forfeit_line snapshot) (losers snapshot items)

  abbrev rest_lines : List Line
  rest_lines = paid_lines (reward_of chain.params) (others snapshot items) book ++ seat_line round (others snapshot items) ∷ []

  seen : (line : Line) → Contains (lost_lines ++ rest_lines) line → Contains told line
  seen line within =
      in_step chain block line
      (subst (λ (o : Outcome). Contains o.lines line) (sym (decides chain (Some (rounds.Open round snapshot commissions)) live is stands))
      (Contains-append_left (lost_lines ++ rest_lines) (member_lines snapshot (committee_of snapshot commissions items).weights) line within))

  seat_seen : Contains told (seat_line round (others snapshot items))
  seat_seen =
      seen (seat_line round (others snapshot items))
      (Contains-append_right lost_lines rest_lines (seat_line round (others snapshot items))
      (Contains-append_right (paid_lines (reward_of chain.params) (others snapshot items) book) (seat_line round (others snapshot items) ∷ []) (seat_line round (others snapshot items))
      (0, omega arith, refl)))

  fills : others snapshot items ≡ [] → length items ≡ chain.queue.places → FillsAfter round snapshot chain.queue told
  fills none full = record {
    seated = subst (λ (xs : List Submission). Contains told (seat_line round xs)) none seat_seen;
    full = full;
    forfeited = subst (λ (xs : List Submission). All (λ item. Contains told (forfeit_line snapshot item)) xs) all
        (λ k d below. seen _ (Contains-append_left lost_lines rest_lines _ (all_mapped (forfeit_line snapshot) (losers snapshot items) k d below)));
  } where
    all : losers snapshot items ≡ items
    all = sym (append-nil (losers snapshot items)) ∙ (ap (λ xs. losers snapshot items ++ xs) (sym none) ∙ parted)

  loses : (item winner : Submission) (rest : List Submission) → others snapshot items ≡ winner ∷ rest → outranks item winner ≡ false
      → LosesTo round snapshot item items told winner
  loses item winner rest won worse =
      let won_by = packed snapshot winner.score winner.bytes (winner_holds snapshot items winner rest won) in
      record {
        waited = subst (λ (xs : List Submission). Contains xs winner) (ap (λ xs. losers snapshot items ++ xs) (sym won) ∙ parted)
            (Contains-append_right (losers snapshot items) (winner ∷ rest) winner (0, omega arith, refl));
        seated = subst (λ (xs : List Submission). Contains told (seat_line round xs)) won seat_seen;
        no_better = worse;
        earned = ap score_of won_by.given_are ∙ won_by.claimed;
      }

  pub answered : (item : Submission) (places : ℕ) (offers : List Submission) → chain.queue.places ≡ places
      → chain.queue ≡ after_offers (empty_queue places) offers
      → Contains offers item → judged snapshot item ≡ verdicts.Yes
      → ((winner : Submission) × LosesTo round snapshot item items told winner) ⊎ FillsAfter round snapshot chain.queue told
  answered item places offers many holds among holds_up =
      at (find (valid snapshot) items) refl
      (subst (λ (q : Ranking). MatchOption (find (valid snapshot) q.items) ((length q.items ≡ places) × All (λ other. valid snapshot other ≡ false) q.items)
      (λ winner. outranks item winner ≡ false)) (sym holds)
      (crowding (valid snapshot) places offers item among (ap is_yes holds_up)))
      (found_others snapshot items (find (valid snapshot) items) refl) where
        at : (found : Option Submission) → find (valid snapshot) items ≡ found
            → MatchOption found ((length items ≡ places) × All (λ other. valid snapshot other ≡ false) items) (λ winner. outranks item winner ≡ false)
            → MatchOption found (others snapshot items ≡ []) (λ winner. (rest : List Submission) × (others snapshot items ≡ winner ∷ rest))
            → ((winner : Submission) × LosesTo round snapshot item items told winner) ⊎ FillsAfter round snapshot chain.queue told
        at None e (full, all) none = inr (fills none (full ∙ sym many))
        at (Some winner) e worse (rest, won) = inl (winner, loses item winner rest won worse)
