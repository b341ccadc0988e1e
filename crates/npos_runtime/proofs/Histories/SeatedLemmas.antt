-- Through the phases of a block: when a round is open, who waits, and for which eras committees
-- were seated.
use Rattle.std.proofs.Common.{◌≡◌, ◌⊎◌, inl, inr, ℕ, ◌+◌, ◌-◌, ◌<◌, ◌≤◌, Bool, true, false, cond, ◌==◌, ◌||◌, All}
use Rattle.std.proofs.Common.{List, [], ◌∷◌, ◌++◌, Option, Some, None, refl, ap, sym, subst, ◌∙◌, arith, if◌then◌else◌}
use Rattle.std.specs.Option.{option_or}
use Rattle.std.proofs.lemmas.Bool.Decides.{nat_tests}
use Rattle.std.proofs.lemmas.List.{append-nil}
use Rattle.std.proofs.lemmas.List.Folds.{find-append}
use Rattle.std.proofs.lemmas.List.Elements.{All-nil, All-cons, All-head, All-tail, All-append}
use Rattle.npos_base.specs.declared.account.AccountId.{AccountId}
use Rattle.block_wire.specs.declared.genesis.Params.{Params}
use Rattle.block_wire.specs.declared.call.Call.{Call}
use Rattle.block_wire.specs.declared.block.Block.{Block}
use Rattle.election_snapshot.specs.Snapshot.{IsWellFormed}
use Rattle.election_check.specs.Laws.{PackedYesIsAccepting, PlainYesIsPassing}
use Rattle.quota_fill.specs.Laws.{EveryFillPasses}
use Rattle.era_book.specs.Exposures.{AreSound as AreSoundExposures, exposed_for}
use Rattle.npos_runtime.specs.declared.chain.Chain.{Chain}
use Rattle.npos_runtime.specs.declared.round.Round.{Round}
use Rattle.npos_runtime.specs.declared.round.Round.TheVariants as rounds
use Rattle.npos_runtime.specs.Rules.Committee.{Committee}
use Rattle.chain_params.specs.Rules.{era_of, place_of, begun_era, is_decision, begun_round}
use Rattle.npos_runtime.specs.Rules.Ballots.{snapshot_of, commissions_of}
use Rattle.npos_runtime.specs.Rules.Rounds.{round_after, round_phase, is_few, is_poor}
use Rattle.round_decision.specs.Decision.{others, decided_weights}
use Rattle.npos_runtime.specs.Rules.Deciding.{committee_of, decision_of, decision_phase}
use Rattle.npos_runtime.specs.Rules.Exposed.{exposed}
use Rattle.npos_runtime.specs.Rules.Outcome.{Election, Outcome, quiet}
use Rattle.npos_runtime.specs.Step.{before_calls, waiting_after, eras_after, era_phase, calls_outcome, closed, step}
use Rattle.chain_params.specs.Faults.{params_fault}
use Rattle.npos_runtime.specs.Live.{IsLive, IsSoundRound, IsNotedCommittee, IsElected}
use Rattle.npos_runtime.specs.Histories.Eras.{elected_for, stake_in, stake_behind}
use Rattle.chain_params.proofs.PhaseLemmas.{next_place, phases_sound}
use Rattle.npos_runtime.proofs.Rules.EraLemmas.{era_begun}
use Rattle.npos_runtime.proofs.Rules.ElectedLemmas.{follows_rising, exposures_sound, exposures_within, nobody_sound}
use Rattle.npos_runtime.proofs.Rules.PhaseTable.{live_era, live_round}
use Rattle.npos_runtime.proofs.Rules.LiveLemmas.{fixed_calls, due_calls, due_before}
use Rattle.npos_runtime.proofs.Histories.LawLemmas.{undecided, seats_step}
use Rattle.round_decision.proofs.VerdictLemmas.{decided_passes}

-- ## Elections by their rounds

abbrev pub same_round : Election → Election → Bool
same_round first second = first.round == second.round

-- an election that comes last, and whose round is later than all
none_later : (era : ℕ) (seated : List Election) → All (λ election. election.round ≤ era) seated → elected_for (era + 1) seated ≡ None
none_later era [] within = refl
none_later era (e ∷ es) within =
    let below : e.round ≤ era = All-head (λ (election : Election). election.round ≤ era) e es within in
    let apart : (e.round == era + 1) ≡ false = grind (arith, nat_tests) in
    ap (λ b. cond b (Some e) (elected_for (era + 1) es)) apart ∙ none_later era es (All-tail (λ (election : Election). election.round ≤ era) e es within)

pub found_last : (era : ℕ) (seated : List Election) (election : Election) → All (λ other. other.round ≤ era) seated → election.round ≡ era + 1
    → elected_for (era + 1) (seated ++ election ∷ []) ≡ Some election
found_last era seated election within is =
    let same : (election.round == era + 1) ≡ true = grind (arith, nat_tests) in
    find-append (λ (other : Election). other.round == era + 1) seated (election ∷ [])
    ∙ ap (λ (first : Option Election). option_or first (elected_for (era + 1) (election ∷ []))) (none_later era seated within)
    ∙ ap (λ b. cond b (Some election) None) same

-- ## Who waits was elected

-- who waits was seated by this election
abbrev pub Waits : Option Committee → Option Election → Type 0
Waits None election = Unit {0}
Waits (Some committee) None = ⊥
Waits (Some committee) (Some election) = (election.snapshot ≡ committee.snapshot) × IsElected committee

pub waiting_sound : (waiting : Option Committee) (election : Option Election) → Waits waiting election → IsNotedCommittee waiting → AreSoundExposures (exposed waiting)
waiting_sound None election waits noted = nobody_sound
waiting_sound (Some committee) None waits noted = absurd waits
waiting_sound (Some committee) (Some election) waits noted = exposures_sound committee waits.1 noted

pub waiting_within : (waiting : Option Committee) (election : Option Election) (who : AccountId) → Waits waiting election → IsNotedCommittee waiting
    → exposed_for who (exposed waiting) ≤ stake_behind who election
waiting_within None election who waits noted = omega arith
waiting_within (Some committee) None who waits noted = absurd waits
waiting_within (Some committee) (Some election) who waits noted =
    omega (arith, exposures_within committee who waits.1 noted, ap (λ snapshot. stake_in snapshot who) waits.0)

module _ (params : Params) where
  abbrev place : ℕ → ℕ
  place due = place_of params due

  abbrev era : ℕ → ℕ
  era due = era_of (Some params) due

  abbrev end_place : ℕ
  end_place = params.offset + params.signed

  -- an open round is the current one, from one place of its era to before another
  abbrev pub IsTimely : ℕ → ℕ → ℕ → Option Round → Type 0
  IsTimely low high due (Some (rounds.Open number snapshot commissions)) = (number ≡ era due + 1) × (low ≤ place due) × (place due < high)
  IsTimely low high due (Some (rounds.Void number)) = Unit {0}
  IsTimely low high due None = Unit {0}

  -- Rounds that were decided are no later than the current one, and earlier where that is still
  -- to be decided.
  pub record IsAt (low high : ℕ) (chain : Chain) (seated : List Election) : Type 0 where
    pub params_are : chain.params ≡ Some params
    pub timely : IsTimely low high chain.due chain.round
    pub waits : Waits chain.waiting (elected_for (chain.eras.current + 1) seated)
    pub latest : All (λ election. election.round ≤ era chain.due + 1) seated
    pub earlier : place chain.due < high → All (λ election. election.round ≤ era chain.due) seated

  -- before a block
  abbrev pub IsBetween : Chain → List Election → Type 0
  IsBetween chain seated = IsAt (params.offset + 1) (end_place + 1) chain seated

  -- an era may begin, and then nobody waits
  starts : (chain : Chain) (seated : List Election) → IsBetween chain seated → IsBetween (era_phase chain).state seated
  starts chain seated h = record {
    params_are = h.params_are;
    timely = h.timely;
    waits = at (begun_era chain.params chain.due);
    latest = h.latest;
    earlier = h.earlier;
  } where
    at : (begun : Option ℕ) → Waits (waiting_after chain.waiting begun) (elected_for ((eras_after chain.eras chain.waiting begun).current + 1) seated)
    at None = h.waits
    at (Some era) = tt

  wider : (due : ℕ) (round : Option Round) → IsTimely (params.offset + 1) (end_place + 1) due round → IsTimely params.offset (end_place + 1) due round
  wider due None timely = tt
  wider due (Some (rounds.Void number)) timely = tt
  wider due (Some (rounds.Open number snapshot commissions)) timely = (timely.0, omega (arith, timely.1), timely.2)

  -- a round may begin
  begins : (chain : Chain) (seated : List Election) → IsBetween chain seated → IsAt params.offset (end_place + 1) (round_phase chain).state seated
  begins chain seated h = record {
    params_are = h.params_are;
    timely = subst (λ (ps : Option Params). IsTimely params.offset (end_place + 1) chain.due (round_after chain (begun_round ps chain.due))) (sym h.params_are)
        (at (place chain.due == params.offset) refl);
    waits = h.waits;
    latest = h.latest;
    earlier = h.earlier;
  } where
    opens : (void : Bool) → place chain.due ≡ params.offset
        → IsTimely params.offset (end_place + 1) chain.due
        (Some (if void then rounds.Void (era chain.due + 1) else rounds.Open (era chain.due + 1) (snapshot_of chain) (commissions_of chain.roles)))
    opens true e = tt
    opens false e = (refl, omega (arith, e), omega (arith, e))

    at : (b : Bool) → (place chain.due == params.offset) ≡ b
        → IsTimely params.offset (end_place + 1) chain.due (round_after chain (if b then Some (era chain.due + 1) else None))
    at true e = opens (is_few (snapshot_of chain) || is_poor (snapshot_of chain)) (grind (arith, nat_tests))
    at false e = wider chain.due chain.round h.timely

  -- the round may be decided
  module _ (packed : PackedYesIsAccepting) (plain : PlainYesIsPassing) (fill : EveryFillPasses) where
    decides_it : (chain : Chain) (seated : List Election) → IsAt params.offset (end_place + 1) chain seated → IsSoundRound chain.round → chain.eras.current ≡ era chain.due
        → IsAt params.offset end_place (decision_phase chain).state (seated ++ (decision_phase chain).seated)
    decides_it chain seated h sound current =
        subst (λ (ps : Option Params). IsAt params.offset end_place (outcome ps).state (seated ++ (outcome ps).seated)) (sym h.params_are) (at (place chain.due == end_place) refl) where
          outcome : Option Params → Outcome
          outcome = λ (ps : Option Params). if is_decision ps chain.due then decision_of chain.round chain else quiet chain

          -- nothing is decided
          stays : IsTimely params.offset end_place chain.due chain.round → IsAt params.offset end_place chain (seated ++ [])
          stays timely =
              subst (λ (elections : List Election). IsAt params.offset end_place chain elections) (sym (append-nil seated)) (record {
                params_are = h.params_are;
                timely = timely;
                waits = h.waits;
                latest = h.latest;
                earlier = λ before. h.earlier (omega (arith, before));
              })

          over : place chain.due ≡ end_place → (round : Option Round) → chain.round ≡ round
              → IsAt params.offset end_place (decision_of round chain).state (seated ++ (decision_of round chain).seated)
          over last None is = stays (subst (λ (r : Option Round). IsTimely params.offset end_place chain.due r) (sym is) tt)
          over last (Some (rounds.Void number)) is = stays (subst (λ (r : Option Round). IsTimely params.offset end_place chain.due r) (sym is) tt)
          over last (Some (rounds.Open number snapshot commissions)) is = record {
            params_are = h.params_are;
            timely = tt;
            waits = subst (λ (found : Option Election). Waits (Some committee) found) (sym found_it) (refl, given);
            latest = All-append (λ (e : Election). e.round ≤ era chain.due + 1) seated (election ∷ []) h.latest
                (All-cons (λ (e : Election). e.round ≤ era chain.due + 1) election [] (omega (arith, numbered)) (All-nil (λ (e : Election). e.round ≤ era chain.due + 1)));
            earlier = λ before. absurd (omega (arith, before, last));
          } where
            committee : Committee
            committee = committee_of snapshot commissions chain.queue.items

            election : Election
            election = record { round = number; snapshot = snapshot; weights = decided_weights snapshot (others snapshot chain.queue.items) }

            numbered : number ≡ era chain.due + 1
            numbered = (subst (λ (r : Option Round). IsTimely params.offset (end_place + 1) chain.due r) is h.timely).0

            past : All (λ (e : Election). e.round ≤ era chain.due) seated
            past = h.earlier (omega (arith, last))

            found_it : elected_for (chain.eras.current + 1) (seated ++ election ∷ []) ≡ Some election
            found_it = ap (λ n. elected_for (n + 1) (seated ++ election ∷ [])) current ∙ found_last (era chain.due) seated election past numbered

            well_formed : IsWellFormed snapshot
            well_formed = (subst IsSoundRound is sound).0

            given : IsElected committee
            given =
                let passes = decided_passes packed fill plain snapshot chain.queue.items well_formed in
                record {
                  sound = well_formed;
                  follows = follows_rising snapshot (decided_weights snapshot (others snapshot chain.queue.items)) passes.feasible.follows;
                  stakes = passes.feasible.within_stakes;
                }

          before : (round : Option Round) → IsTimely params.offset (end_place + 1) chain.due round → (place chain.due == end_place) ≡ false → IsTimely params.offset end_place chain.due round
          before None timely e = tt
          before (Some (rounds.Void number)) timely e = tt
          before (Some (rounds.Open number snapshot commissions)) timely e = (timely.0, timely.1, (let below = timely.2 in grind (arith, nat_tests)))

          at : (b : Bool) → (place chain.due == end_place) ≡ b
              → IsAt params.offset end_place (if b then decision_of chain.round chain else quiet chain).state
              (seated ++ (if b then decision_of chain.round chain else quiet chain).seated)
          at true e = over (grind (arith, nat_tests)) chain.round refl
          at false e = stays (before chain.round h.timely e)

    -- the calls change nothing of it
    called : (calls : List Call) (chain : Chain) (seated : List Election) → IsAt params.offset end_place chain seated → IsAt params.offset end_place (calls_outcome 0 calls chain).state seated
    called calls chain seated h =
        let fixed = fixed_calls 0 calls chain in
        record {
          params_are = fixed.params ∙ h.params_are;
          timely = subst (λ (due : ℕ). IsTimely params.offset end_place due (calls_outcome 0 calls chain).state.round) (sym fixed.due)
              (subst (λ (r : Option Round). IsTimely params.offset end_place chain.due r) (sym fixed.round) h.timely);
          waits = subst (λ (n : ℕ). Waits (calls_outcome 0 calls chain).state.waiting (elected_for (n + 1) seated)) (sym fixed.era)
              (subst (λ (w : Option Committee). Waits w (elected_for (chain.eras.current + 1) seated)) (sym fixed.waiting) h.waits);
          latest = subst (λ (due : ℕ). All (λ (e : Election). e.round ≤ era due + 1) seated) (sym fixed.due) h.latest;
          earlier = subst (λ (due : ℕ). place due < end_place → All (λ (e : Election). e.round ≤ era due) seated) (sym fixed.due) h.earlier;
        }

    -- the next block is due
    closes : (chain : Chain) (seated : List Election) → params_fault params ≡ None → 1 ≤ chain.due → IsAt params.offset end_place chain seated → IsBetween (closed chain).state seated
    closes chain seated sound from h = record {
      params_are = h.params_are;
      timely = timely chain.round h.timely;
      waits = h.waits;
      latest = latest next;
      earlier = earlier next;
    } where
      Next : Type 0
      Next = ((place (chain.due + 1) ≡ place chain.due + 1) × (era (chain.due + 1) ≡ era chain.due))
          ⊎ ((place chain.due + 1 ≡ params.era_blocks) × (era (chain.due + 1) ≡ era chain.due + 1))

      within : end_place < params.era_blocks
      within = (phases_sound params sound).1

      next : ((place (chain.due + 1) ≡ place chain.due + 1) × (era (chain.due + 1) ≡ era chain.due))
          ⊎ ((place chain.due + 1 ≡ params.era_blocks) × (era (chain.due + 1) ≡ era chain.due + 1))
      next = next_place params chain.due (omega (arith, within)) from

      timely : (round : Option Round) → IsTimely params.offset end_place chain.due round → IsTimely (params.offset + 1) (end_place + 1) (chain.due + 1) round
      timely None t = tt
      timely (Some (rounds.Void number)) t = tt
      timely (Some (rounds.Open number snapshot commissions)) t = by next where
        by : ((place (chain.due + 1) ≡ place chain.due + 1) × (era (chain.due + 1) ≡ era chain.due))
            ⊎ ((place chain.due + 1 ≡ params.era_blocks) × (era (chain.due + 1) ≡ era chain.due + 1))
            → (number ≡ era (chain.due + 1) + 1) × (params.offset + 1 ≤ place (chain.due + 1)) × (place (chain.due + 1) < end_place + 1)
        by (inl (on, in_era)) = (omega (arith, t.0, in_era), omega (arith, t.1, on), omega (arith, t.2, on))
        by (inr (over, past)) = absurd (omega (arith, over, t.2, within))

      latest : ((place (chain.due + 1) ≡ place chain.due + 1) × (era (chain.due + 1) ≡ era chain.due))
          ⊎ ((place chain.due + 1 ≡ params.era_blocks) × (era (chain.due + 1) ≡ era chain.due + 1))
          → All (λ (e : Election). e.round ≤ era (chain.due + 1) + 1) seated
      latest (inl (on, in_era)) = λ k d few. omega (arith, h.latest k d few, in_era)
      latest (inr (over, past)) = λ k d few. omega (arith, h.latest k d few, past)

      earlier : ((place (chain.due + 1) ≡ place chain.due + 1) × (era (chain.due + 1) ≡ era chain.due))
          ⊎ ((place chain.due + 1 ≡ params.era_blocks) × (era (chain.due + 1) ≡ era chain.due + 1))
          → place (chain.due + 1) < end_place + 1 → All (λ (e : Election). e.round ≤ era (chain.due + 1)) seated
      earlier (inl (on, in_era)) before = λ k d few. omega (arith, h.earlier (omega (arith, before, on)) k d few, in_era)
      earlier (inr (over, past)) before = λ k d few. omega (arith, h.latest k d few, past)

    pub seated_step : (chain : Chain) (block : Block) (seated : List Election) → params_fault params ≡ None → IsLive chain → chain.eras.current ≡ era_of chain.params (chain.due - 1)
        → IsBetween chain seated → IsBetween (step chain block).state (seated ++ (step chain block).seated)
    seated_step chain block seated sound live current h =
        let start : Chain = before_calls chain in
        let before : Chain = undecided chain in
        let live_before : IsLive before = live_round (era_phase chain).state (live_era chain live) in
        let begun : before.eras.current ≡ era before.due =
        era_begun chain.eras chain.waiting chain.params chain.due live.params live.due.at_least current ∙ ap
        (λ (ps : Option Params). era_of ps chain.due) h.params_are in
        let decided = decides_it before seated (begins (era_phase chain).state seated (starts chain seated h)) live_before.round begun in
        subst (λ (elections : List Election). IsBetween (step chain block).state (seated ++ elections)) (sym (seats_step chain block))
        (closes (calls_outcome 0 block.calls start).state (seated ++ (decision_phase before).seated) sound
        (omega (arith, due_calls 0 block.calls start, due_before chain, live.due.at_least))
        (called block.calls start (seated ++ (decision_phase before).seated) decided))
