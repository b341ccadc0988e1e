-- The committee that waits in a sound chain was elected for the next era, before all that are seated from there on.
use Rattle.std.proofs.Common.{◌≡◌, ◌⊎◌, inl, inr, ℕ, ◌+◌, ◌-◌, ◌≤◌, ◌<◌, All, List, [], Option, Some, None, refl, ap, sym, subst, ◌∙◌, arith}
use Rattle.std.proofs.lemmas.List.Elements.{All-nil, All-cons}
use Rattle.block_wire.specs.declared.genesis.Params.{Params}
use Rattle.submission_queue.specs.declared.submission.Submission.{Submission}
use Rattle.chain_params.specs.Rules.{era_of, place_of}
use Rattle.chain_params.specs.Faults.{params_fault}
use Rattle.chain_params.proofs.PhaseLemmas.{next_place, phases_sound}
use Rattle.npos_runtime.specs.declared.chain.Chain.{Chain}
use Rattle.npos_runtime.specs.declared.round.Round.{Round}
use Rattle.npos_runtime.specs.declared.round.Round.TheVariants as rounds
use Rattle.npos_runtime.specs.Rules.Committee.{Committee}
use Rattle.npos_runtime.specs.Rules.Outcome.{Election}
use Rattle.npos_runtime.specs.Live.{IsBetweenBlocks, IsInTime, WasElected}
use Rattle.npos_runtime.specs.Kept.Sound.{IsDecided, IsSoundWaiting}
use Rattle.npos_runtime.specs.Histories.Eras.{elected_for, awaited_for}
use Rattle.npos_runtime.proofs.Histories.SeatedLemmas.{found_last, Waits, IsTimely, IsBetween}

-- who waits is the election for which it waits
awaited_waits : (era : ℕ) (waiting : Option Committee) → WasElected waiting → Waits waiting (elected_for (era + 1) (awaited_for (era + 1) waiting))
awaited_waits era None elected = tt
awaited_waits era (Some committee) elected =
    let election : Election = record { round = era + 1; snapshot = committee.snapshot; weights = committee.weights } in
    subst (Waits (Some committee)) (sym (found_last era [] election (All-nil (λ (e : Election). e.round ≤ era)) refl)) (refl, elected)

module _ (params : Params) (sound : params_fault params ≡ None) where
  abbrev last_place : ℕ
  last_place = params.offset + params.signed

  abbrev era : ℕ → ℕ
  era due = era_of (Some params) due

  -- where a block stands behind the decision of its era, so does the next one, or the next era begins
  abbrev pub IsPast : ℕ → ℕ → Type 0
  IsPast before due = (era before ≤ era due) × (place_of params due < last_place + 1 → era before + 1 ≤ era due)

  past : (before : ℕ) → 1 ≤ before → last_place ≤ place_of params before → IsPast before (before + 1)
  past before from behind = by (next_place params before (let within = (phases_sound params sound).1 in omega (arith, within)) from) where
    by : ((place_of params (before + 1) ≡ place_of params before + 1) × (era_of (Some params) (before + 1) ≡ era_of (Some params) before))
        ⊎ ((place_of params before + 1 ≡ params.era_blocks) × (era_of (Some params) (before + 1) ≡ era_of (Some params) before + 1))
        → IsPast before (before + 1)
    by (inl (on, same)) = (omega (arith, same), λ early. absurd (omega (arith, early, on, behind)))
    by (inr (end, next)) = (omega (arith, next), λ early. omega (arith, next))

  pub past_decision : (due : ℕ) → IsDecided (Some params) due → IsPast (due - 1) due
  past_decision due decided =
      let again : due - 1 + 1 ≡ due = omega (arith, decided.0) in
      subst (IsPast (due - 1)) again (past (due - 1) (omega (arith, decided.0)) decided.1)

  module _ (chain : Chain) (are : chain.params ≡ Some params) (rests : IsBetweenBlocks chain) where
    abbrev Awaited : Option Committee → List Election
    Awaited waiting = awaited_for (chain.eras.current + 1) waiting

    pub current_is : chain.eras.current ≡ era (chain.due - 1)
    current_is = rests.era ∙ ap (λ (ps : Option Params). era_of ps (chain.due - 1)) are

    pub decided_is : (committee : Committee) → IsSoundWaiting chain (Some committee) → IsPast (chain.due - 1) chain.due
    decided_is committee waits =
        past_decision chain.due (subst (λ (ps : Option Params). IsDecided ps chain.due) are waits.decided)

    timely : (round : Option Round) (items : List Submission) → IsInTime round (Some params) chain.due items
        → IsTimely params (params.offset + 1) (last_place + 1) chain.due round
    timely None items time = tt
    timely (Some (rounds.Void number)) items time = tt
    timely (Some (rounds.Open number snapshot commissions)) items time =
        (time.number_is, omega (arith, time.begun), omega (arith, time.undecided))

    latest : (waiting : Option Committee) → IsSoundWaiting chain waiting → All (λ election. election.round ≤ era chain.due + 1) (Awaited waiting)
    latest None waits = All-nil (λ (e : Election). e.round ≤ era chain.due + 1)
    latest (Some committee) waits =
        All-cons (λ (e : Election). e.round ≤ era chain.due + 1) _ [] (let later = (decided_is committee waits).0 in omega (arith, later, current_is))
        (All-nil (λ (e : Election). e.round ≤ era chain.due + 1))

    earlier : (waiting : Option Committee) → IsSoundWaiting chain waiting → place_of params chain.due < last_place + 1
        → All (λ election. election.round ≤ era chain.due) (Awaited waiting)
    earlier None waits early = All-nil (λ (e : Election). e.round ≤ era chain.due)
    earlier (Some committee) waits early =
        All-cons (λ (e : Election). e.round ≤ era chain.due) _ [] (let later = (decided_is committee waits).1 early in omega (arith, later, current_is))
        (All-nil (λ (e : Election). e.round ≤ era chain.due))

    -- a chain and the committee that waits in it, as rounds and elections go on from there
    pub awaited_between : IsSoundWaiting chain chain.waiting → IsBetween params chain (Awaited chain.waiting)
    awaited_between waits = record {
      params_are = are;
      timely = timely chain.round chain.queue.items (subst (λ (ps : Option Params). IsInTime chain.round ps chain.due chain.queue.items) are rests.timely);
      waits = awaited_waits chain.eras.current chain.waiting rests.elected;
      latest = latest chain.waiting waits;
      earlier = earlier chain.waiting waits;
    }
