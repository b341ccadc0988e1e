-- Each round is decided once: what blocks seat from any chain on has rising rounds.
use Rattle.std.proofs.Common.{◌≡◌, ◌⊎◌, inl, inr, ℕ, ◌+◌, ◌-◌, ◌≤◌, ◌<◌, ◌^◌, Bool, true, false, nat_lt, ◌==◌, List, []}
use Rattle.std.proofs.Common.{◌∷◌, ◌++◌, length, Option, Some, None, refl, sym, ◌∙◌, ap, subst, arith, if◌then◌else◌}
use Rattle.std.specs.List.{IsDistinct, AllByRecursion}
use Rattle.std.proofs.lemmas.Bool.Decides.{nat_tests}
use Rattle.block_wire.specs.declared.genesis.Params.{Params}
use Rattle.block_wire.specs.declared.block.Block.{Block}
use Rattle.chain_params.specs.Rules.{era_of, place_of, is_decision}
use Rattle.chain_params.specs.Faults.{params_fault, AreSound}
use Rattle.chain_params.proofs.PhaseLemmas.{next_place, first_next, phases_sound}
use Rattle.npos_runtime.specs.declared.chain.Chain.{Chain}
use Rattle.npos_runtime.specs.declared.round.Round.{Round}
use Rattle.npos_runtime.specs.declared.round.Round.TheVariants as rounds
use Rattle.npos_runtime.specs.Rules.Deciding.{decision_of}
use Rattle.npos_runtime.specs.Rules.Outcome.{Election, Outcome, quiet}
use Rattle.npos_runtime.specs.Step.{step, seated_by}
use Rattle.npos_runtime.specs.Live.{IsBetweenBlocks, IsInTime}
use Rattle.npos_runtime.specs.Rules.Committee.{Committee}
use Rattle.npos_runtime.specs.History.{CanTake}
use Rattle.npos_runtime.specs.Kept.Sound.{IsDecided, IsSoundWaiting}
use Rattle.npos_runtime.specs.Histories.Eras.{OnceLaw, awaited_for, OnceOnLaw}
use Rattle.npos_runtime.proofs.Histories.AwaitedLemmas.{IsPast, current_is, decided_is}
use Rattle.npos_runtime.proofs.Rules.LiveLemmas.{due_step, params_step}
use Rattle.npos_runtime.proofs.Histories.LawLemmas.{undecided, seats_step, decides}
use Rattle.npos_runtime.proofs.Histories.SeatedLemmas.{same_round}
use Rattle.npos_runtime.proofs.Histories.StoryLemmas.{plain_seated}
use Rattle.npos_runtime.proofs.Histories.TimeLemmas.{between_step}

-- what a block seats: nobody, or the one committee of the round that is open
abbrev SeatsOneOf : List Election → ℕ → Type 0
SeatsOneOf seated round = (seated ≡ []) ⊎ ((election : Election) × (seated ≡ election ∷ []) × (election.round ≡ round))

-- rounds at least this one
abbrev AreFrom : ℕ → List Election → Type 0
AreFrom least seated = AllByRecursion (λ election. least ≤ election.round) seated

from_less : (a b : ℕ) → a ≤ b → (seated : List Election) → AreFrom b seated → AreFrom a seated
from_less a b less [] from = tt
from_less a b less (election ∷ more) from = (omega (arith, from.0, less), from_less a b less more from.1)

apart_from : (round : ℕ) (election : Election) → election.round ≡ round → (seated : List Election) → AreFrom (round + 1) seated
    → AllByRecursion (λ other. same_round election other ≡ false) seated
apart_from round election is [] from = tt
apart_from round election is (other ∷ more) from =
    ((let later = from.0 in grind (arith, nat_tests)), apart_from round election is more from.1)

module _ (params : Params) (sound : params_fault params ≡ None) where
  abbrev last_place : ℕ
  last_place = params.offset + params.signed

  -- the next round that can be decided
  abbrev next_round : ℕ → ℕ
  next_round due = if nat_lt last_place (place_of params due) then era_of (Some params) due + 2 else era_of (Some params) due + 1

  round_within : (due : ℕ) → (era_of (Some params) due + 1 ≤ next_round due) × (next_round due ≤ era_of (Some params) due + 2)
  round_within due = at (nat_lt last_place (place_of params due)) where
    at : (b : Bool) → (era_of (Some params) due + 1 ≤ (if b then era_of (Some params) due + 2 else era_of (Some params) due + 1))
        × ((if b then era_of (Some params) due + 2 else era_of (Some params) due + 1) ≤ era_of (Some params) due + 2)
    at true = (omega arith, omega arith)
    at false = (omega arith, omega arith)

  early : (due : ℕ) → place_of params due ≤ last_place → next_round due ≡ era_of (Some params) due + 1
  early due within =
      let not : nat_lt last_place (place_of params due) ≡ false = grind (arith, nat_tests) in
      ap (λ b. if b then era_of (Some params) due + 2 else era_of (Some params) due + 1) not

  late : (due : ℕ) → last_place < place_of params due → next_round due ≡ era_of (Some params) due + 2
  late due past =
      let is : nat_lt last_place (place_of params due) ≡ true = grind (arith, nat_tests) in
      ap (λ b. if b then era_of (Some params) due + 2 else era_of (Some params) due + 1) is

  abbrev Next : ℕ → Type 0
  Next due = ((place_of params (due + 1) ≡ place_of params due + 1) × (era_of (Some params) (due + 1) ≡ era_of (Some params) due))
      ⊎ ((place_of params due + 1 ≡ params.era_blocks) × (era_of (Some params) (due + 1) ≡ era_of (Some params) due + 1))

  next_of : (due : ℕ) → 1 ≤ due → Next due
  next_of due from = next_place params due (let within = (phases_sound params sound).1 in omega (arith, within)) from

  rises : (due : ℕ) → 1 ≤ due → next_round due ≤ next_round (due + 1)
  rises due from = by (next_of due from) where
    at : (b : Bool) → nat_lt last_place (place_of params due) ≡ b → place_of params (due + 1) ≡ place_of params due + 1
        → era_of (Some params) (due + 1) ≡ era_of (Some params) due → next_round due ≤ next_round (due + 1)
    at true e on same =
        let past : last_place < place_of params due = grind (arith, nat_tests) in
        omega (arith, (round_within due).1, late (due + 1) (omega (arith, past, on)), same)
    at false e on same =
        let within : place_of params due ≤ last_place = grind (arith, nat_tests) in
        omega (arith, early due within, (round_within (due + 1)).0, same)

    by : Next due → next_round due ≤ next_round (due + 1)
    by (inl (on, same)) = at (nat_lt last_place (place_of params due)) refl on same
    by (inr (end, past)) = omega (arith, (round_within due).1, (round_within (due + 1)).0, past)

  -- behind a decision the next round is that of the next era
  behind_decision : (due : ℕ) → 1 ≤ due → place_of params due ≡ last_place → next_round (due + 1) ≡ era_of (Some params) due + 2
  behind_decision due from last = by (next_of due from) where
    by : Next due → next_round (due + 1) ≡ era_of (Some params) due + 2
    by (inl (on, same)) = omega (arith, late (due + 1) (omega (arith, on, last)), same)
    by (inr (end, past)) = omega (arith, early (due + 1) (omega (arith, first_next params due from end past)), past)

  seats_of : (round : Option Round) (chain : Chain) → IsInTime round (Some params) chain.due chain.queue.items → (other : Chain)
      → SeatsOneOf (decision_of round other).seated (era_of (Some params) chain.due + 1)
  seats_of None chain time other = inl refl
  seats_of (Some (rounds.Void number)) chain time other = inl refl
  seats_of (Some (rounds.Open number snapshot commissions)) chain time other =
      inr (record { round = number; snapshot = snapshot; weights = _ }, refl, time.number_is)

  -- nobody is seated, or this is the block of the decision
  abbrev BlockSeats : Chain → Block → Type 0
  BlockSeats chain block =
      ((step chain block).seated ≡ [])
      ⊎ ((place_of params chain.due ≡ last_place) × SeatsOneOf (step chain block).seated (era_of (Some params) chain.due + 1))

  block_seats : (chain : Chain) (block : Block) → IsBetweenBlocks chain → chain.params ≡ Some params → BlockSeats chain block
  block_seats chain block rests are = at (is_decision chain.params chain.due) refl where
    time : IsInTime chain.round (Some params) chain.due chain.queue.items
    time = subst (λ (ps : Option Params). IsInTime chain.round ps chain.due chain.queue.items) are rests.timely

    at : (b : Bool) → is_decision chain.params chain.due ≡ b → BlockSeats chain block
    at true is =
        let decided : (place_of params chain.due == last_place) ≡ true =
        ap (λ (ps : Option Params). is_decision ps chain.due) (sym are) ∙ is in
        inr (
          grind (arith, nat_tests),
          subst (λ seated. SeatsOneOf seated (era_of (Some params) chain.due + 1))
              (sym (seats_step chain block ∙ ap (λ (o : Outcome). o.seated) (decides chain chain.round rests.live is refl)))
              (seats_of chain.round chain time (undecided chain)),
        )
    at false is =
        inl (seats_step chain block ∙ ap
        (λ b. (if b then decision_of (undecided chain).round (undecided chain) else quiet (undecided chain)).seated) is)

  -- all that is seated from here on
  abbrev Rises : Chain → List Block → Type 0
  Rises chain blocks = AreFrom (next_round chain.due) (seated_by chain blocks) × IsDistinct same_round (seated_by chain blocks)

  rounds_rise : (chain : Chain) (blocks : List Block) → IsBetweenBlocks chain → chain.params ≡ Some params
      → chain.due + length blocks ≤ 2 ^ 32 → Rises chain blocks
  unfolding IsDistinct
  rounds_rise chain [] rests are fit = (tt, tt)
  rounds_rise chain (block ∷ more) rests are fit =
      by (block_seats chain block rests are)
      (rounds_rise next more (between_step chain block rests (omega (arith, fit))) (params_step chain block ∙ are)
      (omega (arith, fit, due_step chain block))) where
        next : Chain
        next = (step chain block).state

        from : 1 ≤ chain.due
        from = rests.live.due.at_least

        later : next_round chain.due ≤ next_round (step chain block).state.due
        later = subst (λ due. next_round chain.due ≤ next_round due) (sym (due_step chain block)) (rises chain.due from)

        none : (step chain block).seated ≡ [] → Rises (step chain block).state more → Rises chain (block ∷ more)
        none nobody rest =
            subst (λ (seated : List Election). AreFrom (next_round chain.due) (seated ++ seated_by (step chain block).state more)
            × IsDistinct same_round (seated ++ seated_by (step chain block).state more)) (sym nobody) (
              from_less (next_round chain.due) (next_round (step chain block).state.due) later
                  (seated_by (step chain block).state more) rest.0,
              rest.1,
            )

        by : BlockSeats chain block → Rises (step chain block).state more → Rises chain (block ∷ more)
        by (inl nobody) rest = none nobody rest
        by (inr (last, inl nobody)) rest = none nobody rest
        by (inr (last, inr (election, one, round_is))) rest =
            let seated : List Election = seated_by (step chain block).state more in
            let behind : next_round (step chain block).state.due ≡ era_of (Some params) chain.due + 2 =
            ap next_round (due_step chain block) ∙ behind_decision chain.due from last in
            let now : next_round chain.due ≡ era_of (Some params) chain.due + 1 = early chain.due (omega (arith, last)) in
            subst (λ (first : List Election). AreFrom (next_round chain.due) (first ++ seated_by (step chain block).state more)
            × IsDistinct same_round (first ++ seated_by (step chain block).state more)) (sym one) (
              (
                omega (arith, now, round_is),
                from_less (next_round chain.due)
                    (next_round (step chain block).state.due) later seated rest.0,
              ),
              (
                apart_from (era_of (Some params) chain.due + 1) election round_is seated
                    (from_less (era_of (Some params) chain.due + 1 + 1) (next_round (step chain block).state.due)
                    (omega (arith, behind)) seated rest.0),
                rest.1,
              ),
            )

pub once_law : OnceLaw
unfolding IsDistinct
once_law chain blocks can = at chain.params refl where
  at : (params : Option Params) → chain.params ≡ params → IsDistinct same_round (seated_by chain blocks)
  at None none = subst (λ (elections : List Election). IsDistinct same_round elections) (sym (plain_seated chain blocks none)) tt
  at (Some params) are = (rounds_rise params (subst AreSound are can.between.live.params) chain blocks can.between are can.fit).1

-- ## Who waits

-- whatever is decided behind who waits is of a later era
later : (params : Params) (sound : params_fault params ≡ None) (due current : ℕ) → IsPast params sound (due - 1) due → current ≡ era_of (Some params) (due - 1)
    → current + 1 + 1 ≤ next_round params sound due
later params sound due current past is = at (nat_lt (last_place params sound) (place_of params due)) refl where
  at : (b : Bool) → nat_lt (last_place params sound) (place_of params due) ≡ b → current + 1 + 1 ≤ next_round params sound due
  at true e =
      let over : last_place params sound < place_of params due = grind (arith, nat_tests) in
      omega (arith, late params sound due over, past.0, is)
  at false e =
      let within : place_of params due ≤ last_place params sound = grind (arith, nat_tests) in
      omega (arith, early params sound due within, past.1 (omega (arith, within)), is)

module _ (chain : Chain) (blocks : List Block) (can : CanTake chain blocks) where
  abbrev all_once : Option Committee → Type 0
  all_once waiting = IsDistinct same_round (awaited_for (chain.eras.current + 1) waiting ++ seated_by chain blocks)

  once_on : (params : Option Params) → chain.params ≡ params → (waiting : Option Committee) → IsSoundWaiting chain waiting → all_once waiting
  unfolding IsDistinct
  once_on params are None waits = once_law chain blocks can
  once_on None are (Some committee) waits = absurd (subst (λ (ps : Option Params). IsDecided ps chain.due) are waits.decided)
  once_on (Some params) are (Some committee) waits =
      let sound = subst AreSound are can.between.live.params in
      let past = decided_is params sound chain are can.between committee waits in
      let rest = rounds_rise params sound chain blocks can.between are can.fit in
      let behind : chain.eras.current + 1 + 1 ≤ next_round params sound chain.due =
      later params sound chain.due chain.eras.current past (current_is params sound chain are can.between) in (
        apart_from (chain.eras.current + 1) (record { round = chain.eras.current + 1; snapshot = committee.snapshot; weights = committee.weights }) refl
            (seated_by chain blocks) (from_less (chain.eras.current + 1 + 1) (next_round params sound chain.due) behind (seated_by chain blocks) rest.0),
        rest.1,
      )

pub once_on_law : OnceOnLaw
once_on_law chain blocks can waits = once_on chain blocks can chain.params refl chain.waiting waits
