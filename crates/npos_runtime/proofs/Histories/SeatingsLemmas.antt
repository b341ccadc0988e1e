-- A round that begins stands until its decision, and is decided then.
use Rattle.std.proofs.Common.{◌≡◌, ◌⊎◌, inl, inr, ℕ, ◌+◌, ◌≤◌, ◌<◌, Bool, true, false, ◌==◌, ◌||◌, All, Contains, List, [], ◌∷◌, ◌++◌}
use Rattle.std.proofs.Common.{length, Option, Some, None, option_map, option_to_list, refl, sym, ◌∙◌, ap, subst, arith, if◌then◌else◌}
use Rattle.std.proofs.lemmas.Bool.Decides.{nat_tests}
use Rattle.std.proofs.lemmas.List.{length-append}
use Rattle.std.proofs.lemmas.List.Elements.{All-nil, All-cons}
use Rattle.block_wire.specs.declared.genesis.Params.{Params}
use Rattle.block_wire.specs.declared.block.Block.{Block}
use Rattle.election_snapshot.specs.Snapshot.{Snapshot}
use Rattle.block_receipts.specs.declared.line.Line.{Line}
use Rattle.chain_params.specs.Rules.{era_of, place_of, begun_round, signed_of, is_decision}
use Rattle.chain_params.specs.Faults.{params_fault, AreSound}
use Rattle.chain_params.proofs.PhaseLemmas.{next_place, phases_sound}
use Rattle.npos_runtime.specs.declared.chain.Chain.{Chain}
use Rattle.npos_runtime.specs.declared.round.Round.{Round}
use Rattle.npos_runtime.specs.declared.round.Round.TheVariants as rounds
use Rattle.npos_runtime.specs.Rules.Ballots.{snapshot_of, commissions_of}
use Rattle.npos_runtime.specs.Rules.Rounds.{is_few, is_poor, round_line, round_now, round_after, round_phase}
use Rattle.npos_runtime.specs.Rules.Deciding.{decision_of, decision_phase}
use Rattle.npos_runtime.specs.Rules.Outcome.{Election, Outcome, quiet}
use Rattle.npos_runtime.specs.Step.{before_calls, era_phase, step, after_blocks}
use Rattle.npos_runtime.specs.Live.{IsLive, IsBetweenBlocks, CanBeOpen, IsInTime}
use Rattle.npos_runtime.specs.Histories.Seatings.{snapshot_behind, IsSeatedOnce, SeatingsLaw}
use Rattle.npos_runtime.specs.History.{CanTake}
use Rattle.npos_runtime.proofs.Rules.LiveLemmas.{live_blocks, due_step, fixed_calls, params_blocks}
use Rattle.npos_runtime.proofs.Histories.LawLemmas.{undecided, seats_step, decides, told_before, told_first, told_later}
use Rattle.npos_runtime.proofs.Histories.TimeLemmas.{between_blocks}
use Rattle.npos_runtime.proofs.Histories.DepositsLemmas.{after_append, due_blocks}

-- where no decision is due, a block leaves the round that stands once one may have begun
undecided_step : (chain : Chain) (block : Block) → is_decision chain.params chain.due ≡ false
    → (step chain block).state.round ≡ (undecided chain).round
undecided_step chain block none =
    (fixed_calls 0 block.calls (before_calls chain)).round
    ∙ ap (λ b. (if b then decision_of (undecided chain).round (undecided chain) else quiet (undecided chain)).state.round) none

module _ (params : Params) (sound : params_fault params ≡ None) where
  abbrev place : ℕ → ℕ
  place due = place_of params due

  on : (due : ℕ) → 1 ≤ due → place due < params.offset + params.signed → place (due + 1) ≡ place due + 1
  on due from below =
      let within = (phases_sound params sound).1 in
      by (next_place params due (omega (arith, within)) from) where
        by : ((place_of params (due + 1) ≡ place_of params due + 1) × (era_of (Some params) (due + 1) ≡ era_of (Some params) due))
            ⊎ ((place_of params due + 1 ≡ params.era_blocks) × (era_of (Some params) (due + 1) ≡ era_of (Some params) due + 1)) → place
            (due + 1) ≡ place due + 1
        by (inl (next, same)) = next
        by (inr (end, past)) = absurd (let within = (phases_sound params sound).1 in omega (arith, end, below, within))

  not_yet : (due : ℕ) → place due < params.offset + params.signed → is_decision (Some params) due ≡ false
  not_yet due below = grind (arith, nat_tests)

  not_again : (due : ℕ) → params.offset < place due → begun_round (Some params) due ≡ None
  not_again due past =
      let other : (place due == params.offset) ≡ false = grind (arith, nat_tests) in
      ap (λ b. if b then Some (era_of (Some params) due + 1) else None) other

  -- the round stands in its signed blocks
  stands : (chain : Chain) (blocks : List Block) → chain.params ≡ Some params → 1 ≤ chain.due → params.offset < place chain.due
      → place chain.due + length blocks ≤ params.offset + params.signed
      → ((after_blocks chain blocks).round ≡ chain.round) × (place (after_blocks chain blocks).due ≡ place chain.due + length blocks)
  stands chain [] are from past fit = (refl, omega arith)
  stands chain (block ∷ more) are from past fit =
      let next : Chain = (step chain block).state in
      let below : place chain.due < params.offset + params.signed = omega (arith, fit) in
      let due : next.due ≡ chain.due + 1 = due_step chain block in
      let further : place next.due ≡ place chain.due + 1 = ap place due ∙ on chain.due from below in
      let same : next.round ≡ chain.round =
      undecided_step chain block (ap (λ (ps : Option Params). is_decision ps chain.due) are ∙ not_yet chain.due below)
      ∙ ap (round_after (era_phase chain).state) (ap (λ (ps : Option Params). begun_round ps chain.due) are ∙ not_again chain.due past) in
      let rest =
      stands next more (params_blocks chain (block ∷ []) ∙ are) (omega (arith, due)) (omega (arith, past, further))
      (omega (arith, further, fit)) in
      (rest.0 ∙ same, omega (arith, rest.1, further))

  module _ (chain : Chain) (first : Block) (between : List Block) (round : ℕ) (are : chain.params ≡ Some params) (from : 1 ≤ chain.due)
      (begins : begun_round chain.params chain.due ≡ Some round) (signed : 1 + length between ≡ params.signed) where
    at_offset : place chain.due ≡ params.offset
    at_offset = at (place chain.due == params.offset) refl (ap (λ (ps : Option Params). begun_round ps chain.due) (sym are) ∙ begins) where
      at : (b : Bool) → (place chain.due == params.offset) ≡ b
          → (if b then Some (era_of (Some params) chain.due + 1) else None) ≡ Some round → place chain.due ≡ params.offset
      at true e is = grind (arith, nat_tests)
      at false e is = cc

    begun : (step chain first).state.round ≡ Some (round_now (era_phase chain).state round)
    begun =
        undecided_step chain first
        (ap (λ (ps : Option Params). is_decision ps chain.due) are ∙ not_yet chain.due (omega (arith, at_offset, signed)))
        ∙ ap (round_after (era_phase chain).state) begins

    pub kept : ((after_blocks chain (first ∷ between)).round ≡ Some (round_now (era_phase chain).state round))
        × (place (after_blocks chain (first ∷ between)).due ≡ params.offset + params.signed)
    kept =
        let due : (step chain first).state.due ≡ chain.due + 1 = due_step chain first in
        let further : place (step chain first).state.due ≡ params.offset + 1 =
        ap place due ∙ (on chain.due from (omega (arith, at_offset, signed)) ∙ omega (arith, at_offset)) in
        let rest =
        stands (step chain first).state between (params_blocks chain (first ∷ []) ∙ are) (omega (arith, due)) (omega (arith, further))
        (omega (arith, further, signed)) in
        (rest.0 ∙ begun, omega (arith, rest.1, further, signed))

-- the line of the snapshot stands among those of its block
line_told : (chain : Chain) (block : Block) (round : ℕ) → begun_round chain.params chain.due ≡ Some round
    → Contains (step chain block).lines (round_line round (snapshot_of (era_phase chain).state))
line_told chain block round begins =
    let line : Line = round_line round (snapshot_of (era_phase chain).state) in
    told_before chain block line
    (told_later era_phase (round_phase ∷ decision_phase ∷ []) chain line
    (told_first round_phase (decision_phase ∷ []) (era_phase chain).state line here)) where
      here : Contains (round_phase (era_phase chain).state).lines (round_line round (snapshot_of (era_phase chain).state))
      here =
          subst (λ (o : Option ℕ). Contains
          (option_to_list (option_map (λ number. round_line number (snapshot_of (era_phase chain).state)) o))
          (round_line round (snapshot_of (era_phase chain).state)))
          (sym begins) (0, omega arith, refl)

-- what the block of a decision seats is what the round that stands comes to
seated_by_round : (chain : Chain) (last : Block) (round : Option Round) → IsLive chain → is_decision chain.params chain.due ≡ true
    → chain.round ≡ round
    → (step chain last).seated ≡ (decision_of round (undecided chain)).seated
seated_by_round chain last round live is stood = seats_step chain last ∙ ap (λ (o : Outcome). o.seated) (decides chain round live is stood)

ends : (chain : Chain) (blocks : List Block) → CanTake chain blocks → (before between more : List Block) (first last : Block) (round : ℕ)
    → blocks ≡ before ++ first ∷ (between ++ last ∷ more) → begun_round chain.params (after_blocks chain before).due ≡ Some round
    → 1 + length between ≡ signed_of chain.params → IsSeatedOnce chain before first between last round
ends chain blocks can before between more first last round parts begins signed = at chain.params refl where
  start : Chain
  start = after_blocks chain before

  final : Chain
  final = after_blocks chain (before ++ first ∷ between)

  snapshot : Snapshot
  snapshot = snapshot_behind chain before

  final_is : after_blocks start (first ∷ between) ≡ after_blocks chain (before ++ first ∷ between)
  final_is = sym (after_append chain before (first ∷ between))

  start_params : (after_blocks chain before).params ≡ chain.params
  start_params = params_blocks chain before

  opens : begun_round (after_blocks chain before).params (after_blocks chain before).due ≡ Some round
  opens = ap (λ (ps : Option Params). begun_round ps (after_blocks chain before).due) start_params ∙ begins

  lengths : length blocks ≡ length before + (1 + (length between + (1 + length more)))
  lengths = omega (arith, ap length parts, length-append before (first ∷ (between ++ last ∷ more)), length-append between (last ∷ more))

  live : IsLive (after_blocks chain (before ++ first ∷ between))
  live =
      live_blocks chain (before ++ first ∷ between) can.between.live
      (omega (arith, lengths, length-append before (first ∷ between), can.fit))

  at : (ps : Option Params) → chain.params ≡ ps → IsSeatedOnce chain before first between last round
  at None none =
      absurd (let e : None ≡ Some round = ap (λ (ps : Option Params). begun_round ps (after_blocks chain before).due) (sym none)
      ∙ begins in cc)
  at (Some params) are =
      let sound = subst AreSound are can.between.live.params in
      let from : 1 ≤ (after_blocks chain before).due = omega (arith, due_blocks chain before, can.between.live.due.at_least) in
      let kept_all = kept params sound start first between round (start_params ∙ are) from opens (signed ∙ ap signed_of are) in
      let last_place : place_of params (after_blocks chain (before ++ first ∷ between)).due ≡ params.offset + params.signed =
      ap (λ (c : Chain). place_of params c.due) (sym final_is) ∙ kept_all.1 in
      let decided : is_decision (Some params) (after_blocks chain (before ++ first ∷ between)).due ≡ true = grind (arith, nat_tests) in
      let is : is_decision chain.params (after_blocks chain (before ++ first ∷ between)).due ≡ true =
      ap (λ (ps : Option Params). is_decision ps (after_blocks chain (before ++ first ∷ between)).due) are ∙ decided in
      let is_there : is_decision (after_blocks chain (before ++ first ∷ between)).params
      (after_blocks chain (before ++ first ∷ between)).due ≡ true =
      ap (λ (ps : Option Params). is_decision ps (after_blocks chain (before ++ first ∷ between)).due)
      (params_blocks chain (before ++ first ∷ between)) ∙ is in
      let stood : (after_blocks chain (before ++ first ∷ between)).round ≡ Some
      (round_now (era_phase (after_blocks chain before)).state round) =
      ap (λ (c : Chain). c.round) (sym final_is) ∙ kept_all.0 in
      let seats = seated_by_round final last (Some (round_now (era_phase start).state round)) live is_there stood in
      record {
        told = line_told start first round opens;
        decides = is;
        seated =
            λ enough rich. seats ∙ ap
            (λ b. (decision_of (Some
            (if b then rounds.Void round else rounds.Open round snapshot (commissions_of (era_phase start).state.roles)))
            (undecided final)).seated)
            (neither enough rich);
        void =
            λ one. seats ∙ ap (λ b.
            (decision_of (Some (if b then rounds.Void round else rounds.Open round snapshot (commissions_of (era_phase start).state.roles)))
            (undecided final)).seated) one;
      } where
        neither : is_few (snapshot_behind chain before) ≡ false → is_poor (snapshot_behind chain before) ≡ false
            → (is_few (snapshot_behind chain before) || is_poor (snapshot_behind chain before)) ≡ false
        neither enough rich = (λ i. enough i || rich i)

-- ## No other block seats anybody

-- what the block of a decision seats
abbrev SeatsFor : Chain → Election → Type 0
SeatsFor chain election = (is_decision chain.params chain.due ≡ true) × (election.round ≡ era_of chain.params chain.due + 1)

seats_for : (round : Option Round) (chain other : Chain) → IsInTime round chain.params chain.due chain.queue.items
    → is_decision chain.params chain.due ≡ true → All (SeatsFor chain) (decision_of round other).seated
seats_for None chain other time is = All-nil (SeatsFor chain)
seats_for (Some (rounds.Void number)) chain other time is = All-nil (SeatsFor chain)
seats_for (Some (rounds.Open number snapshot commissions)) chain other time is =
    All-cons (SeatsFor chain) _ [] (is, at chain.params time) (All-nil (SeatsFor chain)) where
      at : (params : Option Params) → CanBeOpen params chain.due number → number ≡ era_of params chain.due + 1
      at None time = absurd time
      at (Some params) time = time.number_is

own_round : (chain : Chain) (block : Block) → IsBetweenBlocks chain → All (SeatsFor chain) (step chain block).seated
own_round chain block rests = at (is_decision chain.params chain.due) refl where
  at : (b : Bool) → is_decision chain.params chain.due ≡ b → All (SeatsFor chain) (step chain block).seated
  at true is =
      subst (All (SeatsFor chain)) (sym (seated_by_round chain block chain.round rests.live is refl))
      (seats_for chain.round chain (undecided chain) rests.timely is)
  at false is =
      let nobody : (step chain block).seated ≡ [] =
      seats_step chain block
      ∙ ap (λ b. (if b then decision_of (undecided chain).round (undecided chain) else quiet (undecided chain)).seated) is in
      subst (All (SeatsFor chain)) (sym nobody) (All-nil (SeatsFor chain))

pub seatings_law : SeatingsLaw
seatings_law chain blocks can = record {
  decided = ends chain blocks can;
  elsewhere = λ before more block parts.
      let lengths = ap length parts ∙ length-append before (block ∷ more) in
      let rests = between_blocks chain before can.between (omega (arith, lengths, can.fit)) in
      subst (λ (params : Option Params). All (λ election. (is_decision params (after_blocks chain before).due ≡ true)
      × (election.round ≡ era_of params (after_blocks chain before).due + 1)) (step (after_blocks chain before) block).seated)
      (params_blocks chain before) (own_round (after_blocks chain before) block rests);
}
