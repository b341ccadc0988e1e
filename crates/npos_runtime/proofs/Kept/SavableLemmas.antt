-- A chain can be saved from its genesis on, and the state that it keeps has no fault.
use Rattle.std.proofs.Common.{◌≡◌, ℕ, ◌^◌, nat_le, IfSome, [], Option, Some, None, option_map, refl, ap, sym, subst, ◌∙◌, ◌&&◌, if◌then◌else◌, arith}
use Rattle.std.specs.Option.{option_or}
use Rattle.std.proofs.lemmas.Bool.{le-leb, lt-ltb}
use Rattle.block_wire.specs.declared.genesis.Params.{Params}
use Rattle.chain_params.specs.Faults.{terms_fault, defer_fault, AreSound, CanWait}
use Rattle.chain_params.specs.declared.fault.GenesisFault.{GenesisFault}
use Rattle.chain_params.specs.declared.fault.GenesisFault.TheVariants.{BadDefer}
use Rattle.election_check.specs.declared.verdict.Verdict.TheVariants.{Yes}
use Rattle.state_rules.specs.declared.state.WaitingRow.{WaitingRow}
use Rattle.state_rules.specs.Causes.{first_cause, slash_cause}
use Rattle.npos_runtime.specs.declared.chain.Chain.{Chain}
use Rattle.npos_runtime.specs.declared.state_fault.StateFault.{StateFault}
use Rattle.npos_runtime.specs.declared.state_fault.StateFault.TheVariants.{Cause}
use Rattle.npos_runtime.specs.Rules.Committee.{Committee}
use Rattle.npos_runtime.specs.Genesis.{genesis_chain}
use Rattle.npos_runtime.specs.Kept.Parts.{as_kept, kept_committee}
use Rattle.npos_runtime.specs.Kept.State.{kept, IsTold}
use Rattle.state_rules.specs.Terms.{params_of, defer_of}
use Rattle.npos_runtime.specs.Kept.Chain.{committee_in, chain_of}
use Rattle.npos_runtime.specs.Live.{IsReady, IsBetweenBlocks, CanBeDue}
use Rattle.npos_runtime.specs.Kept.Restoring.{due_fault, params_fault as stated_params, stated, unless_yes, verdict_on, election_fault}
use Rattle.npos_runtime.specs.Kept.Savable.{SavableStartLaw, SavableStepLaw, SavedStateLaw}
use Rattle.npos_runtime.specs.Kept.Sound.{IsSoundChain, IsSoundWaiting}
use Rattle.npos_runtime.specs.Kept.Soundness.{CanStep, after_block, StartsSound, KeepsSoundLaw}
use Rattle.npos_runtime.proofs.Rules.BeginLemmas.{ready_begun}
use Rattle.npos_runtime.proofs.Histories.TimeLemmas.{between_step}
use Rattle.npos_runtime.proofs.Kept.LeftOutLemmas.{faithful, faithful_step, told_between, told_after}
use Rattle.npos_runtime.proofs.Kept.StateLemmas.{kept_back}
use Rattle.npos_runtime.proofs.Kept.PassLemmas.{kept_weights, passes_kept}
use Rattle.npos_runtime.proofs.Kept.Causes.NoCauseLemmas.{no_cause}
use Rattle.npos_runtime.proofs.Kept.Sound.ChainLemmas.{ready_sound}
use Rattle.npos_runtime.proofs.Histories.WaitingLemmas.{plain_yes_passes}
use Rattle.npos_runtime.proofs.Kept.Fits.BlockLemmas.{fits_block, fits_start}
use Rattle.npos_runtime.proofs.Kept.Fits.StateLemmas.{state_in_range, chain_fits}

-- ## From block to block

pub savable_start : StartsSound → SavableStartLaw
savable_start starts genesis in_range faultless =
    let chain : Chain = genesis_chain genesis in
    let ready : IsReady chain = ready_begun genesis faultless in
    let told : IsTold chain = told_after genesis [] (record { faultless = faultless; fit = omega arith }) in
    let sound : IsSoundChain chain = starts genesis in_range faultless in
    record { ready = ready; told = told; sound = sound; fits = state_in_range chain ready told sound (fits_start genesis in_range) }

pub savable_step : KeepsSoundLaw → SavableStepLaw
savable_step keeps chain block savable in_range due =
    let can : CanStep chain block =
    record { ready = savable.ready; told = savable.told; sound = savable.sound; in_range = in_range; due = due } in
    let new : Chain = after_block chain block in
    let sound : IsSoundChain new = keeps chain block can in
    let between : IsBetweenBlocks new = between_step chain block savable.ready.between (omega (arith, in_range.0, due)) in
    let ready : IsReady new = ready_sound new between sound in
    let told : IsTold new = told_between new between (faithful_step chain block (faithful chain savable.told)) in
    record {
      ready = ready;
      told = told;
      sound = sound;
      fits = state_in_range new ready told sound
          (fits_block chain block can (chain_fits chain savable.told savable.fits));
    }

-- ## No fault

neither : (a b : Option StateFault) → a ≡ None → b ≡ None → option_or a b ≡ None
neither None b e none = none
neither (Some fault) b e none = cc

due_right : (due : ℕ) → CanBeDue due → due_fault due ≡ None
due_right due can =
    ap (λ b. if b && nat_le due (2 ^ 32) then None else Some (Cause 1 due)) (le-leb 1 due can.at_least)
    ∙ ap (λ b. if b then None else Some (Cause 1 due)) (le-leb due (2 ^ 32) can.at_most)

no_terms_fault : (params : Option Params) (defer : ℕ) → AreSound params → CanWait params defer
    → terms_fault params defer ≡ None
no_terms_fault None defer sound can = refl
no_terms_fault (Some params) defer sound can =
    ap (λ (fault : Option GenesisFault). option_or fault (defer_fault params defer)) sound
    ∙ ap (λ b. if b then None else Some (BadDefer defer)) (lt-ltb defer params.bonding_eras can)

-- who waits in the state was elected, where the chain says so
elected_right : (params : Option Params) (row : Option WaitingRow) (waiting : Option Committee)
    → option_map (committee_in params) row ≡ waiting
    → IfSome waiting (λ committee. verdict_on committee ≡ Yes) → election_fault params row ≡ None
elected_right params None waiting is right = refl
elected_right params (Some row) waiting is right =
    ap unless_yes (subst (λ (w : Option Committee). IfSome w (λ committee. verdict_on committee ≡ Yes)) (sym is) right)

kept_passes : (chain : Chain) (waiting : Option Committee) → IsSoundWaiting chain waiting
    → IfSome (option_map kept_committee waiting) (λ committee. verdict_on committee ≡ Yes)
kept_passes chain None sound = tt
kept_passes chain (Some committee) sound =
    (plain_yes_passes committee.snapshot (kept_weights committee.weights)).1
    (passes_kept committee.snapshot committee.weights sound.passes)

pub no_state_fault : SavedStateLaw
no_state_fault chain savable =
    let live = savable.ready.between.live in
    let state = kept chain in
    let back : chain_of state ≡ as_kept chain = kept_back chain savable.told in
    let causes = no_cause chain savable.ready savable.told savable.sound in
    let terms : terms_fault (params_of state) (defer_of state) ≡ None =
    ap (λ (c : Chain). terms_fault c.params c.defer) back
    ∙ no_terms_fault chain.params chain.defer live.params live.defer in
    let elected : election_fault (params_of state) state.waiting ≡ None =
    elected_right (params_of state) state.waiting (option_map kept_committee chain.waiting)
    (ap (λ (c : Chain). c.waiting) back)
    (kept_passes chain chain.waiting savable.sound.waiting) in
    neither (due_fault state.due) _ (due_right chain.due live.due)
    (neither (option_map stated_params (terms_fault (params_of state) (defer_of state))) _
    (ap (option_map stated_params) terms)
    (neither (option_map stated (first_cause state)) _ (ap (option_map stated) causes.0)
    (neither (election_fault (params_of state) state.waiting) (option_map stated (slash_cause state)) elected
    (ap (option_map stated) causes.1))))
