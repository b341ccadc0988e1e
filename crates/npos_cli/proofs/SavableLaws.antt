-- Blocks leave a chain that can be saved as one that can, and a replay that tells a checkpoint writes nothing of them.
use Rattle.std.proofs.Common.{◌≡◌, ℕ, Bool, List, [], ◌∷◌, ◌++◌, sym, ◌∙◌, ap, subst}
use Rattle.block_wire.specs.declared.block.Block.{Block}
use Rattle.npos_runtime.specs.declared.chain.Chain.{Chain}
use Rattle.npos_runtime.specs.Kept.Savable.{IsSavable, SavableStepLaw}
use Rattle.npos_runtime.specs.Step.{step}
use Rattle.npos_cli.specs.declared.output.Output.{Output}
use Rattle.npos_cli.specs.declared.output.Output.TheVariants.{Checkpoint}
use Rattle.run_edges.specs.declared.turn.Turn.TheVariants.{Taken}
use Rattle.npos_cli.specs.Outputs.{block_text, machine_of}
use Rattle.run_edges.specs.Replay.{Spot, behind, Passes, Reaches}
use Rattle.run_edges.specs.Turning.{TakesTurn}

module _ (output : Output) where
  savable_passes : SavableStepLaw → (blocks : List Block) (p q : Spot Chain) (text : List ℕ) → Passes (machine_of output) blocks p q text → IsSavable p.state → IsSavable q.state
  savable_passes law [] p q text passes savable = subst (λ (s : Spot Chain). IsSavable s.state) (sym passes.0) savable
  savable_passes law (block ∷ blocks) p q text passes savable =
      savable_passes law blocks (behind (machine_of output) p block passes.0) q passes.2 passes.3 (law p.state block savable passes.1.in_range passes.1.numbered)

  pub savable_reaches : SavableStepLaw → (p q : Spot Chain) (text : List ℕ) → Reaches (machine_of output) p q text → IsSavable p.state → IsSavable q.state
  savable_reaches law p q text reaches savable = savable_passes law reaches.blocks p q text reaches.passes savable

  pub savable_turn : SavableStepLaw → (ended : Bool) (p q : Spot Chain) (old new : List ℕ) → TakesTurn (machine_of output) ended p q old new Taken → IsSavable p.state → IsSavable q.state
  savable_turn law ended p q old new turns savable =
      let is = turns.2 in
      subst (λ (s : Spot Chain). IsSavable s.state) (sym is.2) (law p.state is.0 savable is.1.in_range is.1.numbered)

  pub silent_turn : (ended : Bool) (p q : Spot Chain) (old new : List ℕ) → old ≡ [] → TakesTurn (machine_of output) ended p q old new Taken → output ≡ Checkpoint → new ≡ []
  silent_turn ended p q old new empty turns silent =
      let is = turns.2 in
      let none : turns.0 ≡ [] = is.3 ∙ ap (λ (o : Output). block_text o (step p.state is.0).lines) silent in
      turns.1 ∙ ((λ i. empty i ++ none i))
