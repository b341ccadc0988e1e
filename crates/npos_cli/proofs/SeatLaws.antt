-- Every committee that a replay seats is sound, since every block of a live chain seats none but sound ones.
use Rattle.std.proofs.Common.{ℕ, List, [], ◌∷◌, All, Option, Some, None, IfSome, sym, subst, arith}
use Rattle.std.proofs.lemmas.List.Elements.{All-append}
use Rattle.block_wire.specs.declared.block.Block.{Block}
use Rattle.npos_runtime.specs.declared.chain.Chain.{Chain}
use Rattle.npos_runtime.specs.Rules.Outcome.{Election}
use Rattle.npos_runtime.specs.Step.{step}
use Rattle.npos_runtime.specs.Live.{IsLive}
use Rattle.npos_runtime.specs.Histories.Laws.{IsSeatedSoundly, SoundStepLaw}
use Rattle.npos_runtime.specs.Histories.Seatings.{SeatingsLaw}
use Rattle.run_edges.specs.Replay.{Spot, Passes, behind, all_seated, Outcome, BadGenesis, FaultyGenesis, Replayed}
use Rattle.npos_cli.specs.Chain.{npos_machine}
use Rattle.npos_cli.specs.Seats.{SeatsAreSound, RoundsAreSeated}
use Rattle.npos_cli.proofs.BookLaws.{live_turn, live_start, can_take}

none_sound : All IsSeatedSoundly []
none_sound k d lt = absurd (omega (arith, lt))

module _ (law : SoundStepLaw) where
  passes_sound : (blocks : List Block) (p q : Spot Chain) (text : List ℕ) → Passes npos_machine blocks p q text → IsLive p.state
      → All IsSeatedSoundly (all_seated npos_machine p.state blocks)
  passes_sound [] p q text passes live = none_sound
  passes_sound (block ∷ blocks) p q text passes live =
      All-append IsSeatedSoundly (step p.state block).seated (all_seated npos_machine (step p.state block).state blocks) (law p.state block live)
      (passes_sound blocks (behind npos_machine p block passes.0) q passes.2 passes.3 (live_turn p block passes.0 passes.1 live))

  pub seats_sound : (bytes : List ℕ) → SeatsAreSound bytes
  seats_sound bytes out (BadGenesis at why bad o) = subst (λ (out : Outcome Chain Election). All IsSeatedSoundly out.seated) (sym o) none_sound
  seats_sound bytes out (FaultyGenesis genesis rest fault in_range whole faulty o) =
      subst (λ (out : Outcome Chain Election). All IsSeatedSoundly out.seated) (sym o) none_sound
  seats_sound bytes out (Replayed p q text line faulty start reaches stops o) =
      subst (λ (out : Outcome Chain Election). All IsSeatedSoundly out.seated) (sym o)
      (passes_sound reaches.blocks p q text reaches.passes (live_start bytes p start))

pub rounds_seated : SeatingsLaw → (bytes : List ℕ) → RoundsAreSeated bytes
rounds_seated law bytes start place text starts reaches = law start.state reaches.blocks (can_take bytes start starts place text reaches)
