-- Who goes on from a checkpoint without a fault goes on from a sound chain, so what the runtime says of blocks
-- that follow any such chain holds.
use Rattle.std.proofs.Common.{◌≡◌, ℕ, List, [], ◌∷◌, ◌++◌, All, refl, sym, ap, subst, arith}
use Rattle.block_wire.specs.declared.block.Block.{Block}
use Rattle.npos_runtime.specs.declared.chain.Chain.{Chain}
use Rattle.npos_runtime.specs.Histories.Deposits.{DepositsGoOnLaw}
use Rattle.npos_runtime.specs.Histories.Deferred.{QueuedLaw, AppliedLaw, TakenInAllLaw}
use Rattle.npos_runtime.specs.Histories.Eras.{chain_at, PaidOnLaw, ToldOnLaw, SlashLaw, OnceOnLaw, DuesOnLaw}
use Rattle.npos_runtime.specs.History.{CanTake}
use Rattle.npos_runtime.specs.Histories.Laws.{IsSeatedSoundly, SeatedSoundLaw, NoneCrowdedOutLaw}
use Rattle.npos_runtime.specs.Rules.Outcome.{Election}
use Rattle.npos_runtime.specs.Kept.Restoring.{state_fault}
use Rattle.npos_runtime.specs.Kept.Savable.{IsSavable, RestoredStateLaw}
use Rattle.npos_runtime.specs.Histories.Seatings.{SeatingsLaw}
use Rattle.npos_runtime.specs.Step.{step, seated_by}
use Rattle.run_edges.specs.Replay.{Spot, behind, Passes, Reaches, Starts, all_seated, Outcome, BadGenesis, FaultyGenesis, Replayed}
use Rattle.npos_cli.specs.Chain.{npos_machine}
use Rattle.npos_cli.specs.Checkpoints.{resume_machine}
use Rattle.npos_cli.specs.Resumed.{ResumedBooksBalance, ResumedSeatsAreSound, ResumedRoundsAreSeated, ResumedNoneIsCrowdedOut, ResumedDepositsAreKept, ResumedErasAreKept}
use Rattle.npos_cli.proofs.BookLaws.{live_passes, due_passes}
use Rattle.npos_cli.proofs.CheckpointLaws.{resumed_by}

-- a replay that goes on takes blocks as one from a genesis does
as_replayed : (blocks : List Block) (p q : Spot Chain) (text : List ℕ) → Passes resume_machine blocks p q text → Passes npos_machine blocks p q text
as_replayed [] p q text passes = passes
as_replayed (block ∷ blocks) p q text passes = (
  passes.0,
  record { in_range = passes.1.in_range; numbered = passes.1.numbered; whole = passes.1.whole },
  passes.2,
  as_replayed blocks (behind resume_machine p block passes.0) q passes.2 passes.3,
  passes.4,
)

seated_are : (state : Chain) (blocks : List Block) → all_seated resume_machine state blocks ≡ seated_by state blocks
seated_are state [] = refl
seated_are state (block ∷ blocks) = ap (λ later. (step state block).seated ++ later) (seated_are (step state block).state blocks)

module _ (restored : RestoredStateLaw) (bytes : List ℕ) (start : Spot Chain) (starts : Starts resume_machine bytes start) where
  savable_start : IsSavable start.state
  savable_start =
      let by = resumed_by starts.genesis start.state (state_fault starts.genesis) refl starts.state_is in
      subst IsSavable by.1 (restored starts.genesis starts.in_range by.0).0

  can_take : (place : Spot Chain) (text : List ℕ) (reaches : Reaches resume_machine start place text) → CanTake start.state reaches.blocks
  can_take place text reaches =
      let between = savable_start.ready.between in
      let passes = as_replayed reaches.blocks start place text reaches.passes in
      let live = live_passes reaches.blocks start place text passes between.live in
      record { between = between; fit = omega (arith, live.due.at_most, due_passes reaches.blocks start place text passes) }

pub books_go_on : RestoredStateLaw → (bytes : List ℕ) → ResumedBooksBalance bytes
books_go_on restored bytes start place text starts reaches =
    let live = (savable_start restored bytes start starts).ready.between.live in
    (live_passes reaches.blocks start place text (as_replayed reaches.blocks start place text reaches.passes) live).books.balanced

pub seats_go_on : RestoredStateLaw → SeatedSoundLaw → (bytes : List ℕ) → ResumedSeatsAreSound bytes
seats_go_on restored law bytes out (BadGenesis at why bad o) =
    subst (λ (out : Outcome Chain Election). All IsSeatedSoundly out.seated) (sym o) (λ k d below. absurd (omega (arith, below)))
seats_go_on restored law bytes out (FaultyGenesis state rest line in_range whole faulty o) =
    subst (λ (out : Outcome Chain Election). All IsSeatedSoundly out.seated) (sym o) (λ k d below. absurd (omega (arith, below)))
seats_go_on restored law bytes out (Replayed p q text line faulty starts reaches stops o) =
    subst (λ (out : Outcome Chain Election). All IsSeatedSoundly out.seated) (sym o)
    (subst (All IsSeatedSoundly) (sym (seated_are p.state reaches.blocks))
    (law p.state reaches.blocks (can_take restored bytes p starts q text reaches)))

pub rounds_go_on : RestoredStateLaw → SeatingsLaw → (bytes : List ℕ) → ResumedRoundsAreSeated bytes
rounds_go_on restored law bytes start place text starts reaches =
    law start.state reaches.blocks (can_take restored bytes start starts place text reaches)

pub none_crowded_on : RestoredStateLaw → NoneCrowdedOutLaw → (bytes : List ℕ) → ResumedNoneIsCrowdedOut bytes
none_crowded_on restored law bytes start place text starts reaches decision =
    law start.state reaches.blocks decision (can_take restored bytes start starts place text reaches)

pub deposits_go_on : RestoredStateLaw → DepositsGoOnLaw → (bytes : List ℕ) → ResumedDepositsAreKept bytes
deposits_go_on restored law bytes start place text starts reaches =
    law start.state reaches.blocks (can_take restored bytes start starts place text reaches) (savable_start restored bytes start starts).sound.queue

pub eras_go_on : RestoredStateLaw → OnceOnLaw → PaidOnLaw → ToldOnLaw → DuesOnLaw → SlashLaw → QueuedLaw → AppliedLaw → TakenInAllLaw
    → (bytes : List ℕ) → ResumedErasAreKept bytes
eras_go_on restored once paid told dues slash queued applied in_all bytes start place text starts reaches =
    let can = can_take restored bytes start starts place text reaches in
    let waits = (savable_start restored bytes start starts).sound.waiting in
    record {
      once = once start.state reaches.blocks can waits;
      rewards = λ era. paid start.state reaches.blocks era can;
      payouts = λ calls. told start.state reaches.blocks calls can;
      dues = λ era who. dues start.state reaches.blocks era who can waits;
      slashes = λ calls. slash start.state reaches.blocks calls can;
      queued = λ calls. (queued (chain_at start.state reaches.blocks calls)).0;
      cancelled = λ calls. (queued (chain_at start.state reaches.blocks calls)).1;
      applied = applied start.state reaches.blocks can;
      taken = λ era who numbers below. in_all start.state reaches.blocks era who numbers can below;
    }
