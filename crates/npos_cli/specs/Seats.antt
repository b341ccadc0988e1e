-- What the replay of any bytes seats.
use Rattle.std.specs.Prelude.{ℕ, List, All}
use Rattle.npos_runtime.specs.declared.chain.Chain.{Chain}
use Rattle.npos_runtime.specs.Rules.Outcome.{Election}
use Rattle.npos_runtime.specs.Histories.Laws.{IsSeatedSoundly}
use Rattle.npos_runtime.specs.Histories.Seatings.{SeatsHold}
use Rattle.run_edges.specs.Replay.{Outcome, IsReplay, Spot, Starts, Reaches}
use Rattle.npos_cli.specs.Chain.{npos_machine}

-- Every committee that the replay of these bytes seats has a member for each seat, follows
-- nominations, spends no voter beyond its stake, denies nobody, and so is proportional.
abbrev pub SeatsAreSound : List ℕ → Type 0
SeatsAreSound bytes =
    (out : Outcome Chain Election) → IsReplay npos_machine bytes out → All IsSeatedSoundly out.seated

-- Wherever a replay of these bytes has come, each round whose snapshot was taken was decided as many
-- blocks later as submissions are taken: one committee was seated from that very snapshot, or its
-- line told that there were too few targets or too little stake, and nobody was seated.
abbrev pub RoundsAreSeated : List ℕ → Type 0
RoundsAreSeated bytes = (start place : Spot Chain) (text : List ℕ) → Starts npos_machine bytes start
    → (reaches : Reaches npos_machine start place text) → SeatsHold start.state reaches.blocks
