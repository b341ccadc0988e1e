-- What the eras of a replay pay, and what they take.
use Rattle.std.specs.Prelude.{ℕ, List}
use Rattle.npos_runtime.specs.declared.chain.Chain.{Chain}
use Rattle.npos_runtime.specs.Histories.Eras.{ErasHold}
use Rattle.npos_runtime.specs.Histories.Deferred.{SlashesWait}
use Rattle.run_edges.specs.Replay.{Spot, Starts, Reaches}
use Rattle.npos_cli.specs.Chain.{npos_machine}

-- Wherever a replay of these bytes has come, its blocks pay and take within the bounds of the eras, and
-- slashes that wait take what is due by them, or nothing where they are cancelled.
abbrev pub ErasAreKept : List ℕ → Type 0
ErasAreKept bytes =
    (start place : Spot Chain) (text : List ℕ) → (starts : Starts npos_machine bytes start)
    → (reaches : Reaches npos_machine start place text)
    → ErasHold starts.genesis reaches.blocks × SlashesWait starts.genesis reaches.blocks
