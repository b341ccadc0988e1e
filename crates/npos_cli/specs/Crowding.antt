-- Nothing valid is crowded out for free of a round that a replay decides.
use Rattle.std.specs.Prelude.{ℕ, List}
use Rattle.block_wire.specs.declared.block.Block.{Block}
use Rattle.npos_runtime.specs.declared.chain.Chain.{Chain}
use Rattle.npos_runtime.specs.Histories.Offers.{IsNoneCrowdedOut}
use Rattle.run_edges.specs.Replay.{Spot, IsTurn, Starts, Reaches}
use Rattle.npos_cli.specs.Chain.{npos_machine}

-- Wherever a replay of these bytes takes a block that decides a round, each valid submission that
-- the blocks before it offered to the round lost to a claim that is no less, or to a full queue of
-- deposits.
abbrev pub NoneIsCrowdedOut : List ℕ → Type 0
NoneIsCrowdedOut bytes =
    (start place : Spot Chain) (text rest : List ℕ) (block : Block)
    → Starts npos_machine bytes start → (reaches : Reaches npos_machine start place text)
    → IsTurn npos_machine place block rest
    → IsNoneCrowdedOut start.state reaches.blocks block
