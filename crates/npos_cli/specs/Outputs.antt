-- What a replay tells: receipts, or the state that it comes to.
use Rattle.std.specs.Prelude.{ℕ, List, [], flat_map}
use Rattle.block_wire.specs.declared.block.Block.{Block}
use Rattle.block_wire.specs.declared.genesis.Genesis.{Genesis}
use Rattle.block_receipts.specs.declared.line.Line.{Line}
use Rattle.stake_ledger.specs.Ledger.{totals_of}
use Rattle.npos_runtime.specs.declared.chain.Chain.{Chain}
use Rattle.npos_runtime.specs.Rules.Outcome.{Election}
use Rattle.npos_runtime.specs.Step.{step}
use Rattle.npos_cli.specs.declared.output.Output.{Output}
use Rattle.npos_cli.specs.declared.output.Output.TheVariants.{Receipts, Checkpoint}
use Rattle.run_edges.specs.Replay.{Machine}
use Rattle.npos_cli.specs.Chain.{npos_machine, line_text, end_line}
use Rattle.npos_cli.specs.Checkpoints.{checkpoint_of}

-- what is told of the lines of a block
abbrev pub block_text : Output → List Line → List ℕ
block_text Receipts lines = flat_map line_text lines
block_text Checkpoint lines = []

-- what is told of the chain where the input ends
abbrev pub end_text : Output → Chain → List ℕ
end_text Receipts chain = end_line (totals_of chain.book)
end_text Checkpoint chain = checkpoint_of chain

-- the replay that tells this
abbrev pub machine_of : Output → Machine Genesis Block Chain Election
machine_of output = record npos_machine {
  lines = λ chain block. block_text output (step chain block).lines;
  ending = λ chain. end_text output chain;
}
