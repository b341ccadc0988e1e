-- All holdings equal genesis plus minted less burned, from the genesis on and after every block, and
-- deposits are held while submissions wait.
use Rattle.std.specs.Prelude.{ℕ, List}
use Rattle.stake_ledger.specs.Ledger.{IsBalanced}
use Rattle.npos_runtime.specs.declared.chain.Chain.{Chain}
use Rattle.npos_runtime.specs.Histories.Deposits.{DepositsHold}
use Rattle.run_edges.specs.Replay.{Spot, Starts, Reaches}
use Rattle.npos_cli.specs.Chain.{npos_machine}

-- at every place that a replay of these bytes comes to, the books balance
abbrev pub BooksBalance : List ℕ → Type 0
BooksBalance bytes = (start place : Spot Chain) (text : List ℕ) → Starts npos_machine bytes start
    → Reaches npos_machine start place text
    → IsBalanced place.state.book

-- Wherever a replay of these bytes has come, what is held is the deposits of what waits, and each
-- submission that was accepted waits or is settled once, and is by the time its round is decided.
abbrev pub DepositsAreKept : List ℕ → Type 0
DepositsAreKept bytes = (start place : Spot Chain) (text : List ℕ) → Starts npos_machine bytes start
    → (reaches : Reaches npos_machine start place text) → DepositsHold start.state reaches.blocks
