-- The chain of npos as a machine that replays are made with.
use Rattle.std.specs.Prelude.{ℕ, List, ◌++◌, flat_map, Option, Some, None, Result, Ok, Err, codes, decimal}
use Rattle.block_wire.specs.declared.block.Block.{Block}
use Rattle.block_wire.specs.declared.genesis.Genesis.{Genesis}
use Rattle.block_wire.specs.Genesis.{genesis_form}
use Rattle.block_wire.specs.Calls.{block_form}
use Rattle.stake_ledger.specs.declared.totals.Totals.{Totals}
use Rattle.stake_ledger.specs.Ledger.{totals_of}
use Rattle.npos_runtime.specs.declared.chain.Chain.{Chain}
use Rattle.npos_runtime.specs.Rules.Outcome.{Election}
use Rattle.chain_params.specs.declared.fault.GenesisFault.{GenesisFault}
use Rattle.block_receipts.specs.declared.line.Line.{Line}
use Rattle.block_receipts.specs.declared.line.Line.TheVariants as lines
use Rattle.npos_runtime.specs.Genesis.{genesis_fault, genesis_chain}
use Rattle.chain_params.specs.Faults.{fault_numbers}
use Rattle.npos_runtime.specs.Step.{step}
use Rattle.npos_cli.specs.Texts.{genesis_line}
use Rattle.told_lines.specs.Texts.{newline, amount_line, ok_line}
use Rattle.bundle_reports.specs.Verdicts.{member_line, verdict_line}
use Rattle.run_edges.specs.Replay.{Machine}

abbrev pub line_text : Line → List ℕ
line_text (lines.Block number) = codes "block " ++ (decimal number ++ newline)
line_text (lines.Era era) = codes "era " ++ (decimal era ++ newline)
line_text (lines.Snapshot round targets voters total) =
    codes "snapshot " ++ (decimal round
    ++ (codes " targets " ++ (decimal targets
    ++ (codes " voters " ++ (decimal voters ++ (codes " total " ++ (decimal total ++ newline)))))))
line_text (lines.VoidFew round) = codes "void " ++ (decimal round ++ codes " few\n")
line_text (lines.VoidPoor round) = codes "void " ++ (decimal round ++ codes " poor\n")
line_text (lines.Forfeit number deposit verdict) =
    codes "forfeit " ++ (decimal number
    ++ (codes " " ++ (decimal deposit ++ (codes " " ++ verdict_line verdict))))
line_text (lines.Returned number deposit) = codes "return "
    ++ (decimal number ++ (codes " " ++ (decimal deposit ++ newline)))
line_text (lines.Reward number amount) = codes "reward "
    ++ (decimal number ++ (codes " " ++ (decimal amount ++ newline)))
line_text (lines.SeatSigned round number) = codes "seat "
    ++ (decimal round ++ (codes " signed " ++ (decimal number ++ newline)))
line_text (lines.SeatFill round) = codes "seat " ++ (decimal round ++ codes " fill\n")
line_text (lines.Member who support) = member_line who support
line_text (lines.CallOk index) = ok_line index
line_text (lines.Paid who amount) = amount_line (codes "paid ") who amount
line_text (lines.Slashed who amount) = amount_line (codes "slashed ") who amount
line_text (lines.Deferred number due) = codes "deferred "
    ++ (decimal number ++ (codes " " ++ (decimal due ++ newline)))
line_text (lines.Applied number) = codes "apply " ++ (decimal number ++ newline)
line_text (lines.CallRefused index code) = codes "call "
    ++ (decimal index ++ (codes " refused " ++ (decimal code ++ newline)))

-- the last line of a replay that read its input to the end
abbrev pub end_line : Totals → List ℕ
end_line totals =
    codes "end free " ++ (decimal totals.free
    ++ (codes " active " ++ (decimal totals.active ++ (codes " unlocking " ++ (decimal totals.unlocking
    ++ (codes " deposits " ++ (decimal totals.deposits
    ++ (codes " minted " ++ (decimal totals.minted ++ (codes " burned " ++ (decimal totals.burned
    ++ (codes " issuance " ++ (decimal totals.issuance ++ newline)))))))))))))

-- the chain of a genesis, or the line of its first fault
abbrev pub started : Option GenesisFault → Genesis → Result Chain (List ℕ)
started None genesis = Ok (genesis_chain genesis)
started (Some fault) genesis = Err (genesis_line (fault_numbers fault))

abbrev pub npos_machine : Machine Genesis Block Chain Election
npos_machine = record {
  genesis = genesis_form;
  block = block_form;
  start = λ genesis. started (genesis_fault genesis) genesis;
  number = λ block. block.number;
  due = λ chain. chain.due;
  after = λ chain block. (step chain block).state;
  lines = λ chain block. flat_map line_text (step chain block).lines;
  seats = λ chain block. (step chain block).seated;
  ending = λ chain. end_line (totals_of chain.book);
}
