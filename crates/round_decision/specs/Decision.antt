-- The decision of a round: the submissions are judged by rank, the first that holds wins, and its
-- committee is seated, or the fill where none holds.
use Rattle.std.specs.Prelude.{◌≡◌, ℕ, Bool, true, false, not, min, List, [], ◌∷◌, ◌++◌, length, map, filter, take, drop, get_or}
use Rattle.std.specs.List.{prefix_len, range_with_len}
use Rattle.stake_ledger.specs.Ledger.{Ledger}
use Rattle.stake_ledger.specs.Calls.{minted_free, room_of}
use Rattle.submission_queue.specs.declared.submission.Submission.{Submission}
use Rattle.submission_queue.specs.Ranking.{Ranking}
use Rattle.election_snapshot.specs.Snapshot.{Snapshot, has, no_account}
use Rattle.weight_book.specs.Weights.{Weights, support}
use Rattle.compact_solution.specs.Decoded.{decoded}
use Rattle.election_check.specs.declared.verdict.Verdict.{Verdict}
use Rattle.election_check.specs.declared.verdict.Verdict.TheVariants.{Yes}
use Rattle.election_check.specs.Packed.{verdict_packed, weights_decoded}
use Rattle.quota_fill.specs.Filled.{filled}
use Rattle.block_receipts.specs.declared.line.Line.{Line}
use Rattle.block_receipts.specs.declared.line.Line.TheVariants as lines
use Rattle.round_decision.specs.Deposits.{returned, all_returned, all_burned, return_line, return_lines}

-- ## Who wins

-- a submission is judged by its bytes and the score that it claims
abbrev pub judged : Snapshot → Submission → Verdict
judged snapshot item = verdict_packed snapshot item.score item.bytes

abbrev pub is_yes : Verdict → Bool
is_yes Yes = true
is_yes fault = false

abbrev pub fails : Snapshot → Submission → Bool
fails snapshot item = not (is_yes (judged snapshot item))

-- Of submissions by rank: those before the first that holds, or all where none does.
abbrev pub losers : Snapshot → List Submission → List Submission
losers snapshot items = take (prefix_len (fails snapshot) items) items

-- the first that holds, the winner, and those behind it
abbrev pub others : Snapshot → List Submission → List Submission
others snapshot items = drop (prefix_len (fails snapshot) items) items

-- the weights of the winner's solution, or the fill where nobody won
abbrev pub decided_weights : Snapshot → List Submission → Weights
decided_weights snapshot [] = filled snapshot
decided_weights snapshot (winner ∷ rest) = weights_decoded snapshot (decoded winner.bytes)

-- ## What it costs and pays

-- the deposit of one that does not hold is burned
abbrev pub forfeit_line : Snapshot → Submission → Line
forfeit_line snapshot item = lines.Forfeit item.number item.deposit (judged snapshot item)

-- as much of the reward as may still be issued
abbrev pub reward_in : ℕ → Ledger → ℕ
reward_in reward book = min reward (room_of book)

abbrev pub rewarded : ℕ → Ledger → Submission → Ledger
rewarded reward book winner = minted_free winner.who (reward_in reward book) book

-- The winner gets its deposit back and the reward, and those behind it get their deposits back.
abbrev pub paid_out : ℕ → List Submission → Ledger → Ledger
paid_out reward [] book = book
paid_out reward (winner ∷ rest) book =
    all_returned rest (rewarded reward (returned book winner) winner)

abbrev pub paid_lines : ℕ → List Submission → Ledger → List Line
paid_lines reward [] book = []
paid_lines reward (winner ∷ rest) book =
    return_line winner
    ∷ lines.Reward winner.number (reward_in reward (returned book winner))
    ∷ return_lines rest

-- ## The seat

-- the members by rising position
abbrev pub rising : Snapshot → Weights → Weights
rising snapshot weights = record weights {
  committee = filter (has weights.committee) (range_with_len 0 (length snapshot.targets));
}

abbrev pub seat_line : ℕ → List Submission → Line
seat_line number [] = lines.SeatFill number
seat_line number (winner ∷ rest) = lines.SeatSigned number winner.number

abbrev pub member_line : Snapshot → Weights → ℕ → Line
member_line snapshot weights member =
    lines.Member (get_or snapshot.targets member no_account) (support weights.edges member)

abbrev pub member_lines : Snapshot → Weights → List Line
member_lines snapshot weights = map (member_line snapshot weights) weights.committee

-- ## The decision

-- the books once the deposits of the losers are burned, and then once all is paid out
abbrev pub books_decided : ℕ → Snapshot → List Submission → Ledger → Ledger
books_decided reward snapshot items book =
    paid_out reward (others snapshot items) (all_burned (losers snapshot items) book)

-- what is told of the deposits, and whose committee it is
abbrev pub deposit_lines : ℕ → ℕ → Snapshot → List Submission → Ledger → List Line
deposit_lines number reward snapshot items book =
    map (forfeit_line snapshot) (losers snapshot items)
    ++ (paid_lines reward (others snapshot items) (all_burned (losers snapshot items) book)
    ++ seat_line number (others snapshot items) ∷ [])

-- A decision that stopped, for want of memory: so many of the submissions that do not hold have lost
-- their deposits, the first ones by rank, and that is told. Nothing else has changed in the books.
abbrev pub Stops : Snapshot → List Submission → Ledger → Ledger → List Line → List Line → Type 0
Stops snapshot items book now lines lines_now = (count : ℕ)
    × (now ≡ all_burned (take count (losers snapshot items)) book)
    × (lines_now ≡ lines ++ map (forfeit_line snapshot) (take count (losers snapshot items)))

-- the queue is left without its first submissions, however many
pub record IsLeft (old new : Ranking) : Type 0 where
  pub places : new.places ≡ old.places
  pub taken : List Submission
  pub split : old.items ≡ taken ++ new.items
