-- How what a miner makes of a bundle is handed out.
use Rattle.std.specs.Prelude.{◌≡◌, ◌⊎◌, ℕ, ◌/◌, ◌%◌, ◌^◌, Bool, nat_lt, ◌||◌, if◌then◌else◌, List, [], length, Option, Some, None, Result, Ok, Err}
use Rattle.npos_base.specs.declared.miner.Miner.{Miner}
use Rattle.election_work.specs.declared.asked.Task.TheVariants as tasks
use Rattle.election_work.specs.declared.finding.Finding.{Finding}
use Rattle.election_work.specs.declared.finding.Finding.TheVariants.{Judged}
use Rattle.election_work.specs.Mining.{Outcome, IsBundleMining}
use Rattle.election_work.specs.Sound.{IsSound}
use Rattle.npos_c.specs.declared.mined.NposMined.{NposMined}
use Rattle.npos_c.specs.declared.numbers.TheConstants.{UNKNOWN, NO_MEMORY, SMALL}
use Rattle.npos_c.specs.Buffers.{over}
use Rattle.npos_c.specs.Findings.{told_as}
use Rattle.npos_c.specs.Answers.{answer_of, IsLeft}

-- weights that are not packed have no bytes
abbrev pub bytes_in : Option (List ℕ) → List ℕ
bytes_in None = []
bytes_in (Some bytes) = bytes

-- ## What the caller gets

-- the buffers of a caller, and where the rest is told
pub record Hand : Type 0 where
  pub committee : List ℕ
  pub bytes : List ℕ
  pub told : NposMined

abbrev pub hand_of : List ℕ → List ℕ → NposMined → Hand
hand_of committee bytes told = record { committee = committee; bytes = bytes; told = told }

abbrev pub told_outcome : Outcome → NposMined
told_outcome outcome = record {
  members = length outcome.weights.committee;
  bytes = length (bytes_in outcome.solution);
  minimal = outcome.score.minimal;
  sum = outcome.score.sum;
  squares_high = outcome.score.squares / 2 ^ 64;
  squares_low = outcome.score.squares % 2 ^ 64;
  finding = told_as (Judged outcome.verdict);
}

-- where nothing was mined all but the finding is 0
abbrev pub told_finding : Finding → NposMined
told_finding finding = record {
  members = 0;
  bytes = 0;
  minimal = 0;
  sum = 0;
  squares_high = 0;
  squares_low = 0;
  finding = told_as finding;
}

-- a buffer has too little room
abbrev pub is_small : Outcome → Hand → Bool
is_small outcome old =
    nat_lt (length old.committee) (length outcome.weights.committee)
    || nat_lt (length old.bytes) (length (bytes_in outcome.solution))

-- members and bytes stand in the buffers where both have room
abbrev pub handed : Result Outcome Finding → Hand → Hand
handed (Ok outcome) old =
    if is_small outcome old then hand_of old.committee old.bytes (told_outcome outcome)
    else hand_of (over outcome.weights.committee old.committee) (over (bytes_in outcome.solution) old.bytes)
    (told_outcome outcome)
handed (Err finding) old = hand_of old.committee old.bytes (told_finding finding)

abbrev pub hand_answer : Result Outcome Finding → Hand → ℕ
hand_answer (Ok outcome) old = if is_small outcome old then SMALL else answer_of (Judged outcome.verdict)
hand_answer (Err finding) old = answer_of finding

-- memory was refused, or what the miner makes of the bytes is handed out; for numbers of no miner nothing is
abbrev pub IsHandedFor : Option Miner → List ℕ → Hand → Hand → ℕ → Type 0
IsHandedFor None bytes old new answer = IsLeft UNKNOWN old new answer
IsHandedFor (Some miner) bytes old new answer =
    IsLeft NO_MEMORY old new answer
    ⊎ ((due : Result Outcome Finding) × IsBundleMining miner bytes due × (new ≡ handed due old)
    × (answer ≡ hand_answer due old))

-- the numbers ask for a miner, and what it makes is sound
abbrev pub IsSoundFor : Option Miner → List ℕ → Type 0
IsSoundFor None bytes = ⊥
IsSoundFor (Some miner) bytes = IsSound (tasks.Mine miner) bytes
