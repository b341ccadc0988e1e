-- What a part of a step makes of a chain, and what it tells.
use Rattle.std.specs.Prelude.{◌≡◌, ◌≢◌, ℕ, List, [], ◌++◌, Option, option_map, Result, IfErr}
use Rattle.npos_base.specs.Refusal.{MeetsWhileRoom}
use Rattle.election_snapshot.specs.Snapshot.{Snapshot}
use Rattle.weight_book.specs.Weights.{Weights}
use Rattle.npos_runtime.specs.declared.chain.Chain.{Chain}
use Rattle.block_receipts.specs.declared.line.Line.{Line}
use Rattle.block_receipts.specs.declared.refusal.Refusal.{Refusal}
use Rattle.block_receipts.specs.declared.stop.Stop.{Stop}
use Rattle.block_receipts.specs.declared.stop.Stop.TheVariants as stops

-- an election: the number of its round, its snapshot, and the weights of its committee
pub record Election : Type 0 where
  pub round : ℕ
  pub snapshot : Snapshot
  pub weights : Weights

-- the chain that it leaves, the lines that it tells, and the elections that it seats
pub record Outcome : Type 0 where
  pub state : Chain
  pub lines : List Line
  pub seated : List Election

-- lines alone: nothing happens and nobody is seated
abbrev pub telling : List Line → Chain → Outcome
telling lines chain = record { state = chain; lines = lines; seated = [] }

-- nothing happens
abbrev pub quiet : Chain → Outcome
quiet chain = telling [] chain

-- one thing and then the next
abbrev pub after : Outcome → (Chain → Outcome) → Outcome
after first next = record {
  state = (next first.state).state;
  lines = first.lines ++ (next first.state).lines;
  seated = first.seated ++ (next first.state).seated;
}

-- a chain, and all that was told up to it
pub record Told : Type 0 where
  pub state : Chain
  pub lines : List Line

abbrev pub told_after : List Line → Outcome → Told
told_after lines outcome = record { state = outcome.state; lines = lines ++ outcome.lines }

-- a part of a step has this outcome: the chain is its state, and its lines were appended
pub record Goes (outcome : Outcome) (new : Chain) (told_old told_new : List Line) : Type 0 where
  pub state : new ≡ outcome.state
  pub lines : told_new ≡ told_old ++ outcome.lines

-- A kind of call: where no refusal is due the chain becomes `done`, and where one is due the chain stays.
-- Nothing is said after want of memory, which ends the life of a runtime.
abbrev pub Meets : {T : Type 0} → Option Refusal → Chain → Chain → Chain → Result T Stop → Type 0
Meets due done old new result =
    MeetsWhileRoom stops.NoMemory (option_map stops.Refused due) done old new result

-- a call that is refused tells nothing
abbrev pub Untold : {T : Type 0} → List Line → List Line → Result T Stop → Type 0
Untold told_old told_new result = IfErr result (λ stop. stop ≢ stops.NoMemory → told_new ≡ told_old)
