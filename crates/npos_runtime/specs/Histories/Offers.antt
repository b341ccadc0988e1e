-- What blocks offer to a round, and what has become of a valid offer once the round is decided.
use Rattle.std.specs.Prelude.{◌≡◌, ◌⊎◌, ℕ, ◌+◌, Bool, true, false, ◌==◌, ◌&&◌, if◌then◌else◌, All, Contains, List, [], ◌∷◌, ◌++◌, length, Option, Some, None}
use Rattle.npos_base.specs.Score.{is_better}
use Rattle.block_wire.specs.declared.call.Call.{Call}
use Rattle.block_wire.specs.declared.block.Block.{Block}
use Rattle.submission_queue.specs.declared.submission.Submission.{Submission}
use Rattle.submission_queue.specs.Ranking.{Ranking}
use Rattle.election_snapshot.specs.Snapshot.{Snapshot}
use Rattle.weight_book.specs.Scoring.{score_of}
use Rattle.compact_solution.specs.Decoded.{decoded}
use Rattle.election_check.specs.declared.verdict.Verdict.TheVariants.{Yes}
use Rattle.election_check.specs.Packed.{weights_decoded}
use Rattle.npos_runtime.specs.declared.chain.Chain.{Chain}
use Rattle.block_receipts.specs.declared.line.Line.{Line}
use Rattle.block_receipts.specs.declared.line.Line.TheVariants.{SeatSigned, SeatFill}
use Rattle.block_receipts.specs.declared.refusal.Refusal.{Refusal}
use Rattle.block_receipts.specs.declared.refusal.Refusal.TheVariants.{NotBetter}
use Rattle.npos_runtime.specs.declared.round.Round.TheVariants as rounds
use Rattle.chain_params.specs.Rules.{is_decision}
use Rattle.npos_runtime.specs.Rules.CallRule.{CallRule}
use Rattle.npos_runtime.specs.Rules.Calls.{rule_for}
use Rattle.round_decision.specs.Decision.{judged, forfeit_line}
use Rattle.npos_runtime.specs.Step.{call_outcome, before_calls, step, after_blocks}

-- ## Offers

-- a submission is offered where it is taken, or refused for want of a better claim alone
abbrev pub is_offered : Option Refusal → Bool
is_offered None = true
is_offered (Some NotBetter) = true
is_offered (Some other) = false

-- a submission is offered to the round that it names
abbrev pub offered_to : ℕ → Bool → Option (ℕ × Submission) → List Submission
offered_to number offered None = []
offered_to number offered (Some (round, item)) =
    if (round == number) && offered then item ∷ [] else []

-- what a call of this rule offers to the round of this number
abbrev pub offer_of : ℕ → CallRule → List Submission
offer_of number rule = offered_to number (is_offered rule.refusal) rule.offer

-- what calls offer, from this place in their block on
abbrev pub offers_in : ℕ → ℕ → List Call → Chain → List Submission
offers_in number index [] chain = []
offers_in number index (call ∷ calls) chain =
    offer_of number (rule_for chain call)
    ++ offers_in number (index + 1) calls (call_outcome index call chain).state

-- what blocks offer to the round of this number
abbrev pub offers_by : ℕ → Chain → List Block → List Submission
offers_by number chain [] = []
offers_by number chain (block ∷ more) =
    offers_in number 0 block.calls (before_calls chain)
    ++ offers_by number (step chain block).state more

-- ## What becomes of them

-- It is, or lost to, a submission that waited, won and claims no less; and that claim is the score
-- of the committee that was seated.
pub record LosesTo (round : ℕ) (snapshot : Snapshot) (item : Submission) (waiting : List Submission)
    (told : List Line) (winner : Submission) : Type 0 where
  pub waited : Contains waiting winner
  pub seated : Contains told (SeatSigned round winner.number)
  pub no_better : is_better item.score winner.score ≡ false
  pub earned : score_of (weights_decoded snapshot (decoded winner.bytes)) ≡ winner.score

-- The fill was seated: every place of the queue was taken, and each that waited lost its deposit.
pub record FillsAfter (round : ℕ) (snapshot : Snapshot) (queue : Ranking) (told : List Line) : Type 0 where
  pub seated : Contains told (SeatFill round)
  pub full : length queue.items ≡ queue.places
  pub forfeited : All (λ item. Contains told (forfeit_line snapshot item)) queue.items

-- Where the block behind these decides a round: each valid submission that was offered to it lost to
-- one that claims no less, or to as many deposits as the queue has places.
abbrev pub IsNoneCrowdedOut : Chain → List Block → Block → Type 0
IsNoneCrowdedOut first before block =
    let chain : Chain = after_blocks first before in
    let told : List Line = (step chain block).lines in
    (round : ℕ) (snapshot : Snapshot) (commissions : List ℕ) (item : Submission)
    → is_decision chain.params chain.due ≡ true
    → chain.round ≡ Some (rounds.Open round snapshot commissions)
    → Contains (offers_by round first before) item → judged snapshot item ≡ Yes
    → ((winner : Submission) × LosesTo round snapshot item chain.queue.items told winner)
    ⊎ FillsAfter round snapshot chain.queue told
