-- What the decision of a round makes of a chain: the books, the committee that waits, and what is told.
use Rattle.std.specs.Prelude.{ℕ, List, [], ◌∷◌, ◌++◌, Option, Some, None, if◌then◌else◌}
use Rattle.submission_queue.specs.declared.submission.Submission.{Submission}
use Rattle.submission_queue.specs.Ranking.{empty_queue}
use Rattle.election_snapshot.specs.Snapshot.{Snapshot}
use Rattle.npos_runtime.specs.declared.chain.Chain.{Chain}
use Rattle.npos_runtime.specs.declared.round.Round.{Round}
use Rattle.npos_runtime.specs.declared.round.Round.TheVariants as rounds
use Rattle.npos_runtime.specs.Rules.Committee.{Committee}
use Rattle.chain_params.specs.Rules.{reward_of, is_decision}
use Rattle.npos_runtime.specs.Rules.Outcome.{Outcome, quiet}
use Rattle.round_decision.specs.Decision.{others, decided_weights, rising, member_lines, books_decided, deposit_lines}

abbrev pub committee_of : Snapshot → List ℕ → List Submission → Committee
committee_of snapshot commissions items = record {
  snapshot = snapshot;
  weights = rising snapshot (decided_weights snapshot (others snapshot items));
  commissions = commissions;
}

-- the round of this number, with this snapshot, is decided
abbrev pub decided : ℕ → Snapshot → List ℕ → Chain → Outcome
decided number snapshot commissions chain = record {
  state = record chain {
    book = books_decided (reward_of chain.params) snapshot chain.queue.items chain.book;
    round = None;
    queue = empty_queue chain.queue.places;
    waiting = Some (committee_of snapshot commissions chain.queue.items);
  };
  lines = deposit_lines number (reward_of chain.params) snapshot chain.queue.items chain.book
      ++ member_lines snapshot (committee_of snapshot commissions chain.queue.items).weights;
  seated = record {
    round = number;
    snapshot = snapshot;
    weights = decided_weights snapshot (others snapshot chain.queue.items);
  } ∷ [];
}

-- a void round decides nothing
abbrev pub decision_of : Option Round → Chain → Outcome
decision_of (Some (rounds.Open number snapshot commissions)) chain =
    decided number snapshot commissions chain
decision_of other chain = quiet chain

abbrev pub decision_phase : Chain → Outcome
decision_phase chain =
    if is_decision chain.params chain.due then decision_of chain.round chain else quiet chain
