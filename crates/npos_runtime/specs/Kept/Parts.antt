-- What of a chain later blocks go by, and chains that are alike in it. Two things are nothing to later
-- blocks: whether there was a void round or none, and the order of the edges of who waits, with the edges
-- that give nothing.
use Rattle.std.specs.Prelude.{◌≡◌, Option, Some, None, option_map}
use Rattle.weight_book.specs.GivenEdges.{kept_edges}
use Rattle.npos_runtime.specs.declared.chain.Chain.{Chain}
use Rattle.npos_runtime.specs.declared.round.Round.{Round}
use Rattle.npos_runtime.specs.declared.round.Round.TheVariants as rounds
use Rattle.npos_runtime.specs.Rules.Committee.{Committee}
use Rattle.npos_runtime.specs.Rules.Outcome.{Outcome}

-- the round that is open, if one is
abbrev pub open_of : Option Round → Option Round
open_of (Some (rounds.Open number snapshot commissions)) = Some (rounds.Open number snapshot commissions)
open_of other = None

-- who waits, with the edges that give something, by voter and then by target
abbrev pub kept_committee : Committee → Committee
kept_committee committee = record {
  snapshot = committee.snapshot;
  weights = record {
    committee = committee.weights.committee;
    edges = kept_edges committee.weights.edges;
  };
  commissions = committee.commissions;
}

abbrev pub as_kept : Chain → Chain
as_kept chain = record chain {
  round = open_of chain.round;
  waiting = option_map kept_committee chain.waiting;
}

abbrev pub AreAlike : Chain → Chain → Type 0
AreAlike one other = as_kept one ≡ as_kept other

-- two outcomes tell the same lines, seat the same committees, and leave chains that are alike
pub record GoAlike (one other : Outcome) : Type 0 where
  pub lines : one.lines ≡ other.lines
  pub seated : one.seated ≡ other.seated
  pub states : AreAlike one.state other.state
