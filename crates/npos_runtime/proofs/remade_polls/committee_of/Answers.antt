use Rattle.std.proofs.Common.{◌≡◌, ◌∙◌, map, ap, subst}
use Rattle.std.specs.List.Sorted.{IsPermutation, IsStrictlyIncreasing}
use Rattle.weight_book.specs.Weights.{Weights}
use Rattle.state_rules.specs.Rounds.{Target}
use Rattle.state_rules.specs.Terms.{params_of}
use Rattle.npos_runtime.proofs.Kept.Remade.PollLemmas.{same_members, built_snapshot}
use Rattle.npos_runtime.proofs.remade_polls.committee_of.Goals as goal

pub returns-clause-ok : goal.returns-clause-ok
returns-clause-ok c =
    let row = c.args.row.now in
    let elected = c.in_ok-elected.elected in
    let weights : c.in_ok-weights.weights.plain ≡ record { committee = row.committee; edges = row.edges } = c.in_ok-weights.ensures in
    let moved : IsPermutation row.committee elected.weights.plain.committee =
    subst (λ (w : Weights). IsPermutation w.committee elected.weights.plain.committee) weights c.in_ok-elected.ensures.weights.members in
    let rising : IsStrictlyIncreasing elected.weights.plain.committee =
    subst IsStrictlyIncreasing c.committee-members.ensures.members c.committee-members.ensures.rising in
    let members = same_members row.committee elected.weights.plain.committee c.requires.1.committee moved rising in
    λ i. record {
      snapshot = (c.in_ok-elected.ensures.snapshot ∙ built_snapshot row.round c.in_ok-snapshot.snapshot c.seats_in.result (params_of c.args.state.now) c.seats_in.ensures c.in_ok-snapshot.ensures) i;
      weights = record {
        committee = members i;
        edges = (c.in_ok-elected.ensures.weights.edges ∙ (λ j. (weights j).edges)) i;
      };
      commissions = (c.in_ok-commissions.ensures ∙ ap (map (λ (target : Target). target.1)) c.as_slice.ensures) i;
    }
