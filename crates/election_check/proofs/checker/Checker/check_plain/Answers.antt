use Rattle.std.proofs.Common.{rules, ◌≡◌, [], Ok}
use Rattle.election_check.specs.First.{answer_of}
use Rattle.election_check.specs.Steps.{size_fault}
use Rattle.election_check.specs.Plain.{members_fault, edges_fault, overspent}
use Rattle.weight_book.proofs.OrderLemmas.{members_few}
use Rattle.election_check.proofs.FirstLemmas.{none_answered}
use Rattle.election_check.proofs.PassingLemmas.{follows, feasible}
use Rattle.election_check.proofs.checker.Checker.check_plain.Goals as goal

pub check_spending-requires-clause-voters : goal.check_spending-requires-clause-voters
check_spending-requires-clause-voters c =
    let snapshot = c.self.inside.snapshot in
    let plain = c.args.weights.now.plain in
    let members : Ok tt ≡ answer_of (members_fault snapshot [] plain.committee) = search rules in
    let edges : Ok tt ≡ answer_of (edges_fault snapshot plain.committee [] plain.edges) = search rules in
    rw c.edges.ensures (follows snapshot plain (none_answered _ members) (none_answered _ edges)).voters_in_range

pub check_size-requires : goal.check_size-requires
check_size-requires c =
    let snapshot = c.self.inside.snapshot in
    let plain = c.args.weights.now.plain in
    let members : Ok tt ≡ answer_of (members_fault snapshot [] plain.committee) = search rules in
    let edges : Ok tt ≡ answer_of (edges_fault snapshot plain.committee [] plain.edges) = search rules in
    members_few snapshot plain (follows snapshot plain (none_answered _ members) (none_answered _ edges))

pub check_prescores-requires-clause-feasible : goal.check_prescores-requires-clause-feasible
check_prescores-requires-clause-feasible c =
    let snapshot = c.self.inside.snapshot in
    let plain = c.args.weights.now.plain in
    let members : Ok tt ≡ answer_of (members_fault snapshot [] plain.committee) = search rules in
    let edges : Ok tt ≡ answer_of (edges_fault snapshot plain.committee [] plain.edges) = search rules in
    let spending : Ok tt ≡ answer_of (overspent snapshot plain.edges) = search rules in
    let size : Ok tt ≡ answer_of (size_fault snapshot plain) = search rules in
    feasible snapshot plain (none_answered _ members) (none_answered _ edges) (none_answered _ spending) (none_answered _ size)
