use Rattle.std.proofs.Common.{◌≤◌, ℕ, ◌++◌, [], ◌∷◌, List, sym, ◌∙◌, ap, subst, map, take, get_or, append_assoc, arith}
use Rattle.std.specs.Prelude.{sum_by}
use Rattle.std.proofs.lemmas.List.{map_more}
use Rattle.std.proofs.lemmas.List.Sums.{sum_by_more, sum_by_more_le}
use Rattle.npos_base.specs.declared.figures.Edge.{Edge}
use Rattle.compact_solution.specs.declared.entry.Share.{Share}
use Rattle.election_check.specs.Packed.{amount_of, edge_of}
use Rattle.election_check.proofs.SoundLemmas.{shares_within}
use Rattle.election_check.proofs.TakingLemmas.{keeps_then}
use Rattle.election_check.proofs.entries.push_edges.Goals as goal

abbrev no_share : Share
no_share = record { target = 0; parts = 0 }

pub overflow_sub-rest : goal.overflow_sub-rest
overflow_sub-rest c =
    let items = c.shares-share-items.result.now in
    let more = sum_by_more_le (amount_of c.args.stake) items c.loop-share.share-index no_share c.loop-share-test.true in
    let within : sum_by (amount_of c.args.stake) items ≤ c.args.stake =
    subst (λ (s : List Share). sum_by (amount_of c.args.stake) s ≤ c.args.stake) (sym c.shares-share-items.ensures.shares)
    (shares_within c.args.stake c.args.entry.now c.requires.shares) in
    omega (arith, more, within, c.amount_of-amount.ensures, c.loop-share.invariant.rest_is)

pub loop-share-preserved : goal.loop-share-preserved
loop-share-preserved c =
    let items = c.shares-share-items.result.now in
    let i = c.loop-share.share-index in
    let voter = c.voter-voter.result in
    let made : ℕ → Edge = λ (n : ℕ). record { voter = voter; target = (get_or items i no_share).target; amount = n } in
    record {
      rest_is = omega (arith, sum_by_more (amount_of c.args.stake) items i no_share c.loop-share-test.true, c.amount_of-amount.ensures, c.loop-share.invariant.rest_is, overflow_sub-rest c);
      edges = c.push_edge.ensures.edges
          ∙ (ap (λ (es : List Edge). es ++ made c.amount_of-amount.result ∷ []) c.loop-share.invariant.edges
          ∙ (append_assoc c.args.weights.now.plain.edges (map (edge_of c.args.stake voter) (take i items)) (made c.amount_of-amount.result ∷ [])
          ∙ ap (λ (es : List Edge). c.args.weights.now.plain.edges ++ es)
          (ap (λ (n : ℕ). map (edge_of c.args.stake voter) (take i items) ++ made n ∷ []) c.amount_of-amount.ensures
          ∙ sym (map_more (edge_of c.args.stake voter) items i no_share c.loop-share-test.true))));
      members = c.push_edge.ensures.members ∙ c.loop-share.invariant.members;
      spare = omega (arith, c.push_edge.ensures.edge_spare, c.loop-share.invariant.spare);
      room = keeps_then c.args.weights.now c.loop-share.weights c.push_edge.new.self c.loop-share.invariant.room c.push_edge.ensures.room;
    }
