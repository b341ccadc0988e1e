use Rattle.std.proofs.Common.{rules, ◌≡◌, List, length, map, OnOk, refl, ap, subst, sym, ◌∙◌}
use Rattle.std.proofs.lemmas.List.FromFn.{length-map-range_with_len}
use Rattle.election_snapshot.specs.Snapshot.{IsWellFormed}
use Rattle.weight_book.specs.Weights.{IsFeasible, support}
use Rattle.era_book.specs.declared.exposure.Exposure.{Exposure}
use Rattle.era_book.specs.Committee.{edges_by_voter, exposure_of}
use Rattle.era_book.specs.Eras.{started}
use Rattle.npos_runtime.specs.Rules.Committee.{Committee}
use Rattle.npos_runtime.specs.Rules.Exposed.{voters_in, supports_in, exposures_of}
use Rattle.npos_runtime.proofs.Rules.ExposureLemmas.{elected}
use Rattle.npos_runtime.proofs.era.start.Goals as goal

pub start_elected-requires-clause-supports : goal.start_elected-requires-clause-supports
start_elected-requires-clause-supports c =
    let committee : Committee = c.args.waiting.now in
    let targets : c.as_slice.result.now ≡ committee.snapshot.targets = search rules in
    let supports : c.as_slice-3.result.now ≡ supports_in committee = search rules in
    ap length supports ∙ (length-map-range_with_len (support committee.weights.edges) 0 (length committee.snapshot.targets) ∙ sym (ap length targets))

pub start_elected-requires-clause-elected : goal.start_elected-requires-clause-elected
start_elected-requires-clause-elected c =
    let committee : Committee = c.args.waiting.now in
    let targets : c.as_slice.result.now ≡ committee.snapshot.targets = search rules in
    let commissions : c.as_slice-2.result.now ≡ committee.commissions = search rules in
    let supports : c.as_slice-3.result.now ≡ supports_in committee = search rules in
    let voters : c.from_vec.result ≡ voters_in committee = search rules in
    let edges : c.edges.result.now ≡ committee.weights.edges = search rules in
    let members : c.committee.result.now ≡ committee.weights.committee = search rules in
    let sound : IsWellFormed committee.snapshot = search rules in
    let feasible : IsFeasible committee.snapshot committee.weights = search rules in
    rw (targets, commissions, supports, voters, edges, members) (elected committee sound feasible c.requires.noted)

pub returns : goal.returns
returns c =
    let committee : Committee = c.args.waiting.now in
    let targets : c.as_slice.result.now ≡ committee.snapshot.targets = search rules in
    let commissions : c.as_slice-2.result.now ≡ committee.commissions = search rules in
    let supports : c.as_slice-3.result.now ≡ supports_in committee = search rules in
    let voters : c.from_vec.result ≡ voters_in committee = search rules in
    let edges : c.edges.result.now ≡ committee.weights.edges = search rules in
    let members : c.committee.result.now ≡ committee.weights.committee = search rules in
    let same : map (exposure_of c.as_slice.result.now c.as_slice-2.result.now c.as_slice-3.result.now
    c.from_vec.result (edges_by_voter (length c.from_vec.result) c.edges.result.now)) c.committee.result.now
    ≡ exposures_of committee = rw (targets, commissions, supports, voters, edges, members) refl in
    subst (λ (exposures : List Exposure). OnOk c.start_elected.result (c.start_elected.new.self ≡ started exposures c.args.eras.now)) same c.start_elected.ensures.ok
