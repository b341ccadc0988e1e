-- What gets a Yes is sound, and the fill always gets one.
use Rattle.std.proofs.Common.{◌≡◌, ℕ, Bool, true, false, List, Result, Ok, Err, IfOk, refl, sym, ◌∙◌, ap, subst}
use Rattle.npos_base.specs.declared.no_memory.NoMemory.{NoMemory}
use Rattle.npos_base.specs.declared.miner.Miner.{Miner}
use Rattle.npos_base.specs.declared.miner.Miner.TheVariants as miners
use Rattle.npos_base.specs.Miner.{is_packed}
use Rattle.block_wire.specs.declared.bundle.Work.{Work}
use Rattle.block_wire.specs.declared.bundle.Work.TheVariants.{Nothing, Packed, Plain}
use Rattle.election_snapshot.specs.Snapshot.{Snapshot, IsWellFormed}
use Rattle.weight_book.specs.Weights.{Weights}
use Rattle.weight_book.specs.Scoring.{score_of}
use Rattle.weight_book.proofs.AveragingLemmas.{averaging, passing}
use Rattle.compact_solution.specs.Solution.{Entry, solution_form}
use Rattle.quota_fill.specs.Filled.{filled}
use Rattle.quota_fill.proofs.PassingLemmas.{fill_passes}
use Rattle.election_check.specs.declared.verdict.Verdict.TheVariants.{Yes}
use Rattle.election_check.specs.First.{or_yes}
use Rattle.election_check.specs.Plain.{verdict_plain}
use Rattle.election_check.specs.Packed.{expanded, verdict_packed}
use Rattle.election_check.specs.Laws.{packed_of}
use Rattle.election_check.proofs.FaultLemmas.{plain_yes}
use Rattle.election_check.proofs.PassingLemmas.{passes, no_plain_fault}
use Rattle.election_check.proofs.PackedLemmas.{accepted}
use Rattle.election_work.specs.declared.asked.Task.{Task}
use Rattle.election_work.specs.declared.asked.Task.TheVariants as tasks
use Rattle.election_work.specs.declared.finding.Finding.{Finding}
use Rattle.election_work.specs.declared.finding.Finding.TheVariants.{Judged}
use Rattle.election_work.specs.declared.mined.Mining.{Mining}
use Rattle.election_work.specs.declared.reading.Election.{Election}
use Rattle.election_work.specs.Bundles.{election_in}
use Rattle.election_work.specs.Findings.{work_found, found_in}
use Rattle.election_work.specs.Mining.{Outcome, packed_mined, mined_by, due_of, IsMining, IsYes}
use Rattle.election_work.specs.Sound.{AreJudged, AreWeights, IsSoundElection, IsSound}
use Rattle.election_work.proofs.MinedLaws.{IsGiving, packed_gives, solution_read}
use Rattle.election_work.proofs.ReadLaws.{was_read}

-- weights with a plain Yes pass, and so deny nobody and are proportional
sound_weights : (task : Task) (election : Election) (weights : Weights) → IsWellFormed election.snapshot → AreWeights task election weights
    → verdict_plain election.snapshot weights ≡ Yes → IsSoundElection task election
sound_weights task election weights well are yes_is =
    let passed = passes election.snapshot weights (plain_yes election.snapshot weights yes_is) in
    record {
      weights = weights;
      are_weights = are;
      feasible = passed.feasible;
      answered = passing election.snapshot weights well passed;
      proportional = averaging election.snapshot weights well passed;
    }

-- ## A check

abbrev on_work : Snapshot → Work → Election
on_work snapshot work = record { snapshot = snapshot; work = work }

pub sound_check : (size : ℕ) (snapshot : Snapshot) (work : Work) → IsWellFormed snapshot → work_found size snapshot work ≡ Judged Yes
    → IsSoundElection tasks.Check (on_work snapshot work)
sound_check size snapshot Nothing well is = absurd (cc)
sound_check size snapshot (Packed claim bytes) well is =
    let yes_is : verdict_packed snapshot claim bytes ≡ Yes = cc in
    let a = accepted snapshot claim bytes yes_is in
    sound_weights tasks.Check (on_work snapshot (Packed claim bytes)) (expanded snapshot a.solution) well (a.solution, a.decoded_is, refl, a.claimed) a.plain_yes
sound_check size snapshot (Plain committee edges) well is =
    let weights : Weights = record { committee = committee; edges = edges } in
    let yes_is : verdict_plain snapshot weights ≡ Yes = cc in
    sound_weights tasks.Check (on_work snapshot (Plain committee edges)) weights well refl yes_is

-- ## A miner

-- the weights that a solution expands to, where its bytes have a Yes
sound_packed : (task : Task) (election : Election) (own : Weights) (packed : Result (List (List Entry)) ℕ) → IsWellFormed election.snapshot
    → packed_of election.snapshot own ≡ packed → IsGiving election.snapshot own
    → ((weights : Weights) → AreJudged true election.snapshot own weights → AreWeights task election weights)
    → IsYes (packed_mined election.snapshot packed) → IsSoundElection task election
sound_packed task election own (Err member) well packs gives are yes_is = absurd (cc)
sound_packed task election own (Ok solution) well packs gives are yes_is =
    let weights = expanded election.snapshot solution in
    let accepts : verdict_packed election.snapshot (score_of weights) (solution_form.spelling solution) ≡ Yes = cc in
    let a = accepted election.snapshot (score_of weights) (solution_form.spelling solution) accepts in
    let same : a.solution ≡ solution = let e : Ok a.solution ≡ Ok solution = sym a.decoded_is ∙ solution_read election.snapshot own well gives solution packs in cc in
    sound_weights task election weights well (are weights (solution, packs, refl))
    (subst (λ (s : List (List Entry)). verdict_plain election.snapshot (expanded election.snapshot s) ≡ Yes) same a.plain_yes)

pub sound_mining : (miner : Miner) (election : Election) (due : Result Outcome Finding) → IsWellFormed election.snapshot → IsMining miner election.snapshot due
    → IsYes due → IsSoundElection (tasks.Mine miner) election
sound_mining miner election due well (own, mined, is) yes_is = by (is_packed miner) refl (subst (λ (d : Result Outcome Finding). IsYes d) is yes_is) where
  judged : (b : Bool) → is_packed miner ≡ b → (weights : Weights) → AreJudged b election.snapshot own weights → AreWeights (tasks.Mine miner) election weights
  judged b e weights are = (own, mined, subst (λ (b : Bool). AreJudged b election.snapshot own weights) (sym e) are)

  by : (b : Bool) → is_packed miner ≡ b → IsYes (mined_by b election.snapshot own) → IsSoundElection (tasks.Mine miner) election
  by true e yes_is =
      sound_packed (tasks.Mine miner) election own (packed_of election.snapshot own) well refl (packed_gives miner e election.snapshot own well mined)
      (judged true e) yes_is
  by false e yes_is =
      let plain : verdict_plain election.snapshot own ≡ Yes = cc in
      sound_weights (tasks.Mine miner) election own well (judged false e own refl) plain

-- ## The fill

pub fill_is_yes : (snapshot : Snapshot) → IsWellFormed snapshot → verdict_plain snapshot (filled snapshot) ≡ Yes
fill_is_yes snapshot well = ap or_yes (no_plain_fault snapshot (filled snapshot) (fill_passes snapshot well))

pub fill_is_mined : (snapshot : Snapshot) (due : Result Outcome Finding) → IsWellFormed snapshot → IsMining miners.Fill snapshot due → IsYes due
fill_is_mined snapshot due well (own, mined, is) =
    subst (λ (d : Result Outcome Finding). IsYes d) (sym is)
    (ap (λ (weights : Weights). Judged (verdict_plain snapshot weights)) mined ∙ ap Judged (fill_is_yes snapshot well))

-- ## Bytes

pub sound_bytes : (task : Task) (bytes : List ℕ) (election : Election) → election_in bytes ≡ Ok election → IsSoundElection task election → IsSound task bytes
sound_bytes task bytes election e sound =
    let read = was_read bytes election e in
    record {
      bundle = read.bundle;
      is_bundle = read.is_bundle;
      snapshot = read.snapshot;
      is_snapshot = read.is_snapshot;
      election = subst (λ (x : Election). IsSoundElection task x) (sym read.is_election) sound;
    }

-- ## What the calls answer

pub sound_finding : (size : ℕ) (election : Election) (result : Result Finding NoMemory) → IsWellFormed election.snapshot
    → IfOk result (λ finding. finding ≡ found_in size election) → IfOk result (λ finding. finding ≡ Judged Yes → IsSoundElection tasks.Check election)
sound_finding size election (Ok finding) well is = λ yes_is. sound_check size election.snapshot election.work well (sym is ∙ yes_is)
sound_finding size election (Err want) well is = tt

pub sound_mined : (miner : Miner) (election : Election) (result : Result Mining NoMemory) → IsWellFormed election.snapshot
    → IfOk result (λ mining. IsMining miner election.snapshot (due_of mining)) → IfOk result (λ mining. IsYes (due_of mining) → IsSoundElection (tasks.Mine miner) election)
sound_mined miner election (Ok mining) well is = λ yes_is. sound_mining miner election (due_of mining) well is yes_is
sound_mined miner election (Err want) well is = tt
