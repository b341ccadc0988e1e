-- What is told of a generated election.
use Rattle.std.proofs.Common.{◌≡◌, ℕ, List, ◌++◌, Result, Ok, Err, OnOk, ap, sym, ◌∙◌, append_assoc}
use Rattle.npos_base.specs.declared.miner.Miner.TheVariants as miners
use Rattle.election_snapshot.specs.Snapshot.{Snapshot}
use Rattle.weight_book.specs.Weights.{Weights}
use Rattle.quota_fill.specs.Filled.{filled}
use Rattle.seq_phragmen.specs.Mined.{mined}
use Rattle.election_check.specs.Laws.{packed_of}
use Rattle.election_work.specs.declared.finding.Finding.{Finding}
use Rattle.election_work.specs.Mining.{Outcome, plain_mined, packed_mined, IsMining}

pub fill_comes_to : (snapshot : Snapshot) (due : Result Outcome Finding) → IsMining miners.Fill snapshot due → due ≡ Ok (plain_mined snapshot (filled snapshot))
fill_comes_to snapshot due (own, made, is) = is ∙ ap (λ (w : Weights). Ok (plain_mined snapshot w)) made

pub seq_comes_to : (snapshot : Snapshot) (due : Result Outcome Finding) → IsMining miners.Seq snapshot due
    → due ≡ packed_mined snapshot (packed_of snapshot (mined snapshot))
seq_comes_to snapshot due (own, made, is) = is ∙ ap (λ (w : Weights). packed_mined snapshot (packed_of snapshot w)) made

-- the three lines one behind the other
pub lines_told : {E : Type 0} (result : Result (Unit {0}) E) (new before behind old size first last : List ℕ) → before ≡ old ++ size → behind ≡ before ++ first
    → OnOk result (new ≡ behind ++ last) → OnOk result (new ≡ old ++ (size ++ (first ++ last)))
lines_told (Ok done) new before behind old size first last at then told = told
    ∙ (ap (λ text. text ++ last) (then ∙ ap (λ text. text ++ first) at)
    ∙ (append_assoc (old ++ size) first last ∙ append_assoc old size (first ++ last)))
lines_told (Err want) new before behind old size first last at then told = told
