-- The weights of a run are feasible, and give something along each edge.
use Rattle.std.proofs.Common.{ℕ, ◌<◌, nat_eq, List, length, reverse, All, ◌∙◌, arith}
use Rattle.std.specs.List.{IsDistinct}
use Rattle.std.proofs.lemmas.List.Sorted.{IsPermutation-reverse, length_permutation}
use Rattle.election_snapshot.specs.Snapshot.{Snapshot, IsWellFormed}
use Rattle.weight_book.specs.Weights.{IsFeasible}
use Rattle.seat_race.specs.Giving.{edges_given}
use Rattle.seat_race.specs.Picks.{less}
use Rattle.seat_race.proofs.GivingLemmas.{edge_is, given_follows, spent_is}
use Rattle.seat_race.proofs.InLemmas.{In, all_in}
use Rattle.seat_race.proofs.PickLemmas.{all_picks, less_orders, pick_in_range, picks_distinct}
use Rattle.seq_phragmen.specs.Mined.{given, picked, mined}
use Rattle.seq_phragmen.proofs.PickLemmas.{AreRun, are_run, scores}
use Rattle.seq_phragmen.proofs.SplitLemmas.{given_member, given_in_all}

module _ (snapshot : Snapshot) (formed : IsWellFormed snapshot) where
  abbrev picks : List ℕ
  picks = picked snapshot snapshot.seats

  run : AreRun snapshot picks
  run = are_run snapshot snapshot.seats

  below : (target : ℕ) → In picks target → target < length snapshot.targets
  below = pick_in_range (length snapshot.targets) less less_orders (scores snapshot) picks run

  distinct : IsDistinct nat_eq picks
  distinct = picks_distinct (length snapshot.targets) less less_orders (scores snapshot) picks run

  pub mined_feasible : IsFeasible snapshot (mined snapshot)
  mined_feasible = record {
    follows = given_follows snapshot (given snapshot picks) picks below distinct (given_member snapshot picks) (omega (arith, formed.voters.targets_few));
    seats_filled = length_permutation picks (reverse picks) (IsPermutation-reverse picks)
        ∙ all_picks (length snapshot.targets) less less_orders (scores snapshot) snapshot.seats formed.targets_enough;
    within_stakes = λ voter h. omega (arith, spent_is snapshot (given snapshot picks) voter h, given_in_all snapshot picks run voter);
  }

  pub mined_above : All (λ edge. 0 < edge.amount) (edges_given snapshot (given snapshot picks))
  mined_above = all_in (λ edge. 0 < edge.amount) (edges_given snapshot (given snapshot picks)) (λ edge h. (edge_is snapshot (given snapshot picks) edge h).more)
