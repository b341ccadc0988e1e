use Rattle.submission_queue.proofs.LawLemmas.{rank_permutation, rank_sorted, rank_stable}
use Rattle.submission_queue.proofs.laws.the_rank_is_a_stable_sort.Goals as goal

pub returns : goal.returns
returns c = record { same = rank_permutation c.args.items.now; sorted = rank_sorted c.args.items.now; stable = rank_stable c.args.items.now }
