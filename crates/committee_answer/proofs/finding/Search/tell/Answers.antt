use Rattle.std.proofs.Common.{arith, ◌<◌, ℕ, List, length, All, ap, sym, subst, ◌∙◌}
use Rattle.weight_book.specs.Proportional.{group_stake}
use Rattle.committee_answer.specs.Ways.{stuck}
use Rattle.committee_answer.proofs.TellLemmas.{nominators_in_range, stuck_fit}
use Rattle.committee_answer.proofs.finding.Search.tell.Goals as goal

pub stuck_of-requires : goal.stuck_of-requires
stuck_of-requires c =
    let ways = c.args.self.now.reach.voters.items in
    subst (λ (vs : List ℕ). All (λ voter. voter < length ways) vs) (sym c.requires.voters)
    (λ k d h. omega (arith, nominators_in_range c.args.snapshot.now c.args.target k d h, c.requires.tables.voters))

pub stake_of_group-stake-requires-clause-fits : goal.stake_of_group-stake-requires-clause-fits
stake_of_group-stake-requires-clause-fits c =
    let ways = c.args.self.now.reach.voters.items in
    omega (
      arith,
      ap (λ (group : List ℕ). group_stake c.args.snapshot.now group) (c.deref.ensures.value ∙ c.in_ok-group.ensures ∙ ap (λ (vs : List ℕ). stuck ways vs) c.requires.voters),
      stuck_fit c.args.snapshot.now ways c.args.target,
    )
