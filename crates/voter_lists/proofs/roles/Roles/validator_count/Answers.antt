-- There are as many places as validators, and those rise.
use Rattle.std.proofs.Common.{rules, ◌≡◌, length, arith}
use Rattle.voter_lists.specs.Roles.{validators_of}
use Rattle.voter_lists.proofs.NamedLemmas.{count_at}
use Rattle.voter_lists.proofs.RankedPlaceLemmas.{ranked_count}
use Rattle.voter_lists.proofs.ValidatorLemmas.{validators_rise}
use Rattle.voter_lists.proofs.roles.Roles.validator_count.Goals as goal

pub returns-clause-count : goal.returns-clause-count
returns-clause-count c =
    let many : length c.self.inside.validators.items ≡ length (validators_of c.self.inside.standings.roles) = ranked_count c.self.inside.standings c.self.inside.validators.items c.self.invariant in
    rw (← c.self.view_is) (search rules)

pub returns-clause-most : goal.returns-clause-most
returns-clause-most c =
    omega (arith, c.len.ensures, c.self.invariant.ranked.few, count_at c.self.inside.standings.accounts c.self.inside.validators.items c.self.invariant.within)

pub returns-clause-rising : goal.returns-clause-rising
returns-clause-rising c = rw (← c.self.view_is) (validators_rise c.self.inside.standings.roles c.self.invariant.ranked.rising)
