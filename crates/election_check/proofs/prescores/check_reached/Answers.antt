use Rattle.std.proofs.Common.{rules, arith, ◌≡◌, true, length, get_or, option_map, ap, sym}
use Rattle.election_check.specs.declared.fault.Fault.TheVariants.{Outweighed}
use Rattle.election_check.specs.First.{answer_of}
use Rattle.election_check.specs.Kept.{reaches}
use Rattle.election_check.proofs.FirstLemmas.{lowest_found, none_found}
use Rattle.election_check.proofs.prescores.check_reached.Goals as goal

pub returns-then-prescores-target : goal.returns-then-prescores-target
returns-then-prescores-target c =
    let passes : reaches c.args.price c.args.is_member.now c.args.prescores.now c.loop-target.target ≡ true = search rules in
    sym (ap (λ o. answer_of (option_map (λ n. Outweighed n (get_or c.args.prescores.now n 0)) o))
    (lowest_found (reaches c.args.price c.args.is_member.now c.args.prescores.now) (length c.args.prescores.now) c.loop-target.target c.loop-target-test.true passes c.loop-target.invariant))

pub returns : goal.returns
returns c = sym (ap (λ o. answer_of (option_map (λ n. Outweighed n (get_or c.args.prescores.now n 0)) o))
    (none_found (reaches c.args.price c.args.is_member.now c.args.prescores.now) (length c.args.prescores.now) (λ target l. c.loop-target.invariant target (omega (arith, l)))))
