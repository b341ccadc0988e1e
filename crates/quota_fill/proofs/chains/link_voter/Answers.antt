use Rattle.std.proofs.Common.{rules, arith, ◌≡◌, ◌<◌, length, get_or}
use Rattle.std.proofs.lemmas.List.{get_or_default}
use Rattle.std.proofs.lemmas.Option.{slice_get_within}
use Rattle.quota_fill.specs.Chains.{nowhere}
use Rattle.quota_fill.proofs.ChainLemmas.{linking_more}
use Rattle.quota_fill.proofs.chains.link_voter.Goals as goal

pub loop-place-preserved : goal.loop-place-preserved
loop-place-preserved c =
    let votes = c.args.votes.now in
    let loop = c.loop-place in
    let is : c.from-target.result ≡ get_or votes loop.place 0 = search rules in
    let within : get_or votes loop.place 0 < length c.args.firsts.now = c.requires.in_range loop.place 0 c.loop-place-test.true in
    let read : get_or loop.firsts (get_or votes loop.place 0) (record { voter = 0; place = 0 }) ≡ get_or loop.firsts (get_or votes loop.place 0) nowhere
    = get_or_default loop.firsts (get_or votes loop.place 0) (record { voter = 0; place = 0 }) nowhere (omega (arith, within, loop.invariant.firsts_size)) in
    rw (is, read) (linking_more votes c.args.voter c.args.start c.args.firsts.now c.args.nexts.now c.requires.distinct
    loop.place 0 c.loop-place-test.true loop.firsts loop.nexts within c.requires.room loop.invariant)

pub returns-clause-here : goal.returns-clause-here
returns-clause-here c = λ place target at. c.loop-place.invariant.here place target (omega (arith, c.loop-place-test.false, slice_get_within c.args.votes.now place target at)) at

pub returns-clause-linked : goal.returns-clause-linked
returns-clause-linked c = λ place target at. c.loop-place.invariant.linked place target (omega (arith, c.loop-place-test.false, slice_get_within c.args.votes.now place target at)) at
