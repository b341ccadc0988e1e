use Rattle.std.proofs.Common.{rules, arith, ◌≡◌, ℕ, ◌+◌, ◌-◌, ◌<◌, ◌≤◌, false, All, Some, length, get_or, slice_get, subst}
use Rattle.election_snapshot.specs.Snapshot.{has, votes_of}
use Rattle.seat_race.specs.Tables.{says}
use Rattle.quota_fill.specs.Chains.{nowhere, AreChained}
use Rattle.quota_fill.proofs.ChainLemmas.{chained_more, starts_rise}
use Rattle.quota_fill.proofs.chains.link_all.Goals as goal

pub link_voter-requires-clause-room : goal.link_voter-requires-clause-room
link_voter-requires-clause-room c =
    let snapshot = c.args.snapshot.now in
    let starts = c.args.starts.now in
    let voter = c.loop-voter.voter - 1 in
    let here : voter < length snapshot.voters = omega arith in
    let are : c.votes.result.now ≡ votes_of snapshot voter = search rules in
    rw are (omega (arith, starts_rise snapshot starts voter (length snapshot.voters) c.requires.starts here (omega arith), c.requires.nexts, c.loop-voter.invariant.1))

pub loop-voter-preserved : goal.loop-voter-preserved
loop-voter-preserved c =
    let snapshot = c.args.snapshot.now in
    let starts = c.args.starts.now in
    let loop = c.loop-voter in
    let voter = loop.voter - 1 in
    let next : loop.voter ≡ voter + 1 = omega arith in
    let here : voter < length snapshot.voters = omega arith in
    let are : c.votes.result.now ≡ votes_of snapshot voter = search rules in
    let new = c.link_voter.new in
    let ensures = c.link_voter.ensures in
    let in_range : All (λ vote. vote < length snapshot.targets) (votes_of snapshot voter) = search rules in
    let others : (target : ℕ) → has (votes_of snapshot voter) target ≡ false → get_or new.firsts target nowhere ≡ get_or loop.firsts target nowhere
    = rw are at ensures.others in
    let first : (place target : ℕ) → slice_get (votes_of snapshot voter) place ≡ Some target → get_or new.firsts target nowhere ≡ record { voter = voter; place = place }
    = rw are at ensures.here in
    let linked : (place target : ℕ) → slice_get (votes_of snapshot voter) place ≡ Some target → get_or new.nexts (says starts voter + place) nowhere ≡ get_or loop.firsts target nowhere
    = rw are at ensures.linked in
    let kept : (slot : ℕ) → says starts voter + length (votes_of snapshot voter) ≤ slot → get_or new.nexts slot nowhere ≡ get_or loop.nexts slot nowhere
    = rw are at ensures.kept in (
      search rules,
      search rules,
      chained_more snapshot starts voter here c.requires.starts in_range loop.firsts loop.nexts new.firsts new.nexts
          (subst (λ n. AreChained snapshot starts n loop.firsts loop.nexts) next loop.invariant.2) others first linked kept,
    )
