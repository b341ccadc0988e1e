use Rattle.std.proofs.Common.{◌≡◌, ◌++◌, map, IsPermutation}
use Rattle.election_snapshot.specs.Snapshot.{votes_of}
use Rattle.support_balance.specs.Slots.{slot_of}
use Rattle.support_balance.proofs.SlotLemmas.{no_slots, slots_next}
use Rattle.support_balance.proofs.laying.all_slots.Goals as goal

pub loop-voter-init : goal.loop-voter-init
loop-voter-init c = rw c.new-slots.ensures.items (no_slots c.args.snapshot.now)

pub loop-voter-preserved : goal.loop-voter-preserved
loop-voter-preserved c =
    let moved : IsPermutation (votes_of c.args.snapshot.now c.loop-voter.voter) c.in_ok-votes.votes.items = rw c.votes.ensures.votes at c.in_ok-votes.ensures.same in
    let put : c.put_slots.new.slots.items ≡ c.loop-voter.slots.items ++ map (slot_of c.loop-voter.voter) c.in_ok-votes.votes.items =
    rw c.deref.ensures.value at c.in_ok-put_slots.ensures in
    rw put (slots_next c.args.snapshot.now c.loop-voter.voter c.loop-voter.slots.items c.loop-voter.invariant c.votes.ensures.sound c.in_ok-votes.votes.items c.in_ok-votes.ensures.rising moved)
