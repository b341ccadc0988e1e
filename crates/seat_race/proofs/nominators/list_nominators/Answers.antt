use Rattle.std.proofs.Common.{arith, ◌≡◌, ◌+◌, ◌<◌, [], ◌∷◌, ◌++◌, ℕ, Bool, true, false, cond, length, List, refl, ap, sym, ◌∙◌}
use Rattle.std.proofs.lemmas.List.{append-nil}
use Rattle.election_snapshot.specs.Snapshot.{has, nominates}
use Rattle.seat_race.specs.Tables.{says, nominators_before}
use Rattle.weight_book.specs.Passing.{nominators}
use Rattle.seat_race.specs.Parts.{held}
use Rattle.seat_race.proofs.NominatorLemmas.{nominators_more}
use Rattle.seat_race.proofs.PartLemmas.{room_free, room_full}
use Rattle.seat_race.proofs.nominators.list_nominators.Goals as goal

pub note_voter-requires-clause-free : goal.note_voter-requires-clause-free
note_voter-requires-clause-free c target l t =
    let snapshot = c.args.snapshot.now in
    let rooms = c.loop-voter.rooms in
    let below : target < length snapshot.targets = omega (arith, l, c.loop-voter.invariant.2) in
    let size : says rooms.starts.items (target + 1) ≡ says rooms.starts.items target + length (nominators snapshot target)
    = ap (λ starts. says starts (target + 1)) c.loop-voter.invariant.1 ∙ c.requires.sizes target below
    ∙ ap (λ starts. says starts target + length (nominators snapshot target)) (sym c.loop-voter.invariant.1) in
    room_free snapshot target rooms.items.items rooms.starts.items rooms.nexts.items c.loop-voter.invariant.0 l size c.loop-voter.voter (c.loop-voter.invariant.3 target below)
    (ap (λ votes. has votes target) (sym c.votes.ensures.votes) ∙ t)

one_more : (b : Bool) (list : List ℕ) (voter : ℕ) → cond b (list ++ voter ∷ []) list ≡ list ++ cond b (voter ∷ []) []
one_more true list voter = refl
one_more false list voter = sym (append-nil list)

pub loop-voter-preserved : goal.loop-voter-preserved
loop-voter-preserved c =
    let snapshot = c.args.snapshot.now in
    let voter = c.loop-voter.voter in
    let before = held c.loop-voter.rooms.items.items c.loop-voter.rooms.starts.items c.loop-voter.rooms.nexts.items in (
      c.note_voter.ensures.rooms,
      c.note_voter.ensures.starts ∙ c.loop-voter.invariant.1,
      c.note_voter.ensures.count ∙ c.loop-voter.invariant.2,
      λ target l. c.note_voter.ensures.lists target (omega (arith, l, c.loop-voter.invariant.2))
          ∙ ap (λ votes. cond (has votes target) (before target ++ voter ∷ []) (before target)) c.votes.ensures.votes
          ∙ one_more (nominates snapshot voter target) (before target) voter
          ∙ ap (λ ns. ns ++ cond (nominates snapshot voter target) (voter ∷ []) []) (c.loop-voter.invariant.3 target l)
          ∙ sym (nominators_more snapshot target voter),
    )

pub returns-clause-full : goal.returns-clause-full
returns-clause-full c target l =
    let snapshot = c.args.snapshot.now in
    let rooms = c.loop-voter.rooms in
    let size : says rooms.starts.items (target + 1) ≡ says rooms.starts.items target + length (nominators snapshot target)
    = ap (λ starts. says starts (target + 1)) c.loop-voter.invariant.1 ∙ c.requires.sizes target l
    ∙ ap (λ starts. says starts target + length (nominators snapshot target)) (sym c.loop-voter.invariant.1) in
    let all_seen : c.loop-voter.voter ≡ length snapshot.voters = omega (arith, c.loop-voter-test.false, c.loop-voter.auto.voter-end, c.voter_count-voter-end.ensures.count) in
    room_full snapshot target rooms.items.items rooms.starts.items rooms.nexts.items c.loop-voter.invariant.0 (omega (arith, l, c.loop-voter.invariant.2)) size
    (c.loop-voter.invariant.3 target l ∙ ap (nominators_before snapshot target) all_seen)
