use Rattle.std.proofs.Common.{rules, arith, ◌≡◌, ◌-◌, ◌<◌, ◌≤◌, ◌++◌, ◌∷◌, [], length, get_or, take, drop, refl, ap, sym, ◌∙◌}
use Rattle.std.proofs.lemmas.List.{take_rest}
use Rattle.support_balance.specs.declared.laying.Joining.{Joining}
use Rattle.support_balance.specs.Slots.{slot_of, spread}
use Rattle.support_balance.proofs.JoinLemmas.{end_joined}
use Rattle.support_balance.proofs.SpreadLemmas.{front, front_push, reached_push, notes_push, spread_front}
use Rattle.support_balance.proofs.VoterLemmas.{next_voter, voters_end, first_joined, next_joined}
use Rattle.support_balance.proofs.laying.note_joining.Goals as goal

pub loop-voter-init : goal.loop-voter-init
loop-voter-init c =
    let none : c.reserve.new.self.items ≡ [] = search rules in
    rw none (record {
      joining = λ snapshot same. (first_joined snapshot c.args.target c.args.edges.now c.requires.rising c.requires.small, λ k d h. absurd (omega (arith, h)));
      inside = omega arith;
      reached = refl;
      notes = record { rising = λ i j d a b. absurd (omega (arith, b)); within = λ k d h. absurd (omega (arith, h)) };
      passed = λ k d h. absurd (omega (arith, h));
    })

pub loop-voter-preserved : goal.loop-voter-preserved
loop-voter-preserved c =
    let edges = c.args.edges.now in
    let target = c.args.target in
    let notes = c.loop-voter.joining.items in
    let i = c.loop-voter.voter-index in
    let done = c.loop-voter.done in
    let so = c.loop-voter.invariant in
    let place = c.place_from-done in
    let h : i < length c.args.voters.now = search rules in
    let note : Joining = record { voter = get_or c.args.voters.now i 0; place = place.result } in
    let pushed : c.push.new.self.items ≡ notes ++ note ∷ [] = search rules in
    let laid : front target (notes ++ note ∷ []) 0 edges ≡ (front target notes 0 edges ++ take (place.result - done) (drop done edges)) ++ slot_of note.voter target ∷ [] =
    front_push target notes note 0 edges ∙ ap (λ n. (front target notes 0 edges ++ take (place.result - n) (drop n edges)) ++ slot_of note.voter target ∷ []) so.reached in
    let more = notes_push edges notes note done so.notes so.passed place.ensures.from place.ensures.within in
    rw pushed (record {
      joining = λ snapshot same. rw (laid, same) (next_joined snapshot target edges c.requires.rising c.requires.small c.requires.fresh i done place.result (front target notes 0 edges)
          (rw same at h) place.ensures.from place.ensures.within (so.joining snapshot same).0 (so.joining snapshot same).1 (rw same at place.ensures.before) (rw same at place.ensures.next));
      inside = place.ensures.within;
      reached = reached_push notes note 0;
      notes = more.0;
      passed = more.1;
    })

pub returns-clause-joined : goal.returns-clause-joined
returns-clause-joined c snapshot same =
    let edges = c.args.edges.now in
    let target = c.args.target in
    let notes = c.loop-voter.joining.items in
    let done = c.loop-voter.done in
    let so = c.loop-voter.invariant in
    let over : length c.args.voters.now ≤ c.loop-voter.voter-index = search rules in
    let all : spread target notes 0 edges ≡ front target notes 0 edges ++ take (length edges - done) (drop done edges) =
    spread_front target notes 0 edges ∙ ap (λ n. front target notes 0 edges ++ drop n edges) so.reached ∙ ap (λ es. front target notes 0 edges ++ es) (sym (take_rest edges done)) in
    rw all (end_joined snapshot target edges c.requires.rising c.requires.small (next_voter snapshot target c.loop-voter.voter-index) done (front target notes 0 edges)
    (voters_end snapshot target c.loop-voter.voter-index (rw same at over)) (so.joining snapshot same).0)
