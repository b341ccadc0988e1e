use Rattle.std.proofs.Common.{rules, arith, ◌≡◌, ◌≢◌, ℕ, ◌+◌, ◌<◌, true, false, cond, nat_eq, List, [], ◌∷◌, ◌++◌, length, take, get_or, set, inl, inr, ap, sym, subst, ◌∙◌}
use Rattle.std.proofs.lemmas.Bool.{cases_eq, cond-true, cond-false, eq-eqb}
use Rattle.std.specs.List.{IsDistinct}
use Rattle.std.proofs.lemmas.List.{length-set, take_all}
use Rattle.std.proofs.lemmas.List.Folds.{list_any_at}
use Rattle.election_snapshot.specs.Snapshot.{has}
use Rattle.seat_race.specs.Tables.{says}
use Rattle.seat_race.specs.Parts.{held}
use Rattle.seat_race.proofs.TableLemmas.{changed, fresh, not_yet, now_there, still_there}
use Rattle.seat_race.proofs.nominators.note_voter.Goals as goal

pub put-requires-clause-free : goal.put-requires-clause-free
put-requires-clause-free c =
    let votes = c.args.votes.now in
    let i = c.loop-vote.vote-index in
    let vote = c.from.result in
    let is : vote ≡ get_or votes i 0 = search rules in
    let below : vote < length c.args.rooms.now.nexts.items = omega (arith, is, c.requires.in_range i 0 c.loop-vote-test.true) in
    let voted : has votes vote ≡ true = list_any_at (λ other. nat_eq other vote) votes i 0 c.loop-vote-test.true (eq-eqb (get_or votes i 0) vote (sym is)) in
    let next : says c.loop-vote.rooms.nexts.items vote ≡ says c.args.rooms.now.nexts.items vote
    = rw is (not_yet votes c.requires.distinct i 0 c.loop-vote-test.true (λ n. n + 1) 0 c.args.rooms.now.nexts.items
    c.loop-vote.rooms.nexts.items c.loop-vote.invariant.2 (c.requires.in_range i 0 c.loop-vote-test.true)) in
    omega (arith, next, ap (λ starts. says starts (vote + 1)) c.loop-vote.invariant.1, c.requires.free vote below voted)

-- one room more has the voter, over plain values
module _ (votes : List ℕ) (distinct : IsDistinct nat_eq votes) (i : ℕ) (h : i < length votes) (voter vote : ℕ) (is : vote ≡ get_or votes i 0) (before then now : ℕ → List ℕ) where
  noted : (count : ℕ) → vote < count → ((target : ℕ) → target < count → then target ≡ cond (has (take i votes) target) (before target ++ voter ∷ []) (before target))
      → now vote ≡ then vote ++ voter ∷ [] → ((other : ℕ) → other < count → other ≢ vote → now other ≡ then other)
      → (target : ℕ) → target < count → now target ≡ cond (has (take (i + 1) votes) target) (before target ++ voter ∷ []) (before target)
  noted count below so_far here others target l = elim (cases_eq target vote) [
    | inl same ↦
        let fresh_here : has (take i votes) target ≡ false = rw (same ∙ is) (fresh votes distinct i 0 h) in
        ap now same ∙ here ∙ ap (λ ns. ns ++ voter ∷ []) (ap then (sym same) ∙ so_far target l ∙ cond-false (has (take i votes) target) (before target ++ voter ∷ []) (before target) fresh_here)
        ∙ sym (cond-true (has (take (i + 1) votes) target) (before target ++ voter ∷ []) (before target) (now_there votes distinct i 0 h target (sym is ∙ sym same)))
    | inr differs ↦ others target l differs ∙ so_far target l
        ∙ ap (λ b. cond b (before target ++ voter ∷ []) (before target)) (sym (still_there votes distinct i 0 h target (λ e. differs (sym e ∙ sym is))))
  ]

pub loop-vote-preserved : goal.loop-vote-preserved
loop-vote-preserved c =
    let votes = c.args.votes.now in
    let i = c.loop-vote.vote-index in
    let old = c.args.rooms.now in
    let then = c.loop-vote.rooms in
    let new = c.put.new.self in
    let is : c.from.result ≡ get_or votes i 0 = search rules in
    let below : get_or votes i 0 < length old.nexts.items = c.requires.in_range i 0 c.loop-vote-test.true in
    let nexts : new.nexts.items ≡ set then.nexts.items (get_or votes i 0) (says then.nexts.items (get_or votes i 0) + 1)
    = subst (λ n. new.nexts.items ≡ set then.nexts.items n (says then.nexts.items n + 1)) is c.put.ensures.nexts in (
      c.put.ensures.rooms,
      c.put.ensures.starts ∙ c.loop-vote.invariant.1,
      (
        λ target l. ap (λ ns. says ns target) nexts
            ∙ changed votes c.requires.distinct i 0 c.loop-vote-test.true (λ n. n + 1) 0 old.nexts.items then.nexts.items c.loop-vote.invariant.2 below target l,
        ap length nexts ∙ length-set then.nexts.items (get_or votes i 0) (says then.nexts.items (get_or votes i 0) + 1) ∙ c.loop-vote.invariant.2.1,
      ),
      noted votes c.requires.distinct i c.loop-vote-test.true c.args.voter c.from.result is
          (held old.items.items old.starts.items old.nexts.items) (held then.items.items then.starts.items then.nexts.items) (held new.items.items new.starts.items new.nexts.items)
          (length old.nexts.items) (omega (arith, is, below)) c.loop-vote.invariant.3 c.put.ensures.here
          (λ other l differs. c.put.ensures.others other (omega (arith, l, c.loop-vote.invariant.2.1)) differs),
    )

pub returns-clause-lists : goal.returns-clause-lists
returns-clause-lists c target l = c.loop-vote.invariant.3 target l
    ∙ ap (λ votes. cond (has votes target) (held c.args.rooms.now.items.items c.args.rooms.now.starts.items c.args.rooms.now.nexts.items target ++ c.args.voter ∷ [])
    (held c.args.rooms.now.items.items c.args.rooms.now.starts.items c.args.rooms.now.nexts.items target)) (take_all c.loop-vote.vote-index c.args.votes.now c.loop-vote-test.false)
