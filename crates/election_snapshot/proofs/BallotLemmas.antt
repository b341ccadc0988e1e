-- The votes of voters, as they are cut from one list.
use Rattle.std.proofs.Common.{◌≡◌, ◌∙◌, ℕ, zero, suc, ◌-◌, ◌<◌, ◌≤◌, List, [], ◌∷◌, ◌++◌, length, take, drop, get_or, slice_index, slice_range, refl, ap, ap₂, arith, length-append, length-drop}
use Rattle.std.proofs.lemmas.List.{take-append-le, drop-append-le, take_all}
use Rattle.std.proofs.Math.Seq.{drop-append_seam}
use Rattle.npos_base.specs.declared.limits.TheConstants.{MOST_NOMINATIONS}
use Rattle.election_snapshot.specs.Ballots.{cut_at, start_of, RiseTo, AreEnds}

pub cut_count : (votes : List ℕ) (start : ℕ) (ends : List ℕ) → length (cut_at votes start ends) ≡ length ends
cut_count votes start [] = refl
cut_count votes start (end ∷ ends) = ap suc (cut_count votes end ends)

-- ## The votes of one voter

pub cut_voter : (votes : List ℕ) (start : ℕ) (ends : List ℕ) (voter : ℕ) → voter < length ends
    → get_or (cut_at votes start ends) voter [] ≡ slice_range votes (slice_index (start ∷ ends) voter) (slice_index ends voter)
cut_voter votes start [] voter h = absurd (omega (arith, h))
cut_voter votes start (end ∷ ends) zero h = refl
cut_voter votes start (end ∷ ends) (suc voter) h = cut_voter votes end ends voter (omega (arith, h))

rise_at : (last start : ℕ) (ends : List ℕ) (voter d : ℕ) → RiseTo last start ends → voter < length ends
    → slice_index (start ∷ ends) voter ≤ get_or ends voter d
rise_at last start [] voter d rise h = absurd (omega (arith, h))
rise_at last start (end ∷ ends) zero d rise h = rise.0
rise_at last start (end ∷ ends) (suc voter) d rise h = rise_at last end ends voter d rise.1 (omega (arith, h))

start_within : (last start : ℕ) (ends : List ℕ) → RiseTo last start ends → start ≤ last
start_within last start [] rise = omega (arith, rise)
start_within last start (end ∷ ends) rise = omega (arith, rise.0, start_within last end ends rise.1)

end_at : (last start : ℕ) (ends : List ℕ) (voter d : ℕ) → RiseTo last start ends → voter < length ends → get_or ends voter d ≤ last
end_at last start [] voter d rise h = absurd (omega (arith, h))
end_at last start (end ∷ ends) zero d rise h = start_within last end ends rise.1
end_at last start (end ∷ ends) (suc voter) d rise h = end_at last end ends voter d rise.1 (omega (arith, h))

pub start_before_end : (votes ends : List ℕ) (voter d : ℕ) → AreEnds votes ends → voter < length ends → start_of ends voter ≤ get_or ends voter d
start_before_end votes ends voter d are h = rise_at (length votes) 0 ends voter d are.rise h

pub end_within : (votes ends : List ℕ) (voter d : ℕ) → AreEnds votes ends → voter < length ends → get_or ends voter d ≤ length votes
end_within votes ends voter d are h = end_at (length votes) 0 ends voter d are.rise h

-- ## One voter more

rise_with : (last start : ℕ) (ends : List ℕ) (next : ℕ) → RiseTo last start ends → last ≤ next → RiseTo next start (ends ++ next ∷ [])
rise_with last start [] next rise h = (omega (arith, rise, h), refl)
rise_with last start (end ∷ ends) next rise h = (rise.0, rise_with last end ends next rise.1 h)

-- what lies between two places of a list is the same in a longer list
range_within : (votes more : List ℕ) (start end : ℕ) → start ≤ end → end ≤ length votes → slice_range (votes ++ more) start end ≡ slice_range votes start end
range_within votes more start end h k =
    ap (λ xs. take (end - start) xs) (drop-append-le start votes more (omega (arith, h, k)))
    ∙ take-append-le (end - start) (drop start votes) more (omega (arith, k, length-drop start votes))

-- what lies behind a list, up to the end of the longer list
range_behind : (votes more : List ℕ) → slice_range (votes ++ more) (length votes) (length (votes ++ more)) ≡ more
range_behind votes more =
    ap (λ xs. take (length (votes ++ more) - length votes) xs) (drop-append_seam votes more)
    ∙ take_all (length (votes ++ more) - length votes) more (omega (arith, length-append votes more))

pub cut_with : (votes : List ℕ) (start : ℕ) (ends more : List ℕ) → RiseTo (length votes) start ends
    → cut_at (votes ++ more) start (ends ++ length (votes ++ more) ∷ []) ≡ cut_at votes start ends ++ more ∷ []
cut_with votes start [] more rise = rw rise (ap (λ xs. xs ∷ []) (range_behind votes more))
cut_with votes start (end ∷ ends) more rise =
    ap₂ (λ xs xss. xs ∷ xss) (range_within votes more start end rise.0 (start_within (length votes) end ends rise.1)) (cut_with votes end ends more rise.1)

pub ends_with : (votes ends more : List ℕ) → AreEnds votes ends → length more ≤ MOST_NOMINATIONS → AreEnds (votes ++ more) (ends ++ length (votes ++ more) ∷ [])
ends_with votes ends more are h = record {
  rise = rise_with (length votes) 0 ends (length (votes ++ more)) are.rise (omega (arith, length-append votes more));
  few = omega (arith, are.few, h, length-append votes more, length-append ends (length (votes ++ more) ∷ []));
}

-- by these `ballots` goes on
pub ruleset ballot_cuts = (cut_count, cut_voter, start_before_end, end_within)
