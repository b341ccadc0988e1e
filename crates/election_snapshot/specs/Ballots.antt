-- How the votes of voters are kept: in one list, which is cut where those of each voter end.
use Rattle.std.specs.Prelude.{◌≡◌, ℕ, ◌*◌, ◌/◌, ◌≤◌, min, List, [], ◌∷◌, length, slice_index, slice_range}
use Rattle.npos_base.specs.declared.limits.TheConstants.{MOST_NOMINATIONS}

-- The votes of each voter. Those of the first begin at the start, and those of each next voter where
-- those of the one before end.
abbrev pub cut_at : List ℕ → ℕ → List ℕ → List (List ℕ)
cut_at votes start [] = []
cut_at votes start (end ∷ ends) = slice_range votes start end ∷ cut_at votes end ends

-- where the votes of a voter begin
abbrev pub start_of : List ℕ → ℕ → ℕ
start_of ends voter = slice_index (0 ∷ ends) voter

-- The ends rise, not strictly, from the start to the last, which is the start itself where there is no
-- end.
abbrev pub RiseTo : ℕ → ℕ → List ℕ → Type 0
RiseTo last start [] = start ≡ last
RiseTo last start (end ∷ ends) = (start ≤ end) × RiseTo last end ends

-- the ends of voters cut the whole list of votes, and no voter has too many
pub record AreEnds (votes ends : List ℕ) : Type 0 where
  pub rise : RiseTo (length votes) 0 ends
  pub few : length votes ≤ MOST_NOMINATIONS * length ends

-- how many voters there is room for, each with the most votes, where so many votes and ends fit
abbrev pub room_for : ℕ → ℕ → ℕ
room_for votes ends = min (votes / MOST_NOMINATIONS) ends
