-- The places of those whom an account names, where they stand.
use Rattle.std.specs.Prelude.{ℕ, List}
use Rattle.voter_lists.specs.declared.row.Chosen.{Chosen}
use Rattle.voter_lists.specs.declared.row.Chosen.TheVariants.{Near, Far}

-- the places, in order
abbrev pub chosen_in : Chosen → List ℕ
chosen_in (Near places) = places.now
chosen_in (Far places) = places.now
