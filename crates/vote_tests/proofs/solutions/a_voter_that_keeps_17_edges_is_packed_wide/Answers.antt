-- The worked weights can be packed.
use Rattle.std.proofs.Common.{[], ◌∷◌, refl}
use Rattle.vote_tests.proofs.PackTests.{packable}
use Rattle.vote_tests.proofs.solutions.a_voter_that_keeps_17_edges_is_packed_wide.Goals as goal

pub pack-requires : goal.pack-requires
pack-requires g c = rw (
  c.edge.ensures,
  c.edge-2.ensures,
  c.edge-3.ensures,
  c.edge-4.ensures,
  c.edge-5.ensures,
  c.edge-6.ensures,
  c.edge-7.ensures,
  c.edge-8.ensures,
  c.edge-9.ensures,
  c.edge-10.ensures,
  c.edge-11.ensures,
  c.edge-12.ensures,
  c.edge-13.ensures,
  c.edge-14.ensures,
  c.edge-15.ensures,
  c.edge-16.ensures,
  c.edge-17.ensures,
)
    (packable (17 ∷ []) (0 ∷ 1 ∷ 2 ∷ 3 ∷ 4 ∷ 5 ∷ 6 ∷ 7 ∷ 8 ∷ 9 ∷ 10 ∷ 11 ∷ 12 ∷ 13 ∷ 14 ∷ 15 ∷ 16 ∷ []) _ refl)
