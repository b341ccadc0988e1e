-- The worked weights can be packed.
use Rattle.std.proofs.Common.{[], ◌∷◌, refl}
use Rattle.vote_tests.proofs.PackTests.{packable}
use Rattle.vote_tests.proofs.solutions.weights_are_packed.Goals as goal

pub pack-requires : goal.pack-requires
pack-requires g c = rw (c.edge.ensures, c.edge-2.ensures, c.edge-3.ensures) (packable (60 ∷ 40 ∷ []) (1 ∷ 0 ∷ []) _ refl)

pub pack-requires-2 : goal.pack-requires-2
pack-requires-2 g c = rw (c.edge-4.ensures, c.edge-5.ensures) (packable (1000000 ∷ []) (0 ∷ 1 ∷ []) _ refl)
