-- Histories one after the other.
use Rattle.std.proofs.Common.{◌≡◌, ℕ, ◌+◌, List, [], ◌∷◌, ◌++◌, refl, ap, arith}
use Rattle.era_book.specs.declared.exposure.Exposure.{Exposure}
use Rattle.era_book.specs.Eras.{Eras}
use Rattle.era_book.specs.Events.{Event, Started, Pointed, Paid, Reported, Queued, Cancelled, Taken, AreAccepted, after, after_all, given_by, begun}

pub accepted_append : (first second : List Event) (eras : Eras) → AreAccepted first eras → AreAccepted second (after_all first eras) → AreAccepted (first ++ second) eras
accepted_append [] second eras here there = there
accepted_append (event ∷ more) second eras here there = (here.0, accepted_append more second (after event eras) here.1 there)

pub accepted_first : (first second : List Event) (eras : Eras) → AreAccepted (first ++ second) eras → AreAccepted first eras
accepted_first [] second eras all = tt
accepted_first (event ∷ more) second eras all = (all.0, accepted_first more second (after event eras) all.1)

pub accepted_second : (first second : List Event) (eras : Eras) → AreAccepted (first ++ second) eras → AreAccepted second (after_all first eras)
accepted_second [] second eras all = all
accepted_second (event ∷ more) second eras all = accepted_second more second (after event eras) all.1

pub after_append : (first second : List Event) (eras : Eras) → after_all (first ++ second) eras ≡ after_all second (after_all first eras)
after_append [] second eras = refl
after_append (event ∷ more) second eras = after_append more second (after event eras)

pub given_append : (gives : Event → Eras → ℕ) (first second : List Event) (eras : Eras)
    → given_by gives (first ++ second) eras ≡ given_by gives first eras + given_by gives second (after_all first eras)
given_append gives [] second eras = omega arith
given_append gives (event ∷ more) second eras = omega (arith, given_append gives more second (after event eras))

pub begun_append : (first second : List Event) → begun (first ++ second) ≡ begun first ++ begun second
begun_append [] second = refl
begun_append (Started exposures ∷ more) second = ap (λ (rest : List (List Exposure)). exposures ∷ rest) (begun_append more second)
begun_append (Pointed items ∷ more) second = begun_append more second
begun_append (Paid era who ∷ more) second = begun_append more second
begun_append (Reported era who fraction ∷ more) second = begun_append more second
begun_append (Queued due lines ∷ more) second = begun_append more second
begun_append (Cancelled number ∷ more) second = begun_append more second
begun_append (Taken ∷ more) second = begun_append more second
