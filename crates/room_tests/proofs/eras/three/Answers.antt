-- The three exposures are sound.
use Rattle.std.proofs.Common.{◌≡◌, ℕ, [], ◌∷◌, rules, refl, sym, subst, lit≤}
use Rattle.std.proofs.lemmas.List.Elements.{All-nil, All-cons}
use Rattle.std.specs.List.{IsDistinct}
use Rattle.npos_base.specs.declared.account.AccountId.{AccountId}
use Rattle.era_book.specs.declared.exposure.Exposure.{Exposure}
use Rattle.era_book.specs.Exposures.{IsSoundExposure, AreSound}
use Rattle.room_tests.proofs.eras.three.Goals as goal

abbrev at : ℕ → AccountId
at n = record { hi = 0; lo = n }

abbrev first : Exposure
first = record { validator = at 1; commission = 100000000; support = 90; backers = record { who = at 1; amount = 50 } ∷ record { who = at 2; amount = 40 } ∷ [] }

abbrev second : Exposure
second = record { validator = at 3; commission = 0; support = 55; backers = record { who = at 4; amount = 55 } ∷ [] }

abbrev third : Exposure
third = record { validator = at 5; commission = 500000000; support = 0; backers = [] }

three_sound : AreSound (first ∷ second ∷ third ∷ [])
unfolding IsDistinct
three_sound =
    record {
      each =
          All-cons IsSoundExposure first (second ∷ third ∷ []) (record { commission = lit≤ tt; support = refl; distinct = ((refl, tt), (tt, tt)) })
          (All-cons IsSoundExposure second (third ∷ []) (record { commission = lit≤ tt; support = refl; distinct = (tt, tt) })
          (All-cons IsSoundExposure third [] (record { commission = lit≤ tt; support = refl; distinct = tt }) (All-nil IsSoundExposure)));
      distinct = ((refl, (refl, tt)), ((refl, tt), (tt, tt)));
    }

pub returns : goal.returns
returns c =
    let same : c.from_vec.result ≡ first ∷ second ∷ third ∷ [] = search rules in
    subst AreSound (sym same) three_sound
