-- Targets that are picked, from the lowest one on.
use Rattle.std.proofs.Common.{◌≡◌, ℕ, ◌+◌, Bool, true, false, not, cond, List, [], ◌∷◌, ◌++◌, get_or, filter, ap, ap₂, ◌∙◌}
use Rattle.std.specs.List.{range_with_len}
use Rattle.std.proofs.lemmas.List.Elements.{filter-append}
use Rattle.weight_book.proofs.StakeLemmas.{range_more}
use Rattle.seat_race.specs.Tables.{unmarked}

pub none_outside_more : (marks : List Bool) (count : ℕ) → unmarked marks count ≡ [] → get_or marks count false ≡ true
    → unmarked marks (count + 1) ≡ []
none_outside_more marks count none marked =
    ap (filter (λ n. not (get_or marks n false))) (range_more count)
    ∙ filter-append (λ n. not (get_or marks n false)) (range_with_len 0 count) (count ∷ [])
    ∙ ap₂ (λ ns b. ns ++ cond (not b) (count ∷ []) []) none marked
