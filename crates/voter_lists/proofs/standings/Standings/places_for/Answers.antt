-- One more target has its place.
use Rattle.std.proofs.Common.{◌≡◌, ◌∙◌, ◌∷◌, [], length, Some, slice_get, ap, sym, arith, length-append}
use Rattle.std.proofs.lemmas.Option.{get_or_from_slice_get}
use Rattle.account_places.proofs.StandLemmas.{slice_cases}
use Rattle.voter_lists.proofs.standings.Standings.places_for.Goals as goal

pub loop-target-preserved : goal.loop-target-preserved
loop-target-preserved c = record {
  count = omega (arith, ap length c.in_ok-put.ensures.ok, length-append c.loop-target.places (c.in_ok-place.place ∷ []), c.loop-target.invariant.count);
  each = λ i place target there named. slice_cases c.loop-target.places c.in_ok-place.place i place (ap (λ places. slice_get places i) (sym c.in_ok-put.ensures.ok) ∙ there)
      (slice_get c.place_for.new.self.accounts place ≡ Some target)
      (λ before. c.place_for.ensures.kept place target (c.loop-target.invariant.each i place target before named))
      (λ same at. ap (slice_get c.place_for.new.self.accounts) same ∙ c.in_ok-place.ensures.there
      ∙ ap (λ a. Some a) (get_or_from_slice_get c.args.targets.now c.loop-target.target-index target (record { hi = 0; lo = 0 })
      (ap (slice_get c.args.targets.now) (sym (at ∙ c.loop-target.invariant.count)) ∙ named)));
  kept = λ place who there. c.place_for.ensures.kept place who (c.loop-target.invariant.kept place who there);
  roles = c.place_for.ensures.roles ∙ c.loop-target.invariant.roles;
}
