use Rattle.std.proofs.Common.{◌≡◌, ℕ, length, Some, slice_get}
use Rattle.npos_base.specs.declared.account.AccountId.{AccountId}
use Rattle.voter_lists.specs.Marks.{KeepPlaces}
use Rattle.voter_lists.proofs.standings.Standings.places_for.Given as goal

-- the targets so far have these places
abbrev pub invariant-loop-target : goal.invariant-loop-target
invariant-loop-target l = record {
  count : length l.places ≡ l.target-index;
  each : (i place : ℕ) (target : AccountId) → slice_get l.places i ≡ Some place → slice_get l.targets i ≡ Some target → slice_get l.self.accounts place ≡ Some target;
  kept : KeepPlaces l.fn.self.accounts l.self.accounts;
  roles : l.self.roles ≡ l.fn.self.roles;
}
