use Rattle.std.proofs.Common.{◌≡◌, take}
use Rattle.account_places.specs.Places.{by_account}
use Rattle.account_places.proofs.places.Places.by_account.Given as goal

-- so many accounts have their places
abbrev pub invariant-loop-place : goal.invariant-loop-place
invariant-loop-place l = l.places.entries ≡ by_account (take l.place l.self)
