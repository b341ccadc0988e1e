use Rattle.std.proofs.Common.{◌≡◌, [], map}
use Rattle.std.specs.List.{range_with_len}
use Rattle.compact_solution.proofs.listing.no_groups.Given as goal

-- as many as iterations
abbrev pub invariant-loop : goal.invariant-loop
invariant-loop l = l.groups.items ≡ map (λ group. []) (range_with_len 0 l.counter)
