use Rattle.std.proofs.Common.{◌≡◌, ℕ, ◌<◌, ◌≤◌, vec_len, vec_capacity}
use Rattle.voter_lists.specs.Links.{next_of, prev_of}
use Rattle.voter_lists.proofs.rings.Rings.new.Given as goal

abbrev pub invariant-loop-head : goal.invariant-loop-head
invariant-loop-head l =
    (vec_len l.links ≡ l.head) × (l.lists ≤ vec_capacity l.links)
    × ((list : ℕ) → list < l.head → (next_of l.links.items list ≡ list) × (prev_of l.links.items list ≡ list))
