-- What is known of all that was seen is owed for all that was left.
use Rattle.std.proofs.Common.{◌≡◌, ◌⊎◌, inl, inr, ℕ, Bool, true, false, List, [], ◌++◌, Option, Some, None, refl, sym, ◌∙◌, subst, true≢false}
use Rattle.run_edges.specs.Replay.{Machine}
use Rattle.run_edges.specs.Owed.{LeftAfter, IsAll, IsDrained, Replays, FindsReplay, ReplayOwes}
use Rattle.run_edges.specs.Ahead.{MayFollow, HasSeen}
use Rattle.run_edges.specs.declared.status.Status.{Status}
use Rattle.run_edges.specs.Status.{replay_status}

-- what is the replay of all that was seen, whatever may follow, is that of all that was left
pub found : {G B S E : Type 0} (m : Machine G B S E) (left now : Option (List ℕ)) (seen told : List ℕ) (ended faulty : Bool) → HasSeen left now seen false ended
    → ((more : List ℕ) → MayFollow ended more → Replays m (seen ++ more) told faulty) → (faulty ≡ false → ended ≡ true) → FindsReplay m left now told faulty
found m left now seen told ended faulty has_seen replays ends = on left has_seen.taken has_seen.at_end where
  drained : (left : Option (List ℕ)) → ((false ≡ true) × (now ≡ left)) ⊎ IsDrained left now → IsDrained left now
  drained left (inl never) = absurd (true≢false (sym never.0))
  drained left (inr end) = end

  on : (left : Option (List ℕ)) → LeftAfter left now seen → (ended ≡ true → ((false ≡ true) × (now ≡ left)) ⊎ IsDrained left now) → FindsReplay m left now told faulty
  on None taken at_end = (seen ++ [], tt, replays [] (λ _. refl), λ _. tt)
  on (Some all) taken at_end = (
    all,
    refl,
    subst (λ (bytes : List ℕ). Replays m bytes told faulty) (sym taken.2)
        (replays taken.0 (λ end. let e : Some taken.0 ≡ Some [] = sym taken.1 ∙ drained (Some all) (at_end end) in cc)),
    λ sound. drained (Some all) (at_end (ends sound)),
  )

-- and it is owed
pub finds_for : {G B S E : Type 0} (m : Machine G B S E) (left now : Option (List ℕ)) (text : List ℕ) (faulty : Bool) (status : Status) → FindsReplay m left now text faulty
    → status ≡ replay_status faulty → (bytes : List ℕ) × IsAll left bytes × ReplayOwes m bytes text status
finds_for m left now text faulty status finds is =
    (finds.0, finds.1, (record { text = text; faulty = faulty; seated = finds.2.0; last = finds.2.1 }, finds.2.2, refl, is))
