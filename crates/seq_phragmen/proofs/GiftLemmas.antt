-- The tables at the end tell what each rise gives.
use Rattle.std.proofs.Common.{◌≡◌, ℕ, ◌-◌, ◌<◌, ◌≤◌, nat_lt, List, [], ◌∷◌, length, map, filter, inl, inr, refl, ap, ap₂, subst, ◌∙◌, arith}
use Rattle.npos_base.specs.declared.figures.Edge.{Edge}
use Rattle.election_snapshot.specs.Snapshot.{Snapshot, stake_of}
use Rattle.seq_phragmen.specs.declared.rise.Rise.{Rise}
use Rattle.seat_race.specs.Giving.{edge_along}
use Rattle.seq_phragmen.specs.Mined.{load_after, given}
use Rattle.seat_race.specs.Tables.{says}
use Rattle.seq_phragmen.specs.Kept.{rises_after, last_after, earlier_parts, gift_edge, gifts_of, gifts_after, CanSplit}
use Rattle.seat_race.proofs.InLemmas.{In, all_in}
use Rattle.seq_phragmen.proofs.PickLemmas.{AreRun}
use Rattle.seq_phragmen.proofs.LoadLemmas.{load_some}
use Rattle.seq_phragmen.proofs.SplitLemmas.{IsNote, note_is, earlier, earlier_within, gift_is}

map_agree : {X Y : Type 0} (f g : X → Y) (xs : List X) → ((x : X) → In xs x → f x ≡ g x) → map f xs ≡ map g xs
map_agree f g [] h = refl
map_agree f g (x ∷ xs) h = ap₂ (λ y ys. y ∷ ys) (h x (inl refl)) (map_agree f g xs (λ y i. h y (inr i)))

module _ (snapshot : Snapshot) (picks : List ℕ) (run : AreRun snapshot picks) (loads lasts : List ℕ) (rises : List Rise)
    (loads_are : (voter : ℕ) → says loads voter ≡ load_after snapshot picks voter) (lasts_are : (voter : ℕ) → says lasts voter ≡ last_after snapshot picks voter)
    (rises_are : rises ≡ rises_after snapshot picks) where
  note_of : (note : Rise) → In rises note → IsNote snapshot picks note
  note_of note h = note_is snapshot picks run note (subst (λ rs. In rs note) rises_are h)

  pub can_split : CanSplit snapshot (says loads) rises
  can_split = record {
    in_range = all_in (λ rise. rise.voter < length snapshot.voters) rises (λ note h. (note_of note h).voter_in_range);
    loaded = all_in (λ rise. 0 < says loads rise.voter) rises
        (λ note h. omega (arith, loads_are note.voter, load_some snapshot picks note.voter note.target (note_of note h).member (note_of note h).nominated));
    within = all_in (λ rise. rise.height ≤ says loads rise.voter) rises (λ note h. omega (arith, loads_are note.voter, (note_of note h).within));
  }

  earlier_is : (voter : ℕ) → earlier_parts snapshot (says loads voter) (says lasts voter) rises voter ≡ earlier snapshot picks voter
  earlier_is voter = ap (λ n. earlier_parts snapshot n (says lasts voter) rises voter) (loads_are voter)
      ∙ ap (λ n. earlier_parts snapshot (load_after snapshot picks voter) n rises voter) (lasts_are voter)
      ∙ ap (λ rs. earlier_parts snapshot (load_after snapshot picks voter) (last_after snapshot picks voter) rs voter) rises_are

  pub parts_enough : (voter : ℕ) → voter < length snapshot.voters → earlier_parts snapshot (says loads voter) (says lasts voter) rises voter ≤ stake_of snapshot voter
  parts_enough voter h = omega (arith, earlier_is voter, earlier_within snapshot picks run voter h)

  pub gifts_are : (left : List ℕ) → ((voter : ℕ) → says left voter ≡ stake_of snapshot voter - earlier_parts snapshot (says loads voter) (says lasts voter) rises voter)
      → gifts_of snapshot (says loads) (says lasts) (says left) rises ≡ gifts_after snapshot picks
  gifts_are left left_is =
      ap (λ (load : ℕ → ℕ). gifts_of snapshot load (says lasts) (says left) rises) load_path
      ∙ ap (λ (last : ℕ → ℕ). gifts_of snapshot (load_after snapshot picks) last (says left) rises) last_path
      ∙ ap (λ (rest : ℕ → ℕ). gifts_of snapshot (load_after snapshot picks) (last_after snapshot picks) rest rises) rest_path
      ∙ ap (λ rs. gifts_of snapshot (load_after snapshot picks) (last_after snapshot picks) (λ voter. stake_of snapshot voter - earlier snapshot picks voter) rs) rises_are
      ∙ ap (filter (λ (edge : Edge). nat_lt 0 edge.amount))
      (map_agree (gift_edge snapshot (load_after snapshot picks) (last_after snapshot picks)
      (λ voter. stake_of snapshot voter - earlier snapshot picks voter))
      (λ note. edge_along (given snapshot picks) note.voter note.target) (rises_after snapshot picks) (λ note h. ap (edge_with note) (gift_is snapshot picks run note h)))
    where
      load_path : says loads ≡ load_after snapshot picks
      load_path = λ i voter. loads_are voter i

      last_path : says lasts ≡ last_after snapshot picks
      last_path = λ i voter. lasts_are voter i

      left_at : (voter : ℕ) → says left voter ≡ stake_of snapshot voter - earlier snapshot picks voter
      left_at voter = left_is voter ∙ ap (λ n. stake_of snapshot voter - n) (earlier_is voter)

      rest_path : says left ≡ (λ voter. stake_of snapshot voter - earlier snapshot picks voter)
      rest_path = λ i voter. left_at voter i

      edge_with : Rise → ℕ → Edge
      edge_with note n = record { voter = note.voter; target = note.target; amount = n }
