-- The nominators of a target, from link to link.
use Rattle.std.specs.Prelude.{◌≡◌, ◌⊎◌, ℕ, ◌+◌, ◌-◌, ◌<◌, ◌≤◌, List, length, filter, Some, slice_get, slice_index_or}
use Rattle.std.specs.List.{range_with_len}
use Rattle.election_snapshot.specs.Snapshot.{Snapshot, nominates, votes_of}
use Rattle.seat_race.specs.Tables.{says}
use Rattle.quota_fill.specs.declared.chains.Link.{Link}
use Rattle.quota_fill.specs.declared.chains.Chains.{Chains}

abbrev pub nowhere : Link
nowhere = record { voter = 65535; place = 0 }

-- the target's nominators from this voter on
abbrev pub nominators_from : Snapshot → ℕ → ℕ → List ℕ
nominators_from snapshot target voter =
    filter (λ other. nominates snapshot other target)
    (range_with_len voter (length snapshot.voters - voter))

-- the link's voter nominates the target at the link's place
abbrev pub IsAt : Snapshot → ℕ → Link → Type 0
IsAt snapshot target link = slice_get (votes_of snapshot link.voter) link.place ≡ Some target

-- the link leads to the first of the target's nominators from this voter on, or nowhere where there is none
pub record Leads (snapshot : Snapshot) (target voter : ℕ) (link : Link) : Type 0 where
  pub at : (link.voter ≡ nowhere.voter) ⊎ IsAt snapshot target link
  pub beyond : voter ≤ link.voter
  pub skips : nominators_from snapshot target voter ≡ nominators_from snapshot target link.voter

-- the nominations of each voter begin where those of the one before it end
pub record AreStarts (snapshot : Snapshot) (starts : List ℕ) : Type 0 where
  pub count : length starts ≡ length snapshot.voters + 1
  pub behind : (voter : ℕ) → voter < length snapshot.voters
      → says starts (voter + 1) ≡ says starts voter + length (votes_of snapshot voter)

-- the nominations of the voters from this one on are linked
pub record AreChained (snapshot : Snapshot) (starts : List ℕ) (voter : ℕ) (firsts nexts : List Link)
    : Type 0 where
  pub firsts_lead : (target : ℕ) → target < length snapshot.targets
      → Leads snapshot target voter (slice_index_or firsts target nowhere)
  pub nexts_lead : (other place target : ℕ) → voter ≤ other
      → slice_get (votes_of snapshot other) place ≡ Some target
      → Leads snapshot target (other + 1) (slice_index_or nexts (says starts other + place) nowhere)

-- all nominations are linked
pub record AreChains (snapshot : Snapshot) (chains : Chains) : Type 0 where
  pub starts_are : AreStarts snapshot chains.starts.items
  pub firsts_size : length chains.firsts.items ≡ length snapshot.targets
  pub nexts_size : length chains.nexts.items ≡ says chains.starts.items (length snapshot.voters)
  pub chained : AreChained snapshot chains.starts.items 0 chains.firsts.items chains.nexts.items
