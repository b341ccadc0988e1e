-- The tables of the search for a target that is denied.
use Rattle.std.specs.Prelude.{◌≡◌, ℕ, ◌≤◌, IsTrue, List, length}
use Rattle.election_snapshot.specs.Snapshot.{Snapshot, has}
use Rattle.committee_answer.specs.declared.finding.Search.{Search}
use Rattle.committee_answer.specs.declared.offers.Offers.{Offers}
use Rattle.committee_answer.specs.declared.reach.Way.{Way}
use Rattle.committee_answer.specs.Offers.{at}
use Rattle.committee_answer.specs.Ways.{IsReached, IsReach, IsWhole}

-- there is an entry for each voter, and for each target
pub record AreTables (snapshot : Snapshot) (search : Search) : Type 0 where
  pub left : length search.offers.left.items ≡ length snapshot.voters
  pub spare : length search.offers.spare.items ≡ length snapshot.targets
  pub begins : length search.lists.begins.items ≡ length snapshot.voters
  pub heads : length search.lists.heads.items ≡ length snapshot.targets
  pub voters : length search.reach.voters.items ≡ length snapshot.voters
  pub members : length search.reach.members.items ≡ length snapshot.targets
  pub cursors : length search.cursors.items ≡ length snapshot.targets

-- the price is left, and whoever has something left has no way
pub record IsStuck (price : ℕ) (voters : List ℕ) (offers : Offers) (ways ends : List Way) : Type 0 where
  pub reach : IsReach offers ways ends
  pub whole : IsWhole offers ways ends
  pub nobody : (voter : ℕ) → IsTrue (has voters voter) → IsReached ways voter → at offers.left.items voter ≡ 0
  pub enough : price ≤ offers.rest
