-- The nominators of the targets, linked or listed.
use Rattle.std.specs.Prelude.{◌≡◌, length}
use Rattle.election_snapshot.specs.Snapshot.{Snapshot}
use Rattle.seat_race.specs.Tables.{AreNominators}
use Rattle.quota_fill.specs.declared.backers.Backers.{Backers}
use Rattle.quota_fill.specs.declared.backers.Backers.TheVariants.{Linked, Listed}
use Rattle.quota_fill.specs.Chains.{AreChains}

abbrev pub AreBackers : Snapshot → Backers → Type 0
AreBackers snapshot (Linked chains) = AreChains snapshot chains
AreBackers snapshot (Listed lists) = (length lists ≡ length snapshot.targets) × AreNominators snapshot lists
