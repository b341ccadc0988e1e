-- What the runtime says of offers over blocks holds of the blocks that a replay takes.
use Rattle.std.proofs.Common.{ℕ, List, Option, Some, None, IfSome}
use Rattle.npos_runtime.specs.Histories.Laws.{NoneCrowdedOutLaw}
use Rattle.npos_cli.specs.Crowding.{NoneIsCrowdedOut}
use Rattle.npos_cli.proofs.BookLaws.{can_take}

pub none_crowded : NoneCrowdedOutLaw → (bytes : List ℕ) → NoneIsCrowdedOut bytes
none_crowded law bytes start place text rest block starts reaches turns =
    law start.state reaches.blocks block (can_take bytes start starts place text reaches)
