-- The exposures of a committee: what stands behind each of its members from the start of its era on.
use Rattle.std.specs.Prelude.{ℕ, List, [], length, map, Option, Some, None}
use Rattle.std.specs.List.{range_with_len}
use Rattle.npos_base.specs.declared.account.AccountId.{AccountId}
use Rattle.npos_base.specs.declared.figures.Edge.{Edge}
use Rattle.election_snapshot.specs.Draft.{accounts_of}
use Rattle.weight_book.specs.Weights.{support}
use Rattle.era_book.specs.declared.exposure.Exposure.{Exposure}
use Rattle.era_book.specs.Committee.{edges_by_voter, exposure_of}
use Rattle.npos_runtime.specs.Rules.Committee.{Committee}

-- the accounts of the voters, in their order
abbrev pub voters_in : Committee → List AccountId
voters_in committee = accounts_of committee.snapshot.voters

-- the supports of all targets, in their order
abbrev pub supports_in : Committee → List ℕ
supports_in committee =
    map (support committee.weights.edges) (range_with_len 0 (length committee.snapshot.targets))

-- the edges in the order of the voters
abbrev pub edges_in : Committee → List Edge
edges_in committee = edges_by_voter (length (voters_in committee)) committee.weights.edges

-- The members by rising position, each with the commission that was noted and with its support. Its
-- backers are those who give to it: the member itself first, then the others in the order of the voters.
abbrev pub exposures_of : Committee → List Exposure
exposures_of committee =
    map (exposure_of committee.snapshot.targets committee.commissions (supports_in committee)
    (voters_in committee) (edges_in committee)) committee.weights.committee

-- where nobody waited, nobody is exposed
abbrev pub exposed : Option Committee → List Exposure
exposed None = []
exposed (Some committee) = exposures_of committee
