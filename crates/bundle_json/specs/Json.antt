-- What a bundle is in JSON: the value that it is written as.
use Rattle.std.specs.Prelude.{ℕ, List, [], ◌∷◌, map, codes, decimal}
use Rattle.hex.specs.Hex.{encode_lower}
use Rattle.serde_json.specs.Data.{unsigned, Data, null, number, string, array, object, Members, no_members, member}
use Rattle.serde_json.specs.View.{items_of}
use Rattle.npos_base.specs.Account.{account_bytes}
use Rattle.npos_base.specs.declared.account.AccountId.{AccountId}
use Rattle.npos_base.specs.declared.figures.Edge.{Edge}
use Rattle.npos_base.specs.declared.figures.Score.{Score}
use Rattle.block_wire.specs.declared.bundle.Bundle.{Bundle}
use Rattle.block_wire.specs.declared.bundle.BundleVoter.{BundleVoter}
use Rattle.block_wire.specs.declared.bundle.Work.{Work}
use Rattle.block_wire.specs.declared.bundle.Work.TheVariants.{Nothing, Packed, Plain}

-- ## Arrays and objects

abbrev pub array_of : List Data → Data
array_of items = array (items_of items)

abbrev pub list_json : {A : Type 0} → (A → Data) → List A → Data
list_json json xs = array_of (map json xs)

abbrev pub members_of : List (List ℕ × Data) → Members
members_of [] = no_members
members_of (m ∷ ms) = member m.0 m.1 (members_of ms)

-- the object with these keys, which rise, and their values
abbrev pub object_of : List (List ℕ × Data) → Data
object_of ms = object (members_of ms)

-- ## Parts

abbrev pub whole_json : ℕ → Data
whole_json n = number (unsigned n)

-- 64 hexadecimal digits, in lower case
abbrev pub account_json : AccountId → Data
account_json account = string (encode_lower (account_bytes account))

abbrev pub edge_json : Edge → Data
edge_json edge = array_of (whole_json edge.voter ∷ whole_json edge.target ∷ whole_json edge.amount ∷ [])

-- the squares pass the numbers of JSON, so they are a text
abbrev pub claim_json : Score → Data
claim_json claim =
    array_of (whole_json claim.minimal ∷ whole_json claim.sum ∷ string (decimal claim.squares) ∷ [])

-- ## Bundles

abbrev pub voter_json : BundleVoter → Data
voter_json voter = object_of (
    (codes "account", account_json voter.account)
    ∷ (codes "stake", whole_json voter.stake)
    ∷ (codes "votes", list_json whole_json voter.votes)
    ∷ [])

abbrev pub work_json : Work → Data
work_json Nothing = null
work_json (Packed claim bytes) =
    object_of ((codes "claim", claim_json claim) ∷ (codes "solution", string (encode_lower bytes)) ∷ [])
work_json (Plain committee edges) =
    object_of ((codes "committee", list_json whole_json committee)
    ∷ (codes "edges", list_json edge_json edges) ∷ [])

abbrev pub json_of : Bundle → Data
json_of bundle = object_of (
    (codes "seats", whole_json bundle.seats)
    ∷ (codes "targets", list_json account_json bundle.targets)
    ∷ (codes "voters", list_json voter_json bundle.voters)
    ∷ (codes "work", work_json bundle.work)
    ∷ [])
