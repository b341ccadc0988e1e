-- Which JSON stands for a bundle, and for which.
use Rattle.std.specs.Prelude.{ℕ, ◌*◌, ◌^◌, ◌==◌, ◌&&◌, nat_le, nat_lt, if◌then◌else◌, List, [], ◌∷◌, length, codes, decimal, Option, Some, None, option_and_then, is_some}
use Rattle.std.specs.Result.{result_ok}
use Rattle.std.specs.Str.{bytes_eq}
use Rattle.std.specs.Str.Parse.{digits_value}
use Rattle.hex.specs.Hex.{decode_of, decode_sized}
use Rattle.serde_json.specs.Data.{Data, Items, no_items, item}
use Rattle.serde_json.specs.Events.{items_len, members_len}
use Rattle.serde_json.specs.Find.{get, at, as_array, as_null, as_number, as_object, as_str, as_u64}
use Rattle.npos_base.specs.Account.{account_of}
use Rattle.npos_base.specs.declared.account.AccountId.{AccountId}
use Rattle.npos_base.specs.declared.figures.Edge.{Edge}
use Rattle.npos_base.specs.declared.figures.Score.{Score}
use Rattle.npos_base.specs.declared.limits.TheConstants.{MOST_SOLUTION_BYTES, MOST_TARGETS, MOST_VOTERS}
use Rattle.block_wire.specs.declared.bundle.Bundle.{Bundle}
use Rattle.block_wire.specs.declared.bundle.BundleVoter.{BundleVoter}
use Rattle.block_wire.specs.declared.bundle.Work.{Work}
use Rattle.block_wire.specs.declared.bundle.Work.TheVariants.{Nothing, Packed, Plain}
use Rattle.bundle_json.specs.declared.limits.TheConstants.{MOST_EDGES, MOST_VOTES}

-- the next step, where there is a value
infixl 10 ◌>>=◌
abbrev pub ◌>>=◌ : {A B : Type 0} → Option A → (A → Option B) → Option B
x >>= f = option_and_then f x

-- ## Numbers and texts

-- A whole number of so many bits. One with a point, an exponent or a minus sign is none.
abbrev pub whole_in : ℕ → Data → Option ℕ
whole_in bits d = do
  x ← as_number d
  n ← as_u64 x
  if nat_lt n (2 ^ bits) then Some n else None

-- the number of 128 bits that the text is in decimal, with no needless leading zero
abbrev pub figure_in : List ℕ → Option ℕ
figure_in text =
    let n = digits_value 10 text in
    if bytes_eq (decimal n) text && nat_lt n (2 ^ 128) then Some n else None

-- 64 hexadecimal digits, of either case
abbrev pub account_from : List ℕ → Option AccountId
account_from text = do
  bytes ← result_ok (decode_sized text 32)
  Some (account_of bytes)

abbrev pub account_in : Data → Option AccountId
account_in d = as_str d >>= account_from

-- two hexadecimal digits for each of the bytes of a solution
abbrev pub solution_from : List ℕ → Option (List ℕ)
solution_from text = if nat_le (length text) (2 * MOST_SOLUTION_BYTES) then result_ok (decode_of text) else None

abbrev pub solution_in : Data → Option (List ℕ)
solution_in d = as_str d >>= solution_from

-- ## Arrays and objects

-- each item as what it stands for, where each stands for something
abbrev pub each : {A : Type 0} → (Data → Option A) → Items → Option (List A)
each read no_items = Some []
each read (item d ds) = do
  x ← read d
  xs ← each read ds
  Some (x ∷ xs)

-- an array of at most so many items
abbrev pub list_in : {A : Type 0} → (Data → Option A) → ℕ → Data → Option (List A)
list_in read most d = do
  items ← as_array d
  if nat_le (items_len items) most then each read items else None

-- the value itself, where it is an array of exactly so many items
abbrev pub with_items : ℕ → Data → Option Data
with_items count d = do
  items ← as_array d
  if items_len items == count then Some d else None

-- the value itself, where it is an object with exactly so many keys
abbrev pub with_keys : ℕ → Data → Option Data
with_keys count d = do
  members ← as_object d
  if members_len members == count then Some d else None

-- ## Bundles

abbrev pub edge_in : Data → Option Edge
edge_in d = do
  array ← with_items 3 d
  voter ← at 0 array >>= whole_in 32
  target ← at 1 array >>= whole_in 16
  amount ← at 2 array >>= whole_in 64
  Some (record { voter = voter; target = target; amount = amount })

abbrev pub claim_in : Data → Option Score
claim_in d = do
  array ← with_items 3 d
  minimal ← at 0 array >>= whole_in 64
  sum ← at 1 array >>= whole_in 64
  text ← at 2 array >>= as_str
  squares ← figure_in text
  Some (record { minimal = minimal; sum = sum; squares = squares })

abbrev pub voter_in : Data → Option BundleVoter
voter_in d = do
  object ← with_keys 3 d
  account ← get (codes "account") object >>= account_in
  stake ← get (codes "stake") object >>= whole_in 64
  votes ← get (codes "votes") object >>= list_in (whole_in 16) MOST_VOTES
  Some (record { account = account; stake = stake; votes = votes })

abbrev pub packed_in : Data → Option Work
packed_in d = do
  object ← with_keys 2 d
  claim ← get (codes "claim") object >>= claim_in
  bytes ← get (codes "solution") object >>= solution_in
  Some (Packed claim bytes)

abbrev pub plain_in : Data → Option Work
plain_in d = do
  object ← with_keys 2 d
  committee ← get (codes "committee") object >>= list_in (whole_in 16) MOST_TARGETS
  edges ← get (codes "edges") object >>= list_in edge_in MOST_EDGES
  Some (Plain committee edges)

-- null, or a solution with its claim, or a committee with its edges
abbrev pub work_in : Data → Option Work
work_in d =
    if is_some (as_null d) then Some Nothing
    else if is_some (get (codes "claim") d) then packed_in d
    else plain_in d

-- The bundle that the value stands for. Of a key that is written twice, a value has the last alone.
abbrev pub bundle_of : Data → Option Bundle
bundle_of d = do
  object ← with_keys 4 d
  seats ← get (codes "seats") object >>= whole_in 32
  targets ← get (codes "targets") object >>= list_in account_in MOST_TARGETS
  voters ← get (codes "voters") object >>= list_in voter_in MOST_VOTERS
  work ← get (codes "work") object >>= work_in
  Some (record { seats = seats; targets = targets; voters = voters; work = work })
