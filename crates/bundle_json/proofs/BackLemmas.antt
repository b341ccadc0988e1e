-- What a bundle in range is written as stands for that bundle.
use Rattle.std.proofs.Common.{◌≡◌, ℕ, suc, ◌^◌, ◌*◌, ◌<◌, ◌≤◌, List, [], ◌∷◌, length, map, Option, Some, decimal, refl, ap, arith, lt-ltb, le-leb}
use Rattle.std.specs.List.{AllByRecursion}
use Rattle.std.proofs.lemmas.Slice.Eq.{bytes_eq-Decides}
use Rattle.hex.specs.Hex.{encode_lower, lower_digits}
use Rattle.hex.proofs.HexLemmas.{decode_sized-encode_lower, decode_of-encode_lower, length-encode_with}
use Rattle.serde_json.specs.Data.{Data, string}
use Rattle.serde_json.specs.Events.{items_len}
use Rattle.serde_json.specs.View.{items_of}
use Rattle.npos_base.specs.Account.{account_bytes}
use Rattle.npos_base.specs.declared.account.AccountId.{AccountId}
use Rattle.npos_base.specs.declared.figures.Edge.{Edge}
use Rattle.npos_base.specs.declared.figures.Score.{Score}
use Rattle.npos_base.specs.declared.limits.TheConstants.{MOST_SOLUTION_BYTES, MOST_TARGETS, MOST_VOTERS}
use Rattle.npos_base.proofs.AccountBytes.{account_kept}
use Rattle.scale_wire.specs.Form.{IsBytes}
use Rattle.scale_wire.specs.Parts.{account_form}
use Rattle.scale_wire.specs.Values.{edge_form, score_form}
use Rattle.block_wire.specs.Bundles.{voter_form, work_form, bundle_form}
use Rattle.block_wire.specs.declared.bundle.Bundle.{Bundle}
use Rattle.block_wire.specs.declared.bundle.BundleVoter.{BundleVoter}
use Rattle.block_wire.specs.declared.bundle.Work.{Work}
use Rattle.block_wire.specs.declared.bundle.Work.TheVariants.{Nothing, Packed, Plain}
use Rattle.bundle_json.specs.declared.limits.TheConstants.{MOST_EDGES, MOST_VOTES}
use Rattle.bundle_json.specs.Json.{whole_json, list_json, account_json, edge_json, claim_json, voter_json, work_json, json_of}
use Rattle.bundle_json.specs.Shape.{whole_in, figure_in, account_in, solution_in, each, list_in, edge_in, claim_in, voter_in, work_in, bundle_of}
use Rattle.bundle_json.proofs.Figures.{figure_read}
use Rattle.bundle_json.proofs.Bytes.{hex_bytes, account_are_bytes, account_long}

-- ## Numbers and texts

pub whole_back : (bits n : ℕ) → n < 2 ^ bits → whole_in bits (whole_json n) ≡ Some n
whole_back bits n h = rw (lt-ltb n (2 ^ bits) h)

pub figure_back : (n : ℕ) → n < 2 ^ 128 → figure_in (decimal n) ≡ Some n
figure_back n h = figure_read (decimal n) n h ((bytes_eq-Decides (decimal n) (decimal n)).1 refl)

pub account_back : (account : AccountId) → account_form.in_range account → account_in (account_json account) ≡ Some account
account_back account fits =
    let bytes = account_bytes account in
    rw (decode_sized-encode_lower bytes 32 (account_long account) (hex_bytes bytes (account_are_bytes account)))
    (ap Some (account_kept account fits.0 fits.1))

pub solution_back : (bytes : List ℕ) → length bytes ≤ MOST_SOLUTION_BYTES → IsBytes bytes → solution_in (string (encode_lower bytes)) ≡ Some bytes
solution_back bytes short are_bytes =
    let fits : length (encode_lower bytes) ≤ 2 * MOST_SOLUTION_BYTES = omega (arith, length-encode_with lower_digits bytes) in
    rw (le-leb _ _ fits, decode_of-encode_lower bytes (hex_bytes bytes are_bytes))

-- ## Arrays

module _ {A : Type 0} (json : A → Data) (read : Data → Option A) (P : A → Type 0) (back : (x : A) → P x → read (json x) ≡ Some x) where
  each_back : (xs : List A) → AllByRecursion P xs → each read (items_of (map json xs)) ≡ Some xs
  each_back [] h = refl
  each_back (x ∷ xs) h = rw (back x h.0, each_back xs h.1)

  items_len_of : (ds : List Data) → items_len (items_of ds) ≡ length ds
  items_len_of [] = refl
  items_len_of (d ∷ ds) = ap suc (items_len_of ds)

  length_map : (xs : List A) → length (map json xs) ≡ length xs
  length_map [] = refl
  length_map (x ∷ xs) = ap suc (length_map xs)

  pub list_back : (xs : List A) (most : ℕ) → length xs ≤ most → AllByRecursion P xs → list_in read most (list_json json xs) ≡ Some xs
  list_back xs most short h =
      let fits : items_len (items_of (map json xs)) ≤ most = omega (arith, items_len_of (map json xs), length_map xs) in
      rw (le-leb _ _ fits) (each_back xs h)

-- ## Bundles

pub edge_back : (edge : Edge) → edge_form.in_range edge → edge_in (edge_json edge) ≡ Some edge
edge_back edge h = rw (lt-ltb _ _ h.0, lt-ltb _ _ h.1, lt-ltb _ _ h.2)

pub claim_back : (claim : Score) → score_form.in_range claim → claim_in (claim_json claim) ≡ Some claim
claim_back claim h = rw (lt-ltb _ _ h.0, lt-ltb _ _ h.1, figure_back claim.squares h.2)

pub voter_back : (voter : BundleVoter) → voter_form.in_range voter → voter_in (voter_json voter) ≡ Some voter
voter_back voter h =
    rw (
      account_back voter.account h.0,
      whole_back 64 voter.stake h.1,
      list_back whole_json (whole_in 16) (λ n. n < 2 ^ 16) (whole_back 16) voter.votes MOST_VOTES h.2.0 h.2.1,
    )

pub work_back : (work : Work) → work_form.in_range work → work_in (work_json work) ≡ Some work
work_back Nothing h = refl
work_back (Packed claim bytes) h = rw (claim_back claim h.0, solution_back bytes h.1.0 h.1.1)
work_back (Plain committee edges) h =
    rw (
      list_back whole_json (whole_in 16) (λ n. n < 2 ^ 16) (whole_back 16) committee MOST_TARGETS h.0.0 h.0.1,
      list_back edge_json edge_in edge_form.in_range edge_back edges MOST_EDGES h.1.0 h.1.1,
    )

pub bundle_back : (bundle : Bundle) → bundle_form.in_range bundle → bundle_of (json_of bundle) ≡ Some bundle
bundle_back bundle h =
    rw (
      whole_back 32 bundle.seats h.0,
      list_back account_json account_in account_form.in_range account_back bundle.targets MOST_TARGETS h.1.0.0 h.1.0.1,
      list_back voter_json voter_in voter_form.in_range voter_back bundle.voters MOST_VOTERS h.1.1.0 h.1.1.1,
      work_back bundle.work h.1.2,
    )
