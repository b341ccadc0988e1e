-- A bundle that JSON stands for is in range.
use Rattle.std.proofs.Common.{◌≡◌, ◌⊎◌, ℕ, suc, ◌^◌, ◌*◌, ◌<◌, ◌≤◌, ◌&&◌, Bool, true, false, cond, List, [], ◌∷◌, length, Option, Some, None}
use Rattle.std.proofs.Common.{Result, Ok, Err, option_and_then, decimal, inl, inr, refl, sym, ap, ◌∙◌, subst, arith, ltb-true, leb-true}
use Rattle.std.specs.List.{AllByRecursion}
use Rattle.std.specs.Result.{result_ok}
use Rattle.std.specs.Str.{bytes_eq}
use Rattle.std.specs.Str.Parse.{digits_value}
use Rattle.std.specs.Prelude.{nat_lt, nat_le, codes, is_some}
use Rattle.std.proofs.lemmas.Bool.{and_parts}
use Rattle.std.proofs.lemmas.Option.{same_Some}
use Rattle.hex.specs.Hex.{decode_of, decode_sized}
use Rattle.hex.proofs.HexLemmas.{decode_sized-ok, decode_sized-twice, decode_of-ok}
use Rattle.serde_json.specs.Data.{Data, Items, no_items, item}
use Rattle.serde_json.specs.Events.{items_len}
use Rattle.serde_json.specs.Find.{get, at, as_array, as_null, as_number, as_str, as_u64}
use Rattle.npos_base.specs.declared.account.AccountId.{AccountId}
use Rattle.npos_base.specs.declared.figures.Edge.{Edge}
use Rattle.npos_base.specs.declared.figures.Score.{Score}
use Rattle.npos_base.specs.declared.limits.TheConstants.{MOST_SOLUTION_BYTES, MOST_TARGETS, MOST_VOTERS}
use Rattle.scale_wire.specs.AccountLaws.{account_is}
use Rattle.scale_wire.specs.Form.{IsBytes}
use Rattle.scale_wire.specs.Parts.{account_form}
use Rattle.scale_wire.specs.Values.{edge_form, score_form}
use Rattle.block_wire.specs.Bundles.{voter_form, work_form, bundle_form}
use Rattle.block_wire.specs.declared.bundle.Bundle.{Bundle}
use Rattle.block_wire.specs.declared.bundle.BundleVoter.{BundleVoter}
use Rattle.block_wire.specs.declared.bundle.Work.{Work}
use Rattle.block_wire.specs.declared.bundle.Work.TheVariants.{Nothing}
use Rattle.bundle_json.specs.declared.limits.TheConstants.{MOST_EDGES, MOST_VOTES}
use Rattle.bundle_json.specs.Shape.{whole_in, figure_in, account_in, solution_in, each, list_in, with_items, with_keys, edge_in, claim_in, voter_in, packed_in, plain_in, work_in, bundle_of}
use Rattle.bundle_json.proofs.Bytes.{wire_bytes}

-- ## Steps

-- the value of a step that was taken
step : {A B : Type 0} (f : A → Option B) (o : Option A) (y : B) → option_and_then f o ≡ Some y → (x : A) × (o ≡ Some x) × (f x ≡ Some y)
step f None y h = absurd (cc)
step f (Some x) y h = (x, refl, h)

-- what a step keeps of every value holds of its value
through : {A B : Type 0} (P : B → Type 0) (f : A → Option B) (sound : (x : A) (y : B) → f x ≡ Some y → P y) (o : Option A) (y : B) → option_and_then f o ≡ Some y → P y
through P f sound o y h = let s = step f o y h in sound s.0 y s.2

guarded : {A : Type 0} (b : Bool) (o : Option A) (y : A) → cond b o None ≡ Some y → (b ≡ true) × (o ≡ Some y)
guarded true o y h = (refl, h)
guarded false o y h = absurd (cc)

either : {A : Type 0} (b : Bool) (o p : Option A) (y : A) → cond b o p ≡ Some y → (o ≡ Some y) ⊎ (p ≡ Some y)
either true o p y h = inl h
either false o p y h = inr h

is_ok : {A E : Type 0} (r : Result A E) (x : A) → result_ok r ≡ Some x → r ≡ Ok x
is_ok (Ok y) x h = ap Ok (same_Some y x h)
is_ok (Err e) x h = absurd (cc)

-- ## Numbers and texts

pub whole_range : (bits : ℕ) (d : Data) (n : ℕ) → whole_in bits d ≡ Some n → n < 2 ^ bits
whole_range bits d n h =
    let s = step _ (as_number d) n h in
    let t = step _ (as_u64 s.0) n s.2 in
    let g = guarded (nat_lt t.0 (2 ^ bits)) (Some t.0) n t.2 in
    subst (λ m. m < 2 ^ bits) (same_Some t.0 n g.1) (ltb-true t.0 (2 ^ bits) g.0)

figure_range : (text : List ℕ) (n : ℕ) → figure_in text ≡ Some n → n < 2 ^ 128
figure_range text n h =
    let m = digits_value 10 text in
    let g = guarded (bytes_eq (decimal m) text && nat_lt m (2 ^ 128)) (Some m) n h in
    subst (λ k. k < 2 ^ 128) (same_Some m n g.1) (ltb-true m (2 ^ 128) (and_parts (bytes_eq (decimal m) text) (nat_lt m (2 ^ 128)) g.0).1)

account_range : (d : Data) (account : AccountId) → account_in d ≡ Some account → account_form.in_range account
account_range d account h =
    let s = step _ (as_str d) account h in
    let t = step _ (result_ok (decode_sized s.0 32)) account s.2 in
    let ok : decode_sized s.0 32 ≡ Ok t.0 = is_ok (decode_sized s.0 32) t.0 t.1 in
    let long : length s.0 ≡ 2 * 32 = decode_sized-ok s.0 32 t.0 ok in
    let whole = decode_of-ok s.0 t.0 (sym (decode_sized-twice s.0 32 long) ∙ ok) in
    subst account_form.in_range (same_Some _ account t.2) (account_is t.0 (omega (arith, long, whole.2)) (wire_bytes t.0 whole.3)).0

solution_range : (d : Data) (bytes : List ℕ) → solution_in d ≡ Some bytes → (length bytes ≤ MOST_SOLUTION_BYTES) × IsBytes bytes
solution_range d bytes h =
    let s = step _ (as_str d) bytes h in
    let g = guarded (nat_le (length s.0) (2 * MOST_SOLUTION_BYTES)) (result_ok (decode_of s.0)) bytes s.2 in
    let whole = decode_of-ok s.0 bytes (is_ok (decode_of s.0) bytes g.1) in
    let short : length s.0 ≤ 2 * MOST_SOLUTION_BYTES = leb-true (length s.0) (2 * MOST_SOLUTION_BYTES) g.0 in
    (omega (arith, short, whole.2), wire_bytes bytes whole.3)

-- ## Arrays

module _ {A : Type 0} (read : Data → Option A) (P : A → Type 0) (sound : (d : Data) (x : A) → read d ≡ Some x → P x) where
  each_range : (ds : Items) (xs : List A) → each read ds ≡ Some xs → (length xs ≡ items_len ds) × AllByRecursion P xs
  each_range no_items xs h = subst (λ ys. (length ys ≡ 0) × AllByRecursion P ys) (same_Some [] xs h) (refl, tt)
  each_range (item d ds) xs h =
      let s = step _ (read d) xs h in
      let t = step _ (each read ds) xs s.2 in
      let rest = each_range ds t.0 t.1 in
      subst (λ ys. (length ys ≡ suc (items_len ds)) × AllByRecursion P ys) (same_Some (s.0 ∷ t.0) xs t.2) (ap suc rest.0, (sound d s.0 s.1, rest.1))

  pub list_range : (most : ℕ) (d : Data) (xs : List A) → list_in read most d ≡ Some xs → (length xs ≤ most) × AllByRecursion P xs
  list_range most d xs h =
      let s = step _ (as_array d) xs h in
      let g = guarded (nat_le (items_len s.0) most) (each read s.0) xs s.2 in
      let all = each_range s.0 xs g.1 in
      let short : items_len s.0 ≤ most = leb-true (items_len s.0) most g.0 in
      (omega (arith, short, all.0), all.1)

-- ## Bundles

edge_range : (d : Data) (edge : Edge) → edge_in d ≡ Some edge → edge_form.in_range edge
edge_range d edge h =
    let s = step _ (with_items 3 d) edge h in
    let voter = step _ (option_and_then (whole_in 32) (at 0 s.0)) edge s.2 in
    let target = step _ (option_and_then (whole_in 16) (at 1 s.0)) edge voter.2 in
    let amount = step _ (option_and_then (whole_in 64) (at 2 s.0)) edge target.2 in
    subst edge_form.in_range (same_Some _ edge amount.2) (
      through (λ n. n < 2 ^ 32) (whole_in 32) (whole_range 32) (at 0 s.0) voter.0 voter.1,
      through (λ n. n < 2 ^ 16) (whole_in 16) (whole_range 16) (at 1 s.0) target.0 target.1,
      through (λ n. n < 2 ^ 64) (whole_in 64) (whole_range 64) (at 2 s.0) amount.0 amount.1,
    )

claim_range : (d : Data) (claim : Score) → claim_in d ≡ Some claim → score_form.in_range claim
claim_range d claim h =
    let s = step _ (with_items 3 d) claim h in
    let minimal = step _ (option_and_then (whole_in 64) (at 0 s.0)) claim s.2 in
    let sum = step _ (option_and_then (whole_in 64) (at 1 s.0)) claim minimal.2 in
    let text = step _ (option_and_then as_str (at 2 s.0)) claim sum.2 in
    let squares = step _ (figure_in text.0) claim text.2 in
    subst score_form.in_range (same_Some _ claim squares.2) (
      through (λ n. n < 2 ^ 64) (whole_in 64) (whole_range 64) (at 0 s.0) minimal.0 minimal.1,
      through (λ n. n < 2 ^ 64) (whole_in 64) (whole_range 64) (at 1 s.0) sum.0 sum.1,
      figure_range text.0 squares.0 squares.1,
    )

votes_range : (most : ℕ) (d : Data) (votes : List ℕ) → list_in (whole_in 16) most d ≡ Some votes → (length votes ≤ most) × AllByRecursion (λ n. n < 2 ^ 16) votes
votes_range = list_range (whole_in 16) (λ n. n < 2 ^ 16) (whole_range 16)

voter_range : (d : Data) (voter : BundleVoter) → voter_in d ≡ Some voter → voter_form.in_range voter
voter_range d voter h =
    let s = step _ (with_keys 3 d) voter h in
    let account = step _ (option_and_then account_in (get (codes "account") s.0)) voter s.2 in
    let stake = step _ (option_and_then (whole_in 64) (get (codes "stake") s.0)) voter account.2 in
    let votes = step _ (option_and_then (list_in (whole_in 16) MOST_VOTES) (get (codes "votes") s.0)) voter stake.2 in
    subst voter_form.in_range (same_Some _ voter votes.2) (
      through account_form.in_range account_in account_range (get (codes "account") s.0) account.0 account.1,
      through (λ n. n < 2 ^ 64) (whole_in 64) (whole_range 64) (get (codes "stake") s.0) stake.0 stake.1,
      through _ (list_in (whole_in 16) MOST_VOTES) (votes_range MOST_VOTES) (get (codes "votes") s.0) votes.0 votes.1,
    )

packed_range : (d : Data) (work : Work) → packed_in d ≡ Some work → work_form.in_range work
packed_range d work h =
    let s = step _ (with_keys 2 d) work h in
    let claim = step _ (option_and_then claim_in (get (codes "claim") s.0)) work s.2 in
    let bytes = step _ (option_and_then solution_in (get (codes "solution") s.0)) work claim.2 in
    subst work_form.in_range (same_Some _ work bytes.2) (
      through score_form.in_range claim_in claim_range (get (codes "claim") s.0) claim.0 claim.1,
      through _ solution_in solution_range (get (codes "solution") s.0) bytes.0 bytes.1,
    )

plain_range : (d : Data) (work : Work) → plain_in d ≡ Some work → work_form.in_range work
plain_range d work h =
    let s = step _ (with_keys 2 d) work h in
    let committee = step _ (option_and_then (list_in (whole_in 16) MOST_TARGETS) (get (codes "committee") s.0)) work s.2 in
    let edges = step _ (option_and_then (list_in edge_in MOST_EDGES) (get (codes "edges") s.0)) work committee.2 in
    subst work_form.in_range (same_Some _ work edges.2) (
      through _ (list_in (whole_in 16) MOST_TARGETS) (votes_range MOST_TARGETS) (get (codes "committee") s.0) committee.0 committee.1,
      through _ (list_in edge_in MOST_EDGES) (list_range edge_in edge_form.in_range edge_range MOST_EDGES) (get (codes "edges") s.0) edges.0 edges.1,
    )

work_range : (d : Data) (work : Work) → work_in d ≡ Some work → work_form.in_range work
work_range d work h =
    elim (either (is_some (as_null d)) (Some Nothing) (cond (is_some (get (codes "claim") d)) (packed_in d) (plain_in d)) work h) [
      | inl nothing ↦ subst work_form.in_range (same_Some Nothing work nothing) tt
      | inr more ↦ elim (either (is_some (get (codes "claim") d)) (packed_in d) (plain_in d) work more) [
        | inl packed ↦ packed_range d work packed
        | inr plain ↦ plain_range d work plain
      ]
    ]

pub bundle_range : (d : Data) (bundle : Bundle) → bundle_of d ≡ Some bundle → bundle_form.in_range bundle
bundle_range d bundle h =
    let s = step _ (with_keys 4 d) bundle h in
    let seats = step _ (option_and_then (whole_in 32) (get (codes "seats") s.0)) bundle s.2 in
    let targets = step _ (option_and_then (list_in account_in MOST_TARGETS) (get (codes "targets") s.0)) bundle seats.2 in
    let voters = step _ (option_and_then (list_in voter_in MOST_VOTERS) (get (codes "voters") s.0)) bundle targets.2 in
    let work = step _ (option_and_then work_in (get (codes "work") s.0)) bundle voters.2 in
    subst bundle_form.in_range (same_Some _ bundle work.2) (
      through (λ n. n < 2 ^ 32) (whole_in 32) (whole_range 32) (get (codes "seats") s.0) seats.0 seats.1,
      (
        through _ (list_in account_in MOST_TARGETS) (list_range account_in account_form.in_range account_range MOST_TARGETS) (get (codes "targets") s.0) targets.0 targets.1,
        through _ (list_in voter_in MOST_VOTERS) (list_range voter_in voter_form.in_range voter_range MOST_VOTERS) (get (codes "voters") s.0) voters.0 voters.1,
        through work_form.in_range work_in work_range (get (codes "work") s.0) work.0 work.1,
      ),
    )
