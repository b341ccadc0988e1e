-- What stands at the front of tokens, from the parts that it is read by.
use Rattle.std.proofs.Common.{◌≡◌, ℕ, zero, suc, ◌^◌, ◌<◌, ◌≤◌, List, [], ◌∷◌, length, slice_index, codes, Option, Some, None, option_and_then, refl, ap, ◌∙◌, arith, lt-ltb, le-leb, ne_eqb}
use Rattle.fast_float.specs.Text.{Parts, scan, digits_of, minus, IsInteger}
use Rattle.json.specs.Token.{Token}
use Rattle.json.specs.Lex.{tokens}
use Rattle.json.specs.Json.{after_end_array, read_key, items, value, if_last, parse_map}
use Rattle.json.proofs.Grammar.{value_is}
use Rattle.serde_json.specs.Data.{Data, Items, no_items, item, array, no_members, unsigned}
use Rattle.serde_json.specs.Events.{items_len}
use Rattle.serde_json.specs.Find.{as_str}
use Rattle.serde_json.specs.Read.{read, number_of, of_json, converted}
use Rattle.npos_base.specs.declared.account.AccountId.{AccountId}
use Rattle.npos_base.specs.declared.figures.Edge.{Edge}
use Rattle.npos_base.specs.declared.figures.Score.{Score}
use Rattle.npos_base.specs.declared.limits.TheConstants.{MOST_TARGETS, MOST_VOTERS}
use Rattle.block_wire.specs.declared.bundle.Bundle.{Bundle}
use Rattle.block_wire.specs.declared.bundle.BundleVoter.{BundleVoter}
use Rattle.block_wire.specs.declared.bundle.Work.{Work}
use Rattle.block_wire.specs.declared.bundle.Work.TheVariants.{Nothing, Packed, Plain}
use Rattle.bundle_json.specs.declared.limits.TheConstants.{MOST_EDGES, MOST_VOTES}
use Rattle.bundle_json.specs.Json.{members_of}
use Rattle.bundle_json.specs.Shape.{whole_in, figure_in, account_in, solution_in, each, list_in, edge_in, claim_in, voter_in, work_in, bundle_of}
use Rattle.bundle_json.specs.Text.{at_front, Front}
use Rattle.bundle_json.proofs.Grammar.{converted_from, of_array, array_at, put_all, object_at, listed}

-- ## One token

pub text_front : (old new : List Token) (s : List ℕ) → old ≡ Token.string s ∷ new → Front as_str 0 old s new
text_front old new s is depth enough = ap (at_front as_str depth) is ∙ ap (λ o. converted as_str (converted of_json o)) (value_is depth (Token.string s ∷ new))

pub number_front : (old new : List Token) (s : List ℕ) (n : ℕ) → old ≡ Token.number s ∷ new → number_of s ≡ Some (unsigned n) → n < 2 ^ 64 → Front (whole_in 64) 0 old n new
number_front old new s n is reads fits depth enough =
    ap (at_front (whole_in 64) depth) is ∙ ap (λ o. converted (whole_in 64) (converted of_json o)) (value_is depth (Token.number s ∷ new))
    ∙ rw (reads, lt-ltb n (2 ^ 64) fits)

digits_read : (s : List ℕ) (p : Parts) (n : ℕ) → p ≡ scan s → (slice_index s 0 ≡ minus → ⊥) → IsInteger p × (digits_of p < 2 ^ 64) → digits_of p ≡ n → number_of s ≡ Some (unsigned n)
unfolding number_of
digits_read s p n parts signless h worth =
    rw (ne_eqb (slice_index s 0) minus signless, ← parts) (rw (lt-ltb 0 _ h.0.0, h.0.1, h.0.2, lt-ltb _ _ h.1) (ap (λ k. Some (unsigned k)) worth))

-- digits alone are a whole number
pub digits_front : (old new : List Token) (s : List ℕ) (p : Parts) (n : ℕ) → old ≡ Token.number s ∷ new → p ≡ scan s
    → (slice_index s 0 ≡ minus → ⊥) → IsInteger p × (digits_of p < 2 ^ 64) → digits_of p ≡ n
    → Front (whole_in 64) 0 old n new
digits_front old new s p n is parts signless h worth =
    let fits : n < 2 ^ 64 = omega (arith, h.1, worth) in
    number_front old new s n is (digits_read s p n parts signless h worth) fits

pub nothing_front : (old new : List Token) → old ≡ Token.null ∷ new → Front work_in 3 old Nothing new
nothing_front old new is depth enough = ap (at_front work_in depth) is ∙ ap (λ o. converted work_in (converted of_json o)) (value_is depth (Token.null ∷ new))

-- what the same value stands for otherwise
pub front_as : {A B : Type 0} (f : Data → Option A) (g : Data → Option B) (nests : ℕ) (old new : List Token) (x : A) (y : B) → ((d : Data) → f d ≡ Some x → g d ≡ Some y)
    → Front f nests old x new → Front g nests old y new
front_as f g nests old new x y same front depth enough =
    let d = converted_from f _ x new (front depth enough) in
    ap (converted g) d.1 ∙ ap (λ o. converted g (Some (d.0, new))) (same d.0 d.2) ∙ rw (same d.0 d.2)

-- ## Arrays

more_length : {A : Type 0} (n : ℕ) (o : Option A) (p : Option (List A)) (xs : List A) → ((ys : List A) → p ≡ Some ys → n ≡ length ys)
    → option_and_then (λ x. option_and_then (λ ys. Some (x ∷ ys)) p) o ≡ Some xs → suc n ≡ length xs
more_length n None p xs h e = absurd (cc)
more_length n (Some x) None xs h e = absurd (cc)
more_length n (Some x) (Some ys) xs h e = let same : x ∷ ys ≡ xs = cc in ap suc (h ys refl) ∙ ap length same

each_length : {A : Type 0} (stands : Data → Option A) (ds : Items) (xs : List A) → each stands ds ≡ Some xs → items_len ds ≡ length xs
each_length stands no_items xs e = let same : [] ≡ xs = cc in ap length same
each_length stands (item d ds) xs e = more_length (items_len ds) (stands d) (each stands ds) xs (λ ys q. each_length stands ds ys q) e

pub list_front : {A : Type 0} (stands : Data → Option A) (nests most : ℕ) (old first new : List Token) (xs : List A) → old ≡ Token.begin_array ∷ first → length xs ≤ most
    → ((depth : ℕ) → nests ≤ depth → listed stands depth (length first) first ≡ Some (xs, new))
    → Front (list_in stands most) (suc nests) old xs new
unfolding value
list_front stands nests most old first new xs is short h zero enough = absurd (omega (arith, enough))
list_front stands nests most old first new xs is short h (suc depth) enough =
    let ds = converted_from (each stands) _ xs new (h depth (omega (arith, enough))) in
    let fits : items_len ds.0 ≤ most = omega (arith, each_length stands ds.0 xs ds.2, short) in
    ap (at_front (list_in stands most) (suc depth)) is
    ∙ ap (converted (list_in stands most)) (of_array (items (value depth) (length first) first) ∙ ap (parse_map array) ds.1)
    ∙ rw (le-leb _ _ fits, ds.2)

pub edge_front : (old a b c d new : List Token) (voter target amount : ℕ) → old ≡ Token.begin_array ∷ a
    → Front (whole_in 32) 0 a voter b → Front (whole_in 16) 0 b target c → Front (whole_in 64) 0 c amount d
    → after_end_array d ≡ Some new → Front edge_in 1 old (record { voter = voter; target = target; amount = amount }) new
edge_front old a b c d new voter target amount is v t m end zero enough = absurd (omega (arith, enough))
edge_front old a b c d new voter target amount is v t m end (suc depth) enough =
    let any : 0 ≤ depth = omega arith in
    let x = converted_from (whole_in 32) _ voter b (v depth any) in
    let y = converted_from (whole_in 16) _ target c (t depth any) in
    let z = converted_from (whole_in 64) _ amount d (m depth any) in
    ap (at_front edge_in (suc depth)) is
    ∙ ap (converted edge_in) (array_at depth a new (x.0 ∷ y.0 ∷ z.0 ∷ []) (b, x.1, (c, y.1, (d, z.1, end))))
    ∙ rw (x.2, y.2, z.2)

pub claim_front : (old a b c d new : List Token) (minimal sum squares : ℕ) (text : List ℕ) → old ≡ Token.begin_array ∷ a → Front (whole_in 64) 0 a minimal b → Front (whole_in 64) 0 b sum c
    → Front as_str 0 c text d → figure_in text ≡ Some squares → after_end_array d ≡ Some new → Front claim_in 1 old (record { minimal = minimal; sum = sum; squares = squares }) new
claim_front old a b c d new minimal sum squares text is l s t f end zero enough = absurd (omega (arith, enough))
claim_front old a b c d new minimal sum squares text is l s t f end (suc depth) enough =
    let any : 0 ≤ depth = omega arith in
    let x = converted_from (whole_in 64) _ minimal b (l depth any) in
    let y = converted_from (whole_in 64) _ sum c (s depth any) in
    let z = converted_from as_str _ text d (t depth any) in
    ap (at_front claim_in (suc depth)) is
    ∙ ap (converted claim_in) (array_at depth a new (x.0 ∷ y.0 ∷ z.0 ∷ []) (b, x.1, (c, y.1, (d, z.1, end))))
    ∙ rw (x.2, y.2, z.2, f)

-- ## Objects

abbrev voter_members : Data → Data → Data → List (List ℕ × Data)
voter_members a b c = (codes "account", a) ∷ (codes "stake", b) ∷ (codes "votes", c) ∷ []

voter_rises : (a b c : Data) → put_all (voter_members a b c) no_members ≡ members_of (voter_members a b c)
voter_rises a b c = refl

abbrev bundle_members : Data → Data → Data → Data → List (List ℕ × Data)
bundle_members a b c d = (codes "seats", a) ∷ (codes "targets", b) ∷ (codes "voters", c) ∷ (codes "work", d) ∷ []

bundle_rises : (a b c d : Data) → put_all (bundle_members a b c d) no_members ≡ members_of (bundle_members a b c d)
bundle_rises a b c d = refl

pub voter_front : (old a b c d e f g new : List Token) (account : AccountId) (stake : ℕ) (votes : List ℕ) → old ≡ Token.begin_object ∷ a
    → read_key a ≡ Some (Some (codes "account"), b) → Front account_in 0 b account c
    → read_key c ≡ Some (Some (codes "stake"), d) → Front (whole_in 64) 0 d stake e
    → read_key e ≡ Some (Some (codes "votes"), f) → Front (list_in (whole_in 16) MOST_VOTES) 1 f votes g
    → read_key g ≡ Some (None, new) → Front voter_in 2 old (record { account = account; stake = stake; votes = votes }) new
voter_front old a b c d e f g new account stake votes is i x j y k z end zero enough = absurd (omega (arith, enough))
voter_front old a b c d e f g new account stake votes is i x j y k z end (suc depth) enough =
    let any : 0 ≤ depth = omega arith in
    let one : 1 ≤ depth = omega (arith, enough) in
    let p = converted_from account_in _ account c (x depth any) in
    let q = converted_from (whole_in 64) _ stake e (y depth any) in
    let r = converted_from (list_in (whole_in 16) MOST_VOTES) _ votes g (z depth one) in
    ap (at_front voter_in (suc depth)) is
    ∙ ap (converted voter_in) (object_at depth a new (voter_members p.0 q.0 r.0) (voter_rises p.0 q.0 r.0)
    (b, c, i, p.1, (d, e, j, q.1, (f, g, k, r.1, end))))
    ∙ rw (p.2, q.2, r.2)

pub packed_front : (old a b c d e new : List Token) (claim : Score) (bytes : List ℕ) → old ≡ Token.begin_object ∷ a
    → read_key a ≡ Some (Some (codes "claim"), b) → Front claim_in 1 b claim c
    → read_key c ≡ Some (Some (codes "solution"), d) → Front solution_in 0 d bytes e
    → read_key e ≡ Some (None, new) → Front work_in 3 old (Packed claim bytes) new
packed_front old a b c d e new claim bytes is i x j y end zero enough = absurd (omega (arith, enough))
packed_front old a b c d e new claim bytes is i x j y end (suc depth) enough =
    let any : 0 ≤ depth = omega arith in
    let one : 1 ≤ depth = omega (arith, enough) in
    let p = converted_from claim_in _ claim c (x depth one) in
    let q = converted_from solution_in _ bytes e (y depth any) in
    ap (at_front work_in (suc depth)) is
    ∙ ap (converted work_in) (object_at depth a new ((codes "claim", p.0) ∷ (codes "solution", q.0) ∷ []) refl (b, c, i, p.1, (d, e, j, q.1, end)))
    ∙ rw (p.2, q.2)

pub plain_front : (old a b c d e new : List Token) (committee : List ℕ) (edges : List Edge) → old ≡ Token.begin_object ∷ a
    → read_key a ≡ Some (Some (codes "committee"), b) → Front (list_in (whole_in 16) MOST_TARGETS) 1 b committee c
    → read_key c ≡ Some (Some (codes "edges"), d) → Front (list_in edge_in MOST_EDGES) 2 d edges e
    → read_key e ≡ Some (None, new) → Front work_in 3 old (Plain committee edges) new
plain_front old a b c d e new committee edges is i x j y end zero enough = absurd (omega (arith, enough))
plain_front old a b c d e new committee edges is i x j y end (suc depth) enough =
    let one : 1 ≤ depth = omega (arith, enough) in
    let two : 2 ≤ depth = omega (arith, enough) in
    let p = converted_from (list_in (whole_in 16) MOST_TARGETS) _ committee c (x depth one) in
    let q = converted_from (list_in edge_in MOST_EDGES) _ edges e (y depth two) in
    ap (at_front work_in (suc depth)) is
    ∙ ap (converted work_in) (object_at depth a new ((codes "committee", p.0) ∷ (codes "edges", q.0) ∷ []) refl (b, c, i, p.1, (d, e, j, q.1, end)))
    ∙ rw (p.2, q.2)

pub bundle_front : (old a b c d e f g h i new : List Token) (seats : ℕ) (targets : List AccountId) (voters : List BundleVoter) (work : Work) → old ≡ Token.begin_object ∷ a
    → read_key a ≡ Some (Some (codes "seats"), b) → Front (whole_in 32) 0 b seats c
    → read_key c ≡ Some (Some (codes "targets"), d) → Front (list_in account_in MOST_TARGETS) 1 d targets e
    → read_key e ≡ Some (Some (codes "voters"), f) → Front (list_in voter_in MOST_VOTERS) 3 f voters g
    → read_key g ≡ Some (Some (codes "work"), h) → Front work_in 3 h work i
    → read_key i ≡ Some (None, new) → Front bundle_of 4 old (record { seats = seats; targets = targets; voters = voters; work = work }) new
bundle_front old a b c d e f g h i new seats targets voters work is k1 s k2 t k3 v k4 w end zero enough = absurd (omega (arith, enough))
bundle_front old a b c d e f g h i new seats targets voters work is k1 s k2 t k3 v k4 w end (suc depth) enough =
    let any : 0 ≤ depth = omega arith in
    let one : 1 ≤ depth = omega (arith, enough) in
    let three : 3 ≤ depth = omega (arith, enough) in
    let p = converted_from (whole_in 32) _ seats c (s depth any) in
    let q = converted_from (list_in account_in MOST_TARGETS) _ targets e (t depth one) in
    let r = converted_from (list_in voter_in MOST_VOTERS) _ voters g (v depth three) in
    let x = converted_from work_in _ work i (w depth three) in
    ap (at_front bundle_of (suc depth)) is
    ∙ ap (converted bundle_of) (object_at depth a new (bundle_members p.0 q.0 r.0 x.0) (bundle_rises p.0 q.0 r.0 x.0)
    (b, c, k1, p.1, (d, e, k2, q.1, (f, g, k3, r.1, (h, i, k4, x.1, end)))))
    ∙ rw (p.2, q.2, r.2, x.2)

-- ## The whole text

pub text_read : (text : List ℕ) (bundle : Bundle) → Front bundle_of 4 (tokens text) bundle [] → option_and_then bundle_of (read text) ≡ Some bundle
text_read text bundle front =
    let d = converted_from bundle_of _ bundle [] (front 127 (omega arith)) in
    let j = converted_from of_json (value 127 (tokens text)) d.0 [] d.1 in
    ap (λ o. option_and_then bundle_of (option_and_then of_json (option_and_then (λ p. if_last p.0 p.1) o))) j.1
    ∙ ap (option_and_then bundle_of) j.2 ∙ d.2
