-- What a bundle in range is written as is a text that reads as it, also with a line feed behind it.
use Rattle.std.proofs.Common.{◌≡◌, ℕ, suc, ◌^◌, ◌<◌, ◌≤◌, List, [], ◌∷◌, ◌++◌, map, Some, option_and_then, IsUtf8}
use Rattle.std.proofs.Common.{IsAscii, Bool, true, decimal, refl, sym, ap, ◌∙◌, subst, arith, lit≤, ltb-true, append-nil}
use Rattle.std.specs.List.{AllByRecursion}
use Rattle.std.proofs.lemmas.Fmt.{IsAscii-decimal, IsAscii-decimal_wide}
use Rattle.std.proofs.lemmas.Str.{IsUtf8-append, IsUtf8-nil, IsUtf8-from_ascii}
use Rattle.std.proofs.lemmas.Bool.{and_parts}
use Rattle.std.proofs.lemmas.Str.Ascii.{IsAscii-nil, IsAscii-cons}
use Rattle.hex.specs.Hex.{encode_lower, lower_digits}
use Rattle.hex.proofs.HexLemmas.{IsAscii-encode_with}
use Rattle.json.specs.Token.{Token}
use Rattle.json.specs.Lex.{tokens}
use Rattle.json.specs.Json as json
use Rattle.json.specs.Print.{ends, separator, token_text, print_from}
use Rattle.json.specs.Tree.{json_tokens, items_tokens, depth, items_depth, HasNumbers, ItemsHaveNumbers}
use Rattle.json.proofs.Printed.Decimals.{IsNumber-decimal}
use Rattle.json.proofs.Printed.Tokens.{tokens-print}
use Rattle.json.proofs.Printed.Trees.{value-json_tokens, ArePrintable-json_tokens}
use Rattle.json.proofs.Printed.Utf8.{are_ascii, IsUtf8-are_ascii, IsUtf8-quoted, IsUtf8-key, IsUtf8-separator}
use Rattle.serde_json.specs.Data.{Data, string, array, object, Items, no_items, item, no_members, member, put}
use Rattle.serde_json.specs.Read.{read, of_json, of_items}
use Rattle.serde_json.specs.View.{items_of}
use Rattle.serde_json.specs.Written.{outline, items_outline, compact_text}
use Rattle.serde_json.proofs.Numbers.{number_of-decimal}
use Rattle.serde_json.proofs.Texts.{print-outline}
use Rattle.npos_base.specs.Account.{account_bytes}
use Rattle.npos_base.specs.declared.account.AccountId.{AccountId}
use Rattle.npos_base.specs.declared.figures.Edge.{Edge}
use Rattle.npos_base.specs.declared.figures.Score.{Score}
use Rattle.scale_wire.specs.Parts.{account_form}
use Rattle.scale_wire.specs.Values.{edge_form, score_form}
use Rattle.block_wire.specs.Bundles.{voter_form, work_form, bundle_form}
use Rattle.block_wire.specs.declared.bundle.Bundle.{Bundle}
use Rattle.block_wire.specs.declared.bundle.BundleVoter.{BundleVoter}
use Rattle.block_wire.specs.declared.bundle.Work.{Work}
use Rattle.block_wire.specs.declared.bundle.Work.TheVariants.{Nothing, Packed, Plain}
use Rattle.bundle_json.specs.Json.{list_json, whole_json, account_json, edge_json, claim_json, voter_json, work_json, json_of}
use Rattle.bundle_json.specs.Text.{reading}
use Rattle.bundle_json.proofs.Figures.{wide}
use Rattle.bundle_json.proofs.LineLemmas.{line_tokens}
use Rattle.bundle_json.proofs.Readings.{has_reading}

-- ## Values that are kept

-- each token is written in UTF-8
abbrev AreUtf8 : List Token → Type 0
AreUtf8 = AllByRecursion (λ t. IsUtf8 (token_text t))

utf8_append : (ts us : List Token) → AreUtf8 ts → AreUtf8 us → AreUtf8 (ts ++ us)
utf8_append [] us h k = k
utf8_append (t ∷ ts) us h k = (h.0, utf8_append ts us h.1 k)

utf8_print : (c : Bool) (ts : List Token) → AreUtf8 ts → IsUtf8 (print_from c ts)
unfolding print_from
utf8_print c [] h = IsUtf8-nil
utf8_print c (t ∷ ts) h =
    IsUtf8-append (separator c t) (token_text t ++ print_from (ends t) ts) (IsUtf8-separator c t)
    (IsUtf8-append (token_text t) (print_from (ends t) ts) h.0 (utf8_print (ends t) ts h.1))

-- the value nests no deeper than n and can be read from what is written of it
pub record IsKept (n : ℕ) (d : Data) : Type 0 where
  pub numbers : HasNumbers (outline d)
  pub utf8 : AreUtf8 (json_tokens (outline d))
  pub back : of_json (outline d) ≡ Some d
  pub deep : depth (outline d) ≤ n

record AreKept (n : ℕ) (ds : Items) : Type 0 where
  pub numbers : ItemsHaveNumbers (items_outline ds)
  pub utf8 : AreUtf8 (items_tokens (items_outline ds))
  pub back : of_items (items_outline ds) ≡ Some ds
  pub deep : items_depth (items_outline ds) ≤ n

none_kept : (n : ℕ) → AreKept n no_items
none_kept n = record { numbers = tt; utf8 = (IsUtf8-are_ascii _ refl, tt); back = refl; deep = omega arith }

more_kept : (n : ℕ) (d : Data) (ds : Items) → IsKept n d → AreKept n ds → AreKept n (item d ds)
more_kept n d ds h k = record {
  numbers = (h.numbers, k.numbers);
  utf8 = utf8_append (json_tokens (outline d)) (items_tokens (items_outline ds)) h.utf8 k.utf8;
  back = rw (h.back, k.back);
  deep = omega (arith, h.deep, k.deep);
}

array_kept : (n : ℕ) (ds : Items) → AreKept n ds → IsKept (suc n) (array ds)
array_kept n ds h = record {
  numbers = h.numbers;
  utf8 = (IsUtf8-are_ascii _ refl, h.utf8);
  back = rw (h.back);
  deep = omega (arith, h.deep);
}

items_kept : {A : Type 0} (json : A → Data) (P : A → Type 0) (n : ℕ) → ((x : A) → P x → IsKept n (json x)) → (xs : List A) → AllByRecursion P xs → AreKept n (items_of (map json xs))
items_kept json P n each [] h = none_kept n
items_kept json P n each (x ∷ xs) h = more_kept n (json x) (items_of (map json xs)) (each x h.0) (items_kept json P n each xs h.1)

list_kept : {A : Type 0} (json : A → Data) (P : A → Type 0) (n : ℕ) → ((x : A) → P x → IsKept n (json x)) → (xs : List A) → AllByRecursion P xs → IsKept (suc n) (list_json json xs)
list_kept json P n each xs h = array_kept n (items_of (map json xs)) (items_kept json P n each xs h)

-- the same with more room
roomier : (m n : ℕ) (d : Data) → m ≤ n → IsKept m d → IsKept n d
roomier m n d more h = record { numbers = h.numbers; utf8 = h.utf8; back = h.back; deep = omega (arith, h.deep) }

-- ## Parts

whole_kept : (n : ℕ) → n < 2 ^ 64 → IsKept 0 (whole_json n)
whole_kept n h = record {
  numbers = IsNumber-decimal n h;
  utf8 = (IsUtf8-from_ascii (decimal n) (IsAscii-decimal n h), tt);
  back = rw (number_of-decimal n h);
  deep = omega arith;
}

text_kept : (s : List ℕ) → IsUtf8 s → IsKept 0 (string s)
text_kept s u = record { numbers = tt; utf8 = (IsUtf8-quoted s u, tt); back = refl; deep = omega arith }

ascii_from : (s : List ℕ) → are_ascii s ≡ true → IsAscii s
ascii_from [] e = IsAscii-nil
ascii_from (x ∷ xs) e = let p = and_parts _ _ e in IsAscii-cons x xs (ltb-true _ _ p.0) (ascii_from xs p.1)

lower_is_ascii : IsAscii lower_digits
lower_is_ascii = ascii_from lower_digits refl

hex_kept : (bytes : List ℕ) → IsKept 0 (string (encode_lower bytes))
hex_kept bytes = text_kept (encode_lower bytes) (IsUtf8-from_ascii (encode_lower bytes) (IsAscii-encode_with lower_digits bytes lower_is_ascii))

three_kept : (n : ℕ) (a b c : Data) → IsKept n a → IsKept n b → IsKept n c → IsKept (suc n) (array (item a (item b (item c no_items))))
three_kept n a b c h k l = array_kept n _ (more_kept n a _ h (more_kept n b _ k (more_kept n c _ l (none_kept n))))

edge_kept : (edge : Edge) → edge_form.in_range edge → IsKept 1 (edge_json edge)
edge_kept edge h = three_kept 0 _ _ _ (whole_kept edge.voter (omega (arith, h.0))) (whole_kept edge.target (omega (arith, h.1))) (whole_kept edge.amount h.2)

claim_kept : (claim : Score) → score_form.in_range claim → IsKept 1 (claim_json claim)
claim_kept claim h =
    three_kept 0 _ _ _ (whole_kept claim.minimal h.0) (whole_kept claim.sum h.1)
    (text_kept (decimal claim.squares) (IsUtf8-from_ascii _ (IsAscii-decimal_wide claim.squares (wide claim.squares h.2))))

short_kept : (n : ℕ) → n < 2 ^ 16 → IsKept 0 (whole_json n)
short_kept n h = whole_kept n (omega (arith, h))

-- ## Objects

ascii_key : (s : List ℕ) → are_ascii s ≡ true → IsUtf8 (token_text (Token.key s))
ascii_key s e = IsUtf8-key s (IsUtf8-are_ascii s e)

two_kept : (n : ℕ) (j k : List ℕ) (d e : Data) → are_ascii j ≡ true → are_ascii k ≡ true → put k e (member j d no_members) ≡ member j d (member k e no_members)
    → IsKept n d → IsKept n e → IsKept (suc n) (object (member j d (member k e no_members)))
two_kept n j k d e first second rising h l = record {
  numbers = (h.numbers, (l.numbers, tt));
  utf8 = (IsUtf8-are_ascii _ refl, (ascii_key j first, utf8_append _ _ h.utf8 (ascii_key k second, utf8_append _ _ l.utf8 (IsUtf8-are_ascii _ refl, tt))));
  back = rw (h.back, l.back) (ap (λ ms. Some (object ms)) rising);
  deep = omega (arith, h.deep, l.deep);
}

three_keys_kept : (n : ℕ) (j k l : List ℕ) (d e f : Data) → are_ascii j ≡ true → are_ascii k ≡ true → are_ascii l ≡ true
    → put l f (put k e (member j d no_members)) ≡ member j d (member k e (member l f no_members)) → IsKept n d → IsKept n e → IsKept n f
    → IsKept (suc n) (object (member j d (member k e (member l f no_members))))
three_keys_kept n j k l d e f first second third rising h g i = record {
  numbers = (h.numbers, (g.numbers, (i.numbers, tt)));
  utf8 = (
    IsUtf8-are_ascii _ refl,
    (
      ascii_key j first,
      utf8_append _ _ h.utf8 (
        ascii_key k second,
        utf8_append _ _ g.utf8
            (ascii_key l third, utf8_append _ _ i.utf8 (IsUtf8-are_ascii _ refl, tt)),
      ),
    ),
  );
  back = rw (h.back, g.back, i.back) (ap (λ ms. Some (object ms)) rising);
  deep = omega (arith, h.deep, g.deep, i.deep);
}

four_keys_kept : (n : ℕ) (j k l m : List ℕ) (d e f g : Data) → are_ascii j ≡ true → are_ascii k ≡ true → are_ascii l ≡ true → are_ascii m ≡ true
    → put m g (put l f (put k e (member j d no_members))) ≡ member j d (member k e (member l f (member m g no_members)))
    → IsKept n d → IsKept n e → IsKept n f → IsKept n g
    → IsKept (suc n) (object (member j d (member k e (member l f (member m g no_members)))))
four_keys_kept n j k l m d e f g first second third fourth rising a b h i = record {
  numbers = (a.numbers, (b.numbers, (h.numbers, (i.numbers, tt))));
  utf8 = (
    IsUtf8-are_ascii _ refl,
    (
      ascii_key j first,
      utf8_append _ _ a.utf8 (
        ascii_key k second,
        utf8_append _ _ b.utf8
            (ascii_key l third, utf8_append _ _ h.utf8 (ascii_key m fourth, utf8_append _ _ i.utf8 (IsUtf8-are_ascii _ refl, tt))),
      ),
    ),
  );
  back = rw (a.back, b.back, h.back, i.back) (ap (λ ms. Some (object ms)) rising);
  deep = omega (arith, a.deep, b.deep, h.deep, i.deep);
}

voter_kept : (voter : BundleVoter) → voter_form.in_range voter → IsKept 2 (voter_json voter)
voter_kept voter h =
    three_keys_kept 1 _ _ _ _ _ _ refl refl refl refl (roomier 0 1 _ (omega arith) (hex_kept (account_bytes voter.account)))
    (roomier 0 1 _ (omega arith) (whole_kept voter.stake h.1)) (list_kept whole_json (λ n. n < 2 ^ 16) 0 short_kept voter.votes h.2.1)

work_kept : (work : Work) → work_form.in_range work → IsKept 3 (work_json work)
work_kept Nothing h = record { numbers = tt; utf8 = (IsUtf8-are_ascii _ refl, tt); back = refl; deep = omega arith }
work_kept (Packed claim bytes) h = roomier 2 3 _ (omega arith) (two_kept 1 _ _ _ _ refl refl refl (claim_kept claim h.0) (roomier 0 1 _ (omega arith) (hex_kept bytes)))
work_kept (Plain committee edges) h =
    two_kept 2 _ _ _ _ refl refl refl
    (roomier 1 2 _ (omega arith) (list_kept whole_json (λ n. n < 2 ^ 16) 0 short_kept committee h.0.1))
    (list_kept edge_json edge_form.in_range 1 edge_kept edges h.1.1)

account_kept_too : (account : AccountId) → account_form.in_range account → IsKept 0 (account_json account)
account_kept_too account h = hex_kept (account_bytes account)

bundle_kept : (bundle : Bundle) → bundle_form.in_range bundle → IsKept 4 (json_of bundle)
bundle_kept bundle h =
    four_keys_kept 3 _ _ _ _ _ _ _ _ refl refl refl refl refl
    (roomier 0 3 _ (omega arith) (whole_kept bundle.seats (omega (arith, h.0))))
    (roomier 1 3 _ (omega arith) (list_kept account_json account_form.in_range 0 account_kept_too bundle.targets h.1.0.1))
    (list_kept voter_json voter_form.in_range 2 voter_kept bundle.voters h.1.1.1)
    (work_kept bundle.work h.1.2)

-- ## Texts

value_of_tokens : (n : ℕ) (d : Data) (text : List ℕ) → n ≤ 127 → IsKept n d → tokens text ≡ json_tokens (outline d) → read text ≡ Some d
value_of_tokens n d text shallow h same =
    ap (λ ts. option_and_then of_json (option_and_then (λ p. json.if_last p.0 p.1) (json.value 127 ts))) (same ∙ sym (append-nil (json_tokens (outline d))))
    ∙ ap (λ o. option_and_then of_json (option_and_then (λ p. json.if_last p.0 p.1) o)) (value-json_tokens (outline d) 127 [] (omega (arith, h.deep)))
    ∙ h.back

bundle_utf8 : (bundle : Bundle) → bundle_form.in_range bundle → IsUtf8 (compact_text (json_of bundle))
bundle_utf8 bundle h =
    let d = json_of bundle in
    subst IsUtf8 (print-outline d) (utf8_print _ (json_tokens (outline d)) (bundle_kept bundle h).utf8)

pub bundle_reads : (bundle : Bundle) → bundle_form.in_range bundle → reading (compact_text (json_of bundle)) ≡ Some (json_of bundle)
bundle_reads bundle h =
    let d = json_of bundle in
    let kept = bundle_kept bundle h in
    let tokens_are = ap tokens (sym (print-outline d)) ∙ tokens-print _ (ArePrintable-json_tokens (outline d) kept.numbers) in
    has_reading (compact_text d) d (bundle_utf8 bundle h) (value_of_tokens 4 d (compact_text d) (lit≤ tt) kept tokens_are)

pub bundle_line_reads : (bundle : Bundle) → bundle_form.in_range bundle → reading (compact_text (json_of bundle) ++ 10 ∷ []) ≡ Some (json_of bundle)
bundle_line_reads bundle h =
    let d = json_of bundle in
    let kept = bundle_kept bundle h in
    let line = compact_text d ++ 10 ∷ [] in
    let utf8 : IsUtf8 line = IsUtf8-append (compact_text d) (10 ∷ []) (bundle_utf8 bundle h) (IsUtf8-are_ascii (10 ∷ []) refl) in
    let tokens_are = ap (λ s. tokens (s ++ 10 ∷ [])) (sym (print-outline d)) ∙ line_tokens _ (ArePrintable-json_tokens (outline d) kept.numbers) in
    has_reading line d utf8 (value_of_tokens 4 d line (lit≤ tt) kept tokens_are)
