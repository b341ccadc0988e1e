-- Lists of edges that are alike but for their amounts.
use Rattle.std.proofs.Common.{◌≡◌, ℕ, suc, ◌+◌, ◌*◌, ◌^◌, ◌<◌, ◌≤◌, not, ◌||◌, nat_eq, List, [], ◌∷◌, ◌++◌, length, map, get_or, All, inl, inr, refl, ap, ap₂, sym, ◌∙◌, arith}
use Rattle.std.specs.List.{AllPairs}
use Rattle.std.proofs.lemmas.List.{length-map, map-append, get_or-map}
use Rattle.std.proofs.lemmas.List.Sums.{sum_by-cons, sum_by-append, get_or-le-sum_by}
use Rattle.std.proofs.lemmas.List.Elements.{All-head, All-tail, filter-append}
use Rattle.std.proofs.lemmas.Bool.{cases_Bool, cond_both, cond-true, eq-eqb}
use Rattle.npos_base.specs.declared.figures.Edge.{Edge}
use Rattle.election_snapshot.specs.Snapshot.{Snapshot, has}
use Rattle.weight_book.specs.Weights.{edges_from, edges_to, amount_sum, support}
use Rattle.support_balance.specs.Rounds.{IsBefore}
use Rattle.support_balance.specs.Rows.{AreAlike, differs}
use Rattle.support_balance.specs.Laid.{targets_of, Covers}
use Rattle.support_balance.proofs.HandLemmas.{or_assoc}
use Rattle.support_balance.proofs.RowLemmas.{weight, to_weight}
use Rattle.support_balance.proofs.TurnLemmas.{targets_alike}

pub voters_alike : (old new : List Edge) → AreAlike old new → map (λ (e : Edge). e.voter) new ≡ map (λ (e : Edge). e.voter) old
voters_alike [] [] alike = refl
voters_alike [] (new ∷ news) alike = absurd (omega (arith, alike.count))
voters_alike (old ∷ olds) [] alike = absurd (omega (arith, alike.count))
voters_alike (old ∷ olds) (new ∷ news) alike = ap₂ (λ n ns. n ∷ ns) (alike.voters 0 old (omega arith)) (voters_alike olds news (record {
  count = omega (arith, alike.count);
  voters = λ k d h. alike.voters (suc k) d (omega (arith, h));
  targets = λ k d h. alike.targets (suc k) d (omega (arith, h));
}))

pub alike_from : (old new : List Edge) → map (λ (e : Edge). e.voter) new ≡ map (λ (e : Edge). e.voter) old → targets_of new ≡ targets_of old → AreAlike old new
alike_from old new vs ts =
    let same : length new ≡ length old = sym (length-map new (λ (e : Edge). e.voter)) ∙ ap (λ (ns : List ℕ). length ns) vs ∙ length-map old (λ (e : Edge). e.voter) in
    record {
      count = same;
      voters = λ k d h. sym (get_or-map (λ (e : Edge). e.voter) new k d 0 (omega (arith, h, same))) ∙ ap (λ ns. get_or ns k 0) vs ∙ get_or-map (λ (e : Edge). e.voter) old k d 0 h;
      targets = λ k d h. sym (get_or-map (λ (e : Edge). e.target) new k d 0 (omega (arith, h, same))) ∙ ap (λ ns. get_or ns k 0) ts ∙ get_or-map (λ (e : Edge). e.target) old k d 0 h;
    }

pub alike_trans : (a b c : List Edge) → AreAlike a b → AreAlike b c → AreAlike a c
alike_trans a b c x y = record {
  count = y.count ∙ x.count;
  voters = λ k d h. y.voters k d (omega (arith, h, x.count)) ∙ x.voters k d h;
  targets = λ k d h. y.targets k d (omega (arith, h, x.count)) ∙ x.targets k d h;
}

pub alike_between : (front old new back : List Edge) → AreAlike old new → AreAlike (front ++ (old ++ back)) (front ++ (new ++ back))
alike_between front old new back alike = alike_from (front ++ (old ++ back)) (front ++ (new ++ back))
    (between (λ (e : Edge). e.voter) (voters_alike old new alike)) (between (λ (e : Edge). e.target) (targets_alike old new alike))
  where
    between : (f : Edge → ℕ) → map f new ≡ map f old → map f (front ++ (new ++ back)) ≡ map f (front ++ (old ++ back))
    between f same = map-append f front (new ++ back)
        ∙ ap (λ ns. map f front ++ ns) (map-append f new back ∙ ap (λ ns. ns ++ map f back) same ∙ sym (map-append f old back))
        ∙ sym (map-append f front (old ++ back))

pub from_alike : (voter : ℕ) (old new : List Edge) → AreAlike old new → targets_of (edges_from new voter) ≡ targets_of (edges_from old voter)
from_alike voter [] [] alike = refl
from_alike voter [] (new ∷ news) alike = absurd (omega (arith, alike.count))
from_alike voter (old ∷ olds) [] alike = absurd (omega (arith, alike.count))
from_alike voter (old ∷ olds) (new ∷ news) alike =
    let rest = from_alike voter olds news (record {
      count = omega (arith, alike.count);
      voters = λ k d h. alike.voters (suc k) d (omega (arith, h));
      targets = λ k d h. alike.targets (suc k) d (omega (arith, h));
    }) in
    elim (cases_Bool (nat_eq old.voter voter)) [
      | inl t ↦ rw (alike.voters 0 old (omega arith), t) (ap₂ (λ n ns. n ∷ ns) (alike.targets 0 old (omega arith)) rest)
      | inr t ↦ rw (alike.voters 0 old (omega arith), t) rest
    ]

pub covers_alike : (snapshot : Snapshot) (committee : List ℕ) (old new : List Edge) → AreAlike old new → Covers snapshot committee old → Covers snapshot committee new
covers_alike snapshot committee old new alike covers voter target h = ap (λ ns. has ns target) (from_alike voter old new alike) ∙ covers voter target h

pub rising_before : (old new : List Edge) → AreAlike old new → AllPairs IsBefore old → AllPairs IsBefore new
rising_before old new alike rising i j d a b =
    let bj : j < length old = omega (arith, b, alike.count) in
    let ai : i < length old = omega (arith, a, bj) in
    elim (rising i j d a bj) [
      | inl l ↦ inl (omega (arith, l, alike.voters i d ai, alike.voters j d bj))
      | inr l ↦ inr (alike.voters i d ai ∙ l.0 ∙ sym (alike.voters j d bj), omega (arith, l.1, alike.targets i d ai, alike.targets j d bj))
    ]

-- supports of lists laid one behind the other
pub support-append : (xs ys : List Edge) (target : ℕ) → support (xs ++ ys) target ≡ support xs target + support ys target
support-append xs ys target = ap amount_sum (filter-append (λ (e : Edge). nat_eq e.target target) xs ys)
    ∙ sum_by-append (λ (e : Edge). e.amount) (edges_to xs target) (edges_to ys target)

pub support_small : (edges : List Edge) (target : ℕ) → All (λ (e : Edge). e.amount < 2 ^ 64) edges → support edges target ≤ length edges * 2 ^ 64
support_small [] target small = omega arith
support_small (edge ∷ edges) target small =
    let one : weight target edge < 2 ^ 64 = cond_both (nat_eq edge.target target) edge.amount 0 (λ n. n < 2 ^ 64)
    (λ _. All-head (λ (e : Edge). e.amount < 2 ^ 64) edge edges small) (λ _. omega arith) in
    let rest = support_small edges target (All-tail (λ (e : Edge). e.amount < 2 ^ 64) edge edges small) in
    omega (arith, to_weight (edge ∷ edges) target, sum_by-cons (weight target) edge edges, sym (to_weight edges target), one, rest)

pub amount_counted : (edges : List Edge) (k : ℕ) (d : Edge) → k < length edges → (get_or edges k d).amount ≤ support edges (get_or edges k d).target
amount_counted edges k d h =
    let t = (get_or edges k d).target in
    omega (arith, to_weight edges t, get_or-le-sum_by (weight t) edges k d h, cond-true (nat_eq t t) (get_or edges k d).amount 0 (eq-eqb t t refl))

pub differs-append : (xs ys xs' ys' : List ℕ) → length xs' ≡ length xs → differs (xs ++ ys) (xs' ++ ys') ≡ differs xs xs' || differs ys ys'
differs-append [] ys [] ys' same = refl
differs-append [] ys (x' ∷ xs') ys' same = absurd (omega (arith, same))
differs-append (x ∷ xs) ys [] ys' same = absurd (omega (arith, same))
differs-append (x ∷ xs) ys (x' ∷ xs') ys' same =
    ap (λ b. not (nat_eq x' x) || b) (differs-append xs ys xs' ys' (omega (arith, same)))
    ∙ sym (or_assoc (not (nat_eq x' x)) (differs xs xs') (differs ys ys'))
