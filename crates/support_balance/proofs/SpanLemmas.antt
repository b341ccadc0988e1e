-- Spans of voters, and turns that change nothing between them.
use Rattle.std.proofs.Common.{◌≡◌, ◌≢◌, ℕ, zero, suc, ◌+◌, ◌-◌, ◌^◌, ◌<◌, ◌≤◌, ◌⊎◌, Bool, ◌||◌, List, [], ◌∷◌, ◌++◌, length, take, drop, get_or, All, inl, inr, refl, ap, sym, subst, ◌∙◌, arith}
use Rattle.std.specs.List.{AllPairs}
use Rattle.std.proofs.lemmas.List.{drop-drop, get_or_append_left, get_or_default, get_or_push, length_push}
use Rattle.std.proofs.lemmas.List.Elements.{All-push, All-nil}
use Rattle.std.proofs.lemmas.List.Quantifiers.{all_pairs_push}
use Rattle.std.proofs.lemmas.Bool.{cases_lt, cases_eq}
use borrow.Rule.Slice.PartMut.{put_mid}
use Rattle.npos_base.specs.declared.figures.Edge.{Edge}
use Rattle.election_snapshot.specs.Snapshot.{Snapshot, stake_of}
use Rattle.weight_book.specs.Weights.{edges_from}
use Rattle.support_balance.specs.Turns.{IsTurn}
use Rattle.support_balance.specs.Rounds.{AreTurns}
use Rattle.support_balance.specs.Rows.{IsRow, AreAlike, AreMoved, IsEven, amounts, differs}
use Rattle.support_balance.specs.Laid.{Covers}
use Rattle.support_balance.specs.declared.spans.Span.{Span}
use Rattle.support_balance.specs.Spans.{IsSpan, HasSpan, IsIdle, AreSpans}
use Rattle.support_balance.proofs.Edges.{no_edge}
use Rattle.support_balance.proofs.AlikeLemmas.{covers_alike}
use Rattle.support_balance.proofs.TurnLemmas.{idle_turn}
use Rattle.support_balance.proofs.RoundLemmas.{IsTurned, row_sound, turned_next, long_row, span_here, alike_next, own_next, others_next}

abbrev none : Span
none = record { voter = 0; start = 0; end = 0 }

abbrev pub AreRising : List Span → Type 0
AreRising spans = AllPairs (λ (one : Span) (other : Span). one.voter < other.voter) spans

pub span_alike : (old new : List Edge) (span : Span) → AreAlike old new → IsSpan old span → IsSpan new span
span_alike old new span alike so = record {
  some = so.some;
  within = omega (arith, so.within, alike.count);
  before = λ k d h. omega (arith, so.before k d h, alike.voters k d (omega (arith, h, so.some, so.within)));
  own = λ k d a b. alike.voters k d (omega (arith, b, so.within)) ∙ so.own k d a b;
  behind = λ k d a b.
      let l : k < length old = omega (arith, b, alike.count) in
      omega (arith, so.behind k d a l, alike.voters k d l);
}

pub no_spans : (snapshot : Snapshot) (edges : List Edge) → AreSpans snapshot 0 edges []
no_spans snapshot edges = record {
  rising = λ i j d a b. absurd (omega (arith, b));
  in_range = All-nil (λ (span : Span). span.voter < 0);
  sound = All-nil (IsSpan edges);
  others = λ voter h. absurd (omega (arith, h));
}

-- a turn at a voter that has a span, or comes later, keeps them
pub kept_spans : (snapshot : Snapshot) (voters : ℕ) (old new : List Edge) (spans : List Span) (voter : ℕ) → AreSpans snapshot voters old spans → AreAlike old new
    → ((other : ℕ) → other ≢ voter → edges_from new other ≡ edges_from old other) → HasSpan spans voter ⊎ (voters ≤ voter) → AreSpans snapshot voters new spans
kept_spans snapshot voters old new spans voter so alike same at = record {
  rising = so.rising;
  in_range = so.in_range;
  sound = λ k d h. span_alike old new (get_or spans k d) alike (so.sound k d h);
  others = λ other h. elim (cases_eq other voter) [
    | inl here ↦ elim at [
      | inl has ↦ inl (subst (HasSpan spans) (sym here) has)
      | inr later ↦ absurd (omega (arith, h, later, here))
    ]
    | inr there ↦ elim (so.others other h) [
      | inl has ↦ inl has
      | inr idle ↦ inr (subst (IsIdle (stake_of snapshot other)) (sym (same other there)) idle)
    ]
  ];
}

-- the next voter is idle
pub idle_more : (snapshot : Snapshot) (voter : ℕ) (edges : List Edge) (spans : List Span) → AreSpans snapshot voter edges spans
    → IsIdle (stake_of snapshot voter) (edges_from edges voter) → AreSpans snapshot (voter + 1) edges spans
idle_more snapshot voter edges spans so idle = record {
  rising = so.rising;
  in_range = λ k d h. omega (arith, so.in_range k d h);
  sound = so.sound;
  others = λ other h. elim (cases_lt other voter) [
    | inl l ↦ so.others other l
    | inr l ↦
        let e : voter ≡ other = omega (arith, h, l) in
        inr (subst (λ n. IsIdle (stake_of snapshot n) (edges_from edges n)) e idle)
  ];
}

-- the next voter has a span
pub span_more : (snapshot : Snapshot) (span : Span) (edges : List Edge) (spans : List Span) → AreSpans snapshot span.voter edges spans → IsSpan edges span
    → AreSpans snapshot (span.voter + 1) edges (spans ++ span ∷ [])
span_more snapshot span edges spans so here = record {
  rising = all_pairs_push (λ (one : Span) (other : Span). one.voter < other.voter) spans span so.rising (λ k d h. so.in_range k d h);
  in_range = All-push (λ (s : Span). s.voter < span.voter + 1) spans span (λ k d h. omega (arith, so.in_range k d h)) (omega arith);
  sound = All-push (IsSpan edges) spans span so.sound here;
  others = λ other h. elim (cases_lt other span.voter) [
    | inl l ↦ elim (so.others other l) [
      | inl has ↦ inl (has.0, omega (arith, has.1, length_push spans span), λ d. ap (λ (s : Span). s.voter) (get_or_append_left spans (span ∷ []) d has.0 has.1) ∙ has.2 d)
      | inr idle ↦ inr idle
    ]
    | inr l ↦
        let e : span.voter ≡ other = omega (arith, h, l) in
        inl (length spans, omega (arith, length_push spans span), λ d. ap (λ (s : Span). s.voter) (get_or_push spans span d (length spans) refl) ∙ e)
  ];
}

-- how many voters are done before the span, and where their edges end
abbrev pub passed : List Span → ℕ → ℕ
passed spans zero = 0
passed spans (suc i) = (get_or spans i none).voter + 1

abbrev pub read : List Span → ℕ → ℕ
read spans zero = 0
read spans (suc i) = (get_or spans i none).end

passed_all : (spans : List Span) (i k : ℕ) → AreRising spans → i ≤ length spans → k < i → (get_or spans k none).voter < passed spans i
passed_all spans zero k rising within h = absurd (omega (arith, h))
passed_all spans (suc i) k rising within h = elim (cases_lt k i) [
  | inl l ↦ omega (arith, rising k i none l (omega (arith, within)))
  | inr l ↦
      let e : k ≡ i = omega (arith, h, l) in
      omega (arith, ap (λ n. (get_or spans n none).voter) e)
]

passed_next : (spans : List Span) (i : ℕ) → AreRising spans → i < length spans → passed spans i ≤ (get_or spans i none).voter
passed_next spans zero rising h = omega arith
passed_next spans (suc i) rising h = omega (arith, rising i (suc i) none (omega arith) h)

passed_within : (spans : List Span) (i voters : ℕ) → All (λ (s : Span). s.voter < voters) spans → i ≤ length spans → passed spans i ≤ voters
passed_within spans zero voters in_range h = omega arith
passed_within spans (suc i) voters in_range h = omega (arith, in_range i none (omega (arith, h)))

-- no voter between two spans has one
between : (spans : List Span) (i u : ℕ) → AreRising spans → i ≤ length spans → passed spans i ≤ u → (i < length spans → u < (get_or spans i none).voter)
    → HasSpan spans u → ⊥
between spans i u rising within after before (k, inside, is) = elim (cases_lt k i) [
  | inl l ↦ omega (arith, passed_all spans i k rising within l, is none, after)
  | inr l ↦ elim (cases_lt i k) [
    | inl m ↦ omega (arith, rising i k none m inside, is none, before (omega (arith, m, inside)))
    | inr m ↦
        let e : i ≡ k = omega (arith, l, m) in
        omega (arith, ap (λ n. (get_or spans n none).voter) e, is none, before (omega (arith, e, inside)))
  ]
]

turns_idle : (snapshot : Snapshot) (committee : List ℕ) (old now : List Edge) (voter next : ℕ) → voter ≤ next → AreTurns snapshot committee voter old now
    → ((u : ℕ) → voter ≤ u → u < next → IsTurn snapshot committee u now now) → AreTurns snapshot committee next old now
turns_idle snapshot committee old now voter zero ahead turns idle =
    let e : voter ≡ zero = omega (arith, ahead) in
    subst (λ n. AreTurns snapshot committee n old now) e turns
turns_idle snapshot committee old now voter (suc next) ahead turns idle = elim (cases_lt voter (suc next)) [
  | inl l ↦ (
    now,
    turns_idle snapshot committee old now voter next (omega (arith, l)) turns (λ u a b. idle u a (omega (arith, b))),
    idle next (omega (arith, l)) (omega arith),
  )
  | inr l ↦
      let e : voter ≡ suc next = omega (arith, ahead, l) in
      subst (λ n. AreTurns snapshot committee n old now) e turns
]

-- what a turn leaves of the spans
module _ (snapshot : Snapshot) (edges : List Edge) (supports : List ℕ) (now : List Edge) (table : List ℕ) (start : ℕ) (changed : Bool) (voter : ℕ)
    (so : IsTurned snapshot edges supports now table start changed voter) (end : ℕ) (ahead : start ≤ end) (inside : end ≤ length now)
    (own : (k : ℕ) (d : Edge) → start ≤ k → k < end → (get_or now k d).voter ≡ voter)
    (next : (d : Edge) → end < length now → (get_or now end d).voter ≢ voter) (new : List Edge) (after : List ℕ) (told : Bool)
    (alike : AreAlike (take (end - start) (drop start now)) new) (moved : AreMoved (take (end - start) (drop start now)) new table after)
    (even : 1 ≤ length (take (end - start) (drop start now)) → IsEven (stake_of snapshot voter) new after)
    (tells : told ≡ differs (amounts (take (end - start) (drop start now))) (amounts new)) (fits : stake_of snapshot voter < 2 ^ 64)
    (in_snapshot : voter < length snapshot.voters) (voters : ℕ) (spans : List Span) (are : AreSpans snapshot voters now spans) where
  abbrev laid : List Edge
  laid = put_mid start (end - start) now new

  laid_alike : AreAlike now laid
  laid_alike = alike_next snapshot edges supports now table start changed voter so end ahead inside own next new after told alike moved even tells fits in_snapshot

  pub spans_kept : HasSpan spans voter ⊎ (voters ≤ voter) → AreSpans snapshot voters laid spans
  spans_kept = kept_spans snapshot voters now laid spans voter are laid_alike
      (others_next snapshot edges supports now table start changed voter so end ahead inside own next new after told alike moved even tells fits in_snapshot)

  pub spans_noted : voters ≡ voter → (noted : List Span) → (start + 1 < end → noted ≡ spans ++ record { voter = voter; start = start; end = end } ∷ [])
      → (end ≤ start + 1 → noted ≡ spans) → AreSpans snapshot (voter + 1) laid noted
  spans_noted e noted put left =
      let kept : AreSpans snapshot voter laid spans = subst (λ n. AreSpans snapshot n laid spans) e (spans_kept (inr (omega (arith, e)))) in
      elim (cases_lt (start + 1) end) [
        | inl two ↦ subst (AreSpans snapshot (voter + 1) laid) (sym (put two)) (span_more snapshot span laid spans kept
            (span_alike now laid span laid_alike (span_here snapshot edges supports now table start changed voter so end ahead inside own next (omega (arith, two)))))
        | inr few ↦ subst (AreSpans snapshot (voter + 1) laid) (sym (left few)) (idle_more snapshot voter laid spans kept
            (subst (IsIdle (stake_of snapshot voter))
            (sym (own_next snapshot edges supports now table start changed voter so end ahead inside own next new after told alike moved even tells fits in_snapshot)) (idle few)))
      ]
    where
      span : Span
      span = record { voter = voter; start = start; end = end }

      long : length (take (end - start) (drop start now)) ≡ end - start
      long = long_row snapshot edges supports now table start changed voter so end ahead inside own next

      idle : end ≤ start + 1 → IsIdle (stake_of snapshot voter) new
      idle few = record {
        few = omega (arith, few, long, alike.count);
        whole = λ some. (even (omega (arith, some, alike.count))).whole;
      }

module _ (snapshot : Snapshot) (edges : List Edge) (supports : List ℕ) (now : List Edge) (table : List ℕ) (changed : Bool) (spans : List Span) (i : ℕ)
    (so : IsTurned snapshot edges supports now table (read spans i) changed (passed spans i)) (are : AreSpans snapshot (length snapshot.voters) now spans)
    (within : i ≤ length spans) where
  -- up to a voter that is not behind the next span
  turns_up : (next : ℕ) → passed spans i ≤ next → next ≤ length snapshot.voters → (i < length spans → next ≤ (get_or spans i none).voter)
      → (committee : List ℕ) → Covers snapshot committee edges → AreTurns snapshot committee next edges now
  turns_up next ahead most before committee covers =
      turns_idle snapshot committee edges now (passed spans i) next ahead (so.turns committee covers) turn
    where
      turn : (u : ℕ) → passed spans i ≤ u → u < next → IsTurn snapshot committee u now now
      turn u a b = elim (are.others u (omega (arith, b, most))) [
        | inl has ↦ absurd (between spans i u are.rising within a (λ h. omega (arith, b, before h)) has)
        | inr idle ↦ idle_turn snapshot committee u now idle (λ target. covers_alike snapshot committee edges now so.alike covers u target (omega (arith, b, most)))
      ]

  pub turns_all : i ≡ length spans → (committee : List ℕ) → Covers snapshot committee edges → AreTurns snapshot committee (length snapshot.voters) edges now
  turns_all e = turns_up (length snapshot.voters) (passed_within spans i (length snapshot.voters) are.in_range within) (omega arith) (λ h. absurd (omega (arith, h, e)))

  module _ (inside : i < length spans) where
    abbrev span : Span
    span = get_or spans i none

    ahead : passed spans i ≤ span.voter
    ahead = passed_next spans i are.rising inside

    pub behind : read spans i ≤ span.start
    behind = elim (cases_lt span.start (read spans i)) [
      | inl l ↦ absurd (omega (
        arith,
        so.before span.start no_edge l (omega (arith, (are.sound i none inside).some, (are.sound i none inside).within)),
        (are.sound i none inside).own span.start no_edge (omega arith) (are.sound i none inside).some,
        ahead,
      ))
      | inr l ↦ l
    ]

    still_unread : drop span.start now ≡ drop span.start edges
    still_unread =
        let e : read spans i + (span.start - read spans i) ≡ span.start = omega (arith, behind) in
        ap (λ n. drop n now) (sym e) ∙ sym (drop-drop (span.start - read spans i) (read spans i) now) ∙ ap (drop (span.start - read spans i)) so.unread
        ∙ drop-drop (span.start - read spans i) (read spans i) edges ∙ ap (λ n. drop n edges) e

    -- all voters before the span's had their turns
    pub skipped : IsTurned snapshot edges supports now table span.start changed span.voter
    skipped =
        let here : IsSpan now span = are.sound i none inside in
        record {
          within = omega (arith, here.some, here.within);
          before = λ k d h _. here.before k d h;
          behind = λ k d a b. elim (cases_lt k span.end) [
            | inl l ↦ omega (arith, here.own k d a l)
            | inr l ↦ omega (arith, here.behind k d l b)
          ];
          unread = still_unread;
          kept = so.kept;
          count = so.count;
          alike = so.alike;
          told = so.told;
          turns = turns_up span.voter ahead (omega (arith, are.in_range i none inside)) (λ _. omega arith);
        }

    pub other_next : (d : Edge) → span.end < length now → (get_or now span.end d).voter ≢ span.voter
    other_next d h same = omega (arith, (are.sound i none inside).behind span.end d (omega arith) h, same)

    pub has_span : HasSpan spans span.voter
    has_span = (i, inside, λ d. ap (λ (s : Span). s.voter) (get_or_default spans i d none inside))

    pub span_sound : IsRow table (take (span.end - span.start) (drop span.start now))
    span_sound = let here : IsSpan now span = are.sound i none inside in
        row_sound snapshot edges supports now table span.start changed span.voter skipped span.end (omega (arith, here.some)) here.within here.own other_next

    module _ (new : List Edge) (after : List ℕ) (told : Bool) (alike : AreAlike (take (span.end - span.start) (drop span.start now)) new)
        (moved : AreMoved (take (span.end - span.start) (drop span.start now)) new table after)
        (even : 1 ≤ length (take (span.end - span.start) (drop span.start now)) → IsEven (stake_of snapshot span.voter) new after)
        (tells : told ≡ differs (amounts (take (span.end - span.start) (drop span.start now))) (amounts new)) (fits : stake_of snapshot span.voter < 2 ^ 64) where
      pub span_turned : IsTurned snapshot edges supports (put_mid span.start (span.end - span.start) now new) after (read spans (i + 1)) (changed || told) (passed spans (i + 1))
      span_turned =
          let here : IsSpan now span = are.sound i none inside in
          let e : suc i ≡ i + 1 = omega arith in
          subst (λ n. IsTurned snapshot edges supports (put_mid span.start (span.end - span.start) now new) after (read spans n) (changed || told) (passed spans n)) e
          (turned_next snapshot edges supports now table span.start changed span.voter skipped span.end (omega (arith, here.some)) here.within here.own other_next
          new after told alike moved even tells fits (are.in_range i none inside))

      pub span_kept : AreSpans snapshot (length snapshot.voters) (put_mid span.start (span.end - span.start) now new) spans
      span_kept =
          let here : IsSpan now span = are.sound i none inside in
          spans_kept snapshot edges supports now table span.start changed span.voter skipped span.end (omega (arith, here.some)) here.within here.own other_next
          new after told alike moved even tells fits (are.in_range i none inside) (length snapshot.voters) spans are (inl has_span)
