-- Slashes that are applied one after the other, as often as one is due.
use Rattle.std.proofs.Common.{◌≡◌, ℕ, zero, suc, ◌≤◌, ◌<◌, Bool, true, false, not, cond, nat_le, List, [], ◌∷◌, ◌++◌, length, find, Option, Some, None, refl, sym, ◌∙◌, ap, subst, arith, append_assoc}
use Rattle.npos_base.proofs.NumberTests.{number_same}
use Rattle.era_book.specs.declared.exposure.Backer.{Backer}
use Rattle.era_book.specs.declared.deferred.DeferredSlash.{DeferredSlash}
use Rattle.era_book.specs.Eras.{Eras}
use Rattle.era_book.specs.Deferred.{has_number, without, next_due, without_slash, without_next_due}
use Rattle.block_receipts.specs.declared.line.Line.{Line}
use Rattle.block_receipts.specs.declared.line.Line.TheVariants as lines
use Rattle.npos_runtime.specs.declared.chain.Chain.{Chain}
use Rattle.npos_runtime.specs.Rules.Outcome.{Outcome, Told, Goes, quiet, after, told_after}
use Rattle.npos_runtime.specs.Rules.Offices.{slashes, apply_slash, applied}
use Rattle.npos_runtime.proofs.Rules.OutcomeLemmas.{told_more}
use Rattle.npos_runtime.proofs.Rules.OfficeCallLemmas.{eras_applied}

-- ## What is found leaves

fewer : (number : ℕ) (slashes : List DeferredSlash) → length (without number slashes) ≤ length slashes
fewer number [] = omega arith
fewer number (slash ∷ slashes) = at (not (has_number number slash)) (fewer number slashes) where
  at : (b : Bool) → length (without number slashes) ≤ length slashes
      → length (cond b (slash ∷ without number slashes) (without number slashes)) ≤ length (slash ∷ slashes)
  at true less = omega (arith, less)
  at false less = omega (arith, less)

fewer_found : (current : ℕ) (slash : DeferredSlash) (slashes : List DeferredSlash) → find (λ s. nat_le s.due current) slashes ≡ Some slash
    → length (without slash.number slashes) < length slashes
fewer_found current slash [] found = absurd (cc)
fewer_found current slash (first ∷ slashes) found = at (nat_le first.due current) found (λ is. fewer_found current slash slashes is) where
  at : (b : Bool) → cond b (Some first) (find (λ s. nat_le s.due current) slashes) ≡ Some slash
      → (find (λ s. nat_le s.due current) slashes ≡ Some slash → length (without slash.number slashes) < length slashes)
      → length (without slash.number (first ∷ slashes)) < length (first ∷ slashes)
  at true is later =
      let same : first ≡ slash = cc in
      let here : has_number slash.number first ≡ true = ap (λ (s : DeferredSlash). has_number slash.number s) same ∙ number_same slash.number in
      let gone : length (without slash.number (first ∷ slashes)) ≡ length (without slash.number slashes) =
      ap (λ b. length (cond (not b) (first ∷ without slash.number slashes) (without slash.number slashes))) here in
      omega (arith, gone, fewer slash.number slashes)
  at false is later = over (not (has_number slash.number first)) (later is) where
    over : (b : Bool) → length (without slash.number slashes) < length slashes
        → length (cond b (first ∷ without slash.number slashes) (without slash.number slashes)) < length (first ∷ slashes)
    over true less = omega (arith, less)
    over false less = omega (arith, less)

-- the slash that is due next leaves a shorter queue
pub shorter : (eras : Eras) (slash : DeferredSlash) → next_due eras ≡ Some slash → length (without_next_due eras).queue < length eras.queue
shorter eras slash found =
    subst (λ (o : Option DeferredSlash). length (without_slash o eras.queue) < length eras.queue) (sym found)
    (fewer_found eras.current slash eras.queue found)

-- ## As often as one is due

-- where none is due, nothing happens any more
pub idle : (count : ℕ) (chain : Chain) → next_due chain.eras ≡ None → applied count chain ≡ quiet chain
idle zero chain none = refl
idle (suc more) chain none =
    ap (λ (o : Option DeferredSlash). after (apply_slash o chain) (applied more)) none ∙ idle more chain none

left_by : (chain : Chain) (slash : DeferredSlash) → next_due chain.eras ≡ Some slash
    → length (apply_slash (next_due chain.eras) chain).state.eras.queue < length chain.eras.queue
left_by chain slash found =
    omega (
      arith,
      shorter chain.eras slash found,
      ap (λ (eras : Eras). length eras.queue) (eras_applied (next_due chain.eras) chain refl),
    )

nobody : (eras : Eras) → length eras.queue ≤ 0 → next_due eras ≡ None
nobody eras none = at eras.queue none where
  at : (slashes : List DeferredSlash) → length slashes ≤ 0 → find (λ s. nat_le s.due eras.current) slashes ≡ None
  at [] none = refl
  at (slash ∷ slashes) none = absurd (omega (arith, none))

-- more turns than slashes that wait do nothing more
pub same_applied : (some more : ℕ) (chain : Chain) → length chain.eras.queue ≤ some → length chain.eras.queue ≤ more
    → applied some chain ≡ applied more chain
same_applied zero zero chain few fits = refl
same_applied zero (suc more) chain few fits = sym (idle (suc more) chain (nobody chain.eras (omega (arith, few))))
same_applied (suc some) zero chain few fits = idle (suc some) chain (nobody chain.eras (omega (arith, fits)))
same_applied (suc some) (suc more) chain few fits = at (next_due chain.eras) refl (λ next fewer less. same_applied some more next fewer less) where
  at : (found : Option DeferredSlash) → next_due chain.eras ≡ found
      → ((next : Chain) → length next.eras.queue ≤ some → length next.eras.queue ≤ more → applied some next ≡ applied more next)
      → applied (suc some) chain ≡ applied (suc more) chain
  at None none later = idle (suc some) chain none ∙ sym (idle (suc more) chain none)
  at (Some slash) found later =
      let first : Outcome = apply_slash (next_due chain.eras) chain in
      let less = left_by chain slash found in
      let rest : applied some first.state ≡ applied more first.state =
      later first.state (omega (arith, less, few)) (omega (arith, less, fits)) in
      ap (λ (next : Outcome). record {
        state = next.state;
        lines = first.lines ++ next.lines;
        seated = first.seated ++ next.seated;
      }) rest

-- one is taken out and applied, and then those that are due still
pub one_applied : (chain : Chain) (slash : DeferredSlash) → next_due chain.eras ≡ Some slash
    → after (apply_slash (Some slash) chain) (λ next. applied (length next.eras.queue) next) ≡ applied (length chain.eras.queue) chain
one_applied chain slash found =
    ap (λ (o : Option DeferredSlash). after (apply_slash o chain) (λ next. applied (length next.eras.queue) next)) (sym found)
    ∙ at (length chain.eras.queue) refl where
      at : (count : ℕ) → length chain.eras.queue ≡ count
          → after (apply_slash (next_due chain.eras) chain) (λ next. applied (length next.eras.queue) next) ≡ applied count chain
      at zero is = absurd (omega (arith, is, left_by chain slash found))
      at (suc more) is =
          let first : Outcome = apply_slash (next_due chain.eras) chain in
          ap (λ (next : Outcome). record {
            state = next.state;
            lines = first.lines ++ next.lines;
            seated = first.seated ++ next.seated;
          })
          (same_applied (length first.state.eras.queue) more first.state (omega arith) (omega (arith, is, left_by chain slash found)))

-- ## The turns of the loop

goes_applied : (chain start end : Chain) (slash : DeferredSlash) (dues : List Backer) (old between new : List Line) → dues ≡ slash.lines
    → start ≡ record chain { eras = without_next_due chain.eras } → between ≡ old ++ lines.Applied slash.number ∷ []
    → Goes (slashes dues start) end between new → Goes (apply_slash (Some slash) chain) end old new
goes_applied chain start end slash dues old between new all is told goes =
    let same : slashes dues start ≡ slashes slash.lines (record chain { eras = without_next_due chain.eras }) =
    ap (λ (ds : List Backer). slashes ds start) all ∙ ap (slashes slash.lines) is in
    record {
      state = goes.state ∙ ap (λ (o : Outcome). o.state) same;
      lines = goes.lines
          ∙ (ap (λ (o : Outcome). between ++ o.lines) same
          ∙ (ap (λ (told : List Line). told ++ (slashes slash.lines (record chain { eras = without_next_due chain.eras })).lines) told
          ∙ append_assoc old (lines.Applied slash.number ∷ [])
          (slashes slash.lines (record chain { eras = without_next_due chain.eras })).lines));
    }

pub turn_applied : (chain start end : Chain) (slash : DeferredSlash) (dues : List Backer) (old between new : List Line) → next_due chain.eras ≡ Some slash
    → dues ≡ slash.lines → start ≡ record chain { eras = without_next_due chain.eras } → between ≡ old ++ lines.Applied slash.number ∷ []
    → Goes (slashes dues start) end between new
    → told_after new (applied (length end.eras.queue) end) ≡ told_after old (applied (length chain.eras.queue) chain)
turn_applied chain start end slash dues old between new found all is told goes =
    told_more (apply_slash (Some slash) chain) (λ next. applied (length next.eras.queue) next) end old new
    (goes_applied chain start end slash dues old between new all is told goes)
    ∙ ap (told_after old) (one_applied chain slash found)

-- at last none is due
pub goes_last : (first chain last : Chain) (old told : List Line) → next_due chain.eras ≡ None → last ≡ record chain { eras = without_next_due chain.eras }
    → told_after told (applied (length chain.eras.queue) chain) ≡ told_after old (applied (length first.eras.queue) first)
    → Goes (applied (length first.eras.queue) first) last old told
goes_last first chain last old told none is same =
    let stays : record chain { eras = without_next_due chain.eras } ≡ chain =
    ap (λ (o : Option DeferredSlash). record chain { eras = record chain.eras { queue = without_slash o chain.eras.queue } }) none in
    let quiet_is : applied (length chain.eras.queue) chain ≡ quiet chain = idle (length chain.eras.queue) chain none in
    let whole : told_after told (quiet chain) ≡ told_after old (applied (length first.eras.queue) first) = ap (told_after told) (sym quiet_is) ∙ same in
    record {
      state = is ∙ (stays ∙ ap (λ (t : Told). t.state) whole);
      lines = no_more told ∙ ap (λ (t : Told). t.lines) whole;
    } where
      no_more : (xs : List Line) → xs ≡ xs ++ []
      no_more [] = refl
      no_more (x ∷ xs) = ap (λ ys. x ∷ ys) (no_more xs)
