-- Points, payouts and offences: their rules are lawful.
use Rattle.std.proofs.Common.{◌≡◌, inl, ℕ, zero, suc, ◌+◌, ◌≤◌, ◌<◌, All, Bool, true, false, cond, not, nat_lt, nat_eq, ◌==◌, List, []}
use Rattle.std.proofs.Common.{◌∷◌, ◌++◌, map, sum_by, Option, Some, None, option_map, refl, sym, ◌∙◌, ap, subst, arith, if◌then◌else◌}
use Rattle.std.proofs.lemmas.Bool.{ltb-false}
use Rattle.std.specs.Option.{option_or}
use Rattle.std.specs.List.{IsDistinct}
use Rattle.std.proofs.lemmas.Bool.Decides.{nat_tests}
use Rattle.std.proofs.lemmas.List.Sums.{sum_by-append, sum_by-cons}
use Rattle.std.proofs.lemmas.List.Elements.{All-filter, All-push, All-nil, All-cons}
use Rattle.npos_base.specs.declared.account.AccountId.{AccountId}
use Rattle.npos_base.specs.Account.{same_account}
use Rattle.stake_ledger.specs.Ledger.{row_at}
use Rattle.stake_ledger.specs.Calls.{mint_refusal, room_of, slashed, slash_amount}
use Rattle.stake_ledger.specs.declared.refusal.LedgerRefusal.TheVariants.{IssuanceCap}
use Rattle.era_book.specs.declared.exposure.Backer.{Backer}
use Rattle.era_book.specs.Exposures.{amount_sum, amount_for, AreApart}
use Rattle.era_book.specs.Eras.{Eras, members_in, member_in, AreKept}
use Rattle.era_book.specs.Members.{Member}
use Rattle.era_book.proofs.DeferredLemmas.{lines_apart}
use Rattle.era_book.proofs.EraLemmas.{member_sound}
use Rattle.era_book.proofs.HistoryLemmas.{members_sound}
use Rattle.era_book.specs.declared.deferred.DeferredSlash.{DeferredSlash}
use Rattle.era_book.specs.Deferred.{has_number, queue_refusal, cancel_refusal, cancelling, next_due, without_slash, without_next_due}
use Rattle.era_book.specs.Calls.{points_refusal, pointed, payout_refusal, paid as claimed, slash_refusal, due_behind, slash_in, reported}
use Rattle.era_book.proofs.LawLemmas.{for_sum}
use Rattle.block_receipts.specs.declared.line.Line.{Line}
use Rattle.block_receipts.specs.declared.line.Line.TheVariants as lines
use Rattle.block_receipts.specs.declared.refusal.Refusal.{Refusal}
use Rattle.block_receipts.specs.declared.refusal.Refusal.TheVariants.{Ledger as ByLedger, Era as ByEra, NotRoot}
use Rattle.chain_params.specs.Rules.{era_reward_of}
use Rattle.npos_runtime.specs.declared.chain.Chain.{Chain}
use Rattle.npos_runtime.specs.Rules.BookCalls.{release_now}
use Rattle.npos_runtime.specs.Rules.Outcome.{Outcome}
use Rattle.npos_runtime.specs.Rules.CallRule.{CallRule}
use Rattle.npos_runtime.specs.Rules.Offices.{is_root, points_rule, payout_now, payout_rule, all_minted, paid_line, slash_told, slashed_once, slashes}
use Rattle.npos_runtime.specs.Rules.Offices.{slashing_rule, due_now, deferring_rule, by_root, offence_rule, cancel_rule, apply_slash, applied}
use Rattle.npos_runtime.specs.Live.{IsLive}
use Rattle.npos_runtime.specs.Histories.Fates.{settles, fate}
use Rattle.npos_runtime.specs.Histories.Eras.{amount_paid, told_paid, amount_taken, told_taken}
use Rattle.npos_runtime.proofs.Rules.BookLemmas.{books_slashed, all_books_minted}
use Rattle.npos_runtime.proofs.Rules.OfficeLemmas.{payout_sums}
use Rattle.npos_runtime.proofs.Rules.PartLemmas.{none_inside, first_none, second_none, retired_live, with_books, with_eras}
use Rattle.npos_runtime.specs.Histories.Deferred.{waiting_due}
use Rattle.npos_runtime.proofs.Histories.WaitingDueLemmas.{due_queued, due_same, due_unlisted, due_without}
use Rattle.npos_runtime.specs.Histories.Sums.{AddsUp}
use Rattle.npos_runtime.proofs.Rules.CodeLemmas.{coding}
use Rattle.npos_runtime.proofs.Rules.RuleLemmas.{KeepsLive, LeavesQueue, IsLawful}
use Rattle.npos_runtime.proofs.Histories.SumLemmas.{adds_none, adds_behind, adds_paid, adds_slashes}

-- ## The chain stays live

pub slashed_live : (due : Backer) (chain : Chain) → IsLive chain → IsLive (slashed_once due chain)
slashed_live due chain live =
    retired_live (record chain { book = slashed due.who due.amount chain.book }) due.who
    (with_books chain (slashed due.who due.amount chain.book) live
    (books_slashed (release_now chain) chain.book due.who due.amount chain.queue.items live.books))

pub slashes_live : (dues : List Backer) (chain : Chain) → IsLive chain → IsLive (slashes dues chain).state
slashes_live [] chain live = live
slashes_live (due ∷ more) chain live = slashes_live more (slashed_once due chain) (slashed_live due chain live)

-- slashes change books, roles and bags alone
pub slashes_within : (dues : List Backer) (chain : Chain)
    → (slashes dues chain).state ≡ record chain {
      book = (slashes dues chain).state.book;
      roles = (slashes dues chain).state.roles;
      bags = (slashes dues chain).state.bags;
    }
slashes_within [] chain = refl
slashes_within (due ∷ more) chain = slashes_within more (slashed_once due chain)

-- the slashes of a report, and the fraction kept
pub offence_is : (chain left : Chain) (era : ℕ) (validator : AccountId) (fraction : ℕ) (dues : List Backer) (eras : Eras)
    → dues ≡ slash_in chain.eras era validator fraction
    → left ≡ (slashes dues chain).state → eras ≡ reported era validator fraction left.eras
    → record left { eras = eras } ≡ (slashing_rule chain era validator fraction).done
offence_is chain left era validator fraction dues eras all is kept =
    let whole : left ≡ record chain {
      book = (slashes (slash_in chain.eras era validator fraction) chain).state.book;
      roles = (slashes (slash_in chain.eras era validator fraction) chain).state.roles;
      bags = (slashes (slash_in chain.eras era validator fraction) chain).state.bags;
    } = is ∙ (ap (λ (ds : List Backer). (slashes ds chain).state) all ∙ slashes_within
    (slash_in chain.eras era validator fraction) chain) in
    let marked : eras ≡ reported era validator fraction chain.eras =
    kept ∙ ap (λ (c : Chain). reported era validator fraction c.eras) whole in
    λ i. record (whole i) { eras = marked i }

-- ## Slashes that are applied

abbrev AreWithin : ℕ → Type 0
AreWithin count = (c : Chain) → (applied count c).state ≡ record c {
  book = (applied count c).state.book;
  roles = (applied count c).state.roles;
  bags = (applied count c).state.bags;
  eras = record c.eras { queue = (applied count c).state.eras.queue };
}

-- what changes by them: books, roles and bags, and what waits
pub applied_within : (count : ℕ) (chain : Chain)
    → (applied count chain).state ≡ record chain {
      book = (applied count chain).state.book;
      roles = (applied count chain).state.roles;
      bags = (applied count chain).state.bags;
      eras = record chain.eras { queue = (applied count chain).state.eras.queue };
    }
applied_within zero chain = refl
applied_within (suc more) chain = at (next_due chain.eras) (λ next. applied_within more next) where
  rest : AreWithin more → (next : Chain)
      → next ≡ record chain { book = next.book; roles = next.roles; bags = next.bags; eras = record chain.eras { queue = next.eras.queue } }
      → (applied more next).state ≡ record chain {
        book = (applied more next).state.book;
        roles = (applied more next).state.roles;
        bags = (applied more next).state.bags;
        eras = record chain.eras { queue = (applied more next).state.eras.queue };
      }
  rest later next is =
      later next
      ∙ ap (λ (c : Chain). record c {
        book = (applied more next).state.book;
        roles = (applied more next).state.roles;
        bags = (applied more next).state.bags;
        eras = record c.eras { queue = (applied more next).state.eras.queue };
      }) is

  at : (found : Option DeferredSlash) → AreWithin more
      → (applied more (apply_slash found chain).state).state ≡ record chain {
        book = (applied more (apply_slash found chain).state).state.book;
        roles = (applied more (apply_slash found chain).state).state.roles;
        bags = (applied more (apply_slash found chain).state).state.bags;
        eras = record chain.eras { queue = (applied more (apply_slash found chain).state).state.eras.queue };
      }
  at None later = rest later chain refl
  at (Some slash) later =
      let start : Chain = record chain { eras = without_next_due chain.eras } in
      let end : Chain = (slashes slash.lines start).state in
      let is : end ≡ record start { book = end.book; roles = end.roles; bags = end.bags } = slashes_within slash.lines start in
      rest later end (is ∙ ap (λ (queue : List DeferredSlash). record start {
        book = end.book;
        roles = end.roles;
        bags = end.bags;
        eras = record chain.eras { queue = queue };
      }) (ap (λ (c : Chain). c.eras.queue) (sym is)))

apply_live : (found : Option DeferredSlash) (chain : Chain) → IsLive chain → IsLive (apply_slash found chain).state
apply_live None chain live = live
apply_live (Some slash) chain live =
    slashes_live slash.lines (record chain { eras = without_next_due chain.eras }) (with_eras chain (without_next_due chain.eras) live)

pub applied_live : (count : ℕ) (chain : Chain) → IsLive chain → IsLive (applied count chain).state
applied_live zero chain live = live
applied_live (suc more) chain live = applied_live more (apply_slash (next_due chain.eras) chain).state (apply_live (next_due chain.eras) chain live)

-- the eras behind one of them
pub eras_applied : (found : Option DeferredSlash) (chain : Chain) → next_due chain.eras ≡ found
    → (apply_slash found chain).state.eras ≡ without_next_due chain.eras
eras_applied None chain is = ap (λ (o : Option DeferredSlash). record chain.eras { queue = without_slash o chain.eras.queue }) (sym is)
eras_applied (Some slash) chain is =
    ap (λ (c : Chain). c.eras) (slashes_within slash.lines (record chain { eras = without_next_due chain.eras }))

-- what holds of all that wait holds of those that wait still
module _ (P : DeferredSlash → Type 0) where
  left_keeps : (found : Option DeferredSlash) (slashes : List DeferredSlash) → All P slashes → All P (without_slash found slashes)
  left_keeps None slashes all = all
  left_keeps (Some slash) slashes all = All-filter (λ other. not (has_number slash.number other)) P slashes all

  pub applied_keeps : (count : ℕ) (chain : Chain) → All P chain.eras.queue → All P (applied count chain).state.eras.queue
  applied_keeps zero chain all = all
  applied_keeps (suc more) chain all =
      let next : Chain = (apply_slash (next_due chain.eras) chain).state in
      applied_keeps more next
      (subst (λ (eras : Eras). All P eras.queue) (sym (eras_applied (next_due chain.eras) chain refl))
      (left_keeps (next_due chain.eras) chain.eras.queue all))

-- what a payout that is not refused pays fits into what may still be minted
pub payout_fits : (chain : Chain) (era : ℕ) (validator : AccountId) → (payout_rule chain era validator).refusal ≡ None
    → amount_sum (payout_now chain era validator).lines ≤ room_of chain.book
payout_fits chain era validator free =
    let allowed = none_inside ByLedger (mint_refusal chain.book (payout_now chain era validator).total)
    (second_none (option_map ByEra (payout_refusal chain.eras era validator))
    (option_map ByLedger (mint_refusal chain.book (payout_now chain era validator).total)) free) in
    subst (λ n. n ≤ room_of chain.book) (payout_sums chain.eras era validator (era_reward_of chain.params))
    (within (nat_lt (room_of chain.book) (payout_now chain era validator).total) refl allowed) where
      within : (b : Bool) → nat_lt (room_of chain.book) (payout_now chain era validator).total ≡ b
          → (if b then Some IssuanceCap else None) ≡ None
          → (payout_now chain era validator).total ≤ room_of chain.book
      within true e none = cc
      within false e none = ltb-false (room_of chain.book) (payout_now chain era validator).total e

pub points_live : (chain : Chain) (who : AccountId) (items : List (AccountId × ℕ)) → KeepsLive chain (points_rule chain who items)
points_live chain who items live free = with_eras chain (pointed items chain.eras) live

pub payout_live : (chain : Chain) (era : ℕ) (validator : AccountId) → KeepsLive chain (payout_rule chain era validator)
payout_live chain era validator live free =
    let lines : List Backer = (payout_now chain era validator).lines in
    let books = all_books_minted (release_now chain) lines chain.queue.items chain.book (payout_fits chain era validator free) live.books in
    with_eras (record chain { book = all_minted lines chain.book }) (claimed era validator chain.eras)
    (with_books chain (all_minted lines chain.book) live books)

slashing_live : (chain : Chain) (era : ℕ) (validator : AccountId) (fraction : ℕ) → IsLive chain
    → IsLive (slashing_rule chain era validator fraction).done
slashing_live chain era validator fraction live =
    let dues : List Backer = slash_in chain.eras era validator fraction in
    subst IsLive (ap (λ (c : Chain). record c { eras = reported era validator fraction chain.eras }) (slashes_within dues chain))
    (with_eras (slashes dues chain).state (reported era validator fraction chain.eras) (slashes_live dues chain live))

-- ## What they tell settles nothing

module _ (number : ℕ) where
  abbrev pub settling : Line → ℕ
  settling line = cond (settles number line) 1 0

  pub settled_more : (line : Line) (told : List Line) → fate number (line ∷ told) ≡ settling line + fate number told
  settled_more line told = sum_by-cons settling line told

  pub payments_settle : (paid : List Backer) → fate number (map paid_line paid) ≡ 0
  payments_settle [] = refl
  payments_settle (line ∷ more) = omega (arith, settled_more (paid_line line) (map paid_line more), payments_settle more)

  slash_settles : (who : AccountId) (taken : ℕ) → fate number (slash_told who taken) ≡ 0
  slash_settles who taken = at (taken == 0) where
    at : (b : Bool) → fate number (if b then [] else lines.Slashed who taken ∷ []) ≡ 0
    at true = refl
    at false = refl

  pub slashes_settle : (dues : List Backer) (chain : Chain) → fate number (slashes dues chain).lines ≡ 0
  slashes_settle [] chain = refl
  slashes_settle (due ∷ more) chain =
      let taken : ℕ = slash_amount (row_at chain.book due.who) due.amount in
      omega (
        arith,
        sum_by-append settling (slash_told due.who taken) (slashes more (slashed_once due chain)).lines,
        slash_settles due.who taken,
        slashes_settle more (slashed_once due chain),
      )

  apply_settles : (found : Option DeferredSlash) (chain : Chain) → fate number (apply_slash found chain).lines ≡ 0
  apply_settles None chain = refl
  apply_settles (Some slash) chain =
      let start : Chain = record chain { eras = without_next_due chain.eras } in
      omega (arith, settled_more (lines.Applied slash.number) (slashes slash.lines start).lines, slashes_settle slash.lines start)

  pub applied_settle : (count : ℕ) (chain : Chain) → fate number (applied count chain).lines ≡ 0
  applied_settle zero chain = refl
  applied_settle (suc more) chain =
      let first : Outcome = apply_slash (next_due chain.eras) chain in
      omega (
        arith,
        sum_by-append settling first.lines (applied more first.state).lines,
        apply_settles (next_due chain.eras) chain,
        applied_settle more first.state,
      )

-- ## What they tell is what they pay, and no more than they make due

told_lines : (lines_of : List Backer) → told_paid (map paid_line lines_of) ≡ amount_sum lines_of
told_lines [] = refl
told_lines (line ∷ more) =
    omega (
      arith,
      told_lines more,
      sum_by-cons amount_paid (paid_line line) (map paid_line more),
      sum_by-cons
          (λ (l : Backer). l.amount) line more,
    )

pub told_payout : (chain : Chain) (era : ℕ) (validator : AccountId)
    → told_paid ((payout_rule chain era validator).told) ≡ (payout_now chain era validator).total
told_payout chain era validator =
    told_lines (payout_now chain era validator).lines ∙ sym (payout_sums chain.eras era validator (era_reward_of chain.params))

-- the lines of one slash
told_slash : (who of : AccountId) (taken amount : ℕ) → taken ≤ amount
    → told_taken who (slash_told of taken) ≤ cond (same_account of who) amount 0
told_slash who of taken amount less = at (taken == 0) where
  one : (b : Bool) → cond b taken 0 + 0 ≤ cond b amount 0
  one true = omega (arith, less)
  one false = omega arith

  at : (b : Bool) → told_taken who (if b then [] else lines.Slashed of taken ∷ []) ≤ cond (same_account of who) amount 0
  at true = omega arith
  at false = omega (arith, one (same_account of who), sum_by-cons (amount_taken who) (lines.Slashed of taken) [])

pub told_slashes : (who : AccountId) (dues : List Backer) (chain : Chain)
    → told_taken who (slashes dues chain).lines ≤ sum_by (λ (l : Backer). cond (same_account l.who who) l.amount 0) dues
told_slashes who [] chain = omega arith
told_slashes who (due ∷ more) chain =
    let taken : ℕ = slash_amount (row_at chain.book due.who) due.amount in
    let next : Chain = slashed_once due chain in
    let less : taken ≤ due.amount = omega arith in
    omega (
      arith,
      told_slash who due.who taken due.amount less,
      told_slashes who more next,
      sum_by-append (amount_taken who) (slash_told due.who taken) (slashes more next).lines,
      sum_by-cons (λ (l : Backer). cond (same_account l.who who) l.amount 0) due more,
    )

pub root_free : (root : Bool) (due : Option Refusal) → (if not root then Some NotRoot else due) ≡ None → due ≡ None
root_free true due e = e
root_free false due e = absurd (cc)

pub payout_free : (chain : Chain) (era : ℕ) (validator : AccountId) → (payout_rule chain era validator).refusal ≡ None
    → payout_refusal chain.eras era validator ≡ None
payout_free chain era validator free =
    none_inside ByEra (payout_refusal chain.eras era validator)
    (first_none (option_map ByEra (payout_refusal chain.eras era validator))
    (option_map ByLedger (mint_refusal chain.book (payout_now chain era validator).total)) free)

-- ## Their rules

pub points_lawful : (chain : Chain) (who : AccountId) (items : List (AccountId × ℕ)) → IsLawful chain who (points_rule chain who items)
points_lawful chain who items = record {
  live = points_live chain who items;
  fixed = record { params = refl; defer = refl; round = refl; waiting = refl; due = refl; era = refl };
  next = omega arith;
  queue = inl (record { queue = refl; next = refl; settled = λ number. refl; offered = refl });
  eras = record {
    accepted =
        λ can free. (
          none_inside ByEra (points_refusal chain.eras items)
              (root_free (is_root chain who) (option_map ByEra (points_refusal chain.eras items)) free),
          tt,
        );
    eras = refl;
    begins = refl;
    paid = λ era index. refl;
    taken = λ era who index. omega arith;
  };
  line = record { later = λ later. later; next = omega arith };
  dues = record {
    waits = λ era who index numbers below given. omega arith;
    numbered = λ era index. All-nil (λ n. n < chain.eras.next_slash);
    more = omega arith;
  };
  sums = adds_none chain.book chain.book refl;
  code = search coding depth 9;
}

pub payout_lawful : (chain : Chain) (who : AccountId) (era : ℕ) (validator : AccountId)
    → IsLawful chain who (payout_rule chain era validator)
payout_lawful chain who era validator = record {
  live = payout_live chain era validator;
  fixed = record { params = refl; defer = refl; round = refl; waiting = refl; due = refl; era = refl };
  next = omega arith;
  queue =
      inl (record {
        queue = refl;
        next = refl;
        settled = λ number. payments_settle number
            (payout_now chain era validator).lines;
        offered = refl;
      });
  eras = record {
    accepted = λ can free. (payout_free chain era validator free, tt);
    eras = refl;
    begins = refl;
    paid = paid;
    taken = λ other of index. omega arith;
  };
  line = record { later = λ later. later; next = omega arith };
  dues = record {
    waits = λ era who index numbers below given. omega arith;
    numbered = λ era index. All-nil (λ n. n < chain.eras.next_slash);
    more = omega arith;
  };
  sums = adds_paid (payout_now chain era validator).lines chain.book;
  code = search coding depth 9;
} where
  told : List Line
  told = (payout_rule chain era validator).told

  paid : (other index : ℕ)
      → (if era == other then told_paid (lines.CallOk index ∷ told) else 0) ≡
      (if nat_eq era other then (payout_now chain era validator).total else 0) + 0
  paid other index = at (era == other) where
    at : (b : Bool)
        → (if b then told_paid (lines.CallOk index ∷ told) else 0) ≡ (if b then (payout_now chain era validator).total else 0) + 0
    at true = omega (arith, sum_by-cons amount_paid (lines.CallOk index) told, told_payout chain era validator)
    at false = refl

-- what the root alone may call is lawful where the call is
rooted : (chain : Chain) (who : AccountId) (rule : CallRule) → LeavesQueue chain rule → IsLawful chain who rule → IsLawful chain who (by_root chain who rule)
rooted chain who rule leaves is = record {
  live = λ live free. is.live live (root_free (is_root chain who) rule.refusal free);
  fixed = is.fixed;
  next = is.next;
  queue = inl (record { queue = leaves.queue; next = leaves.next; settled = leaves.settled; offered = leaves.offered });
  eras = record {
    accepted = λ can free. is.eras.accepted can (root_free (is_root chain who) rule.refusal free);
    eras = is.eras.eras;
    begins = is.eras.begins;
    paid = is.eras.paid;
    taken = is.eras.taken;
  };
  line = is.line;
  dues = record { waits = is.dues.waits; numbered = is.dues.numbered; more = is.dues.more };
  sums = is.sums;
  code = search coding;
}

slashing_leaves : (chain : Chain) (era : ℕ) (validator : AccountId) (fraction : ℕ) → LeavesQueue chain (slashing_rule chain era validator fraction)
slashing_leaves chain era validator fraction = record {
  queue = refl;
  next = refl;
  settled = λ number. slashes_settle number (slash_in chain.eras era validator fraction) chain;
  offered = refl;
}

slashing_lawful : (chain : Chain) (who : AccountId) (era : ℕ) (validator : AccountId) (fraction : ℕ)
    → IsLawful chain who (slashing_rule chain era validator fraction)
slashing_lawful chain who era validator fraction = record {
  live = λ live free. slashing_live chain era validator fraction live;
  fixed = record { params = refl; defer = refl; round = refl; waiting = refl; due = refl; era = refl };
  next = omega arith;
  queue = inl (slashing_leaves chain era validator fraction);
  eras = record {
    accepted = λ can free. (none_inside ByEra (slash_refusal chain.eras era validator fraction) free, tt);
    eras = refl;
    begins = refl;
    paid = λ other index. refl;
    taken = taken;
  };
  line = record { later = λ later. later; next = omega arith };
  dues = record {
    waits = λ other of index numbers below given. omega (arith, taken other of index);
    numbered = λ other index. All-nil (λ n. n < chain.eras.next_slash);
    more = omega arith;
  };
  sums = adds_slashes (slash_in chain.eras era validator fraction) chain;
  code = search coding depth 9;
} where
  dues : List Backer
  dues = slash_in chain.eras era validator fraction

  taken : (other : ℕ) (of : AccountId) (index : ℕ)
      → (if era == other then told_taken of (lines.CallOk index ∷ (slashes dues chain).lines) else 0)
      ≤ (if nat_eq era other then amount_for of dues else 0) + 0
  taken other of index = at (era == other) where
    at : (b : Bool)
        → (if b then told_taken of (lines.CallOk index ∷ (slashes dues chain).lines) else 0) ≤ (if b then amount_for of dues else 0) + 0
    at true =
        omega (
          arith,
          told_slashes of dues chain,
          for_sum of dues,
          sum_by-cons (amount_taken of) (lines.CallOk index)
              (slashes dues chain).lines,
        )
    at false = omega arith

deferring_leaves : (chain : Chain) (era : ℕ) (validator : AccountId) (fraction : ℕ) → LeavesQueue chain (deferring_rule chain era validator fraction)
deferring_leaves chain era validator fraction = record { queue = refl; next = refl; settled = λ number. refl; offered = refl }

nobody_apart : AreApart []
unfolding IsDistinct
nobody_apart = tt

-- no account has two lines of a report
dues_apart : (eras : Eras) (era : ℕ) (validator : AccountId) (fraction : ℕ) → AreKept eras → AreApart (slash_in eras era validator fraction)
dues_apart eras era validator fraction kept = at (member_in eras era validator) refl where
  at : (found : Option Member) → member_in eras era validator ≡ found → AreApart (due_behind fraction found)
  at None is = nobody_apart
  at (Some member) is =
      lines_apart member.exposure.backers member.fraction fraction
      (member_sound (members_in eras era) validator member (members_sound eras era kept) is).distinct

-- that a slash waits tells of no units
deferring_adds : (chain : Chain) (era : ℕ) (validator : AccountId) (fraction : ℕ)
    → let rule : CallRule = deferring_rule chain era validator fraction in AddsUp chain.book rule.told rule.done.book
deferring_adds chain era validator fraction =
    adds_behind (lines.Deferred chain.eras.next_slash (due_now chain)) chain.book chain.book [] refl refl (adds_none chain.book chain.book refl)

deferring_lawful : (chain : Chain) (who : AccountId) (era : ℕ) (validator : AccountId) (fraction : ℕ) → 0 < chain.defer
    → IsLawful chain who (deferring_rule chain era validator fraction)
deferring_lawful chain who era validator fraction some = record {
  live = λ live free. with_eras chain (deferring_rule chain era validator fraction).done.eras live;
  fixed = record { params = refl; defer = refl; round = refl; waiting = refl; due = refl; era = refl };
  next = omega arith;
  queue = inl (deferring_leaves chain era validator fraction);
  eras = record {
    accepted = λ can free.
        let none = none_inside ByEra (option_or (slash_refusal chain.eras era validator fraction) (queue_refusal chain.eras)) free in (
          (
            second_none (slash_refusal chain.eras era validator fraction) (queue_refusal chain.eras) none,
            record {
              ahead = omega (arith, some);
              last = can.later;
              distinct = dues_apart chain.eras era validator fraction can.order.kept;
            },
          ),
          (first_none (slash_refusal chain.eras era validator fraction) (queue_refusal chain.eras) none, tt),
        );
    eras = refl;
    begins = refl;
    paid = λ other index. refl;
    taken = λ other of index. omega arith;
  };
  line = record {
    later = λ later. All-push (λ s. s.due ≤ chain.eras.current + chain.defer) chain.eras.queue slash later (omega arith);
    next = omega arith;
  };
  dues = record { waits = waits; numbered = numbered; more = omega arith };
  sums = deferring_adds chain era validator fraction;
  code = search coding depth 9;
} where
  slash : DeferredSlash
  slash = record { number = chain.eras.next_slash; due = due_now chain; lines = slash_in chain.eras era validator fraction }

  waits : (other : ℕ) (of : AccountId) (index : ℕ) (numbers : List ℕ) → All (λ n. n < chain.eras.next_slash) numbers
      → All (λ s. s.number < chain.eras.next_slash) chain.eras.queue
      → 0 + waiting_due ((if era == other then chain.eras.next_slash ∷ [] else []) ++ numbers) of (chain.eras.queue ++ slash ∷ [])
      ≤ (0 + ((if nat_eq era other then amount_for of slash.lines else 0) + 0)) + waiting_due numbers of chain.eras.queue
  waits other of index numbers below given = at (era == other) where
    at : (b : Bool)
        → 0 + waiting_due ((if b then chain.eras.next_slash ∷ [] else []) ++ numbers) of (chain.eras.queue ++ slash ∷ [])
        ≤ (0 + ((if b then amount_for of slash.lines else 0) + 0)) + waiting_due numbers of chain.eras.queue
    at true = omega (arith, due_queued (chain.eras.next_slash ∷ numbers) of chain.eras.queue slash, due_same chain.eras.next_slash numbers of chain.eras.queue given)
    at false = omega (arith, due_unlisted numbers of chain.eras.queue slash below)

  numbered : (other index : ℕ) → All (λ n. n < chain.eras.next_slash + 1) (if era == other then chain.eras.next_slash ∷ [] else [])
  numbered other index = at (era == other) where
    at : (b : Bool) → All (λ n. n < chain.eras.next_slash + 1) (if b then chain.eras.next_slash ∷ [] else [])
    at true = All-cons (λ n. n < chain.eras.next_slash + 1) chain.eras.next_slash [] (omega arith) (All-nil (λ n. n < chain.eras.next_slash + 1))
    at false = All-nil (λ n. n < chain.eras.next_slash + 1)

pub offence_lawful : (chain : Chain) (who : AccountId) (era : ℕ) (validator : AccountId) (fraction : ℕ)
    → IsLawful chain who (offence_rule chain who era validator fraction)
offence_lawful chain who era validator fraction = at (chain.defer == 0) refl where
  at : (b : Bool) → (chain.defer == 0) ≡ b
      → IsLawful chain who (by_root chain who (if b then slashing_rule chain era validator fraction else deferring_rule chain era validator fraction))
  at true none = rooted chain who (slashing_rule chain era validator fraction) (slashing_leaves chain era validator fraction) (slashing_lawful chain who era validator fraction)
  at false some =
      rooted chain who (deferring_rule chain era validator fraction) (deferring_leaves chain era validator fraction)
      (deferring_lawful chain who era validator fraction (grind (arith, nat_tests)))

pub cancel_lawful : (chain : Chain) (who : AccountId) (number : ℕ) → IsLawful chain who (cancel_rule chain who number)
cancel_lawful chain who number = record {
  live = λ live free. with_eras chain (cancelling number chain.eras) live;
  fixed = record { params = refl; defer = refl; round = refl; waiting = refl; due = refl; era = refl };
  next = omega arith;
  queue = inl (record { queue = refl; next = refl; settled = λ number. refl; offered = refl });
  eras = record {
    accepted = λ can free. (
      none_inside ByEra (cancel_refusal number chain.eras) (root_free (is_root chain who) (option_map ByEra (cancel_refusal number chain.eras)) free),
      tt,
    );
    eras = refl;
    begins = refl;
    paid = λ other index. refl;
    taken = λ other of index. omega arith;
  };
  line = record {
    later = λ later.
        All-filter (λ slash. not (has_number number slash)) (λ slash. slash.due ≤ chain.eras.current + chain.defer) chain.eras.queue later;
    next = omega arith;
  };
  dues = record {
    waits = λ era of index numbers below given. omega (arith, due_without numbers of number chain.eras.queue);
    numbered = λ era index. All-nil (λ n. n < chain.eras.next_slash);
    more = omega arith;
  };
  sums = adds_none chain.book chain.book refl;
  code = search coding depth 9;
}
