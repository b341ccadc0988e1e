-- What every rule of a call keeps. All laws over calls rest on this record, and the table of calls
-- has one row for each kind.
use Rattle.std.proofs.Common.{◌≡◌, ◌⊎◌, inl, ℕ, ◌+◌, ◌≤◌, ◌<◌, All, List, [], ◌∷◌, ◌++◌, Option, None, refl, ap, ◌∙◌, sym, subst, arith}
use Rattle.npos_base.specs.declared.account.AccountId.{AccountId}
use Rattle.npos_base.specs.declared.figures.Score.{Score}
use Rattle.submission_queue.specs.declared.submission.Submission.{Submission}
use Rattle.era_book.specs.Eras.{Eras}
use Rattle.era_book.specs.Events.{Event, after, AreAccepted, after_all, given_by, pays, makes_due, begun}
use Rattle.npos_runtime.specs.declared.chain.Chain.{Chain}
use Rattle.block_receipts.specs.declared.line.Line.{Line}
use Rattle.block_receipts.specs.declared.line.Line.TheVariants as lines
use Rattle.block_receipts.specs.declared.refusal.Refusal.{Refusal}
use Rattle.chain_params.specs.Rules.{era_reward_of}
use Rattle.npos_runtime.specs.Rules.CallRule.{CallRule, plain}
use Rattle.npos_runtime.specs.Histories.Sums.{AddsUp}
use Rattle.npos_runtime.specs.Rules.Signed.{submit_rule}
use Rattle.npos_runtime.specs.Live.{IsLive, AreInCourse, CanDefer}
use Rattle.npos_runtime.specs.Histories.Fates.{fate}
use Rattle.npos_runtime.specs.Histories.Eras.{paid_for, taken_for}
use Rattle.npos_runtime.specs.Histories.Deferred.{waiting_for, waiting_due}
use Rattle.std.proofs.lemmas.List.Elements.{All-nil}
use Rattle.npos_runtime.proofs.Rules.CodeLemmas.{itself, IsCoded}
use Rattle.npos_runtime.proofs.Histories.CourseLemmas.{course_after}
use Rattle.npos_runtime.proofs.Histories.SumLemmas.{adds_none}

abbrev pub KeepsLive : Chain → CallRule → Type 0
KeepsLive chain rule = IsLive chain → rule.refusal ≡ None → IsLive rule.done

-- what no call changes
pub record IsFixed (old new : Chain) : Type 0 where
  pub params : new.params ≡ old.params
  pub defer : new.defer ≡ old.defer
  pub round : new.round ≡ old.round
  pub waiting : new.waiting ≡ old.waiting
  pub due : new.due ≡ old.due
  pub era : new.eras.current ≡ old.eras.current

pub fixed_itself : (chain : Chain) → IsFixed chain chain
fixed_itself chain = record { params = refl; defer = refl; round = refl; waiting = refl; due = refl; era = refl }

pub fixed_then : (old between new : Chain) → IsFixed old between → IsFixed between new → IsFixed old new
fixed_then old between new first next = record {
  params = next.params ∙ first.params;
  defer = next.defer ∙ first.defer;
  round = next.round ∙ first.round;
  waiting = next.waiting ∙ first.waiting;
  due = next.due ∙ first.due;
  era = next.era ∙ first.era;
}

-- nothing is submitted, and no submission is settled
pub record LeavesQueue (chain : Chain) (rule : CallRule) : Type 0 where
  pub queue : rule.done.queue ≡ chain.queue
  pub next : rule.done.next ≡ chain.next
  pub settled : (number : ℕ) → fate number rule.told ≡ 0
  pub offered : rule.offer ≡ None

pub record Submits (chain : Chain) (who : AccountId) (rule : CallRule) : Type 0 where
  pub round : ℕ
  pub claim : Score
  pub bytes : List ℕ
  pub is : rule ≡ submit_rule chain who round claim bytes

-- The eras change by the events, which no era begins, and the lines tell what the events pay, and
-- no more than they make due.
pub record FollowsEvents (chain : Chain) (rule : CallRule) : Type 0 where
  pub accepted : CanDefer chain → rule.refusal ≡ None → AreAccepted rule.events chain.eras
  pub eras : after_all rule.events chain.eras ≡ rule.done.eras
  pub begins : begun rule.events ≡ []
  pub paid : (era index : ℕ) → paid_for era rule.events (lines.CallOk index ∷ rule.told)
      ≡ given_by (pays era (era_reward_of chain.params)) rule.events chain.eras
  pub taken : (era : ℕ) (who : AccountId) (index : ℕ) → taken_for era who rule.events (lines.CallOk index ∷ rule.told)
      ≤ given_by (makes_due era who) rule.events chain.eras

-- what waits is due no later than what is reported then, and at most one slash is queued
abbrev pub IsLater : Chain → Type 0
IsLater chain = All (λ slash. slash.due ≤ chain.eras.current + chain.defer) chain.eras.queue

pub record KeepsLine (old new : Chain) : Type 0 where
  pub later : IsLater old → IsLater new
  pub next : new.eras.next_slash ≤ old.eras.next_slash + 1

-- the eras stay
pub line_same : {old new : Chain} → new.eras ≡ old.eras → new.defer ≡ old.defer → KeepsLine old new
line_same {old = old} {new = new} same defer = record {
  later = λ later.
      subst (λ (more : ℕ). All (λ slash. slash.due ≤ new.eras.current + more) new.eras.queue) (sym defer)
      (subst (λ (eras : Eras). All (λ slash. slash.due ≤ eras.current + old.defer) eras.queue) (sym same) later);
  next = omega (arith, ap (λ (eras : Eras). eras.next_slash) same);
}

-- events that are accepted leave the eras in order
pub order_all : (events : List Event) (eras : Eras) → AreAccepted events eras → AreInCourse eras → AreInCourse (after_all events eras)
order_all [] eras ok order = order
order_all (event ∷ more) eras ok order = order_all more (after event eras) ok.1 (course_after event eras ok.0 order)

-- For each era: what a call takes, and what waits then, is at most what it makes due, and what waited.
pub record KeepsDues (chain : Chain) (rule : CallRule) : Type 0 where
  pub waits : (era : ℕ) (who : AccountId) (index : ℕ) (numbers : List ℕ) → All (λ n. n < chain.eras.next_slash) numbers
      → All (λ slash. slash.number < chain.eras.next_slash) chain.eras.queue
      → taken_for era who rule.events (lines.CallOk index ∷ rule.told)
      + waiting_due (waiting_for era rule.events (lines.CallOk index ∷ rule.told) ++ numbers) who rule.done.eras.queue
      ≤ given_by (makes_due era who) rule.events chain.eras + waiting_due numbers who chain.eras.queue
  pub numbered : (era index : ℕ) → All (λ n. n < rule.done.eras.next_slash) (waiting_for era rule.events (lines.CallOk index ∷ rule.told))
  pub more : chain.eras.next_slash ≤ rule.done.eras.next_slash

pub record IsLawful (chain : Chain) (who : AccountId) (rule : CallRule) : Type 0 where
  pub live : KeepsLive chain rule
  pub fixed : IsFixed chain rule.done
  pub next : rule.done.next ≤ chain.next + 1
  pub queue : LeavesQueue chain rule ⊎ Submits chain who rule
  pub eras : FollowsEvents chain rule
  pub line : KeepsLine chain rule.done
  pub dues : KeepsDues chain rule
  pub sums : AddsUp chain.book rule.told rule.done.book
  pub code : IsCoded itself rule.refusal

-- no event leaves the eras
pub no_events : {chain : Chain} {refusal : Option Refusal} {done : Chain} {told : List Line} {offer : Option (ℕ × Submission)}
    → done.eras ≡ chain.eras
    → FollowsEvents chain (record { refusal = refusal; done = done; told = told; events = []; offer = offer })
no_events same = record {
  accepted = λ can free. tt;
  eras = sym same;
  begins = refl;
  paid = λ era index. refl;
  taken = λ era who index. omega arith;
}

-- a call that is not refused leaves what waits in order
pub rule_can : (chain : Chain) (who : AccountId) (rule : CallRule) → IsLawful chain who rule → rule.refusal ≡ None → CanDefer chain → CanDefer rule.done
rule_can chain who rule is free can = record {
  order = subst AreInCourse is.eras.eras (order_all rule.events chain.eras (is.eras.accepted can free) can.order);
  later = is.line.later can.later;
  fits = omega (arith, can.fits, is.fixed.era, is.fixed.defer);
}

-- a plain call changes books, roles and bags alone, and of the books the rows
pub plain_lawful : {chain : Chain} {who : AccountId} {refusal : Option Refusal} {done : Chain}
    → done ≡ record chain { book = done.book; roles = done.roles; bags = done.bags }
    → done.book ≡ record chain.book { rows = done.book.rows }
    → KeepsLive chain (plain refusal done) → IsCoded itself refusal → IsLawful chain who (plain refusal done)
plain_lawful {chain = chain} {done = done} same rows live code = record {
  live = live;
  fixed = record {
    params = ap (λ (c : Chain). c.params) same;
    defer = ap (λ (c : Chain). c.defer) same;
    round = ap (λ (c : Chain). c.round) same;
    waiting = ap (λ (c : Chain). c.waiting) same;
    due = ap (λ (c : Chain). c.due) same;
    era = ap (λ (c : Chain). c.eras.current) same;
  };
  next = omega (arith, ap (λ (c : Chain). c.next) same);
  queue = inl (record {
    queue = ap (λ (c : Chain). c.queue) same;
    next = ap (λ (c : Chain). c.next) same;
    settled = λ number. refl;
    offered = refl;
  });
  eras = no_events (ap (λ (c : Chain). c.eras) same);
  line = line_same (ap (λ (c : Chain). c.eras) same) (ap (λ (c : Chain). c.defer) same);
  dues = record {
    waits = λ era who index numbers below given. omega (arith, ap (λ (c : Chain). waiting_due numbers who c.eras.queue) same);
    numbered = λ era index. All-nil (λ n. n < done.eras.next_slash);
    more = omega (arith, ap (λ (c : Chain). c.eras.next_slash) same);
  };
  sums = adds_none chain.book done.book rows;
  code = code;
}
