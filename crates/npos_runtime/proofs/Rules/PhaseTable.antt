-- The phases of a block: what each of them keeps. All laws over a step rest on this table.
use Rattle.std.proofs.Common.{◌≡◌, ℕ, Bool, true, false, List, [], ◌∷◌, ◌++◌, length, Option, Some, None, option_map, option_to_list, refl, sym, subst, ◌∙◌, arith, if◌then◌else◌}
use Rattle.std.proofs.lemmas.List.Sums.{sum_by-append}
use Rattle.std.specs.List.{AllByRecursion}
use Rattle.election_snapshot.specs.Snapshot.{Snapshot}
use Rattle.block_receipts.specs.declared.line.Line.{Line}
use Rattle.block_receipts.specs.declared.line.Line.TheVariants as lines
use Rattle.block_receipts.specs.Sums.{mints, burns}
use Rattle.chain_params.specs.Rules.{begun_round, begun_era, reward_of, is_decision}
use Rattle.npos_runtime.specs.declared.chain.Chain.{Chain}
use Rattle.npos_runtime.specs.declared.round.Round.{Round}
use Rattle.npos_runtime.specs.declared.round.Round.TheVariants as rounds
use Rattle.npos_runtime.specs.Rules.Ballots.{snapshot_of}
use Rattle.npos_runtime.specs.Rules.Rounds.{is_few, is_poor, round_line, round_phase, round_after}
use Rattle.npos_runtime.specs.Rules.Deciding.{decided, decision_of, decision_phase}
use Rattle.npos_runtime.specs.Rules.Outcome.{Outcome, quiet}
use Rattle.npos_runtime.specs.Rules.BookCalls.{release_now}
use Rattle.npos_runtime.specs.Rules.Offices.{applied}
use Rattle.npos_runtime.specs.Step.{waiting_after, eras_after, applied_in, applied_now, era_phase, in_turn, phases}
use Rattle.npos_runtime.specs.Live.{IsLive, IsSoundRound, IsNotedCommittee, AreNoted}
use Rattle.npos_runtime.specs.Histories.Fates.{fate}
use Rattle.npos_runtime.specs.Histories.Sums.{AddsUp}
use Rattle.npos_runtime.proofs.Rules.BookLemmas.{books_settled}
use Rattle.npos_runtime.proofs.Rules.ElectorateLemmas.{sound_round}
use Rattle.npos_runtime.proofs.Rules.PartLemmas.{live_with}
use Rattle.npos_runtime.proofs.Rules.OfficeCallLemmas.{settling, applied_live, applied_within, applied_settle}
use Rattle.npos_runtime.proofs.Histories.FairLemmas.{IsFair, fair_quiet, fair_then, decided_fair}
use Rattle.npos_runtime.proofs.Histories.SumLemmas.{adds_none, adds_then, adds_behind, adds_applied, adds_decided}

-- what no phase changes
pub record StaysDue (old new : Chain) : Type 0 where
  pub params : new.params ≡ old.params
  pub defer : new.defer ≡ old.defer
  pub due : new.due ≡ old.due
  pub next : new.next ≡ old.next

pub record IsPhase (phase : Chain → Outcome) : Type 0 where
  pub live : (chain : Chain) → IsLive chain → IsLive (phase chain).state
  pub due : (chain : Chain) → StaysDue chain (phase chain).state
  pub fair : (number : ℕ) (chain : Chain) → IsFair number chain (phase chain).lines (phase chain).state
  pub sums : (chain : Chain) → AddsUp chain.book (phase chain).lines (phase chain).state.book

-- ## An era may begin

-- slashes that are applied change books, roles and bags, and they wait no more
live_applied : (begun : Option ℕ) (chain : Chain) → IsLive chain → IsLive (applied_in begun chain).state
live_applied None chain live = live
live_applied (Some era) chain live = applied_live (length chain.eras.queue) chain live

-- the chain when its era has begun
abbrev started_chain : Chain → Chain
started_chain chain = record chain {
  waiting = waiting_after chain.waiting (begun_era chain.params chain.due);
  eras = eras_after chain.eras chain.waiting (begun_era chain.params chain.due);
}

live_started : (chain : Chain) → IsLive chain → IsLive (started_chain chain)
live_started chain live =
    live_with refl refl refl live live.books live.roles live.bags live.round live.queue (at (begun_era chain.params chain.due)) where
      at : (begun : Option ℕ) → IsNotedCommittee (waiting_after chain.waiting begun)
      at None = live.waiting
      at (Some era) = tt

pub within_applied : (begun : Option ℕ) (chain : Chain)
    → (applied_in begun chain).state ≡ record chain {
      book = (applied_in begun chain).state.book;
      roles = (applied_in begun chain).state.roles;
      bags = (applied_in begun chain).state.bags;
      eras = record chain.eras { queue = (applied_in begun chain).state.eras.queue };
    }
within_applied None chain = refl
within_applied (Some era) chain = applied_within (length chain.eras.queue) chain

-- the chain behind the phase
pub era_state : (chain : Chain) → (era_phase chain).state ≡ (applied_now chain).state
era_state chain = sym (within_applied (begun_era chain.params chain.due) (started_chain chain))

pub live_era : (chain : Chain) → IsLive chain → IsLive (era_phase chain).state
live_era chain live =
    subst IsLive (sym (era_state chain)) (live_applied (begun_era chain.params chain.due) (started_chain chain) (live_started chain live))

fair_era : (number : ℕ) (chain : Chain) → IsFair number chain (era_phase chain).lines (era_phase chain).state
fair_era number chain =
    fair_quiet number chain (era_phase chain).state (era_phase chain).lines
    (omega (
      arith,
      sum_by-append (settling number) (option_to_list (option_map lines.Era (begun_era chain.params chain.due))) (applied_now chain).lines,
      begins (begun_era chain.params chain.due),
      settles_none (begun_era chain.params chain.due) (started_chain chain),
    )) refl refl where
      begins : (begun : Option ℕ) → fate number (option_to_list (option_map lines.Era begun)) ≡ 0
      begins None = refl
      begins (Some era) = refl

      settles_none : (begun : Option ℕ) (c : Chain) → fate number (applied_in begun c).lines ≡ 0
      settles_none None c = refl
      settles_none (Some era) c = applied_settle number (length c.eras.queue) c

adds_era : (chain : Chain) → AddsUp chain.book (era_phase chain).lines (era_phase chain).state.book
adds_era chain = told (begun_era chain.params chain.due) (started_chain chain) where
  -- the era that begins is told, and then what its slashes take
  told : (begun : Option ℕ) (c : Chain)
      → AddsUp c.book (option_to_list (option_map lines.Era begun) ++ (applied_in begun c).lines) (applied_in begun c).state.book
  told None c = adds_none c.book c.book refl
  told (Some era) c =
      let left : Outcome = applied (length c.eras.queue) c in
      adds_behind (lines.Era era) c.book left.state.book left.lines refl refl (adds_applied (length c.eras.queue) c)

-- ## A round may begin

pub live_round : (chain : Chain) → IsLive chain → IsLive (round_phase chain).state
live_round chain live =
    live_with refl refl refl live live.books live.roles live.bags (at (begun_round chain.params chain.due)) live.queue live.waiting where
      at : (begun : Option ℕ) → IsSoundRound (round_after chain begun)
      at None = live.round
      at (Some number) = sound_round chain number live

fair_round : (number : ℕ) (chain : Chain) → IsFair number chain (round_phase chain).lines (round_phase chain).state
fair_round number chain =
    fair_quiet number chain (round_phase chain).state (round_phase chain).lines (at (begun_round chain.params chain.due)) refl refl where
      told : (round : ℕ) (few poor : Bool) (targets voters total : ℕ)
          → fate number
          ((if few then lines.VoidFew round else if poor then lines.VoidPoor round else lines.Snapshot round targets voters total) ∷ [])
          ≡ 0
      told round true poor targets voters total = refl
      told round false true targets voters total = refl
      told round false false targets voters total = refl

      at : (begun : Option ℕ) → fate number (option_to_list (option_map (λ round. round_line round (snapshot_of chain)) begun)) ≡ 0
      at None = refl
      at (Some round) = told round (is_few (snapshot_of chain)) (is_poor (snapshot_of chain)) _ _ _

adds_round : (chain : Chain) → AddsUp chain.book (round_phase chain).lines (round_phase chain).state.book
adds_round chain = at (begun_round chain.params chain.due) where
  quietly : (line : Line) → mints line ≡ 0 → burns line ≡ 0 → AddsUp chain.book (line ∷ []) chain.book
  quietly line unminted unburned = adds_behind line chain.book chain.book [] unminted unburned (adds_none chain.book chain.book refl)

  told : (round : ℕ) (few poor : Bool) (targets voters total : ℕ)
      → AddsUp chain.book
      ((if few then lines.VoidFew round else if poor then lines.VoidPoor round else lines.Snapshot round targets voters total) ∷ [])
      chain.book
  told round true poor targets voters total = quietly (lines.VoidFew round) refl refl
  told round false true targets voters total = quietly (lines.VoidPoor round) refl refl
  told round false false targets voters total = quietly (lines.Snapshot round targets voters total) refl refl

  at : (begun : Option ℕ) → AddsUp chain.book (option_to_list (option_map (λ round. round_line round (snapshot_of chain)) begun)) chain.book
  at None = adds_none chain.book chain.book refl
  at (Some round) = told round (is_few (snapshot_of chain)) (is_poor (snapshot_of chain)) _ _ _

-- ## The round may be decided

-- a round is decided
decided_live : (number : ℕ) (snapshot : Snapshot) (commissions : List ℕ) (chain : Chain) → IsLive chain
    → AreNoted snapshot.targets commissions
    → IsLive (decided number snapshot commissions chain).state
decided_live number snapshot commissions chain live noted =
    live_with refl refl refl live (books_settled (release_now chain) (reward_of chain.params) snapshot chain.queue.items chain.book live.books)
    live.roles live.bags tt (record { some = live.queue.some; most = live.queue.most; fits = omega arith; by_rank = tt }) noted

decision_of_live : (round : Option Round) (chain : Chain) → IsLive chain → IsSoundRound round → IsLive (decision_of round chain).state
decision_of_live None chain live sound = live
decision_of_live (Some (rounds.Void number)) chain live sound = live
decision_of_live (Some (rounds.Open number snapshot commissions)) chain live sound =
    decided_live number snapshot commissions chain live sound.1

due_of : (round : Option Round) (chain : Chain) → StaysDue chain (decision_of round chain).state
due_of None chain = record { params = refl; defer = refl; due = refl; next = refl }
due_of (Some (rounds.Void number)) chain = record { params = refl; defer = refl; due = refl; next = refl }
due_of (Some (rounds.Open number snapshot commissions)) chain = record { params = refl; defer = refl; due = refl; next = refl }

fair_of : (number : ℕ) (round : Option Round) (chain : Chain)
    → IsFair number chain (decision_of round chain).lines (decision_of round chain).state
fair_of number None chain = omega arith
fair_of number (Some (rounds.Void round)) chain = omega arith
fair_of number (Some (rounds.Open round snapshot commissions)) chain = decided_fair number round snapshot commissions chain

adds_of : (round : Option Round) (chain : Chain) → AddsUp chain.book (decision_of round chain).lines (decision_of round chain).state.book
adds_of None chain = adds_none chain.book chain.book refl
adds_of (Some (rounds.Void number)) chain = adds_none chain.book chain.book refl
adds_of (Some (rounds.Open number snapshot commissions)) chain = adds_decided number snapshot commissions chain

-- what holds where a round is decided and where nothing is, holds of the phase
either : (P : Chain → Outcome → Type 0) → ((chain : Chain) → P chain (decision_of chain.round chain))
    → ((chain : Chain) → P chain (quiet chain))
    → (chain : Chain) → P chain (decision_phase chain)
either P decides rests chain = at (is_decision chain.params chain.due) where
  at : (b : Bool) → P chain (if b then decision_of chain.round chain else quiet chain)
  at true = decides chain
  at false = rests chain

eras_of : (round : Option Round) (chain : Chain) → (decision_of round chain).state.eras ≡ chain.eras
eras_of None chain = refl
eras_of (Some (rounds.Void number)) chain = refl
eras_of (Some (rounds.Open number snapshot commissions)) chain = refl

pub eras_decision : (chain : Chain) → (decision_phase chain).state.eras ≡ chain.eras
eras_decision = either (λ chain outcome. outcome.state.eras ≡ chain.eras) (λ chain. eras_of chain.round chain) (λ chain. refl)

-- ## The table

pub phases_keep : AllByRecursion IsPhase phases
phases_keep = (era_keeps, (round_keeps, (decision_keeps, tt))) where
  era_keeps : IsPhase era_phase
  era_keeps = record {
    live = live_era;
    due = λ chain. record { params = refl; defer = refl; due = refl; next = refl };
    fair = fair_era;
    sums = adds_era;
  }

  round_keeps : IsPhase round_phase
  round_keeps = record {
    live = live_round;
    due = λ chain. record { params = refl; defer = refl; due = refl; next = refl };
    fair = fair_round;
    sums = adds_round;
  }

  decision_keeps : IsPhase decision_phase
  decision_keeps = record {
    live =
        λ chain live. either (λ c outcome. IsLive c → IsLive outcome.state) (λ c l. decision_of_live c.round c l l.round)
        (λ c l. l) chain live;
    due =
        either (λ chain outcome. StaysDue chain outcome.state) (λ chain. due_of chain.round chain)
        (λ chain. record { params = refl; defer = refl; due = refl; next = refl });
    fair =
        λ number. either (λ chain outcome. IsFair number chain outcome.lines outcome.state) (λ chain. fair_of number chain.round chain)
        (λ chain. omega arith);
    sums =
        either (λ chain outcome. AddsUp chain.book outcome.lines outcome.state.book) (λ chain. adds_of chain.round chain)
        (λ chain. adds_none chain.book chain.book refl);
  }

pub live_in_turn : (parts : List (Chain → Outcome)) → AllByRecursion IsPhase parts → (chain : Chain) → IsLive chain
    → IsLive (in_turn parts chain).state
live_in_turn [] keep chain live = live
live_in_turn (part ∷ more) keep chain live = live_in_turn more keep.1 (part chain).state (keep.0.live chain live)

pub due_in_turn : (parts : List (Chain → Outcome)) → AllByRecursion IsPhase parts → (chain : Chain)
    → StaysDue chain (in_turn parts chain).state
due_in_turn [] keep chain = record { params = refl; defer = refl; due = refl; next = refl }
due_in_turn (part ∷ more) keep chain =
    let first = keep.0.due chain in
    let rest = due_in_turn more keep.1 (part chain).state in
    record {
      params = rest.params ∙ first.params;
      defer = rest.defer ∙ first.defer;
      due = rest.due ∙ first.due;
      next = rest.next ∙ first.next;
    }

pub fair_in_turn : (number : ℕ) (parts : List (Chain → Outcome)) → AllByRecursion IsPhase parts → (chain : Chain)
    → IsFair number chain (in_turn parts chain).lines (in_turn parts chain).state
fair_in_turn number [] keep chain = omega arith
fair_in_turn number (part ∷ more) keep chain =
    let next : Chain = (part chain).state in
    fair_then number chain next (in_turn more next).state (part chain).lines (in_turn more next).lines
    (keep.0.fair number chain) (fair_in_turn number more keep.1 next)

pub adds_in_turn : (parts : List (Chain → Outcome)) → AllByRecursion IsPhase parts → (chain : Chain)
    → AddsUp chain.book (in_turn parts chain).lines (in_turn parts chain).state.book
adds_in_turn [] keep chain = adds_none chain.book chain.book refl
adds_in_turn (part ∷ more) keep chain =
    let next : Chain = (part chain).state in
    adds_then chain.book next.book (in_turn more next).state.book (part chain).lines (in_turn more next).lines (keep.0.sums chain)
    (adds_in_turn more keep.1 next)
