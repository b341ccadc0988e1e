-- Chains that are alike take a block alike: a lemma a phase, and one a kind of call.
use Rattle.std.proofs.Common.{◌≡◌, ℕ, zero, suc, ◌+◌, Bool, true, false, ◌&&◌, nat_lt, not, ◌==◌, List, [], ◌∷◌, ◌++◌, length}
use Rattle.std.proofs.Common.{Option, Some, None, option_map, option_to_list, refl, ap, ap₂, sym, subst, ◌∙◌, if◌then◌else◌}
use Rattle.std.specs.List.{AllByRecursion}
use Rattle.std.specs.Option.{option_or}
use Rattle.npos_base.specs.declared.account.AccountId.{AccountId}
use Rattle.npos_base.specs.declared.figures.Score.{Score}
use Rattle.block_wire.specs.declared.call.Call.{Call}
use Rattle.block_wire.specs.declared.call.CallKind.{CallKind}
use Rattle.block_wire.specs.declared.call.CallKind.TheVariants as kinds
use Rattle.era_book.specs.declared.exposure.Backer.{Backer}
use Rattle.era_book.specs.declared.exposure.Exposure.{Exposure}
use Rattle.era_book.specs.declared.deferred.DeferredSlash.{DeferredSlash}
use Rattle.era_book.specs.Calls.{slash_in, reported}
use Rattle.era_book.specs.Deferred.{next_due, without_next_due}
use Rattle.era_book.specs.Eras.{started}
use Rattle.block_receipts.specs.declared.line.Line.{Line}
use Rattle.block_receipts.specs.declared.line.Line.TheVariants as lines
use Rattle.block_receipts.specs.declared.refusal.Refusal.{Refusal}
use Rattle.block_receipts.specs.declared.refusal.Refusal.TheVariants.{NotRoot, WrongPhase, WrongRound, SolutionTooLong}
use Rattle.chain_params.specs.Rules.{begun_era, begun_round, is_decision, is_signed, solution_max_of}
use Rattle.npos_runtime.specs.declared.chain.Chain.{Chain}
use Rattle.npos_runtime.specs.declared.round.Round.{Round}
use Rattle.npos_runtime.specs.declared.round.Round.TheVariants as rounds
use Rattle.npos_runtime.specs.Rules.Committee.{Committee}
use Rattle.npos_runtime.specs.Rules.Outcome.{Outcome, telling, quiet, after}
use Rattle.npos_runtime.specs.Rules.Ballots.{snapshot_of}
use Rattle.npos_runtime.specs.Rules.Rounds.{round_after, round_now, round_line, round_phase}
use Rattle.npos_runtime.specs.Rules.Deciding.{decision_of, decision_phase}
use Rattle.npos_runtime.specs.Rules.Exposed.{exposed}
use Rattle.npos_runtime.specs.Rules.CallRule.{CallRule}
use Rattle.npos_runtime.specs.Rules.Calls.{rule_of, rule_for}
use Rattle.npos_runtime.specs.Rules.Signed.{is_open, current_round, submission_of, offer_refusal, submit_rule}
use Rattle.npos_runtime.specs.Rules.Offices.{is_root, slashed_once, slash_outcome, slashes, slashing_rule, deferring_rule, offence_rule, apply_slash, applied}
use Rattle.npos_runtime.specs.Step.{opened, waiting_after, eras_after, applied_in, era_phase, call_after, call_outcome, calls_outcome, closed, in_turn, phases, step}
use Rattle.npos_runtime.specs.Kept.Parts.{open_of, kept_committee, as_kept, AreAlike, GoAlike}
use Rattle.npos_runtime.specs.Kept.Laws.{AlikeStepLaw, AlikeLaw}
use Rattle.npos_runtime.proofs.Rules.RuleLemmas.{IsFixed}
use Rattle.npos_runtime.proofs.Rules.CallTable.{lawful_call}
use Rattle.npos_runtime.proofs.Kept.ExposureLemmas.{exposed_alike}

-- ## Chains that are alike

-- the chain with another round, and with others who wait
abbrev pub put : Chain → Option Round → Option Committee → Chain
put chain round waiting = record chain { round = round; waiting = waiting }

abbrev pub GoesAlike : (Chain → Outcome) → Type 0
GoesAlike part = (chain : Chain) (round : Option Round) (waiting : Option Committee) → AreAlike chain (put chain round waiting)
    → GoAlike (part chain) (part (put chain round waiting))

abbrev pub GoAlways : (Chain → Outcome) → Type 0
GoAlways part = (one other : Chain) → AreAlike one other → GoAlike (part one) (part other)

-- a chain that is alike is the chain with another round, and with others who wait
pub alike_is : (one other : Chain) → AreAlike one other → put one other.round other.waiting ≡ other
alike_is one other alike = ap (λ (c : Chain). put c other.round other.waiting) alike

pub go_alike : (part : Chain → Outcome) → GoesAlike part → GoAlways part
go_alike part goes one other alike =
    let is : put one other.round other.waiting ≡ other = alike_is one other alike in
    subst (λ (c : Chain). GoAlike (part one) (part c)) is
    (goes one other.round other.waiting (alike ∙ ap as_kept (sym is)))

pub after_alike : (one other : Outcome) (next : Chain → Outcome) → GoAlike one other → GoAlways next → GoAlike (after one next) (after other next)
after_alike one other next first goes =
    let second : GoAlike (next one.state) (next other.state) = goes one.state other.state first.states in
    record {
      lines = ap₂ (λ xs ys. xs ++ ys) first.lines second.lines;
      seated = ap₂ (λ xs ys. xs ++ ys) first.seated second.seated;
      states = second.states;
    }

rounds_are : (chain : Chain) (round : Option Round) (waiting : Option Committee) → AreAlike chain (put chain round waiting) → open_of chain.round ≡ open_of round
rounds_are chain round waiting alike = ap (λ (c : Chain). c.round) alike

waiting_are : (chain : Chain) (round : Option Round) (waiting : Option Committee) → AreAlike chain (put chain round waiting)
    → option_map kept_committee chain.waiting ≡ option_map kept_committee waiting
waiting_are chain round waiting alike = ap (λ (c : Chain). c.waiting) alike

-- ## Slashes

-- they leave the round and who waits as they are, and go by neither
pub slashes_put : (dues : List Backer) (chain : Chain) (round : Option Round) (waiting : Option Committee)
    → slashes dues (put chain round waiting) ≡ record (slashes dues chain) { state = put (slashes dues chain).state round waiting }
slashes_put [] chain round waiting = refl
slashes_put (due ∷ more) chain round waiting =
    ap (λ (o : Outcome). record o {
      lines = (slash_outcome due chain).lines ++ o.lines;
    }) (slashes_put more (slashed_once due chain) round waiting)

-- the slash that is due next goes by neither
apply_put : (found : Option DeferredSlash) (chain : Chain) (round : Option Round) (waiting : Option Committee)
    → apply_slash found (put chain round waiting) ≡ record (apply_slash found chain) { state = put (apply_slash found chain).state round waiting }
apply_put None chain round waiting = refl
apply_put (Some slash) chain round waiting =
    ap (λ (o : Outcome). record o { lines = lines.Applied slash.number ∷ o.lines })
    (slashes_put slash.lines (record chain { eras = without_next_due chain.eras }) round waiting)

pub applied_put : (count : ℕ) (chain : Chain) (round : Option Round) (waiting : Option Committee)
    → applied count (put chain round waiting) ≡ record (applied count chain) { state = put (applied count chain).state round waiting }
applied_put zero chain round waiting = refl
applied_put (suc more) chain round waiting =
    ap (λ (o : Outcome). after o (applied more)) (apply_put (next_due chain.eras) chain round waiting)
    ∙ ap (λ (o : Outcome). record {
      state = o.state;
      lines = (apply_slash (next_due chain.eras) chain).lines ++ o.lines;
      seated = (apply_slash (next_due chain.eras) chain).seated ++ o.seated;
    }) (applied_put more (apply_slash (next_due chain.eras) chain).state round waiting)

-- ## The phases

opened_alike : (number : ℕ) → GoAlways (opened number)
opened_alike number one other alike = record { lines = refl; seated = refl; states = alike }

closed_alike : GoAlways closed
closed_alike one other alike =
    record { lines = refl; seated = refl; states = ap (λ (c : Chain). record c { due = c.due + 1 }) alike }

-- the era phase, where this era begins, if one does
abbrev era_with : Option ℕ → Chain → Outcome
era_with begun chain =
    let left : Outcome = applied_in begun (record chain {
      waiting = waiting_after chain.waiting begun;
      eras = eras_after chain.eras chain.waiting begun;
    }) in
    telling (option_to_list (option_map lines.Era begun) ++ left.lines)
    (record chain {
      book = left.state.book;
      roles = left.state.roles;
      bags = left.state.bags;
      waiting = waiting_after chain.waiting begun;
      eras = record (eras_after chain.eras chain.waiting begun) { queue = left.state.eras.queue };
    })

era_put : (begun : Option ℕ) → GoesAlike (era_with begun)
era_put None chain round waiting alike = record { lines = refl; seated = refl; states = alike }
era_put (Some era) chain round waiting alike =
    let count : ℕ = length chain.eras.queue in
    let start : Chain = record chain { waiting = None; eras = started (exposed chain.waiting) chain.eras } in
    let shown : exposed chain.waiting ≡ exposed waiting = exposed_alike chain.waiting waiting (waiting_are chain round waiting alike) in
    let left : record (applied count start) { state = put (applied count start).state round None }
    ≡ applied count (record chain { round = round; waiting = None; eras = started (exposed waiting) chain.eras }) =
    sym (applied_put count start round None)
    ∙ ap (λ (exposures : List Exposure). applied count (record chain { round = round; waiting = None; eras = started exposures chain.eras })) shown in
    record {
      lines = ap (λ (o : Outcome). lines.Era era ∷ o.lines) left;
      seated = refl;
      states = λ i. record chain {
        book = (left i).state.book;
        roles = (left i).state.roles;
        bags = (left i).state.bags;
        round = rounds_are chain round waiting alike i;
        waiting = None;
        eras = record (started (shown i) chain.eras) { queue = (left i).state.eras.queue };
      };
    }

era_alike : GoAlways era_phase
era_alike = go_alike era_phase (λ chain. era_put (begun_era chain.params chain.due) chain)

abbrev round_with : Option ℕ → Chain → Outcome
round_with begun chain =
    telling (option_to_list (option_map (λ number. round_line number (snapshot_of chain)) begun))
    (record chain { round = round_after chain begun })

round_put : (begun : Option ℕ) → GoesAlike (round_with begun)
round_put None chain round waiting alike = record { lines = refl; seated = refl; states = alike }
round_put (Some number) chain round waiting alike = record {
  lines = refl;
  seated = refl;
  states = λ i. record chain { round = open_of (Some (round_now chain number)); waiting = waiting_are chain round waiting alike i };
}

round_alike : GoAlways round_phase
round_alike = go_alike round_phase (λ chain. round_put (begun_round chain.params chain.due) chain)

-- a round that is not open decides nothing
decision_open : (round : Option Round) (chain : Chain) → decision_of (open_of round) chain ≡ decision_of round chain
decision_open None chain = refl
decision_open (Some (rounds.Void number)) chain = refl
decision_open (Some (rounds.Open number snapshot commissions)) chain = refl

decided_put : (decided_now : Option Round) (chain : Chain) (round : Option Round) (waiting : Option Committee) → AreAlike chain (put chain round waiting)
    → GoAlike (decision_of decided_now chain) (decision_of decided_now (put chain round waiting))
decided_put None chain round waiting alike = record { lines = refl; seated = refl; states = alike }
decided_put (Some (rounds.Void number)) chain round waiting alike = record { lines = refl; seated = refl; states = alike }
decided_put (Some (rounds.Open number snapshot commissions)) chain round waiting alike =
    record { lines = refl; seated = refl; states = refl }

abbrev decision_with : Bool → Chain → Outcome
decision_with due chain = if due then decision_of chain.round chain else quiet chain

decision_put : (due : Bool) → GoesAlike (decision_with due)
decision_put false chain round waiting alike = record { lines = refl; seated = refl; states = alike }
decision_put true chain round waiting alike =
    let same : decision_of chain.round (put chain round waiting) ≡ decision_of round (put chain round waiting) =
    sym (decision_open chain.round (put chain round waiting))
    ∙ (ap (λ (r : Option Round). decision_of r (put chain round waiting)) (rounds_are chain round waiting alike)
    ∙ decision_open round (put chain round waiting)) in
    subst (λ (o : Outcome). GoAlike (decision_of chain.round chain) o) same (decided_put chain.round chain round waiting alike)

decision_alike : GoAlways decision_phase
decision_alike = go_alike decision_phase (λ chain. decision_put (is_decision chain.params chain.due) chain)

-- ## The calls

-- the rule of a call goes by neither the round nor who waits, but for whether the round is open
pub record IsSameRule (round : Option Round) (waiting : Option Committee) (one other : CallRule) : Type 0 where
  pub refusal : one.refusal ≡ other.refusal
  pub done : put one.done round waiting ≡ other.done
  pub told : one.told ≡ other.told

open_is : (round : Option Round) → is_open (open_of round) ≡ is_open round
open_is None = refl
open_is (Some (rounds.Void number)) = refl
open_is (Some (rounds.Open number snapshot commissions)) = refl

submit_put : (chain : Chain) (round : Option Round) (waiting : Option Committee) (who : AccountId) (named : ℕ) (claim : Score) (bytes : List ℕ)
    → is_open chain.round ≡ is_open round → IsSameRule round waiting (submit_rule chain who named claim bytes) (submit_rule (put chain round waiting) who named claim bytes)
submit_put chain round waiting who named claim bytes same = record {
  refusal = ap (λ (b : Bool). option_or (
      if not (is_signed chain.params chain.due && b) then Some WrongPhase
      else if not (named == current_round chain) then Some WrongRound
      else if nat_lt (solution_max_of chain.params) (length bytes) then Some SolutionTooLong
      else None) (offer_refusal chain (submission_of chain who claim bytes))) same;
  done = refl;
  told = refl;
}

slashing_put : (chain : Chain) (round : Option Round) (waiting : Option Committee) (era : ℕ) (validator : AccountId) (fraction : ℕ)
    → IsSameRule round waiting (slashing_rule chain era validator fraction) (slashing_rule (put chain round waiting) era validator fraction)
slashing_put chain round waiting era validator fraction =
    let left = sym (slashes_put (slash_in chain.eras era validator fraction) chain round waiting) in
    record {
      refusal = refl;
      done = λ i. record chain {
        book = (left i).state.book;
        roles = (left i).state.roles;
        bags = (left i).state.bags;
        round = round;
        waiting = waiting;
        eras = reported era validator fraction chain.eras;
      };
      told = λ i. (left i).lines;
    }

report_put : (now : Bool) (chain : Chain) (round : Option Round) (waiting : Option Committee) (era : ℕ) (validator : AccountId) (fraction : ℕ)
    → IsSameRule round waiting (if now then slashing_rule chain era validator fraction else deferring_rule chain era validator fraction)
    (if now then slashing_rule (put chain round waiting) era validator fraction else deferring_rule (put chain round waiting) era validator fraction)
report_put true chain round waiting era validator fraction = slashing_put chain round waiting era validator fraction
report_put false chain round waiting era validator fraction = record { refusal = refl; done = refl; told = refl }

offence_put : (chain : Chain) (round : Option Round) (waiting : Option Committee) (who : AccountId) (era : ℕ) (validator : AccountId) (fraction : ℕ)
    → IsSameRule round waiting (offence_rule chain who era validator fraction) (offence_rule (put chain round waiting) who era validator fraction)
offence_put chain round waiting who era validator fraction =
    let report = report_put (chain.defer == 0) chain round waiting era validator fraction in
    record {
      refusal = ap (λ (due : Option Refusal). if not (is_root chain who) then Some NotRoot else due) report.refusal;
      done = report.done;
      told = report.told;
    }

rule_put : (chain : Chain) (round : Option Round) (waiting : Option Committee) (who : AccountId) (kind : CallKind) → is_open chain.round ≡ is_open round
    → IsSameRule round waiting (rule_of chain who kind) (rule_of (put chain round waiting) who kind)
unfolding rule_of
rule_put chain round waiting who (kinds.Transfer to value) same = record { refusal = refl; done = refl; told = refl }
rule_put chain round waiting who (kinds.Bond value) same = record { refusal = refl; done = refl; told = refl }
rule_put chain round waiting who (kinds.BondExtra value) same = record { refusal = refl; done = refl; told = refl }
rule_put chain round waiting who (kinds.Unbond value) same = record { refusal = refl; done = refl; told = refl }
rule_put chain round waiting who (kinds.Rebond value) same = record { refusal = refl; done = refl; told = refl }
rule_put chain round waiting who kinds.Withdraw same = record { refusal = refl; done = refl; told = refl }
rule_put chain round waiting who (kinds.Nominate targets) same = record { refusal = refl; done = refl; told = refl }
rule_put chain round waiting who (kinds.Validate commission) same = record { refusal = refl; done = refl; told = refl }
rule_put chain round waiting who kinds.Chill same = record { refusal = refl; done = refl; told = refl }
rule_put chain round waiting who (kinds.Rebag whom) same = record { refusal = refl; done = refl; told = refl }
rule_put chain round waiting who (kinds.PutInFront lighter) same = record { refusal = refl; done = refl; told = refl }
rule_put chain round waiting who (kinds.Submit named claim bytes) same = submit_put chain round waiting who named claim bytes same
rule_put chain round waiting who (kinds.Points items) same = record { refusal = refl; done = refl; told = refl }
rule_put chain round waiting who (kinds.Payout era validator) same = record { refusal = refl; done = refl; told = refl }
rule_put chain round waiting who (kinds.Offence era validator fraction) same = offence_put chain round waiting who era validator fraction
rule_put chain round waiting who (kinds.CancelSlash number) same = record { refusal = refl; done = refl; told = refl }

-- a call leaves the round and who waits, so that chains stay alike
alike_done : (chain done : Chain) (round : Option Round) (waiting : Option Committee) → IsFixed chain done → AreAlike chain (put chain round waiting) → AreAlike done (put done round waiting)
alike_done chain done round waiting fixed alike = λ i. record done {
  round = (ap open_of fixed.round ∙ rounds_are chain round waiting alike) i;
  waiting = (ap (option_map kept_committee) fixed.waiting ∙ waiting_are chain round waiting alike) i;
}

after_put : (due : Option Refusal) (index : ℕ) (chain : Chain) (round : Option Round) (waiting : Option Committee) (one other : CallRule) → IsFixed chain one.done
    → IsSameRule round waiting one other → AreAlike chain (put chain round waiting)
    → GoAlike (call_after due index one chain) (call_after due index other (put chain round waiting))
after_put None index chain round waiting one other fixed same alike = record {
  lines = ap (λ (told : List Line). lines.CallOk index ∷ told) same.told;
  seated = refl;
  states = alike_done chain one.done round waiting fixed alike ∙ ap as_kept same.done;
}
after_put (Some refusal) index chain round waiting one other fixed same alike =
    record { lines = refl; seated = refl; states = alike }

call_put : (index : ℕ) (call : Call) → GoesAlike (call_outcome index call)
call_put index call chain round waiting alike =
    let open_same : is_open chain.round ≡ is_open round =
    sym (open_is chain.round) ∙ (ap is_open (rounds_are chain round waiting alike) ∙ open_is round) in
    let same = rule_put chain round waiting call.who call.kind open_same in
    subst (λ (due : Option Refusal). GoAlike (call_outcome index call chain) (call_after due index (rule_for (put chain round waiting) call) (put chain round waiting))) same.refusal
    (after_put (rule_for chain call).refusal index chain round waiting (rule_for chain call) (rule_for (put chain round waiting) call)
    (lawful_call call chain).fixed same alike)

calls_alike : (index : ℕ) (calls : List Call) → GoAlways (calls_outcome index calls)
calls_alike index [] one other alike = record { lines = refl; seated = refl; states = alike }
calls_alike index (call ∷ calls) one other alike =
    after_alike (call_outcome index call one) (call_outcome index call other) (calls_outcome (index + 1) calls)
    (go_alike (call_outcome index call) (call_put index call) one other alike) (calls_alike (index + 1) calls)

-- ## Blocks

turns_alike : (parts : List (Chain → Outcome)) → AllByRecursion GoAlways parts → GoAlways (in_turn parts)
turns_alike [] each one other alike = record { lines = refl; seated = refl; states = alike }
turns_alike (part ∷ more) each one other alike =
    after_alike (part one) (part other) (in_turn more) (each.0 one other alike) (turns_alike more each.1)

pub step_alike : AlikeStepLaw
step_alike one other block alike =
    turns_alike (opened block.number ∷ in_turn phases ∷ calls_outcome 0 block.calls ∷ closed ∷ [])
    (opened_alike block.number, (turns_alike phases (era_alike, (round_alike, (decision_alike, tt))), (calls_alike 0 block.calls, (closed_alike, tt))))
    one other alike

pub blocks_alike : AlikeLaw
blocks_alike one other [] alike = (record { told = refl; seated = refl }, alike)
blocks_alike one other (block ∷ more) alike =
    let first = step_alike one other block alike in
    let rest = blocks_alike (step one block).state (step other block).state more first.states in (
      record {
        told = ap₂ (λ xs ys. xs ++ ys) first.lines rest.0.told;
        seated = ap₂ (λ xs ys. xs ++ ys) first.seated rest.0.seated;
      },
      rest.1,
    )
