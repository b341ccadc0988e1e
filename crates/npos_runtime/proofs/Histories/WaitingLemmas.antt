-- Who waits was elected by the round that was decided.
use Rattle.std.proofs.Common.{Bool, true, false, ℕ, Option, Some, None, ap, sym, subst, if◌then◌else◌}
use Rattle.block_wire.specs.declared.block.Block.{Block}
use Rattle.election_check.specs.First.{or_yes}
use Rattle.election_check.specs.Laws.{PackedYesIsAccepting, PlainYesIsPassing}
use Rattle.election_check.proofs.FaultLemmas.{plain_yes}
use Rattle.election_check.proofs.PassingLemmas.{passes, no_plain_fault}
use Rattle.election_check.proofs.PackedLemmas.{accepted}
use Rattle.quota_fill.proofs.PassingLemmas.{every_fill_passes}
use Rattle.round_decision.specs.Decision.{others, decided_weights}
use Rattle.round_decision.proofs.VerdictLemmas.{decided_passes}
use Rattle.chain_params.specs.Rules.{begun_era, is_decision}
use Rattle.npos_runtime.specs.declared.chain.Chain.{Chain}
use Rattle.npos_runtime.specs.declared.round.Round.{Round}
use Rattle.npos_runtime.specs.declared.round.Round.TheVariants as rounds
use Rattle.npos_runtime.specs.Rules.Deciding.{decision_of, decision_phase}
use Rattle.npos_runtime.specs.Rules.Outcome.{quiet}
use Rattle.npos_runtime.specs.Step.{before_calls, waiting_after, era_phase, step}
use Rattle.era_book.specs.Exposures.{AreSound}
use Rattle.npos_runtime.specs.Rules.Committee.{Committee}
use Rattle.npos_runtime.specs.Rules.Exposed.{exposed}
use Rattle.npos_runtime.specs.Live.{IsLive, IsSoundRound, IsNotedCommittee, WasElected}
use Rattle.npos_runtime.proofs.Rules.ElectedLemmas.{follows_rising, exposures_sound, nobody_sound}
use Rattle.npos_runtime.proofs.Histories.LawLemmas.{undecided}
use Rattle.npos_runtime.proofs.Rules.LiveLemmas.{fixed_calls}
use Rattle.npos_runtime.proofs.Rules.PhaseTable.{live_era, live_round}

pub packed_yes : PackedYesIsAccepting
packed_yes = accepted

pub plain_yes_passes : PlainYesIsPassing
plain_yes_passes = λ snapshot weights.
    (λ e. passes snapshot weights (plain_yes snapshot weights e), λ passing. ap or_yes (no_plain_fault snapshot weights passing))

elected_of : (round : Option Round) (chain : Chain) → IsSoundRound round → WasElected chain.waiting
    → WasElected (decision_of round chain).state.waiting
elected_of None chain sound was = was
elected_of (Some (rounds.Void number)) chain sound was = was
elected_of (Some (rounds.Open number snapshot commissions)) chain sound was =
    let won = decided_passes packed_yes every_fill_passes plain_yes_passes snapshot chain.queue.items sound.0 in
    record {
      sound = sound.0;
      follows = follows_rising snapshot (decided_weights snapshot (others snapshot chain.queue.items)) won.feasible.follows;
      stakes = won.feasible.within_stakes;
    }

elected_decision : (chain : Chain) → IsSoundRound chain.round → WasElected chain.waiting → WasElected (decision_phase chain).state.waiting
elected_decision chain sound was = at (is_decision chain.params chain.due) where
  at : (b : Bool) → WasElected (if b then decision_of chain.round chain else quiet chain).state.waiting
  at true = elected_of chain.round chain sound was
  at false = was

pub elected_step : (chain : Chain) (block : Block) → IsLive chain → WasElected chain.waiting → WasElected (step chain block).state.waiting
elected_step chain block live was =
    subst WasElected (sym (fixed_calls 0 block.calls (before_calls chain)).waiting)
    (elected_decision (undecided chain) (live_round (era_phase chain).state (live_era chain live)).round
    (begun (begun_era chain.params chain.due))) where
      begun : (era : Option ℕ) → WasElected (waiting_after chain.waiting era)
      begun None = was
      begun (Some era) = tt

-- who waits exposes nobody twice
pub sound_waiting : (waiting : Option Committee) → WasElected waiting → IsNotedCommittee waiting → AreSound (exposed waiting)
sound_waiting None elected noted = nobody_sound
sound_waiting (Some committee) elected noted = exposures_sound committee elected noted
