-- What the laws say of blocks, said at once of any history and of each of its fronts.
use Rattle.std.proofs.Common.{◌<◌, List, [], length, ap, arith}
use Rattle.std.proofs.lemmas.List.{length-append}
use Rattle.std.proofs.lemmas.List.Elements.{All-nil}
use Rattle.block_wire.specs.declared.block.Block.{Block}
use Rattle.block_wire.specs.declared.genesis.Genesis.{Genesis}
use Rattle.npos_runtime.specs.declared.chain.Chain.{Chain}
use Rattle.npos_runtime.specs.Histories.Answers.{AnswersLaw}
use Rattle.npos_runtime.specs.Histories.Deferred.{QueuedLaw, AppliedLaw, TakenInAllLaw, SlashesWait}
use Rattle.npos_runtime.specs.Histories.Deposits.{DepositsLaw}
use Rattle.npos_runtime.specs.Histories.Eras.{chain_at, PaidWithinRewardLaw, PaidAsToldLaw, SlashLaw, TakenLaw, OnceLaw, DueWithinStakeLaw, ErasHold}
use Rattle.npos_runtime.specs.Genesis.{genesis_chain}
use Rattle.npos_runtime.specs.History.{IsHistory, StartLaw}
use Rattle.npos_runtime.specs.Histories.Laws.{SeatedSoundLaw, NoneCrowdedOutLaw}
use Rattle.npos_runtime.specs.Histories.Promise.{HoldsBehind, PromiseLaw}
use Rattle.npos_runtime.specs.Histories.Seatings.{SeatingsLaw}
use Rattle.npos_runtime.specs.Histories.Sums.{SumsLaw}

-- the laws of which the promise is made
pub record AreLaws : Type 0 where
  pub start : StartLaw
  pub committees : SeatedSoundLaw
  pub seats : SeatingsLaw
  pub crowding : NoneCrowdedOutLaw
  pub sums : SumsLaw
  pub deposits : DepositsLaw
  pub rewards : PaidWithinRewardLaw
  pub payouts : PaidAsToldLaw
  pub slashes : SlashLaw
  pub taken : TakenLaw
  pub once : OnceLaw
  pub dues : DueWithinStakeLaw
  pub queued : QueuedLaw
  pub applied : AppliedLaw
  pub in_all : TakenInAllLaw
  pub answers : AnswersLaw

module _ (laws : AreLaws) (genesis : Genesis) (blocks : List Block) (history : IsHistory genesis blocks) where
  abbrev first : Chain
  first = genesis_chain genesis

  eras_hold : ErasHold genesis blocks
  eras_hold = record {
    within = record {
      rewards = λ era. laws.rewards genesis blocks era history;
      taken = λ era who. laws.taken genesis blocks era who history;
      dues = λ era who. laws.dues genesis blocks era who history;
      once = laws.once first blocks (laws.start genesis blocks history);
    };
    payouts = λ calls. laws.payouts genesis blocks calls history;
    slashes = λ calls. laws.slashes first blocks calls (laws.start genesis blocks history);
  }

  slashes_wait : SlashesWait genesis blocks
  slashes_wait =
      let can = laws.start genesis blocks history in
      record {
        queued = λ calls. (laws.queued (chain_at first blocks calls)).0;
        cancelled = λ calls. (laws.queued (chain_at first blocks calls)).1;
        applied = laws.applied first blocks can;
        taken = λ era who. omega (arith, laws.in_all first blocks era who [] can (All-nil (λ number. number < first.eras.next_slash)));
      }

  pub holds_behind : HoldsBehind genesis blocks
  holds_behind =
      let can = laws.start genesis blocks history in
      record {
        committees = laws.committees first blocks can;
        seats = laws.seats first blocks can;
        crowding = λ decision. laws.crowding first blocks decision can;
        sums = laws.sums genesis blocks history;
        deposits = laws.deposits genesis blocks history;
        eras = eras_hold;
        slashes = slashes_wait;
        answers = λ calls index call. laws.answers index call (chain_at first blocks calls);
      }

pub keeps_its_promise : AreLaws → PromiseLaw
keeps_its_promise laws genesis blocks history before more is =
    holds_behind laws genesis before
    (record { faultless = history.faultless; fit = omega (arith, history.fit, length-append before more, ap (λ (all : List Block). length all) is) })
