-- A chain fits the layout of a state from its genesis on, and after each block: over an era that begins, a
-- round that is decided, and the calls.
use Rattle.std.proofs.Common.{◌≡◌, ℕ, zero, suc, ◌+◌, ◌≤◌, Bool, true, false, ◌||◌, if◌then◌else◌, All, IfSome, List, []}
use Rattle.std.proofs.Common.{◌∷◌, length, map, fold, get_or, Option, Some, None, refl, sym, subst, true≢false, arith}
use Rattle.std.specs.List.{AllByRecursion, list_any}
use Rattle.std.specs.Map.{values_of}
use Rattle.std.specs.Ordering.{match_ordering}
use Rattle.std.specs.Set.{is_member}
use Rattle.std.specs.declared.cmp.Ordering.{Ordering}
use Rattle.std.specs.declared.cmp.Ordering.TheVariants.{Less, Equal, Greater}
use Rattle.std.proofs.lemmas.List.{length-map}
use Rattle.std.proofs.lemmas.List.Elements.{All-nil, All-cons, All-head, All-tail, All-take, All-map, All-weaker, recursion_from_All}
use Rattle.std.proofs.lemmas.Map.Made.{All-is_member, length-le_from_is_member}
use Rattle.npos_base.specs.declared.account.AccountId.{AccountId}
use Rattle.npos_base.specs.declared.limits.TheConstants.{MOST_PAST_ERAS, MOST_VOTERS, MOST_SEATS}
use Rattle.npos_base.specs.Account.{account_cmp, same_account}
use Rattle.npos_base.proofs.AccountOrder.{same_exact}
use Rattle.block_wire.specs.declared.block.Block.{Block}
use Rattle.block_wire.specs.declared.genesis.Endowment.{Endowment}
use Rattle.block_wire.specs.declared.genesis.Genesis.{Genesis}
use Rattle.block_wire.specs.declared.genesis.Genesis.TheVariants.{Plain, Full, Deferred}
use Rattle.block_wire.specs.Genesis.{endowment_form, params_form, genesis_form}
use Rattle.stake_ledger.specs.Rows as rows
use Rattle.stake_ledger.specs.Ledger.{Ledger, empty_ledger}
use Rattle.stake_ledger.specs.Calls.{endowed}
use Rattle.election_snapshot.specs.Snapshot.{IsWellFormed}
use Rattle.weight_book.specs.Weights.{IsFeasible}
use Rattle.submission_queue.specs.declared.submission.Submission.{Submission}
use Rattle.era_book.specs.declared.exposure.Backer.{Backer}
use Rattle.era_book.specs.declared.exposure.Exposure.{Exposure}
use Rattle.era_book.specs.declared.deferred.DeferredSlash.{DeferredSlash}
use Rattle.era_book.specs.Members.{Members, newcomer, with_exposure, members_with}
use Rattle.era_book.specs.Committee.{exposure_of, backers_of}
use Rattle.era_book.specs.Deferred.{next_due, without_next_due}
use Rattle.era_book.proofs.BackerLemmas.{backers_law}
use Rattle.era_book.proofs.LineLemmas.{amount_within}
use Rattle.state_checkpoint.specs.Layout.{backer_form}
use Rattle.chain_params.specs.Rules.{begun_era, reward_of, is_decision}
use Rattle.npos_runtime.specs.declared.chain.Chain.{Chain}
use Rattle.npos_runtime.specs.declared.round.Round.{Round}
use Rattle.npos_runtime.specs.declared.round.Round.TheVariants as rounds
use Rattle.npos_runtime.specs.Rules.Committee.{Committee}
use Rattle.npos_runtime.specs.Rules.Exposed.{voters_in, supports_in, edges_in, exposures_of, exposed}
use Rattle.npos_runtime.specs.Rules.Outcome.{quiet}
use Rattle.npos_runtime.specs.Genesis.{params_of, endowments_of, endowed_all, genesis_chain}
use Rattle.npos_runtime.specs.Rules.Rounds.{round_phase}
use Rattle.npos_runtime.specs.Rules.Deciding.{decision_of, decision_phase}
use Rattle.npos_runtime.specs.Rules.Offices.{apply_slash, applied}
use Rattle.npos_runtime.specs.Step.{waiting_after, eras_after, applied_in, era_phase, before_calls}
use Rattle.npos_runtime.specs.Live.{AreNoted, IsNotedCommittee, WasElected}
use Rattle.npos_runtime.specs.Kept.Sound.{IsSoundMember, IsSoundPoll, IsSoundWaiting}
use Rattle.npos_runtime.specs.Kept.Soundness.{CanStep, after_block}
use Rattle.npos_runtime.proofs.Rules.ExposureLemmas.{same_length}
use Rattle.npos_runtime.proofs.Kept.NewcomerLemmas.{entry_of, all_entered, all_backers, ordered, within as edges_within, exposures_are_sound}
use Rattle.npos_runtime.proofs.Kept.Sound.ErasLemmas.{known_backers}
use Rattle.npos_runtime.proofs.Kept.Causes.RoleLemmas.{account_same}
use Rattle.npos_runtime.proofs.Rules.OfficeCallLemmas.{applied_keeps}
use Rattle.npos_runtime.proofs.Rules.PhaseTable.{within_applied, era_state}
use Rattle.npos_runtime.proofs.Kept.Fits.PartLemmas.{IsAccount, AreHeard, IsNamed, IsFittingMember, AreFittingMembers, IsFittingSlash, IsFittingItem}
use Rattle.npos_runtime.proofs.Kept.Fits.PartLemmas.{IsFitting, heard_changed, heard_decided, heard_slashes, named_slashes, nobody_fits, fits_calls}

-- ## How many there are

-- whoever stands in the one list stands in the other, where each of the one does
stand_among : (xs ys : List AccountId) → All (λ x. is_member same_account ys x ≡ true) xs → (who : AccountId)
    → is_member same_account xs who ≡ true → is_member same_account ys who ≡ true
stand_among [] ys all who e = absurd (true≢false (sym e))
stand_among (x ∷ xs) ys all who e =
    at (same_account who x) refl e
    (stand_among xs ys (All-tail (λ a. is_member same_account ys a ≡ true) x xs all) who) where
      at : (b : Bool) → same_account who x ≡ b → (b || list_any (same_account who) xs) ≡ true
          → (list_any (same_account who) xs ≡ true → is_member same_account ys who ≡ true)
          → is_member same_account ys who ≡ true
      at true same there rest =
          subst (λ (a : AccountId). is_member same_account ys a ≡ true) (sym (same_exact who x same))
          (All-head (λ a. is_member same_account ys a ≡ true) x xs all)
      at false apart there rest = rest there

few_entered : (members : Members) (exposures : List Exposure)
    → length (fold with_exposure members exposures) ≤ length members + length exposures
few_entered members [] = omega arith
few_entered members (exposure ∷ more) =
    omega (arith, few_entered (with_exposure members exposure) more, one members) where
      one : (ms : Members) → length (with_exposure ms exposure) ≤ length ms + 1
      one [] = omega arith
      one (row ∷ rows) = at (account_cmp exposure.validator row.0) (one rows) where
        at : (r : Ordering) → length (with_exposure rows exposure) ≤ length rows + 1
            → length (match_ordering r (entry_of exposure ∷ row ∷ rows) ((row.0, newcomer exposure) ∷ rows) (row ∷ with_exposure rows exposure)) ≤ length (row ∷ rows) + 1
        at Less rest = omega arith
        at Equal rest = omega arith
        at Greater rest = omega (arith, rest)

-- ## Newcomers

newcomer_fits : (book : Ledger) (exposure : Exposure) → AreHeard book → IsSoundMember book (entry_of exposure)
    → length exposure.backers ≤ MOST_VOTERS → IsFittingMember (entry_of exposure)
newcomer_fits book exposure heard member few = record {
  own = heard exposure.validator member.known;
  validator = heard exposure.validator member.known;
  backers = (few, recursion_from_All backer_form.in_range exposure.backers each);
  points = omega arith;
} where
  each : All backer_form.in_range exposure.backers
  each k d inside = (
    heard (get_or exposure.backers k d).who (known_backers book exposure.backers member.backers k d inside),
    omega (arith, amount_within exposure.backers k d inside, member.fits),
  )

newcomers_fit : (exposures : List Exposure) → length exposures ≤ MOST_SEATS
    → All (λ exposure. IsFittingMember (entry_of exposure)) exposures
    → AreFittingMembers (members_with exposures)
newcomers_fit exposures few fit = record {
  few = omega (arith, few_entered [] exposures, few);
  each = all_entered IsFittingMember [] exposures fit (All-nil IsFittingMember);
}

module _ (book : Ledger) (committee : Committee) (sound : IsWellFormed committee.snapshot)
    (feasible : IsFeasible committee.snapshot committee.weights)
    (noted : AreNoted committee.snapshot.targets committee.commissions) (poll : IsSoundPoll book committee.snapshot) where
  -- a member has no more backers than there are voters
  few_backers : (target : ℕ)
      → length (backers_of committee.snapshot.targets (voters_in committee) (edges_in committee) target) ≤ MOST_VOTERS
  few_backers target =
      let backers : List Backer =
      backers_of committee.snapshot.targets (voters_in committee) (edges_in committee) target in
      let order = ordered book committee sound feasible noted poll in
      let inside = edges_within book committee sound feasible noted poll in
      let stand : All (λ who. is_member same_account (voters_in committee) who ≡ true) (map (λ (backer : Backer). backer.who) backers) =
      All-map (λ who. is_member same_account (voters_in committee) who ≡ true) (λ (backer : Backer). backer.who) backers
      (all_backers committee.snapshot.targets (voters_in committee) target
      (λ backer. is_member same_account (voters_in committee) backer.who ≡ true) (edges_in committee)
      (λ edge here is. All-is_member account_same (voters_in committee) edge.voter (record { hi = 0; lo = 0 }) here) inside) in
      let few : length (map (λ (backer : Backer). backer.who) backers) ≤ length (voters_in committee) =
      length-le_from_is_member account_same (map (λ (backer : Backer). backer.who) backers) (voters_in committee)
      (backers_law committee.snapshot.targets (voters_in committee)
      (edges_in committee) target order.voters_distinct inside order.pairs_distinct)
      (stand_among (map (λ (backer : Backer). backer.who) backers) (voters_in committee) stand) in
      omega (
        arith,
        few,
        length-map backers (λ (backer : Backer). backer.who),
        same_length committee.snapshot.voters,
        sound.voters.voters_few,
      )

  each_fits : AreHeard book → All (λ exposure. IsFittingMember (entry_of exposure)) (exposures_of committee)
  each_fits heard k d few =
      newcomer_fits book (get_or (exposures_of committee) k d) heard
      (exposures_are_sound book committee sound feasible noted poll k d few)
      (All-map (λ (exposure : Exposure). length exposure.backers ≤ MOST_VOTERS)
      (exposure_of committee.snapshot.targets committee.commissions (supports_in committee) (voters_in committee)
      (edges_in committee))
      committee.weights.committee (λ i e inside. few_backers (get_or committee.weights.committee i e)) k d few)

  exposed_fit : AreHeard book → AreFittingMembers (members_with (exposures_of committee))
  exposed_fit heard =
      newcomers_fit (exposures_of committee)
      (omega (
        arith,
        length-map committee.weights.committee
            (exposure_of committee.snapshot.targets committee.commissions (supports_in committee) (voters_in committee) (edges_in committee)),
        feasible.seats_filled,
        sound.seats_few,
      )) (each_fits heard)

-- those whom the committee that waits exposes
waiting_fits : (chain : Chain) (waiting : Option Committee) → WasElected waiting → IsNotedCommittee waiting
    → IsSoundWaiting chain waiting
    → AreHeard chain.book → AreFittingMembers (members_with (exposed waiting))
waiting_fits chain None elected noted sound heard = nobody_fits
waiting_fits chain (Some committee) elected noted sound heard =
    exposed_fit chain.book committee elected.sound sound.passes.feasible noted sound.poll heard

-- ## An era begins

heard_apply : (found : Option DeferredSlash) (chain : Chain) → AreHeard chain.book
    → AreHeard (apply_slash found chain).state.book
heard_apply None chain heard = heard
heard_apply (Some slash) chain heard =
    heard_slashes slash.lines (record chain { eras = without_next_due chain.eras }) heard

heard_applied : (count : ℕ) (chain : Chain) → AreHeard chain.book → AreHeard (applied count chain).state.book
heard_applied zero chain heard = heard
heard_applied (suc more) chain heard =
    heard_applied more (apply_slash (next_due chain.eras) chain).state (heard_apply (next_due chain.eras) chain heard)

named_apply : (found : Option DeferredSlash) (chain : Chain) → All IsNamed (values_of chain.roles)
    → All IsNamed (values_of (apply_slash found chain).state.roles)
named_apply None chain named = named
named_apply (Some slash) chain named =
    named_slashes slash.lines (record chain { eras = without_next_due chain.eras }) named

named_applied : (count : ℕ) (chain : Chain) → All IsNamed (values_of chain.roles)
    → All IsNamed (values_of (applied count chain).state.roles)
named_applied zero chain named = named
named_applied (suc more) chain named =
    named_applied more (apply_slash (next_due chain.eras) chain).state (named_apply (next_due chain.eras) chain named)

applied_fits : (begun : Option ℕ) (chain : Chain) → IsFitting chain → IsFitting (applied_in begun chain).state
applied_fits None chain fit = fit
applied_fits (Some era) chain fit = subst IsFitting (sym (within_applied (Some era) chain)) (record {
  params = fit.params;
  heard = heard_applied (length chain.eras.queue) chain fit.heard;
  named = named_applied (length chain.eras.queue) chain fit.named;
  members = fit.members;
  slashes = applied_keeps IsFittingSlash (length chain.eras.queue) chain fit.slashes;
  queue = fit.queue;
})

started_fits : (begun : Option ℕ) (chain : Chain) → AreFittingMembers (members_with (exposed chain.waiting))
    → IsFitting chain
    → IsFitting (record chain { waiting = waiting_after chain.waiting begun; eras = eras_after chain.eras chain.waiting begun })
started_fits None chain new fit = record {
  params = fit.params;
  heard = fit.heard;
  named = fit.named;
  members = fit.members;
  slashes = fit.slashes;
  queue = fit.queue;
}
started_fits (Some era) chain new fit = record {
  params = fit.params;
  heard = fit.heard;
  named = fit.named;
  members = All-take AreFittingMembers (MOST_PAST_ERAS + 1) (members_with (exposed chain.waiting) ∷ chain.eras.kept)
      (All-cons AreFittingMembers (members_with (exposed chain.waiting)) chain.eras.kept new fit.members);
  slashes = fit.slashes;
  queue = fit.queue;
}

era_fits : (chain : Chain) → AreFittingMembers (members_with (exposed chain.waiting)) → IsFitting chain
    → IsFitting (era_phase chain).state
era_fits chain new fit =
    let begun : Option ℕ = begun_era chain.params chain.due in
    subst IsFitting (sym (era_state chain))
    (applied_fits begun
    (record chain { waiting = waiting_after chain.waiting begun; eras = eras_after chain.eras chain.waiting begun })
    (started_fits begun chain new fit))

-- ## Rounds

round_fits : (chain : Chain) → IsFitting chain → IsFitting (round_phase chain).state
round_fits chain fit = record {
  params = fit.params;
  heard = fit.heard;
  named = fit.named;
  members = fit.members;
  slashes = fit.slashes;
  queue = fit.queue;
}

decided_fits : (round : Option Round) (chain : Chain) → IsFitting chain → IsFitting (decision_of round chain).state
decided_fits None chain fit = fit
decided_fits (Some (rounds.Void number)) chain fit = fit
decided_fits (Some (rounds.Open number snapshot commissions)) chain fit = record {
  params = fit.params;
  heard = heard_decided (reward_of chain.params) snapshot chain.queue.items chain.book
      (All-weaker IsFittingItem (λ (item : Submission). IsAccount item.who) (λ item fits. fits.own) chain.queue.items fit.queue) fit.heard;
  named = fit.named;
  members = fit.members;
  slashes = fit.slashes;
  queue = All-nil IsFittingItem;
}

decision_fits : (chain : Chain) → IsFitting chain → IsFitting (decision_phase chain).state
decision_fits chain fit = at (is_decision chain.params chain.due) where
  at : (b : Bool) → IsFitting (if b then decision_of chain.round chain else quiet chain).state
  at true = decided_fits chain.round chain fit
  at false = fit

-- ## A block

before_fits : (chain : Chain) → AreFittingMembers (members_with (exposed chain.waiting)) → IsFitting chain
    → IsFitting (before_calls chain)
before_fits chain new fit =
    let begun : Chain = (era_phase chain).state in
    decision_fits (round_phase begun).state (round_fits begun (era_fits chain new fit))

pub fits_block : (chain : Chain) (block : Block) → CanStep chain block → IsFitting chain
    → IsFitting (after_block chain block)
fits_block chain block can fit =
    let between = can.ready.between in
    let new : AreFittingMembers (members_with (exposed chain.waiting)) =
    waiting_fits chain chain.waiting between.elected between.live.waiting can.sound.waiting fit.heard in
    let called = fits_calls 0 block.calls (before_calls chain) can.in_range.1.1 (before_fits chain new fit) in
    record {
      params = called.params;
      heard = called.heard;
      named = called.named;
      members = called.members;
      slashes = called.slashes;
      queue = called.queue;
    }

-- ## A genesis

heard_endowed : (endowments : List Endowment) (book : Ledger) → AllByRecursion endowment_form.in_range endowments
    → AreHeard book
    → AreHeard (endowed_all endowments book)
heard_endowed [] book all heard = heard
heard_endowed (endowment ∷ more) book all heard =
    heard_endowed more (endowed endowment.who endowment.value book) all.1
    (heard_changed endowment.who (rows.gained endowment.value) book all.0.0 heard)

endowments_in : (genesis : Genesis) → genesis_form.in_range genesis
    → AllByRecursion endowment_form.in_range (endowments_of genesis)
endowments_in (Plain endowments) is = is.1
endowments_in (Full endowments params) is = is.0.1
endowments_in (Deferred endowments params defer_eras) is = is.0.1

params_in : (genesis : Genesis) → genesis_form.in_range genesis → IfSome (params_of genesis) params_form.in_range
params_in (Plain endowments) is = tt
params_in (Full endowments params) is = is.1
params_in (Deferred endowments params defer_eras) is = is.1

pub fits_start : (genesis : Genesis) → genesis_form.in_range genesis → IsFitting (genesis_chain genesis)
fits_start genesis is = record {
  params = params_in genesis is;
  heard = heard_endowed (endowments_of genesis) empty_ledger (endowments_in genesis is)
      (λ who known. absurd (true≢false (sym known)));
  named = All-nil IsNamed;
  members = All-cons AreFittingMembers [] [] nobody_fits (All-nil AreFittingMembers);
  slashes = All-nil IsFittingSlash;
  queue = All-nil IsFittingItem;
}
