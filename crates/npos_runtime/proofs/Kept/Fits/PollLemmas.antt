-- The round, the submissions, the committee and the slashes that wait are in the range of their layout,
-- where a sound chain fits.
use Rattle.std.proofs.Common.{◌≡◌, ℕ, ◌≤◌, true, is_some, All, IfSome, List, [], ◌∷◌, length, map, get_or, Option, Some, None, option_map, arith}
use Rattle.std.specs.List.{AllByRecursion, zip}
use Rattle.std.proofs.lemmas.List.{length-map}
use Rattle.std.proofs.lemmas.List.Elements.{All-head, All-tail, All-map, All-weaker, recursion_from_All}
use Rattle.std.proofs.lemmas.List.Sums.{get_or-le-sum_by}
use Rattle.npos_base.specs.declared.account.AccountId.{AccountId}
use Rattle.npos_base.specs.declared.figures.Edge.{Edge}
use Rattle.npos_base.specs.declared.limits.TheConstants.{WHOLE_FRACTION}
use Rattle.scale_wire.specs.Parts.{account_form, compact_u16, compact_u32}
use Rattle.scale_wire.specs.Values.{edge_form}
use Rattle.scale_wire.specs.Composite.{pair}
use Rattle.block_wire.specs.Bundles.{voter_form}
use Rattle.stake_ledger.specs.Ledger.{Ledger, row_of}
use Rattle.election_snapshot.specs.Snapshot.{Snapshot, Voter, IsWellFormed}
use Rattle.weight_book.specs.GivenEdges.{kept_edges}
use Rattle.weight_book.specs.Passing.{Passes}
use Rattle.weight_book.proofs.StakeLemmas.{amounts_within}
use Rattle.submission_queue.specs.declared.submission.Submission.{Submission}
use Rattle.election_check.proofs.ListFacts.{All-of_map}
use Rattle.state_checkpoint.specs.Layout.{round_form, queued_form, waiting_form, slash_form}
use Rattle.npos_runtime.specs.declared.chain.Chain.{Chain}
use Rattle.npos_runtime.specs.declared.round.Round.{Round}
use Rattle.npos_runtime.specs.declared.round.Round.TheVariants as rounds
use Rattle.npos_runtime.specs.Rules.Committee.{Committee}
use Rattle.npos_runtime.specs.Kept.Parts.{open_of, kept_committee}
use Rattle.npos_runtime.specs.Kept.State.{voter_row, round_row, open_row, queue_row, waiting_row, kept, IsTold}
use Rattle.npos_runtime.specs.Live.{AreNoted, IsSoundRound, IsNotedCommittee, IsReady}
use Rattle.npos_runtime.specs.Kept.Sound.{AreKnown, IsSoundPoll, IsSoundOpen, IsSoundWaiting, IsSoundChain}
use Rattle.npos_runtime.specs.Live.{WasElected}
use Rattle.npos_runtime.proofs.Rules.ExposureLemmas.{elected_by}
use Rattle.npos_runtime.proofs.Kept.PassLemmas.{kept_weights, passes_kept}
use Rattle.npos_runtime.proofs.Kept.Fits.PartLemmas.{IsAccount, AreHeard, IsFitting}
use Rattle.npos_runtime.proofs.Kept.Fits.EdgeLemmas.{few_edges}
use Rattle.npos_runtime.proofs.Kept.Fits.RowLemmas.{solutions_within}

-- whoever has a row in the books is an account
all_owned : (book : Ledger) (accounts : List AccountId) → AreHeard book → AreKnown book accounts
    → All IsAccount accounts
all_owned book accounts heard known =
    All-weaker (λ (who : AccountId). is_some (row_of book who) ≡ true) IsAccount heard accounts known

-- ## Snapshots

-- each target with its commission
targets_fit : (targets : List AccountId) (commissions : List ℕ) → All IsAccount targets
    → All (λ commission. commission ≤ WHOLE_FRACTION) commissions
    → (length (zip targets commissions) ≤ length targets) × AllByRecursion (pair account_form compact_u32).in_range (zip targets commissions)
targets_fit [] commissions own within = (omega arith, tt)
targets_fit (target ∷ targets) [] own within = (omega arith, tt)
targets_fit (target ∷ targets) (commission ∷ commissions) own within =
    let rest =
    targets_fit targets commissions (All-tail IsAccount target targets own)
    (All-tail (λ c. c ≤ WHOLE_FRACTION) commission commissions within) in
    let first = All-head (λ c. c ≤ WHOLE_FRACTION) commission commissions within in
    (omega (arith, rest.0), ((All-head IsAccount target targets own, omega (arith, first)), rest.1))

poll_in_range : (book : Ledger) (snapshot : Snapshot) (commissions : List ℕ) → AreHeard book → IsWellFormed snapshot
    → AreNoted snapshot.targets commissions
    → IsSoundPoll book snapshot → round_form.in_range (round_row snapshot commissions)
poll_in_range book snapshot commissions heard formed noted poll =
    let targets =
    targets_fit snapshot.targets commissions (all_owned book snapshot.targets heard poll.targets) noted.within in
    let own = All-of_map IsAccount (λ (voter : Voter). voter.account) snapshot.voters
    (all_owned book (map (λ (voter : Voter). voter.account) snapshot.voters) heard poll.voters) in (
      (omega (arith, targets.0, formed.voters.targets_few), targets.1),
      (
        omega (arith, length-map snapshot.voters voter_row, formed.voters.voters_few),
        recursion_from_All voter_form.in_range (map voter_row snapshot.voters)
            (All-map voter_form.in_range voter_row snapshot.voters
            (λ k d few.
            let voter = get_or snapshot.voters k d in
            let right = formed.voters.each_voter k d few in (
              own k d few,
              omega (arith, get_or-le-sum_by (λ (v : Voter). v.stake) snapshot.voters k d few, formed.voters.total_fits),
              (
                omega (arith, right.few_votes),
                recursion_from_All compact_u16.in_range voter.votes
                    (λ i e inside. omega (arith, right.votes_in_range i e inside, formed.voters.targets_few)),
              ),
            ))),
      ),
    )

-- ## Rounds

pub round_in_range : (chain : Chain) (round : Option Round) → AreHeard chain.book → IsSoundRound round
    → IsSoundOpen chain.book round
    → IfSome (open_row (open_of round)) round_form.in_range
round_in_range chain None heard formed sound = tt
round_in_range chain (Some (rounds.Void number)) heard formed sound = tt
round_in_range chain (Some (rounds.Open number snapshot commissions)) heard formed sound =
    poll_in_range chain.book snapshot commissions heard formed.0 formed.1 sound

-- ## Who waits

committee_in_range : (book : Ledger) (committee : Committee) → AreHeard book → IsWellFormed committee.snapshot
    → AreNoted committee.snapshot.targets committee.commissions → IsSoundPoll book committee.snapshot
    → Passes committee.snapshot (kept_weights committee.weights)
    → waiting_form.in_range (waiting_row (kept_committee committee))
committee_in_range book committee heard formed noted poll passes =
    let follows = passes.feasible.follows in
    let edges : List Edge = kept_edges committee.weights.edges in
    let ends = (elected_by (kept_committee committee) formed follows noted).edges_within in (
      poll_in_range book committee.snapshot committee.commissions heard formed noted poll,
      (
        omega (arith, passes.feasible.seats_filled, formed.seats_few),
        recursion_from_All compact_u16.in_range committee.weights.committee
            (λ k d few. omega (arith, follows.members_in_range k d few, formed.voters.targets_few)),
      ),
      (
        omega (
          arith,
          few_edges committee.snapshot edges formed.voters.each_voter follows.pairs_distinct follows.voters_in_range follows.nominated,
          formed.voters.voters_few,
        ),
        recursion_from_All edge_form.in_range edges
            (λ k d few. (
              omega (arith, follows.voters_in_range k d few, formed.voters.voters_few),
              omega (arith, (ends k d few).target, formed.voters.targets_few),
              omega (
                arith,
                get_or-le-sum_by (λ (edge : Edge). edge.amount) edges k d few,
                amounts_within committee.snapshot (kept_weights committee.weights) passes.feasible,
                formed.voters.total_fits,
              ),
            )),
      ),
    )

pub waiting_in_range : (chain : Chain) (waiting : Option Committee) → AreHeard chain.book → WasElected waiting
    → IsNotedCommittee waiting
    → IsSoundWaiting chain waiting
    → IfSome (option_map waiting_row (option_map kept_committee waiting)) waiting_form.in_range
waiting_in_range chain None heard elected noted sound = tt
waiting_in_range chain (Some committee) heard elected noted sound =
    committee_in_range chain.book committee heard elected.sound noted sound.poll
    (passes_kept committee.snapshot committee.weights sound.passes)

-- ## Submissions and slashes

module _ (chain : Chain) (ready : IsReady chain) (told : IsTold chain) (sound : IsSoundChain chain)
    (fit : IsFitting chain) where
  pub queue_in_range : (length (kept chain).queue ≤ 16) × AllByRecursion queued_form.in_range (kept chain).queue
  queue_in_range =
      let items : List Submission = chain.queue.items in
      let due = ready.between.live.due in (
        omega (arith, length-map items queue_row, ready.between.live.queue.fits, ready.between.live.queue.most),
        recursion_from_All queued_form.in_range (map queue_row items)
            (All-map queued_form.in_range queue_row items
            (λ k d few.
            let item = fit.queue k d few in
            let taken = sound.queue.accepted k d few in (
              (omega (arith, taken.given, sound.queue.few, due.at_most), item.own),
              item.score,
              (omega (arith, taken.fits, solutions_within chain.params ready.between.live.params), item.bytes),
            ))),
      )

  pub slashes_in_range : (length (kept chain).slashes ≤ 256) × AllByRecursion slash_form.in_range (kept chain).slashes
  slashes_in_range =
      let queued = ready.between.slashes.order.queued in
      let due = ready.between.live.due in (
        omega (arith, queued.most),
        recursion_from_All slash_form.in_range chain.eras.queue
            (λ k d few. (
              omega (arith, queued.given k d few, sound.slashes.few, due.at_most),
              omega (arith, ready.between.slashes.later k d few, ready.between.slashes.fits),
              fit.slashes k d few,
            )),
      )
