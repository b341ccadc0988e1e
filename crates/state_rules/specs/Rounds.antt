-- What is wrong with a snapshot.
use Rattle.std.specs.Prelude.{ℕ, Bool, not, ◌||◌, nat_lt, List, [], map, is_some}
use Rattle.std.specs.List.{list_any}
use Rattle.npos_base.specs.declared.account.AccountId.{AccountId}
use Rattle.npos_base.specs.declared.limits.TheConstants.{WHOLE_FRACTION}
use Rattle.block_wire.specs.declared.bundle.BundleVoter.{BundleVoter}
use Rattle.election_snapshot.specs.Snapshot.{Voter}
use Rattle.election_snapshot.specs.Draft.{Draft, target_fault, voter_fault, finish_fault}
use Rattle.stake_ledger.specs.declared.book_row.BookRow.{BookRow}
use Rattle.state_rules.specs.declared.state.RoundRow.{RoundRow}
use Rattle.state_rules.specs.Lists.{has_bad, follows}
use Rattle.state_rules.specs.Accounts.{is_below}
use Rattle.state_rules.specs.Known.{has_row}

-- a target: an account with its commission
abbrev pub Target : Type 0
Target = AccountId × ℕ

-- the account has no row or is not above the one before, or the commission is above the whole
abbrev pub is_bad_target : List BookRow → List Target → Target → Bool
is_bad_target rows before target =
    not (follows (λ earlier later. is_below earlier.0 later.0) before target)
    || not (has_row rows target.0) || nat_lt WHOLE_FRACTION target.1

abbrev pub voter_of : BundleVoter → Voter
voter_of voter = record { account = voter.account; stake = voter.stake; votes = voter.votes }

-- the targets and voters as a snapshot is built of them
abbrev pub draft_of : List Target → List BundleVoter → Draft
draft_of targets voters = record { targets = map (λ target. target.0) targets; voters = map voter_of voters }

-- the builder refuses the target behind those before it, before any voter comes
abbrev pub is_refused_target : List Target → Target → Bool
is_refused_target before target = is_some (target_fault (draft_of before []) target.0)

-- the builder of these targets refuses the voter behind those before it
abbrev pub is_refused_voter : List Target → List BundleVoter → BundleVoter → Bool
is_refused_voter targets before voter =
    is_some (voter_fault (draft_of targets before) voter.account voter.stake voter.votes)

-- the builder refuses a target, a voter, or at last the snapshot of so many seats
abbrev pub is_refused : ℕ → RoundRow → Bool
is_refused seats round =
    has_bad is_refused_target round.targets || has_bad (is_refused_voter round.targets) round.voters
    || is_some (finish_fault (draft_of round.targets round.voters) seats)

-- a target is wrong, a voter has no row, or the builder refuses the snapshot
abbrev pub is_bad_round : List BookRow → ℕ → RoundRow → Bool
is_bad_round rows seats round =
    has_bad (is_bad_target rows) round.targets
    || list_any (λ voter. not (has_row rows voter.account)) round.voters
    || is_refused seats round
