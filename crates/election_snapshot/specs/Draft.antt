-- A snapshot while it is built: what each addition gives, and the first fault that stands.
use Rattle.std.specs.Prelude.{ℕ, ◌+◌, ◌*◌, ◌^◌, Bool, false, ◌||◌, nat_eq, nat_lt, nat_le, if◌then◌else◌, List, [], ◌∷◌, ◌++◌, length, map, position, Option, Some, None}
use Rattle.std.specs.List.{list_any}
use Rattle.npos_base.specs.declared.account.AccountId.{AccountId}
use Rattle.npos_base.specs.Account.{same_account}
use Rattle.npos_base.specs.declared.limits.TheConstants.{MOST_NOMINATIONS, MOST_TARGETS, MOST_VOTERS, MOST_SEATS}
use Rattle.election_snapshot.specs.Snapshot.{Voter, Snapshot, has, total_of}
use Rattle.election_snapshot.specs.declared.fault.SnapshotFault.{SnapshotFault}
use Rattle.election_snapshot.specs.declared.fault.SnapshotFault.TheVariants.{Few, Poor, RepeatedTarget, RepeatedVoter, UnknownTarget}
use Rattle.election_snapshot.specs.declared.fault.SnapshotFault.TheVariants.{RepeatedVote, NoVotes, ZeroStake, TooManyTargets}
use Rattle.election_snapshot.specs.declared.fault.SnapshotFault.TheVariants.{TooManyVoters, TooManyVotes, TotalTooLarge, BadSeats}

pub record Draft : Type 0 where
  pub targets : List AccountId
  pub voters : List Voter

abbrev pub accounts_of : List Voter → List AccountId
accounts_of voters = map (λ voter. voter.account) voters

-- the account stands in the list
abbrev pub stands_in : List AccountId → AccountId → Bool
stands_in accounts who = list_any (same_account who) accounts

-- the position of an account, if it stands in the list
abbrev pub place_of : List AccountId → AccountId → Option ℕ
place_of accounts who = position (same_account who) accounts

-- some number stands twice
abbrev pub has_repeat : List ℕ → Bool
has_repeat [] = false
has_repeat (number ∷ numbers) = has numbers number || has_repeat numbers

abbrev pub target_fault : Draft → AccountId → Option SnapshotFault
target_fault draft who =
    if nat_le MOST_TARGETS (length draft.targets) then Some TooManyTargets
    else if stands_in draft.targets who then Some (RepeatedTarget (length draft.targets))
    else None

abbrev pub with_target : Draft → AccountId → Draft
with_target draft who = record draft { targets = draft.targets ++ who ∷ [] }

-- The first fault of a voter, where so many targets and voters stand, its account among them or
-- not, and the stakes sum to this total.
abbrev pub voter_fault_by : ℕ → ℕ → Bool → ℕ → ℕ → List ℕ → Option SnapshotFault
voter_fault_by targets voters stands total stake votes =
    if nat_le MOST_VOTERS voters then Some TooManyVoters
    else if stands then Some (RepeatedVoter voters)
    else if nat_eq stake 0 then Some (ZeroStake voters)
    else if nat_eq (length votes) 0 then Some (NoVotes voters)
    else if nat_lt MOST_NOMINATIONS (length votes) then Some (TooManyVotes voters)
    else if list_any (λ target. nat_le targets target) votes then Some (UnknownTarget voters)
    else if has_repeat votes then Some (RepeatedVote voters)
    else if nat_le (2 ^ 64) (total + stake) then Some (TotalTooLarge voters)
    else None

abbrev pub voter_fault : Draft → AccountId → ℕ → List ℕ → Option SnapshotFault
voter_fault draft who stake votes =
    voter_fault_by (length draft.targets) (length draft.voters) (stands_in (accounts_of draft.voters) who)
    (total_of draft.voters) stake votes

abbrev pub with_voter : Draft → AccountId → ℕ → List ℕ → Draft
with_voter draft who stake votes =
    record draft { voters = draft.voters ++ record { account = who; stake = stake; votes = votes } ∷ [] }

-- the first fault of a number of seats, where so many targets stand and the stakes sum to this total
abbrev pub first_seats_fault : ℕ → ℕ → ℕ → Option SnapshotFault
first_seats_fault targets total seats =
    if nat_eq seats 0 || nat_lt MOST_SEATS seats then Some (BadSeats seats)
    else if nat_lt targets seats then Some (Few targets seats)
    else if nat_lt total (seats * seats) then Some (Poor total seats)
    else None

abbrev pub finish_fault : Draft → ℕ → Option SnapshotFault
finish_fault draft seats = first_seats_fault (length draft.targets) (total_of draft.voters) seats

abbrev pub seated : Draft → ℕ → Snapshot
seated draft seats = record { targets = draft.targets; voters = draft.voters; seats = seats }
