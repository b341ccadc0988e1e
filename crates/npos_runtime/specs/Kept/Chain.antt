-- The chain that goes on from a state.
use Rattle.std.specs.Prelude.{ℕ, zero, suc, ◌+◌, ◌-◌, ◌≤◌, ◌<◌, ◌≢◌, min, IsTrue, nat_eq, if◌then◌else◌, List, [], ◌∷◌, map, fold, Option, Some, None, option_map, All, AllPairs}
use Rattle.std.specs.List.{IsDistinct}
use Rattle.npos_base.specs.declared.account.AccountId.{AccountId}
use Rattle.npos_base.specs.declared.figures.Edge.{Edge}
use Rattle.npos_base.specs.declared.limits.TheConstants.{MOST_PAST_ERAS}
use Rattle.npos_base.specs.Account.{same_account}
use Rattle.block_wire.specs.declared.bundle.BundleVoter.{BundleVoter}
use Rattle.block_wire.specs.declared.genesis.Params.{Params}
pub use Rattle.stake_ledger.specs.BookRows.{entry_of as book_entry}
use Rattle.voter_lists.specs.declared.standing.Standing.{Standing}
use Rattle.voter_lists.specs.declared.standing.Standing.TheVariants as standing
use Rattle.voter_lists.specs.Roles.{RoleList, with_standing}
use Rattle.election_snapshot.specs.Snapshot.{Snapshot, Voter}
use Rattle.weight_book.specs.GivenEdges.{gives, is_before}
use Rattle.submission_queue.specs.declared.submission.Submission.{Submission}
use Rattle.era_book.specs.Exposures.{amount_sum}
use Rattle.era_book.specs.Members.{Member, Members}
use Rattle.chain_params.specs.Rules.{era_of, seats_of, thresholds_in, deposit_of, places_of}
use Rattle.state_rules.specs.declared.state.State.{State}
use Rattle.state_rules.specs.declared.state.RoleRow.{RoleRow}
use Rattle.state_rules.specs.declared.state.RoleKind.{RoleKind}
use Rattle.state_rules.specs.declared.state.RoleKind.TheVariants as kinds
use Rattle.state_rules.specs.declared.state.EraRow.{EraRow}
use Rattle.state_rules.specs.declared.state.MemberRow.{MemberRow}
use Rattle.state_rules.specs.declared.state.RoundRow.{RoundRow}
use Rattle.state_rules.specs.declared.state.QueueRow.{QueueRow}
use Rattle.state_rules.specs.declared.state.WaitingRow.{WaitingRow}
use Rattle.state_rules.specs.Terms.{params_of, defer_of, era_before}
use Rattle.npos_runtime.specs.declared.chain.Chain.{Chain}
use Rattle.npos_runtime.specs.declared.round.Round.{Round}
use Rattle.npos_runtime.specs.declared.round.Round.TheVariants as rounds
use Rattle.npos_runtime.specs.Rules.Committee.{Committee}

-- ## What the rows stand for

abbrev pub standing_in : RoleKind → Standing
standing_in (kinds.Nominator targets) = standing.Nominator targets
standing_in (kinds.Validator commission) = standing.Validator commission

abbrev pub with_role : RoleList → RoleRow → RoleList
with_role roles row = with_standing roles row.who (standing_in row.role)

abbrev pub roles_in : List RoleRow → RoleList
roles_in rows = fold with_role [] rows

abbrev pub bag_entry : RoleRow → AccountId × ℕ
bag_entry row = (row.who, row.bag)

-- a member stands under its own account, and its support is what its backers give
abbrev pub member_entry : MemberRow → AccountId × Member
member_entry row = (
  row.who,
  record {
    exposure = record {
      validator = row.who;
      commission = row.commission;
      support = amount_sum row.backers;
      backers = row.backers;
    };
    points = row.points;
    claimed = row.claimed;
    fraction = row.fraction;
  },
)

-- the members of an era, which has none where it has no row
abbrev pub members_at : ℕ → List EraRow → Members
members_at era [] = []
members_at era (row ∷ rows) =
    if nat_eq row.era era then map member_entry row.members else members_at era rows

-- the members of so many eras from this one back
abbrev pub eras_back : ℕ → ℕ → List EraRow → List Members
eras_back zero era rows = []
eras_back (suc more) era rows = members_at era rows ∷ eras_back more (era - 1) rows

abbrev pub voter_in : BundleVoter → Voter
voter_in row = record { account = row.account; stake = row.stake; votes = row.votes }

abbrev pub snapshot_in : Option Params → RoundRow → Snapshot
snapshot_in params row = record {
  targets = map (λ target. target.0) row.targets;
  voters = map voter_in row.voters;
  seats = seats_of params;
}

abbrev pub commissions_in : RoundRow → List ℕ
commissions_in row = map (λ target. target.1) row.targets

-- the round of an era is one more than the era
abbrev pub round_in : Option Params → ℕ → RoundRow → Round
round_in params due row =
    rounds.Open (era_of params due + 1) (snapshot_in params row) (commissions_in row)

abbrev pub submission_in : Option Params → QueueRow → Submission
submission_in params row = record {
  number = row.number;
  who = row.who;
  deposit = deposit_of params;
  score = row.score;
  bytes = row.bytes;
}

abbrev pub committee_in : Option Params → WaitingRow → Committee
committee_in params row = record {
  snapshot = snapshot_in params row.round;
  weights = record { committee = row.committee; edges = row.edges };
  commissions = commissions_in row.round;
}

-- ## The chain

abbrev pub chain_of : State → Chain
chain_of state = record {
  params = params_of state;
  defer = defer_of state;
  book = record {
    rows = map book_entry state.rows;
    genesis = state.genesis;
    minted = state.minted;
    burned = state.burned;
  };
  roles = roles_in state.roles;
  bags = record {
    thresholds = thresholds_in (params_of state);
    order = map bag_entry state.roles;
  };
  round = option_map (round_in (params_of state) state.due) state.round;
  queue = record {
    items = map (submission_in (params_of state)) state.queue;
    places = places_of (params_of state);
  };
  next = state.next_submission;
  waiting = option_map (committee_in (params_of state)) state.waiting;
  eras = record {
    current = era_before state;
    kept = eras_back (min (era_before state + 1) (MOST_PAST_ERAS + 1)) (era_before state) state.eras;
    queue = state.slashes;
    next_slash = state.next_slash;
  };
  due = state.due;
}

-- ## What the lists of a state have to keep, so that the chain has all of them

-- The era is the last one or one of the 84 before it, and it has a member.
pub record IsKeptEra (last : ℕ) (row : EraRow) : Type 0 where
  pub begun : row.era ≤ last
  pub recent : last ≤ row.era + MOST_PAST_ERAS
  pub peopled : row.members ≢ []

pub record AreKeptEras (last : ℕ) (rows : List EraRow) : Type 0 where
  pub rising : AllPairs (λ (first later : EraRow). first.era < later.era) rows
  pub each : All (IsKeptEra last) rows

-- the edges rise by voter and then by target, and each gives something
pub record AreInOrder (edges : List Edge) : Type 0 where
  pub rising : AllPairs (λ (first later : Edge). IsTrue (is_before first later)) edges
  pub given : All (λ edge. IsTrue (gives edge)) edges

abbrev pub IsWaitingInOrder : Option WaitingRow → Type 0
IsWaitingInOrder None = Unit {0}
IsWaitingInOrder (Some row) = AreInOrder row.edges

pub record IsInForm (state : State) : Type 0 where
  -- no account has two roles
  pub roles : IsDistinct same_account (map (λ (row : RoleRow). row.who) state.roles)
  pub eras : AreKeptEras (era_before state) state.eras
  pub waiting : IsWaitingInOrder state.waiting
