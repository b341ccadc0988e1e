-- How the members of an era are kept: each account once, and the backers by the places of theirs.
use Rattle.std.specs.Prelude.{◌≡◌, ℕ, ◌<◌, ◌≤◌, Bool, true, false, ◌&&◌, List, ◌++◌, length, map, filter, All}
use Rattle.std.specs.List.{HoldsAt}
use Rattle.std.specs.List.Sorted.{IsStrictlySortedBy, IsPartitionPoint}
use Rattle.std.specs.Map.{keys_of}
use Rattle.std.specs.declared.cmp.Ordering.TheVariants.{Less, Greater}
use Rattle.npos_base.specs.declared.account.AccountId.{AccountId}
use Rattle.npos_base.specs.declared.figures.Edge.{Edge}
use Rattle.era_book.specs.declared.exposure.Backer.{Backer}
use Rattle.era_book.specs.declared.seat.Share.{Share}
use Rattle.era_book.specs.declared.seat.Seat.{Seat}
use Rattle.era_book.specs.Payouts.{line}
use Rattle.npos_base.specs.Account.{account_at, account_cmp}
use Rattle.era_book.specs.Committee.{gives_to, is_of}
use Rattle.era_book.specs.Members.{Member, Members}

abbrev pub backer_seen : List AccountId → Share → Backer
backer_seen accounts share = line (account_at accounts share.place) share.amount

abbrev pub backers_seen : List AccountId → List Share → List Backer
backers_seen accounts shares = map (backer_seen accounts) shares

-- the member that a seat stands for
abbrev pub member_seen : List AccountId → Seat → Member
member_seen accounts seat =
    record {
      exposure = record {
        validator = seat.validator;
        commission = seat.commission;
        support = seat.support;
        backers = backers_seen accounts seat.shares;
      };
      points = seat.points;
      claimed = seat.claimed;
      fraction = seat.fraction;
    }

abbrev pub members_seen : List AccountId → List (AccountId × Seat) → Members
members_seen accounts seats = map (λ entry. (entry.0, member_seen accounts entry.1)) seats

-- the seats with their accounts
abbrev pub entries_of : List Seat → List (AccountId × Seat)
entries_of seats = map (λ seat. (seat.validator, seat)) seats

-- each account is below those of the seats behind it
abbrev pub AreRising : List Seat → Type 0
AreRising seats = IsStrictlySortedBy account_cmp (keys_of (entries_of seats))

-- the seat at the place is the account's
abbrev pub IsSeatOf : AccountId → List Seat → ℕ → Type 0
IsSeatOf who seats place = HoldsAt (λ seat. seat.validator ≡ who) seats place

-- the account has no seat, and one of it would stand at the place
abbrev pub IsGapFor : AccountId → List Seat → ℕ → Type 0
IsGapFor who seats place =
    IsPartitionPoint (λ seat. account_cmp seat.validator who ≡ Less) (λ seat. account_cmp seat.validator who ≡ Greater) seats place

-- a seat as its era begins
abbrev pub seat_of : AccountId → ℕ → ℕ → List Share → Seat
seat_of validator commission support shares =
    record {
      validator = validator;
      commission = commission;
      support = support;
      shares = shares;
      points = 0;
      claimed = false;
      fraction = 0;
    }

-- an edge as a share of its voter
abbrev pub edge_share : Edge → Share
edge_share edge = record { place = edge.voter; amount = edge.amount }

-- the shares of a target in the order of the edges: the validator's own, or the others'
abbrev pub shares_among : Bool → List AccountId → List AccountId → List Edge → ℕ → List Share
shares_among own targets voters edges target =
    map edge_share (filter (λ edge. gives_to target edge && is_of own targets voters edge) edges)

-- the validator's own share first, then the others
abbrev pub shares_of : List AccountId → List AccountId → List Edge → ℕ → List Share
shares_of targets voters edges target =
    shares_among true targets voters edges target ++ shares_among false targets voters edges target

-- each account stays at its place
pub record Grows (old new : List AccountId) : Type 0 where
  pub count : length old ≤ length new
  pub stays : (place : ℕ) → place < length old → account_at new place ≡ account_at old place

-- an account stands at each place
abbrev pub AreWithin : List AccountId → List Share → Type 0
AreWithin accounts shares = All (λ share. share.place < length accounts) shares
