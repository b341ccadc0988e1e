-- What is wrong with a committee that waits for its era.
use Rattle.std.specs.Prelude.{ℕ, Bool, not, ◌||◌, ◌&&◌, nat_eq, nat_lt, List}
use Rattle.std.specs.List.{list_any}
use Rattle.npos_base.specs.declared.figures.Edge.{Edge}
use Rattle.stake_ledger.specs.declared.book_row.BookRow.{BookRow}
use Rattle.state_rules.specs.declared.state.WaitingRow.{WaitingRow}
use Rattle.state_rules.specs.Lists.{is_rising}
use Rattle.state_rules.specs.Rounds.{is_bad_round}

-- by voter, and then by target
abbrev pub edge_below : Edge → Edge → Bool
edge_below first later =
    nat_lt first.voter later.voter
    || nat_eq first.voter later.voter && nat_lt first.target later.target

-- the edges do not rise, or one gives nothing
abbrev pub are_bad_edges : List Edge → Bool
are_bad_edges edges = not (is_rising edge_below edges) || list_any (λ edge. nat_eq edge.amount 0) edges

-- the committee or the edges are wrong, or the snapshot is
abbrev pub is_bad_committee : List BookRow → ℕ → WaitingRow → Bool
is_bad_committee rows seats waiting =
    not (is_rising nat_lt waiting.committee) || are_bad_edges waiting.edges
    || is_bad_round rows seats waiting.round
