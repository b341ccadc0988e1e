use Rattle.std.proofs.Common.{map, take}
use Rattle.account_places.specs.Places.{by_account}
use Rattle.state_rules.specs.Accounts.{AreNoted}
use Rattle.state_rules.specs.Eras.{is_bad_line}
use Rattle.state_rules.proofs.ListLemmas.{IsAhead}
use Rattle.state_rules.proofs.eras.has_bad_line.Given as goal

-- the lines before are not wrong, and their accounts are noted
abbrev pub invariant-loop-line : goal.invariant-loop-line
invariant-loop-line l = record {
  ahead : IsAhead is_bad_line l.lines l.line-index;
  noted : AreNoted (by_account l.seen.accounts) (map (λ line. line.who) (take l.line-index l.lines));
}
