-- The numbers that programs in other languages meet.
use Rattle.std.specs.Prelude.{◌≡◌}
use Rattle.npos_c.specs.declared.numbers.TheConstants.{DONE, NO, UNKNOWN, BAD_INPUT, NO_MEMORY, SMALL}
use Rattle.npos_c.specs.declared.finding.TheConstants.{JUDGED, LOST, REFUSED, UNELECTABLE, UNSOLVED, LONG}

pub record AreTheLimits : Type 0 where
  pub done : DONE ≡ 0
  pub no_answer : NO ≡ 1
  pub unknown : UNKNOWN ≡ 2
  pub bad_input : BAD_INPUT ≡ 3
  pub no_memory : NO_MEMORY ≡ 6
  pub small : SMALL ≡ 8
  pub judged : JUDGED ≡ 0
  pub lost : LOST ≡ 1
  pub refused : REFUSED ≡ 2
  pub unelectable : UNELECTABLE ≡ 3
  pub unsolved : UNSOLVED ≡ 4
  pub long : LONG ≡ 5
