-- The numbers of the verdicts.
use Rattle.std.specs.Prelude.{ℕ}
use Rattle.election_check.specs.declared.verdict.Verdict.{Verdict}
use Rattle.election_check.specs.declared.verdict.Verdict.TheVariants.{Yes, Undecodable, NoVoter, NoTarget, VoterTwice, TargetTwice}
use Rattle.election_check.specs.declared.verdict.Verdict.TheVariants.{NotNominated, BadShare, WrongSize, WrongScore, Outweighed, Overspent}

abbrev pub verdict_number : Verdict → ℕ
verdict_number Yes = 0
verdict_number (Undecodable at why) = 1
verdict_number (NoVoter voter) = 2
verdict_number (NoTarget target) = 3
verdict_number (VoterTwice voter) = 4
verdict_number (TargetTwice target) = 5
verdict_number (NotNominated voter target) = 6
verdict_number (BadShare voter) = 7
verdict_number (WrongSize found) = 8
verdict_number (WrongScore actual) = 9
verdict_number (Outweighed target prescore) = 10
verdict_number (Overspent voter) = 11
