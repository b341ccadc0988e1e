-- The first of several faults, and the verdict that tells it.
use Rattle.std.specs.Prelude.{Bool, true, false, List, [], ◌∷◌, Option, Some, None, Result, Ok, Err}
use Rattle.election_check.specs.declared.fault.Fault.{Fault}
use Rattle.election_check.specs.declared.fault.Fault.TheVariants.{NoVoter, NoTarget, VoterTwice, TargetTwice, NotNominated, BadShare, WrongSize, WrongScore, Outweighed, Overspent}
use Rattle.election_check.specs.declared.verdict.Verdict.{Verdict}
use Rattle.election_check.specs.declared.verdict.Verdict.TheVariants as verdicts

-- a fault that stands where the test holds
abbrev pub when : Bool → Fault → Option Fault
when true fault = Some fault
when false fault = None

abbrev pub first_of : List (Option Fault) → Option Fault
first_of [] = None
first_of (None ∷ faults) = first_of faults
first_of (Some fault ∷ faults) = Some fault

-- each fault is told by the verdict of its name
abbrev pub verdict_of : Fault → Verdict
verdict_of (NoVoter voter) = verdicts.NoVoter voter
verdict_of (NoTarget target) = verdicts.NoTarget target
verdict_of (VoterTwice voter) = verdicts.VoterTwice voter
verdict_of (TargetTwice target) = verdicts.TargetTwice target
verdict_of (NotNominated voter target) = verdicts.NotNominated voter target
verdict_of (BadShare voter) = verdicts.BadShare voter
verdict_of (WrongSize found) = verdicts.WrongSize found
verdict_of (WrongScore actual) = verdicts.WrongScore actual
verdict_of (Outweighed target prescore) = verdicts.Outweighed target prescore
verdict_of (Overspent voter) = verdicts.Overspent voter

-- no fault is a Yes
abbrev pub or_yes : Option Fault → Verdict
or_yes None = verdicts.Yes
or_yes (Some fault) = verdict_of fault

-- the answer of a step that goes on where there is no fault
abbrev pub answer_of : Option Fault → Result (Unit {0}) Fault
answer_of None = Ok tt
answer_of (Some fault) = Err fault
