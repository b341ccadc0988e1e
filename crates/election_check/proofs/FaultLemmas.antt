-- No fault is told as a Yes.
use Rattle.std.proofs.Common.{◌≡◌, Option, Some, None, refl}
use Rattle.election_snapshot.specs.Snapshot.{Snapshot}
use Rattle.weight_book.specs.Weights.{Weights}
use Rattle.election_check.specs.declared.fault.Fault.{Fault}
use Rattle.election_check.specs.declared.fault.Fault.TheVariants.{NoVoter, NoTarget, VoterTwice, TargetTwice, NotNominated, BadShare, WrongSize, WrongScore, Outweighed, Overspent}
use Rattle.election_check.specs.declared.verdict.Verdict.TheVariants.{Yes}
use Rattle.election_check.specs.First.{verdict_of, or_yes}
use Rattle.election_check.specs.Plain.{plain_fault}

pub no_yes : (fault : Fault) → verdict_of fault ≡ Yes → ⊥
no_yes (NoVoter voter) e = absurd (cc)
no_yes (NoTarget target) e = absurd (cc)
no_yes (VoterTwice voter) e = absurd (cc)
no_yes (TargetTwice target) e = absurd (cc)
no_yes (NotNominated voter target) e = absurd (cc)
no_yes (BadShare voter) e = absurd (cc)
no_yes (WrongSize found) e = absurd (cc)
no_yes (WrongScore actual) e = absurd (cc)
no_yes (Outweighed target prescore) e = absurd (cc)
no_yes (Overspent voter) e = absurd (cc)

pub yes_is_none : (o : Option Fault) → or_yes o ≡ Yes → o ≡ None
yes_is_none None e = refl
yes_is_none (Some fault) e = absurd (no_yes fault e)

pub plain_yes : (snapshot : Snapshot) (weights : Weights) → or_yes (plain_fault snapshot weights) ≡ Yes → plain_fault snapshot weights ≡ None
plain_yes snapshot weights e = yes_is_none (plain_fault snapshot weights) e
