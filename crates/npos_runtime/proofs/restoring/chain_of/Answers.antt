use Rattle.std.proofs.Common.{◌≡◌, ◌≤◌, length, None, sym, subst}
use Rattle.npos_base.specs.declared.limits.TheConstants.{MOST_THRESHOLDS}
use Rattle.era_book.specs.declared.deferred.TheConstants.{MOST_SLASHES}
use Rattle.chain_params.specs.Rules.{thresholds_in}
use Rattle.chain_params.specs.Faults.{terms_fault}
use Rattle.state_rules.specs.declared.state.State.{State}
use Rattle.state_rules.specs.Terms.{params_of, defer_of}
use Rattle.npos_runtime.specs.Kept.Restoring.{due_fault}
use Rattle.npos_runtime.proofs.Kept.Remade.StateLemmas.{few_thresholds, few_slashes}
use Rattle.npos_runtime.proofs.restoring.chain_of.Goals as goal

pub check_terms_of-requires : goal.check_terms_of-requires
check_terms_of-requires c = few_thresholds c.args.state c.requires

pub go_on-requires-clause-due : goal.go_on-requires-clause-due
go_on-requires-clause-due c = subst (λ (state : State). due_fault state.due ≡ None) (sym c.in_ok-check_terms_of.ensures.same) c.in_ok-check_due.ensures.ok

pub go_on-requires-clause-sound : goal.go_on-requires-clause-sound
go_on-requires-clause-sound c =
    subst (λ (state : State). terms_fault (params_of state) (defer_of state) ≡ None) (sym c.in_ok-check_terms_of.ensures.same) c.in_ok-check_terms_of.ensures.ok

pub go_on-requires-clause-thresholds : goal.go_on-requires-clause-thresholds
go_on-requires-clause-thresholds c =
    subst (λ (state : State). length (thresholds_in (params_of state)) ≤ MOST_THRESHOLDS) (sym c.in_ok-check_terms_of.ensures.same) (few_thresholds c.args.state c.requires)

pub go_on-requires-clause-few : goal.go_on-requires-clause-few
go_on-requires-clause-few c =
    subst (λ (state : State). length state.slashes ≤ MOST_SLASHES) (sym c.in_ok-check_terms_of.ensures.same) (few_slashes c.args.state c.requires)
