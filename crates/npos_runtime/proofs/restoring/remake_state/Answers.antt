use Rattle.std.proofs.Common.{is_some, sym, subst}
use Rattle.chain_params.specs.Rules.{places_of, solution_max_of}
use Rattle.state_rules.specs.Terms.{era_before, defer_of, params_of}
use Rattle.npos_runtime.specs.declared.restoring.Past.{Past}
use Rattle.npos_runtime.specs.declared.restoring.Polls.{Polls}
use Rattle.npos_runtime.specs.declared.restoring.Terms.{Terms}
use Rattle.npos_runtime.specs.Kept.Remade.{AreSoundItems, AreSoundSlashes}
use Rattle.npos_runtime.proofs.restoring.remake_state.Goals as goal

pub remake-requires-clause-items : goal.remake-requires-clause-items
remake-requires-clause-items c =
    subst (λ (terms : Terms). AreSoundItems (places_of terms.params) c.parts_of-terms.result.2.queue) (sym c.parts_of-terms.ensures.terms)
    (subst (λ (polls : Polls). AreSoundItems (places_of (params_of c.args.state)) polls.queue) (sym c.parts_of-terms.ensures.polls)
    (is_some c.args.state.round, solution_max_of (params_of c.args.state), c.args.state.next_submission, c.args.state.rows, c.requires.sound.queue))

pub remake-requires-clause-slashes : goal.remake-requires-clause-slashes
remake-requires-clause-slashes c =
    subst (λ (past : Past). AreSoundSlashes past.next_slash past.slashes) (sym c.parts_of-terms.ensures.past)
    (era_before c.args.state, defer_of c.args.state, c.args.state.rows, c.requires.slashes.slashes)
