use Rattle.std.proofs.Common.{refl, ap, sym, subst, ◌∙◌}
use Rattle.era_book.specs.Eras.{Eras, member_in}
use Rattle.era_book.specs.Calls.{IsBelow}
use Rattle.npos_runtime.specs.declared.chain.Chain.{Chain}
use Rattle.npos_runtime.proofs.Rules.OfficeCallLemmas.{slashes_within, offence_is}
use Rattle.npos_runtime.proofs.offices.slash_now.Goals as goal

pub mark_slashed-requires : goal.mark_slashed-requires
mark_slashed-requires c =
    subst (λ (eras : Eras). IsBelow c.args.fraction (member_in eras c.args.era c.args.validator))
    (sym (ap (λ (chain : Chain). chain.eras) (c.in_ok-slash_all.ensures.state ∙ slashes_within c.in_ok-dues.dues c.args.chain.now)))
    c.in_ok-dues.ensures.markable

pub returns-clause-meets : goal.returns-clause-meets
returns-clause-meets c = record {
  ok = (
    rw c.in_ok-dues.ensures.accepted refl,
    offence_is c.args.chain.now c.slash_all.new.chain c.args.era c.args.validator c.args.fraction c.in_ok-dues.dues
        c.mark_slashed.new.self c.in_ok-dues.ensures.ok c.in_ok-slash_all.ensures.state c.mark_slashed.ensures.marked,
  );
  refused = tt;
  unchanged = tt;
}
