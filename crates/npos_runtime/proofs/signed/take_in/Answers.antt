use Rattle.std.proofs.Common.{Ok, ap, sym, ◌∙◌}
use Rattle.npos_runtime.proofs.Rules.SubmitLemmas.{ejected_held}
use Rattle.npos_runtime.proofs.signed.take_in.Goals as goal

pub return_deposit-requires : goal.return_deposit-requires
return_deposit-requires c =
    ejected_held c.args.chain.now c.args.item c.in-Some.ejected c.hold.new.book c.requires.live
    (sym c.offer.ensures.answer ∙ (c.in-Ok.is ∙ ap Ok c.in-Some.is)) c.in_ok-hold.ensures.ok
