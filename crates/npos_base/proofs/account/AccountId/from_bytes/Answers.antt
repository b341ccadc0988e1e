-- The first half of 32 bytes is their first 16, and the second is what is left behind those.
use Rattle.std.proofs.Common.{◌≡◌, take, drop, ap, ap₂, ◌∙◌, arith, length-drop}
use Rattle.std.proofs.lemmas.List.{take_all}
use Rattle.std.specs.Int.{w128, from_be_bytes}
use Rattle.npos_base.proofs.account.AccountId.from_bytes.Goals as goal

pub returns : goal.returns
returns c =
    let half : take 16 (drop 16 c.args.bytes.now) ≡ drop 16 c.args.bytes.now =
    take_all 16 (drop 16 c.args.bytes.now) (omega (arith, length-drop 16 c.args.bytes.now)) in
    ap₂ (λ hi lo. record { hi = hi; lo = lo })
    (c.from_be_bytes.ensures ∙ ap (λ bytes. from_be_bytes w128 bytes) c.copy_from_slice.ensures.after)
    (c.from_be_bytes-2.ensures ∙ ap (λ bytes. from_be_bytes w128 bytes) (c.copy_from_slice-2.ensures.after ∙ half))
