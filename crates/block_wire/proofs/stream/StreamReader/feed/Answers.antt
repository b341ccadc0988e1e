use Rattle.std.proofs.Common.{arith, ◌≡◌, ◌+◌, ◌<◌, ◌^◌, ◌++◌, length, drop, ◌∙◌, sym, ap, subst, append_assoc, length-append}
use Rattle.scale_wire.specs.Reading.{Place}
use Rattle.block_wire.specs.Begun.{front_bytes}
use Rattle.block_wire.specs.BegunGenesis.{IsBegunGenesis}
use Rattle.block_wire.proofs.StreamLemmas.{fed_begun, genesis_further, fed}
use Rattle.block_wire.proofs.stream.StreamReader.feed.Goals as goal

pub invariant_of-self-2 : goal.invariant_of-self-2
invariant_of-self-2 c =
    let front = front_bytes c.self.inside.begun in
    let rest = drop c.self.inside.from c.self.inside.bytes.items in
    let bytes : c.extend_from_slice.new.self.items ≡ rest ++ c.args.piece.now = c.in_ok-extend_from_slice.ensures.items ∙ ap (λ front. front ++ c.args.piece.now) c.remove_front.ensures in
    let all : front ++ c.extend_from_slice.new.self.items ≡ (front ++ rest) ++ c.args.piece.now = ap (λ rest. front ++ rest) bytes ∙ sym (append_assoc front rest c.args.piece.now) in
    let fits : c.self.inside.at + (length (front ++ rest) + length c.args.piece.now) < 2 ^ 64 =
    subst (λ (p : Place). p.at + (length p.rest + length c.args.piece.now) < 2 ^ 64) (sym c.self.view_is) c.requires in (
      omega arith,
      omega (arith, fits, ap length all, length-append (front ++ rest) c.args.piece.now),
      c.self.invariant.2,
      fed_begun c.self.inside.begun c.self.inside.at rest c.args.piece.now c.extend_from_slice.new.self.items bytes c.self.invariant.3,
      fed IsBegunGenesis c.self.inside.begun_genesis c.self.inside.at (front ++ rest) c.args.piece.now (front ++ c.extend_from_slice.new.self.items) genesis_further all c.self.invariant.4,
    )
