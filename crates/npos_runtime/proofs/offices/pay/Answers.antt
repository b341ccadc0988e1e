use Rattle.std.proofs.Common.{◌≡◌, List, ◌∷◌, [], ◌++◌, map, length, arith, ap, sym, ◌∙◌, append_assoc}
use Rattle.std.specs.Vec.Iter.{into_iter_items}
use Rattle.era_book.specs.declared.exposure.Backer.{Backer}
use Rattle.npos_runtime.specs.Rules.Offices.{all_minted, paid_line}
use Rattle.npos_runtime.proofs.Rules.OfficeLemmas.{line_fits, rest_fits}
use Rattle.npos_runtime.proofs.offices.pay.Goals as goal

pub mint-requires : goal.mint-requires
mint-requires c =
    line_fits c.lines.book (into_iter_items c.lines.line-iterator) c.in-Some.line (into_iter_items c.next.new.self) c.in-Some.ensures.steps.0
    c.lines.invariant.fits

pub lines-preserved : goal.lines-preserved
lines-preserved c =
    let left : into_iter_items c.lines.line-iterator ≡ c.in-Some.line ∷ into_iter_items c.next.new.self = c.in-Some.ensures.steps.0 in
    let rest : List Backer = into_iter_items c.next.new.self in
    record {
      fits = rest_fits c.lines.book c.mint.new.book (into_iter_items c.lines.line-iterator) c.in-Some.line rest left c.lines.invariant.fits c.in_ok-mint.ensures;
      book = ap (all_minted rest) c.in_ok-mint.ensures ∙ (ap (λ (lines : List Backer). all_minted lines c.lines.book) (sym left) ∙ c.lines.invariant.book);
      room = omega (arith, ap length left, c.push_reserved.ensures.len, c.push_reserved.ensures.capacity, c.lines.invariant.room);
      told = ap (λ told. told ++ map paid_line rest) c.push_reserved.ensures.items
          ∙ (append_assoc c.lines.more.items (paid_line c.in-Some.line ∷ []) (map paid_line rest)
          ∙ (ap (λ (lines : List Backer). c.lines.more.items ++ map paid_line lines) (sym left) ∙ c.lines.invariant.told));
    }
