use Rattle.std.proofs.Common.{rules, ◌≡◌, ◌++◌, [], ◌∷◌, length, Some, None, ap, sym, subst, ◌∙◌, arith}
use Rattle.era_book.specs.Eras.{Eras}
use Rattle.era_book.specs.Deferred.{next_due}
use Rattle.block_receipts.specs.declared.line.Line.TheVariants as lines
use Rattle.npos_runtime.specs.declared.chain.Chain.{Chain}
use Rattle.npos_runtime.specs.Rules.Outcome.{Goes}
use Rattle.npos_runtime.specs.Live.{IsLive}
use Rattle.npos_runtime.specs.Rules.Offices.{slashes}
use Rattle.npos_runtime.proofs.Rules.PartLemmas.{with_eras}
use Rattle.npos_runtime.proofs.Rules.OfficeCallLemmas.{slashes_live, slashes_within}
use Rattle.npos_runtime.proofs.Histories.AppliedLemmas.{shorter, turn_applied, goes_last}
use Rattle.npos_runtime.proofs.offices.apply_due.Goals as goal

pub slashes-smaller : goal.slashes-smaller
slashes-smaller c =
    let chain : Chain = c.slashes.chain in
    let found : next_due chain.eras ≡ Some c.in-Some.slash = sym c.take_due.ensures.taken ∙ c.in-Some.is in
    let start : Chain = record chain { eras = c.take_due.new.self } in
    let goes : Goes (slashes c.in-Some.slash.lines start) c.slash_all.new.chain c.tell.new.more.items c.slash_all.new.more.items = search rules in
    omega (
      arith,
      shorter chain.eras c.in-Some.slash found,
      ap (λ (after : Chain). length after.eras.queue) goes.state,
      ap (λ (after : Chain). length after.eras.queue) (slashes_within c.in-Some.slash.lines start),
      ap (λ (eras : Eras). length eras.queue) c.take_due.ensures.after,
    )

pub slashes-preserved : goal.slashes-preserved
slashes-preserved c =
    let chain : Chain = c.slashes.chain in
    let found : next_due chain.eras ≡ Some c.in-Some.slash = sym c.take_due.ensures.taken ∙ c.in-Some.is in
    let start : Chain = record chain { eras = c.take_due.new.self } in
    let goes : Goes (slashes c.in-Some.slash.lines start) c.slash_all.new.chain c.tell.new.more.items c.slash_all.new.more.items = search rules in
    let told : c.tell.new.more.items ≡ c.slashes.lines.items ++ lines.Applied c.in-Some.slash.number ∷ [] = search rules in
    record {
      live = subst IsLive (sym goes.state) (slashes_live c.in-Some.slash.lines start (with_eras chain c.take_due.new.self c.slashes.invariant.live));
      told = turn_applied chain start c.slash_all.new.chain c.in-Some.slash c.in-Some.slash.lines c.slashes.lines.items c.tell.new.more.items
          c.slash_all.new.more.items found (λ i. c.in-Some.slash.lines) (λ i. record chain { eras = c.take_due.ensures.after i }) told goes
          ∙ c.slashes.invariant.told;
    }

pub returns : goal.returns
returns c =
    let chain : Chain = c.slashes.chain in
    let none : next_due chain.eras ≡ None = search rules in
    goes_last c.args.chain.now chain (record chain { eras = c.take_due.new.self }) c.args.lines.now.items c.slashes.lines.items none
    (λ i. record chain { eras = c.take_due.ensures.after i }) c.slashes.invariant.told
