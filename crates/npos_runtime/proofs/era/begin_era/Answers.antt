use Rattle.std.proofs.Common.{rules, ◌≡◌, ◌++◌, [], ◌∷◌, length, Option, Some, None, sym, ◌∙◌}
use Rattle.era_book.specs.Eras.{started}
use Rattle.block_receipts.specs.declared.line.Line.TheVariants as lines
use Rattle.chain_params.specs.Rules.{begun_era}
use Rattle.npos_runtime.specs.declared.chain.Chain.{Chain}
use Rattle.npos_runtime.specs.Rules.Committee.{Committee}
use Rattle.npos_runtime.specs.Rules.Exposed.{exposed}
use Rattle.npos_runtime.specs.Rules.Outcome.{Goes}
use Rattle.npos_runtime.specs.Rules.Offices.{applied}
use Rattle.npos_runtime.proofs.Rules.EraPhaseLemmas.{era_goes}
use Rattle.npos_runtime.proofs.era.begin_era.Goals as goal

pub returns-in_ok-apply_due : goal.returns-in_ok-apply_due
returns-in_ok-apply_due c =
    let chain : Chain = c.args.chain.now in
    let begun : begun_era chain.params chain.due ≡ Some c.in-Some.era = sym c.begun_era.ensures ∙ c.in-Some.is in
    let waiting : Option Committee = None in
    let start : Chain = record chain { waiting = waiting; eras = c.next_era.new.eras } in
    let eras : c.next_era.new.eras ≡ started (exposed chain.waiting) chain.eras = search rules in
    let told : c.push.new.self.items ≡ c.args.lines.now.items ++ lines.Era c.in-Some.era ∷ [] = search rules in
    let goes : Goes (applied (length start.eras.queue) start) c.apply_due.new.chain c.push.new.self.items c.apply_due.new.lines.items = search rules in
    era_goes chain start c.apply_due.new.chain c.in-Some.era c.args.lines.now.items c.push.new.self.items c.apply_due.new.lines.items begun
    (λ i. record chain { waiting = waiting; eras = eras i }) told goes
