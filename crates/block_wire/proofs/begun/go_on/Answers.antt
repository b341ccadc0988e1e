use Rattle.std.proofs.Common.{rules, arith, ◌≡◌, ◌≤◌, ◌-◌, List, ℕ, ◌++◌, Some, Err, sym, ◌∙◌, ap, subst}
use Rattle.scale_wire.specs.Reading.{Reads}
use Rattle.npos_base.proofs.AccountBytes.{are_bytes}
use Rattle.block_wire.specs.declared.begun.Step.TheVariants.{Whole}
use Rattle.block_wire.specs.Begun.{next_form, begun_bytes, front_bytes, begun_size, IsBegun, IsWholeBlock, Keeps, Steps}
use Rattle.block_wire.proofs.BegunLemmas.{is_further, whole_taken, kept}
use Rattle.block_wire.proofs.begun.go_on.Goals as goal

pub returns-in-Ok-clause-steps : goal.returns-in-Ok-clause-steps
returns-in-Ok-clause-steps c =
    let begun = c.in-Ok-Some.begun in
    let more = c.fill-read.new.begun in
    let opened : IsBegun begun (record { at = c.args.at; rest = front_bytes c.args.begun ++ c.args.bytes.now }) = search rules in
    let grown : begun_size c.args.begun ≤ begun.size = search rules in
    let further = is_further c.args.begun begun c.args.at c.args.bytes.now c.requires.begun opened grown in
    let same : begun_bytes begun ++ c.split_at.result.1.now ≡ front_bytes c.args.begun ++ c.args.bytes.now = ap (λ (s : List ℕ). begun_bytes begun ++ s) (search rules) ∙ sym further.whole in
    let grows : begun_size c.args.begun ≤ more.size = search rules in
    let is : IsBegun more (record { at = c.args.at; rest = begun_bytes begun ++ c.split_at.result.1.now }) = search rules in
    let whole : IsWholeBlock more (record { at = c.args.at; rest = begun_bytes begun ++ c.split_at.result.1.now }) = search rules in
    let all = is_further c.args.begun more c.args.at c.args.bytes.now c.requires.begun (subst (λ (s : List ℕ). IsBegun more (record { at = c.args.at; rest = s })) same is) grows in
    let taken : more.size - begun_size c.args.begun ≡ more.size - c.size_of-before.result = ap (λ (n : ℕ). more.size - n) (sym c.size_of-before.ensures) in
    subst (λ (n : ℕ). Steps c.args.begun c.args.at c.args.bytes.now (Whole more n)) taken
    (whole_taken c.args.begun more c.args.at c.args.bytes.now all (subst (λ (s : List ℕ). IsWholeBlock more (record { at = c.args.at; rest = s })) same whole))

pub returns-in-Ok-clause-bytes : goal.returns-in-Ok-clause-bytes
returns-in-Ok-clause-bytes c = are_bytes c.args.bytes.now (λ k. omega (arith, c.type_inv.bytes k))

pub returns-in-Err-read-clause-steps : goal.returns-in-Err-read-clause-steps
returns-in-Err-read-clause-steps c =
    let begun = c.in-Ok-Some.begun in
    let more = c.fill-read.new.begun in
    let fault = c.in-Err-read.fault in
    let opened : IsBegun begun (record { at = c.args.at; rest = front_bytes c.args.begun ++ c.args.bytes.now }) = search rules in
    let grown : begun_size c.args.begun ≤ begun.size = search rules in
    let further = is_further c.args.begun begun c.args.at c.args.bytes.now c.requires.begun opened grown in
    let same : begun_bytes begun ++ c.split_at.result.1.now ≡ front_bytes c.args.begun ++ c.args.bytes.now = ap (λ (s : List ℕ). begun_bytes begun ++ s) (search rules) ∙ sym further.whole in
    let grows : begun_size c.args.begun ≤ more.size = search rules in
    let is : IsBegun more (record { at = c.args.at; rest = begun_bytes begun ++ c.split_at.result.1.now }) = search rules in
    let cut : Reads next_form (record { at = c.args.at; rest = begun_bytes begun ++ c.split_at.result.1.now })
    (Err fault) (record { at = c.args.at; rest = begun_bytes begun ++ c.split_at.result.1.now }) = search rules in
    let all_is = subst (λ (s : List ℕ). IsBegun more (record { at = c.args.at; rest = s })) same is in
    let all = is_further c.args.begun more c.args.at c.args.bytes.now c.requires.begun all_is grows in
    let taken : more.size - begun_size c.args.begun ≡ more.size - c.size_of-before.result = ap (λ (n : ℕ). more.size - n) (sym c.size_of-before.ensures) in (
      subst (λ (n : ℕ). Keeps c.args.begun (Some more) c.args.at n c.args.bytes.now) taken
          (kept c.args.begun more c.args.at c.args.bytes.now all all_is c.requires.are_bytes (are_bytes c.args.bytes.now (λ k. omega (arith, c.type_inv.bytes k)))),
      subst (λ (s : List ℕ). Reads next_form (record { at = c.args.at; rest = s }) (Err fault) (record { at = c.args.at; rest = s })) same cut,
    )

pub returns-in-Err-read-clause-bytes : goal.returns-in-Err-read-clause-bytes
returns-in-Err-read-clause-bytes c = are_bytes c.args.bytes.now (λ k. omega (arith, c.type_inv.bytes k))
