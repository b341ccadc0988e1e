use Rattle.std.proofs.Common.{◌≡◌, List, [], ◌∷◌, ◌++◌, map, OnOk, ap, subst, sym, ◌∙◌, true≢false}
use Rattle.std.specs.Map.{values_of}
use Rattle.era_book.specs.declared.record.MemberRecord.{MemberRecord}
use Rattle.era_book.specs.Eras.{members_in}
use Rattle.era_book.specs.Records.{record_of, entry_from}
use Rattle.state_rules.specs.declared.state.EraRow.{EraRow}
use Rattle.state_rules.specs.declared.state.MemberRow.{MemberRow}
use Rattle.npos_runtime.specs.Kept.State.{member_row, era_row}
use Rattle.npos_runtime.proofs.Kept.SavedLemmas.{some_told}
use Rattle.npos_runtime.proofs.saved_eras.put_era.Goals as goal

pub returns : goal.returns
returns c =
    let era = c.args.era in
    let members = members_in c.args.eras.now era in
    let told : c.in_ok-values.values ≡ map record_of (values_of members) = c.in_ok-values.ensures in
    let some : map record_of (values_of members) ≡ [] → ⊥ =
    λ none. true≢false (sym (c.is_empty.ensures.1 (told ∙ none)) ∙ c.if-is_empty.false) in
    let rows : map member_row (map entry_from (map record_of (values_of members))) ≡ c.in_ok-members.members =
    ap (λ (values : List MemberRecord). map member_row (map entry_from values)) (sym told) ∙ sym c.in_ok-members.ensures in
    let row : era_row era members ≡ record { era = era; members = c.in_ok-members.members } ∷ [] =
    some_told era members some ∙ ap (λ (each : List MemberRow). record { era = era; members = each } ∷ []) rows in
    subst (λ (added : List EraRow). OnOk c.put.result (c.put.new.self ≡ c.args.rows.now ++ added)) (sym row) c.put.ensures.ok
