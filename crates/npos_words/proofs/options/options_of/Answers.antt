use Rattle.std.proofs.Common.{◌≡◌, ◌∙◌, List, [], map, ℕ, ap, subst, refl, sym, true, true≢false, inl, inr, Bor, string_bytes}
use Rattle.clap.specs.Words.{IsAmong, kind_of, app_of, fault_of, found_of, is_simple_and_free, matches_of, rows_of, App}
use Rattle.clap.proofs.WalkLemmas.{both}
use Rattle.npos_words.specs.Found.{app_with}
use Rattle.npos_words.proofs.FoundLemmas.{clap_reads, finds, finds_none, simple_and_free, words_utf8}
use Rattle.npos_words.proofs.options.options_of.Goals as goal

pub returns-in-Ok : goal.returns-in-Ok
returns-in-Ok c =
    let names = map (λ (name : Bor (List ℕ)). name.now) c.args.names.now in
    let all = map string_bytes c.args.words.now in
    let app_is : app_of c.in_ok-command.command ≡ app_with names = c.in_ok-command.ensures in
    let free : is_simple_and_free (app_of c.in_ok-command.command) ≡ true = ap (λ (a : App). is_simple_and_free a) app_is ∙ simple_and_free names in
    let none : fault_of (app_with names) all ≡ [] = ap (λ (a : App). fault_of a all) (sym app_is) ∙ c.in-Ok.ensures.kinds free in
    let found : rows_of (found_of c.in-Ok.matches) ≡ matches_of (app_with names) all =
    (c.in-Ok.ensures.matches (both _ _ free).0).0 ∙ ap (λ (a : App). matches_of a all) app_is in
    finds _ _ _ c.in-Ok.matches (clap_reads names all (words_utf8 c.args.words.now) c.requires) none found

pub returns-else-eq : goal.returns-else-eq
returns-else-eq c =
    let names = map (λ (name : Bor (List ℕ)). name.now) c.args.names.now in
    let all = map string_bytes c.args.words.now in
    let app_is : app_of c.in_ok-command.command ≡ app_with names = c.in_ok-command.ensures in
    let free : is_simple_and_free (app_of c.in_ok-command.command) ≡ true = ap (λ (a : App). is_simple_and_free a) app_is ∙ simple_and_free names in
    elim (c.in-Err.ensures.kinds free) [
      | inl memory ↦
          let same : c.eq.result ≡ true = rw (c.eq.ensures, c.kind.ensures, memory) refl in
          absurd (true≢false (sym same ∙ c.if-eq.false))
      | inr among ↦
          finds_none _ (kind_of c.in-Err.error) (fault_of (app_with names) all) _ (clap_reads names all (words_utf8 c.args.words.now) c.requires)
          (subst (λ (a : App). IsAmong (kind_of c.in-Err.error) (fault_of a all)) app_is among)
    ]
