-- The begin of an era, as the code goes through it.
use Rattle.std.proofs.Common.{◌≡◌, ℕ, List, [], ◌∷◌, ◌++◌, length, Option, Some, None, option_map, option_to_list, refl, ap, sym, ◌∙◌, append_assoc}
use Rattle.era_book.specs.Eras.{started}
use Rattle.block_receipts.specs.declared.line.Line.{Line}
use Rattle.block_receipts.specs.declared.line.Line.TheVariants as lines
use Rattle.chain_params.specs.Rules.{begun_era}
use Rattle.npos_runtime.specs.declared.chain.Chain.{Chain}
use Rattle.npos_runtime.specs.Rules.Exposed.{exposed}
use Rattle.npos_runtime.specs.Rules.Outcome.{Outcome, Goes}
use Rattle.npos_runtime.specs.Rules.Offices.{applied}
use Rattle.npos_runtime.specs.Step.{waiting_after, eras_after, applied_in, era_phase}
use Rattle.npos_runtime.proofs.Rules.PhaseTable.{era_state}

-- what the slashes come to where this era begins, if one does
abbrev pub ended : Chain → Option ℕ → Outcome
ended chain begun = applied_in begun (record chain { waiting = waiting_after chain.waiting begun; eras = eras_after chain.eras chain.waiting begun })

abbrev pub told : Chain → Option ℕ → List Line
told chain begun = option_to_list (option_map lines.Era begun) ++ (ended chain begun).lines

-- an era begins
pub era_goes : (chain start end : Chain) (era : ℕ) (old between new : List Line) → begun_era chain.params chain.due ≡ Some era
    → start ≡ record chain { waiting = None; eras = started (exposed chain.waiting) chain.eras } → between ≡ old ++ lines.Era era ∷ []
    → Goes (applied (length start.eras.queue) start) end between new → Goes (era_phase chain) end old new
era_goes chain start end era old between new begun is told_is goes =
    let same : applied (length start.eras.queue) start ≡ ended chain (Some era) = ap (λ (c : Chain). applied (length c.eras.queue) c) is in
    record {
      state = goes.state ∙ (ap (λ (o : Outcome). o.state) same ∙ (ap (λ (o : Option ℕ). (ended chain o).state) (sym begun) ∙ sym (era_state chain)));
      lines = goes.lines
          ∙ ((λ i. told_is i ++ (same i).lines)
          ∙ (append_assoc old (lines.Era era ∷ []) (ended chain (Some era)).lines
          ∙ ap (λ (o : Option ℕ). old ++ told chain o) (sym begun)));
    }

-- none does
pub era_rests : (chain : Chain) (old : List Line) → begun_era chain.params chain.due ≡ None → Goes (era_phase chain) chain old old
era_rests chain old none = record {
  state = ap (λ (o : Option ℕ). (ended chain o).state) (sym none) ∙ sym (era_state chain);
  lines = no_more old ∙ ap (λ (o : Option ℕ). old ++ told chain o) (sym none);
} where
  no_more : (xs : List Line) → xs ≡ xs ++ []
  no_more [] = refl
  no_more (x ∷ xs) = ap (λ ys. x ∷ ys) (no_more xs)
