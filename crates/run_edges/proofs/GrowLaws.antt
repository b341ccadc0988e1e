-- What is read from the bytes that are known is read whatever follows, and a refusal stands whatever follows, unless
-- bytes are missing.
use Rattle.std.proofs.Common.{◌≡◌, ◌≢◌, ◌⊎◌, inl, inr, ℕ, Bool, List, ◌++◌, refl, sym, ◌∙◌, ap, subst}
use Rattle.std.proofs.lemmas.List.{append-nil}
use Rattle.scale_wire.specs.declared.fault.Why.{Why}
use Rattle.scale_wire.specs.declared.fault.Why.TheVariants.{Short, NotShortest, TooWide, BadTag, TooMany, Trailing}
use Rattle.scale_wire.specs.Form.{Form, IsWire, IsBytes}
use Rattle.run_edges.specs.Ahead.{MayFollow, IsSure}

pub is_short : (why : Why) → (why ≡ Short) ⊎ (why ≢ Short)
is_short Short = inl refl
is_short NotShortest = inr (λ e. cc)
is_short TooWide = inr (λ e. cc)
is_short BadTag = inr (λ e. cc)
is_short TooMany = inr (λ e. cc)
is_short Trailing = inr (λ e. cc)

pub bad_grows : {V : Type 0} (form : Form V) → IsWire form → (bytes more : List ℕ) (at : ℕ) (why : Why) (ended : Bool) → IsBytes bytes → IsSure ended why → MayFollow ended more
    → form.bad bytes at why → form.bad (bytes ++ more) at why
bad_grows form laws bytes more at why ended are_bytes sure follow bad = by (is_short why) where
  by : (why ≡ Short) ⊎ (why ≢ Short) → form.bad (bytes ++ more) at why
  by (inl short) = subst (λ (bs : List ℕ). form.bad bs at why) (sym (append-nil bytes) ∙ ap (λ back. bytes ++ back) (sym (follow (sure short)))) bad
  by (inr other) = laws.persists bytes more at why are_bytes other bad
