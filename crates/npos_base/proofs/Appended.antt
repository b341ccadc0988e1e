-- Writes one after another append their pieces one after another.
use Rattle.std.proofs.Common.{◌≡◌, ℕ, ◌+◌, ◌-◌, List, [], ◌++◌, length, take, drop, Option, Some, None, Bool, true}
use Rattle.std.proofs.Common.{false, nat_eq, if◌then◌else◌, refl, sym, ◌∙◌, ap, subst, append_assoc, arith, length-drop}
use Rattle.std.proofs.lemmas.List.{append-nil, take_all}
use Rattle.std.proofs.Math.Seq.{take-add}
use Rattle.npos_base.specs.Outside.{Told, Appends, Flushes}
use Rattle.npos_base.specs.Kept.{Kept, kept_told}

pub appends_none : (told : Option Told) → Appends told told []
appends_none None = tt
appends_none (Some now) = (now, refl, sym (append-nil now.written), refl)

pub appends_both : (first second third : Option Told) (xs ys : List ℕ) → Appends first second xs → Appends second third ys → Appends first third (xs ++ ys)
appends_both first second None xs ys a b = tt
appends_both first second (Some now) xs ys a (middle, is, written, flushed) =
    let (before, first_is, written_before, flushed_before) = subst (λ told. Appends first told xs) is a in
    (before, first_is, written ∙ ap (λ zs. zs ++ ys) written_before ∙ append_assoc before.written xs ys, flushed ∙ flushed_before)

-- the first bytes of the piece, and then some of those behind them
pub appends_more : (first second third : Option Told) (piece : List ℕ) (put taken : ℕ)
    → Appends first second (take put piece)
    → Appends second third (take taken (take (length piece - put) (drop put piece)))
    → Appends first third (take (put + taken) piece)
appends_more first second third piece put taken a b =
    let rest : take (length piece - put) (drop put piece) ≡ drop put piece =
    take_all (length piece - put) (drop put piece) (omega (arith, length-drop put piece)) in
    subst (λ bytes. Appends first third bytes) (sym (take-add put taken piece))
    (appends_both first second third (take put piece) (take taken (drop put piece)) a
    (subst (λ bytes. Appends second third (take taken bytes)) rest b))

-- a flush of a sink with a fixed room
pub kept_flush : (sink : Kept) (flushed : ℕ) → flushed ≡ length sink.kept → Flushes (kept_told sink) (kept_told record sink { flushed = flushed })
kept_flush sink flushed all = flush_where (nat_eq sink.past 0) sink.kept sink.flushed flushed all where
  flush_where : (fits : Bool) (kept : List ℕ) (before after : ℕ) → after ≡ length kept
      → Flushes (if fits then Some record { written = kept; flushed = before } else None) (if fits then Some record { written = kept; flushed = after } else None)
  flush_where true kept before after all = (record { written = kept; flushed = before }, refl, refl, all)
  flush_where false kept before after all = tt
