use Rattle.std.proofs.Common.{◌≡◌, Bool, true, false, ℕ, ◌-◌, List, length, Option, Some, None, refl, ap, subst, arith}
use Rattle.std.specs.Io.KnownBytes.{Keeps}
use Rattle.npos_base.specs.Adapted.{Taken, told_by, Tells}
use Rattle.npos_base.specs.Outside.{Flushes}
use Rattle.npos_base.proofs.standard.WriteSinkSink.flush.Goals as goal

-- all that the writer holds is flushed
flushed_all : (is_told : Bool) (old new : Option (List ℕ)) (unflushed : ℕ) → Tells is_told old → Keeps old new
    → Flushes (told_by is_told old unflushed) (told_by is_told new 0)
flushed_all false old new n tells keeps = tt
flushed_all true None new n tells keeps = absurd (none tells) where
  none : (true ≡ true → false ≡ true) → ⊥
  none tells = let wrong : false ≡ true = tells refl in cc
flushed_all true (Some before) None n tells keeps = absurd keeps
flushed_all true (Some before) (Some held) n tells keeps =
    (record { written = before; flushed = length before - n }, refl, keeps, omega (arith, ap length keeps))

pub returns-in-Ok-clause-bytes : goal.returns-in-Ok-clause-bytes
returns-in-Ok-clause-bytes g c =
    subst (λ (t : Taken). Flushes t.told (told_by g.T.Watch.is_told (g.W.Write.contents c.flush.new.self) 0)) c.self.view_is
    (flushed_all g.T.Watch.is_told (g.W.Write.contents c.self.inside.output) (g.W.Write.contents c.flush.new.self)
    c.self.inside.unflushed c.self.invariant c.flush.ensures.bytes)
