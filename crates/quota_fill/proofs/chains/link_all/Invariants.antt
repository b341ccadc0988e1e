use Rattle.std.proofs.Common.{◌≡◌, length}
use Rattle.quota_fill.specs.Chains.{AreChained}
use Rattle.quota_fill.proofs.chains.link_all.Given as goal

-- the nominations of the voters from this one on are linked
abbrev pub invariant-loop-voter : goal.invariant-loop-voter
invariant-loop-voter l = (length l.firsts ≡ length l.fn.firsts) × (length l.nexts ≡ length l.fn.nexts)
    × AreChained l.snapshot l.starts l.voter l.firsts l.nexts
