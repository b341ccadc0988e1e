use Rattle.quota_fill.proofs.ChainLemmas.{IsLinking}
use Rattle.quota_fill.proofs.chains.link_voter.Given as goal

-- the nominations so far are linked
abbrev pub invariant-loop-place : goal.invariant-loop-place
invariant-loop-place l = IsLinking l.votes l.voter l.start l.fn.firsts l.fn.nexts l.place l.firsts l.nexts
