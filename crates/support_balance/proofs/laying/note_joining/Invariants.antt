use Rattle.std.proofs.Common.{◌≡◌, ◌<◌, ◌≤◌, length, All}
use Rattle.npos_base.specs.declared.figures.Edge.{Edge}
use Rattle.election_snapshot.specs.Snapshot.{Snapshot}
use Rattle.weight_book.specs.Passing.{nominators}
use Rattle.support_balance.specs.declared.laying.Joining.{Joining}
use Rattle.support_balance.specs.Slots.{AreNotes}
use Rattle.support_balance.proofs.JoinLemmas.{IsJoining}
use Rattle.support_balance.proofs.SpreadLemmas.{front, reached}
use Rattle.support_balance.proofs.VoterLemmas.{next_voter}
use Rattle.support_balance.proofs.laying.note_joining.Given as goal

-- what is laid out by the notes so far, up to the next voter
abbrev pub invariant-loop-voter : goal.invariant-loop-voter
invariant-loop-voter l = record {
  joining : (snapshot : Snapshot) → l.voters ≡ nominators snapshot l.target
      → IsJoining snapshot l.target l.edges (next_voter snapshot l.target l.voter-index) l.done (front l.target l.joining.items 0 l.edges)
      × All (λ (e : Edge). e.voter < next_voter snapshot l.target l.voter-index) (front l.target l.joining.items 0 l.edges);
  inside : l.done ≤ length l.edges;
  reached : reached l.joining.items 0 ≡ l.done;
  notes : AreNotes l.edges l.joining.items;
  passed : All (λ (note : Joining). note.place ≤ l.done) l.joining.items;
}
