use Rattle.std.proofs.Common.{sym, subst}
use Rattle.std.specs.List.Sorted.{IsStrictlySortedBy}
use Rattle.std.specs.Map.{keys_of}
use Rattle.npos_base.specs.Account.{account_cmp}
use Rattle.era_book.specs.Members.{Members}
use Rattle.npos_runtime.proofs.Kept.Remade.EraLemmas.{members_rise, members_sound}
use Rattle.npos_runtime.proofs.remade_eras.put_era.Goals as goal

pub put_era-requires : goal.put_era-requires
put_era-requires c = record {
  known = c.requires.known;
  rising = subst (λ (members : Members). IsStrictlySortedBy account_cmp (keys_of members)) (sym c.in_ok-records.ensures)
      (members_rise c.requires.members.0 c.args.row.members c.requires.members.1);
  sound = members_sound c.requires.members.0 c.args.row.members c.in_ok-records.records c.requires.members.1 c.in_ok-records.ensures;
}
