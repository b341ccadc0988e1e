-- The place of the account leaves those of the validators.
use Rattle.std.proofs.Common.{sym, ◌∙◌, ap}
use Rattle.npos_base.proofs.AccountOrder.{account_total}
use Rattle.npos_base.proofs.EntryLemmas.{sorted_put}
use Rattle.voter_lists.specs.Noted.{accounts_at, validates}
use Rattle.voter_lists.specs.Roles.{standing_of}
use Rattle.voter_lists.specs.declared.standing.Standing.TheVariants.{Nominator}
use Rattle.voter_lists.proofs.NamedLemmas.{validates_noted}
use Rattle.voter_lists.proofs.RankedPlaceLemmas.{ranked_kept, rise_kept, still_ranked}
use Rattle.voter_lists.proofs.ValidatorLemmas.{ranked_without, ranked_nominating}
use Rattle.voter_lists.proofs.roles.put_nominator.Goals as goal

pub leave_where-requires-clause-rising : goal.leave_where-requires-clause-rising
leave_where-requires-clause-rising c = rise_kept c.args.standings.now c.args.validators.now.items c.requires.ranked c.put_nominator.new.self.accounts c.put_nominator.ensures.kept

pub leave_where-requires-clause-known : goal.leave_where-requires-clause-known
leave_where-requires-clause-known c none =
    ranked_without c.args.who c.args.standings.now.roles (accounts_at c.put_nominator.new.self.accounts c.args.validators.now.items)
    (ranked_kept c.args.standings.now c.args.validators.now.items c.requires.ranked c.put_nominator.new.self.accounts c.put_nominator.ensures.kept)
    (sym (validates_noted (standing_of c.args.standings.now.roles c.args.who)) ∙ ap validates (sym c.in_ok-before.ensures.before) ∙ sym c.validates.ensures ∙ none)

pub returns-clause-ranked : goal.returns-clause-ranked
returns-clause-ranked c = record {
  within = c.leave_where.ensures.within;
  ranked = ranked_nominating c.args.who c.args.targets.now c.args.standings.now.roles _
      (accounts_at c.put_nominator.new.self.accounts c.args.validators.now.items) _
      (ranked_kept c.args.standings.now c.args.validators.now.items c.requires.ranked c.put_nominator.new.self.accounts c.put_nominator.ensures.kept)
      c.in_ok-before.ensures.ok
      (rw c.in_ok-before.ensures.ok (sorted_put account_total c.args.who (Nominator c.args.targets.now) c.args.standings.now.roles c.requires.ranked.ranked.rising))
      c.leave_where.ensures.left;
}

pub returns-in_err-before-clause-ranked : goal.returns-in_err-before-clause-ranked
returns-in_err-before-clause-ranked c =
    still_ranked c.args.standings.now c.args.validators.now.items c.requires.ranked c.put_nominator.new.self c.put_nominator.ensures.kept c.in_err-before.ensures.err
