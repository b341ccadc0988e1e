-- The place of the account leaves those of the validators.
use Rattle.std.proofs.Common.{◌∙◌, ap, sym}
use Rattle.std.specs.BTreeMap.{is_at}
use Rattle.npos_base.specs.Account.{account_cmp}
use Rattle.voter_lists.specs.Noted.{accounts_at, validates}
use Rattle.voter_lists.specs.Roles.{standing_of}
use Rattle.voter_lists.proofs.NamedLemmas.{kept_same, validates_noted}
use Rattle.voter_lists.proofs.RankedPlaceLemmas.{ranked_kept, rise_kept}
use Rattle.voter_lists.proofs.StandingLemmas.{left_ordered}
use Rattle.voter_lists.proofs.ValidatorLemmas.{ranked_without, ranked_left, others_left}
use Rattle.voter_lists.proofs.roles.Roles.chill.Goals as goal

pub leave_where-requires : goal.leave_where-requires
leave_where-requires c =
    let standings = c.self.inside.standings in
    let places = c.self.inside.validators.items in
    let accounts = c.remove.new.self.accounts in
    record {
      rising = rise_kept standings places c.self.invariant accounts (kept_same standings.accounts accounts c.remove.ensures.places);
      known = λ none. ranked_without c.args.who standings.roles (accounts_at accounts places)
          (ranked_kept standings places c.self.invariant accounts (kept_same standings.accounts accounts c.remove.ensures.places))
          (sym (validates_noted (standing_of standings.roles c.args.who)) ∙ ap validates (sym c.remove.ensures.before) ∙ sym c.validates-there.ensures ∙ none);
    }

pub invariant_of-self-in_default : goal.invariant_of-self-in_default
invariant_of-self-in_default c =
    let standings = c.self.inside.standings in
    let places = c.self.inside.validators.items in
    let accounts = c.remove.new.self.accounts in
    record {
      within = c.leave_where.ensures.within;
      ranked = ranked_left c.args.who standings.roles _ (accounts_at accounts places) _
          (ranked_kept standings places c.self.invariant accounts (kept_same standings.accounts accounts c.remove.ensures.places))
          c.remove.ensures.gone
          (rw c.remove.ensures.gone (left_ordered (is_at (account_cmp c.args.who)) standings.roles c.self.invariant.ranked.rising))
          c.leave_where.ensures.left;
    }

pub returns-in_default-clause-others : goal.returns-in_default-clause-others
returns-in_default-clause-others c = rw (← c.self.view_is, c.remove.ensures.gone) (others_left c.self.inside.standings.roles c.args.who c.self.invariant.ranked.rising)
