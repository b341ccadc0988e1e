-- The place of the account enters those of the validators.
use Rattle.std.proofs.Common.{rules, ◌≡◌, ◌<◌, ◌∙◌, true, false, length, sym, ap, subst}
use Rattle.std.specs.BTreeSet.{insert_key}
use Rattle.npos_base.specs.Account.{account_cmp}
use Rattle.npos_base.proofs.AccountOrder.{account_total}
use Rattle.npos_base.proofs.EntryLemmas.{sorted_put}
use Rattle.voter_lists.specs.Noted.{accounts_at, validates}
use Rattle.voter_lists.specs.Ranked.{AreRanked}
use Rattle.voter_lists.specs.RankedAt.{AreRankedAt, RiseAt}
use Rattle.voter_lists.specs.Roles.{is_validator, standing_of}
use Rattle.voter_lists.specs.declared.standing.Standing.TheVariants.{Validator}
use Rattle.voter_lists.proofs.NamedLemmas.{validates_noted}
use Rattle.voter_lists.proofs.RankedPlaceLemmas.{ranked_kept, rise_kept, still_ranked, ranked_again}
use Rattle.voter_lists.proofs.TakenLemmas.{room_for}
use Rattle.voter_lists.proofs.ValidatorLemmas.{ranked_validating, others_put}
use Rattle.voter_lists.proofs.roles.Roles.put_validator.Goals as goal

pub invariant_of-self-in_err-place : goal.invariant_of-self-in_err-place
invariant_of-self-in_err-place c =
    subst (AreRankedAt c.put_validator.new.self) (sym c.reserve.ensures.items)
    (still_ranked c.self.inside.standings c.self.inside.validators.items c.self.invariant c.put_validator.new.self c.put_validator.ensures.kept c.in_err-place.ensures.err)

pub enter_where-requires-clause-rising : goal.enter_where-requires-clause-rising
enter_where-requires-clause-rising c =
    let accounts = c.put_validator.new.self.accounts in
    subst (RiseAt accounts) (sym c.reserve.ensures.items) (rise_kept c.self.inside.standings c.self.inside.validators.items c.self.invariant accounts c.put_validator.ensures.kept)

pub enter_where-requires-clause-known : goal.enter_where-requires-clause-known
enter_where-requires-clause-known c there =
    let accounts = c.put_validator.new.self.accounts in
    let places = c.self.inside.validators.items in
    let roles = c.self.inside.standings.roles in
    let validates_now : c.validates-missing.result ≡ true = search rules in
    let valid : is_validator roles c.args.who ≡ true =
    sym (validates_noted (standing_of roles c.args.who)) ∙ ap validates (sym c.in_ok-place.ensures.before) ∙ sym c.validates-missing.ensures ∙ validates_now in
    subst (λ places. insert_key account_cmp (accounts_at accounts places) c.args.who ≡ accounts_at accounts places) (sym c.reserve.ensures.items)
    (ranked_again c.args.who roles (accounts_at accounts places) (ranked_kept c.self.inside.standings places c.self.invariant accounts c.put_validator.ensures.kept) valid)

pub invariant_of-self-2 : goal.invariant_of-self-2
invariant_of-self-2 c =
    let accounts = c.put_validator.new.self.accounts in
    let places = c.self.inside.validators.items in
    let roles = c.self.inside.standings.roles in
    let ranked : AreRanked roles (accounts_at accounts places) = ranked_kept c.self.inside.standings places c.self.invariant accounts c.put_validator.ensures.kept in
    let room : is_validator roles c.args.who ≡ false → length (accounts_at accounts places) < 2048 =
    λ absent. room_for c.args.who c.args.commission roles (accounts_at accounts places) ranked (rw (← c.self.view_is) at c.requires) absent in
    record {
      within = c.enter_where.ensures.within;
      ranked = ranked_validating c.args.who c.args.commission roles _ (accounts_at accounts places) _ ranked room c.in_ok-place.ensures.ok
          (rw c.in_ok-place.ensures.ok (sorted_put account_total c.args.who (Validator c.args.commission) roles c.self.invariant.ranked.rising))
          (c.enter_where.ensures.entered ∙ ap (λ places. insert_key account_cmp (accounts_at accounts places) c.args.who) c.reserve.ensures.items);
    }

pub returns-clause-others : goal.returns-clause-others
returns-clause-others c = rw (← c.self.view_is, c.in_ok-place.ensures.ok) (others_put c.self.inside.standings.roles c.args.who (Validator c.args.commission))
