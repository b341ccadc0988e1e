-- The account at the place of a validator is the validator.
use Rattle.std.proofs.Common.{rules, ◌≡◌, ◌<◌, ◌∙◌, length, slice_get, Some, ap, sym, arith}
use Rattle.std.proofs.lemmas.Option.{slice_get-get_or}
use Rattle.voter_lists.proofs.NamedLemmas.{account_at, within_at}
use Rattle.voter_lists.proofs.RankedPlaceLemmas.{ranked_count}
use Rattle.voter_lists.specs.Roles.{validators_of}
use Rattle.voter_lists.proofs.roles.Roles.validator_at.Goals as goal

pub index-requires : goal.index-requires
index-requires c =
    let below : c.args.i < length (validators_of c.self.inside.standings.roles) = rw (← c.self.view_is) at c.requires in
    let within : c.args.i < length c.self.inside.validators.items = omega (arith, below, ranked_count c.self.inside.standings c.self.inside.validators.items c.self.invariant) in
    search rules

pub account-requires : goal.account-requires
account-requires c =
    let below : c.args.i < length (validators_of c.self.inside.standings.roles) = rw (← c.self.view_is) at c.requires in
    let within : c.args.i < length c.self.inside.validators.items = omega (arith, below, ranked_count c.self.inside.standings c.self.inside.validators.items c.self.invariant) in
    within_at c.self.inside.standings.accounts c.self.inside.validators.items c.args.i c.index.result.now c.self.invariant.within
    (slice_get-get_or c.self.inside.validators.items c.args.i c.index.result.now within ∙ ap (λ place. Some place) (sym c.index.ensures))

pub returns : goal.returns
returns c =
    let below : c.args.i < length (validators_of c.self.inside.standings.roles) = rw (← c.self.view_is) at c.requires in
    let within : c.args.i < length c.self.inside.validators.items = omega (arith, below, ranked_count c.self.inside.standings c.self.inside.validators.items c.self.invariant) in
    let here : slice_get c.self.inside.validators.items c.args.i ≡ Some c.index.result.now =
    slice_get-get_or c.self.inside.validators.items c.args.i c.index.result.now within ∙ ap (λ place. Some place) (sym c.index.ensures) in
    rw (← c.self.view_is)
    (ap (λ validators. slice_get validators c.args.i) (sym c.self.invariant.ranked.ranked)
    ∙ account_at c.self.inside.standings.accounts c.self.inside.validators.items c.args.i c.index.result.now c.self.invariant.within here
    ∙ c.account.ensures)
