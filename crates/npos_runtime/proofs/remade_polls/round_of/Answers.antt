-- The round of a row, part by part.
use Rattle.std.proofs.Common.{◌∙◌, ℕ, ◌+◌, List, Some, map, option_map, sym, ap}
use Rattle.npos_base.specs.declared.account.AccountId.{AccountId}
use Rattle.election_snapshot.specs.Snapshot.{Snapshot}
use Rattle.election_snapshot.specs.Draft.{seated}
use Rattle.chain_params.specs.Rules.{era_of}
use Rattle.state_rules.specs.Rounds.{draft_of}
use Rattle.npos_runtime.specs.declared.round.Round.TheVariants as rounds
use Rattle.npos_runtime.specs.Kept.Chain.{snapshot_in, round_in}
use Rattle.npos_runtime.proofs.remade_polls.round_of.Goals as goal

pub returns : goal.returns
returns c =
    let params = c.args.params.now in
    let row = c.in-Some.row in
    ap (λ (number : ℕ). Some (rounds.Open (number + 1) c.in_ok-snapshot.snapshot c.in_ok-commissions.commissions)) c.era_of-number.ensures.value
    ∙ ap (λ (snapshot : Snapshot). Some (rounds.Open (era_of params c.args.due + 1) snapshot c.in_ok-commissions.commissions))
    (c.in_ok-snapshot.ensures ∙ ap (seated (draft_of row.targets row.voters)) c.seats_of.ensures)
    ∙ ap (λ (commissions : List ℕ). Some (rounds.Open (era_of params c.args.due + 1) (snapshot_in params row) commissions))
    (c.in_ok-commissions.ensures ∙ ap (λ (targets : List (AccountId × ℕ)). map (λ target. target.1) targets) c.as_slice.ensures)
    ∙ sym (ap (option_map (round_in params c.args.due)) c.in-Some.is)
