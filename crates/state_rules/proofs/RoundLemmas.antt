-- A snapshot while it is built of targets and voters, one after another.
use Rattle.std.proofs.Common.{◌≡◌, ℕ, ◌+◌, ◌<◌, List, [], ◌∷◌, ◌++◌, map, refl, sym, ◌∙◌, ap, length, take, get_or}
use Rattle.std.proofs.lemmas.List.{take_more}
use Rattle.block_wire.specs.declared.bundle.BundleVoter.{BundleVoter}
use Rattle.election_snapshot.specs.Snapshot.{Voter}
use Rattle.election_snapshot.specs.Draft.{with_voter}
use Rattle.state_rules.specs.Rounds.{Target, draft_of, voter_of}

mapped : (voters : List BundleVoter) (voter : BundleVoter) → map voter_of (voters ++ voter ∷ []) ≡ map voter_of voters ++ voter_of voter ∷ []
mapped [] voter = refl
mapped (v ∷ voters) voter = ap (λ vs. voter_of v ∷ vs) (mapped voters voter)

-- with the next voter added the draft has one voter more
pub taken_more : (targets : List Target) (voters : List BundleVoter) (place : ℕ) (d voter : BundleVoter) → place < length voters → voter ≡ get_or voters place d
    → with_voter (draft_of targets (take place voters)) voter.account voter.stake voter.votes ≡ draft_of targets (take (place + 1) voters)
taken_more targets voters place d voter few is =
    ap (λ (vs : List Voter). record { targets = map (λ target. target.0) targets; voters = vs })
    (sym (mapped (take place voters) voter))
    ∙ ap (draft_of targets) (ap (λ v. take place voters ++ v ∷ []) is ∙ sym (take_more voters place d few))
