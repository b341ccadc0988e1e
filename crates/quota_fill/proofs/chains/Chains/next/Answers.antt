use Rattle.std.proofs.Common.{arith, ◌≡◌, ◌∙◌, ◌+◌, ◌<◌, ℕ, length, get_or, sym, subst}
use Rattle.std.proofs.lemmas.List.{get_or_default}
use Rattle.election_snapshot.specs.Snapshot.{Snapshot, votes_of}
use Rattle.seat_race.specs.Tables.{says}
use Rattle.quota_fill.specs.declared.chains.Link.{Link}
use Rattle.quota_fill.specs.declared.chains.Chains.{Chains}
use Rattle.quota_fill.specs.Chains.{nowhere, Leads, AreChains}
use Rattle.quota_fill.proofs.ChainLemmas.{starts_rise}
use Rattle.quota_fill.proofs.chains.Chains.next.Goals as goal

-- where the nominations of a voter start is read from the table
read : (snapshot : Snapshot) (chains : Chains) (voter start : ℕ) → AreChains snapshot chains → voter < length snapshot.voters
    → start ≡ get_or chains.starts.items voter start → start ≡ says chains.starts.items voter
read snapshot chains voter start are h is = is ∙ get_or_default chains.starts.items voter start 0 (omega (arith, h, are.starts_are.count))

-- the nomination of a link has a place there
within : (snapshot : Snapshot) (chains : Chains) (link : Link) → AreChains snapshot chains → link.voter < length snapshot.voters → link.place < length (votes_of snapshot link.voter)
    → says chains.starts.items link.voter + link.place < length chains.nexts.items
within snapshot chains link are voter place = omega (
  arith,
  place,
  are.nexts_size,
  starts_rise snapshot chains.starts.items link.voter (length snapshot.voters) are.starts_are voter (omega arith),
)

pub index-requires-2 : goal.index-requires-2
index-requires-2 c =
    let start = read c.args.snapshot.now c.args.self.now c.args.link.voter c.index.result.now c.requires.chains c.requires.voter (rw c.from.ensures at c.index.ensures) in
    omega (arith, start, c.from-2.ensures, within c.args.snapshot.now c.args.self.now c.args.link c.requires.chains c.requires.voter c.requires.place)

pub returns : goal.returns
returns c = λ target at.
    let snapshot = c.args.snapshot.now in
    let link = c.args.link in
    let chains = c.args.self.now in
    let slot = says chains.starts.items link.voter + link.place in
    let start = read snapshot chains link.voter c.index.result.now c.requires.chains c.requires.voter (rw c.from.ensures at c.index.ensures) in
    let is : c.index-2.result.now ≡ get_or chains.nexts.items slot nowhere
    = rw (start, c.from-2.ensures) at c.index-2.ensures
    ∙ get_or_default chains.nexts.items slot c.index-2.result.now nowhere (within snapshot chains link c.requires.chains c.requires.voter c.requires.place) in
    subst (Leads snapshot target (link.voter + 1)) (sym is) (c.requires.chains.chained.nexts_lead link.voter link.place target (omega arith) at)
