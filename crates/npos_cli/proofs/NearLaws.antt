-- No place of a replay comes near 2^64.
use Rattle.std.proofs.Common.{inl, inr, ◌≡◌, ◌+◌, ◌^◌, ◌<◌, ◌≤◌, ℕ, List, [], ◌∷◌, length, Some, subst, sym, ap, arith}
use Rattle.scale_wire.specs.FormLaws.{spelled_below, missing_below}
use Rattle.scale_wire.specs.Reading.{Place, IsRead}
use Rattle.block_wire.specs.declared.block.Block.{Block}
use Rattle.block_wire.specs.declared.genesis.Genesis.{Genesis}
use Rattle.block_wire.specs.Genesis.{genesis_form}
use Rattle.npos_runtime.specs.declared.chain.Chain.{Chain}
use Rattle.npos_runtime.proofs.Rules.LiveLemmas.{due_step}
use Rattle.run_edges.specs.Replay.{Spot, Reaches, Passes, IsTurn, behind, turn}
use Rattle.npos_cli.specs.declared.output.Output.{Output}
use Rattle.npos_cli.specs.Outputs.{machine_of}
use Rattle.run_edges.specs.Ahead.{first_place}
use Rattle.npos_cli.specs.Ahead.{CutsGenesis}
use Rattle.npos_cli.specs.Near.{IsNear}
use Rattle.run_edges.specs.Turning.{IsCutHere}
use Rattle.npos_cli.proofs.ChainLaws.{genesis_laws, turn_laws}

pub genesis_room : (place : Place) → place.at ≡ 0 → CutsGenesis place.rest → place.at + length place.rest + 65536 < 2 ^ 64
genesis_room place at cuts =
    omega (arith, missing_below genesis_form genesis_laws (2 ^ 23) (omega arith) place.rest cuts.0 cuts.1, at)

-- the first block is near
pub begun_near : (taken : List ℕ) (place : Place) (genesis : Genesis) → IsRead genesis_form (first_place taken) genesis place → place.at ≤ 2 ^ 23 + 2 ^ 28
begun_near taken place genesis read =
    omega (arith, spelled_below genesis_form genesis_laws (2 ^ 23) (omega arith) genesis read.in_range, read.at_is)

module _ (output : Output) where
  -- a block leads near
  behind_near : (p : Spot Chain) (block : Block) (rest : List ℕ) → IsTurn (machine_of output) p block rest → IsNear p → IsNear (behind (machine_of output) p block rest)
  behind_near p block rest is near =
      let size = spelled_below (turn (machine_of output)) turn_laws (2 ^ 28) (omega arith) (Some block) is.in_range in
      let number : block.number < 2 ^ 32 = is.in_range.0 in
      let due = due_step p.state block in
      (omega (arith, number, is.numbered, due), omega (arith, size, due, near.1))

  passes_near : (blocks : List Block) (p q : Spot Chain) (text : List ℕ) → Passes (machine_of output) blocks p q text → IsNear p → IsNear q
  passes_near [] p q text passes near = subst IsNear (sym passes.0) near
  passes_near (block ∷ blocks) p q text passes near = passes_near blocks (behind (machine_of output) p block passes.0) q passes.2 passes.3 (behind_near p block passes.0 passes.1 near)

  pub reaches_near : (p q : Spot Chain) (text : List ℕ) → Reaches (machine_of output) p q text → IsNear p → IsNear q
  reaches_near p q text reaches near = passes_near reaches.blocks p q text reaches.passes near

  -- where the bytes are cut there are few, so that a piece has room
  pub cut_room : (p : Spot Chain) → IsCutHere (machine_of output) p → IsNear p → p.at + length p.rest + 65536 < 2 ^ 64
  cut_room p (inl cut) near =
      omega (arith, missing_below (turn (machine_of output)) turn_laws (2 ^ 28) (omega arith) p.rest cut.0 cut.1, near.0, near.1)
  cut_room p (inr none) near = omega (arith, ap length none, near.0, near.1)
