-- A genesis without a fault starts a live chain, and each due block keeps it live; so the books balance throughout.
use Rattle.std.proofs.Common.{◌≡◌, ◌<◌, ◌^◌, ℕ, ◌+◌, List, [], ◌∷◌, length, Option, Some, None, Ok, Err, IfSome, refl, sym, ◌∙◌, ap, subst, arith}
use Rattle.block_wire.specs.declared.block.Block.{Block}
use Rattle.block_wire.specs.declared.genesis.Genesis.{Genesis}
use Rattle.npos_runtime.specs.declared.chain.Chain.{Chain}
use Rattle.chain_params.specs.declared.fault.GenesisFault.{GenesisFault}
use Rattle.npos_runtime.specs.Genesis.{genesis_fault, genesis_chain}
use Rattle.chain_params.specs.Faults.{fault_numbers}
use Rattle.npos_runtime.specs.Live.{IsLive}
use Rattle.npos_runtime.specs.History.{CanTake, IsHistory}
use Rattle.npos_runtime.proofs.Rules.LiveLemmas.{live_step, due_step}
use Rattle.npos_runtime.proofs.Rules.BeginLemmas.{live_begun, start_law}
use Rattle.npos_cli.specs.Texts.{genesis_line}
use Rattle.run_edges.specs.Replay.{Spot, IsTurn, behind, Passes, Starts, Reaches}
use Rattle.npos_cli.specs.Chain.{npos_machine, started}
use Rattle.npos_runtime.specs.Histories.Deposits.{DepositsHold, DepositsLaw}
use Rattle.npos_cli.specs.Books.{BooksBalance, DepositsAreKept}

pub live_turn : (p : Spot Chain) (block : Block) (rest : List ℕ) → IsTurn npos_machine p block rest → IsLive p.state
    → IsLive (behind npos_machine p block rest).state
live_turn p block rest turns live = live_step p.state block live (subst (λ (number : ℕ). number < 2 ^ 32) turns.numbered turns.in_range.0)

pub live_passes : (blocks : List Block) (p q : Spot Chain) (text : List ℕ) → Passes npos_machine blocks p q text → IsLive p.state → IsLive q.state
live_passes [] p q text passes live = subst (λ (s : Spot Chain). IsLive s.state) (sym passes.0) live
live_passes (block ∷ blocks) p q text passes live =
    live_passes blocks (behind npos_machine p block passes.0) q passes.2 passes.3 (live_turn p block passes.0 passes.1 live)

pub due_passes : (blocks : List Block) (p q : Spot Chain) (text : List ℕ) → Passes npos_machine blocks p q text
    → q.state.due ≡ p.state.due + length blocks
due_passes [] p q text passes = ap (λ (s : Spot Chain). s.state.due) passes.0 ∙ omega arith
due_passes (block ∷ blocks) p q text passes =
    omega (arith, due_passes blocks (behind npos_machine p block passes.0) q passes.2 passes.3, due_step p.state block)

-- where a genesis starts a chain, it has no fault, and the chain is its own
pub begun_by : (genesis : Genesis) (chain : Chain) (fault : Option GenesisFault) → genesis_fault genesis ≡ fault
    → started fault genesis ≡ Ok chain
    → (genesis_fault genesis ≡ None) × (genesis_chain genesis ≡ chain)
begun_by genesis chain None sound is = (sound, cc)
begun_by genesis chain (Some fault) faulty is = let e : Err (genesis_line (fault_numbers fault)) ≡ Ok chain = is in cc

module _ (bytes : List ℕ) (start : Spot Chain) (starts : Starts npos_machine bytes start) where
  pub begun : (genesis_fault starts.genesis ≡ None) × (genesis_chain starts.genesis ≡ start.state)
  begun = begun_by starts.genesis start.state (genesis_fault starts.genesis) refl starts.state_is

  pub live_start : IsLive start.state
  live_start = subst IsLive begun.1 (live_begun starts.genesis begun.0)

  -- the blocks of a replay follow its genesis
  pub history_of : (place : Spot Chain) (text : List ℕ) (reaches : Reaches npos_machine start place text)
      → IsHistory starts.genesis reaches.blocks
  history_of place text reaches =
      let live = live_passes reaches.blocks start place text reaches.passes live_start in
      let due = due_passes reaches.blocks start place text reaches.passes in
      record { faultless = begun.0; fit = omega (arith, live.due.at_most, due, ap (λ (c : Chain). c.due) begun.1) }

  -- and the chain that it starts can take them
  pub can_take : (place : Spot Chain) (text : List ℕ) (reaches : Reaches npos_machine start place text) → CanTake start.state reaches.blocks
  can_take place text reaches =
      subst (λ (chain : Chain). CanTake chain reaches.blocks) begun.1
      (start_law starts.genesis reaches.blocks (history_of place text reaches))

pub books_balance : (bytes : List ℕ) → BooksBalance bytes
books_balance bytes start place text starts reaches =
    (live_passes reaches.blocks start place text reaches.passes (live_start bytes start starts)).books.balanced

pub deposits_kept : DepositsLaw → (bytes : List ℕ) → DepositsAreKept bytes
deposits_kept law bytes start place text starts reaches =
    subst (λ (chain : Chain). DepositsHold chain reaches.blocks) (begun bytes start starts).1
    (law starts.genesis reaches.blocks (history_of bytes start starts place text reaches))
