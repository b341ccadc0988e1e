-- Turns of a replay whose lines are written.
use Rattle.std.proofs.Common.{◌≡◌, ◌+◌, ◌-◌, ℕ, Bool, true, List, [], ◌++◌, length, take, drop, Option, Some, Ok, Err, refl, sym, ◌∙◌, ap, subst, append_assoc}
use Rattle.std.proofs.lemmas.List.{take-append-drop}
use Rattle.std.proofs.Math.Seq.{take-append_seam, drop-append_seam}
use Rattle.npos_base.specs.Outside.{Told, Appends}
use Rattle.npos_base.proofs.Appended.{appends_none, appends_both}
use Rattle.scale_wire.specs.Reading.{Place, IsRead}
use Rattle.block_wire.specs.declared.block.Block.{Block}
use Rattle.npos_runtime.specs.declared.chain.Chain.{Chain}
use Rattle.npos_runtime.specs.declared.runtime.BlockFault.TheVariants.{WrongNumber}
use Rattle.npos_runtime.specs.Life.{Life, HasFault}
use Rattle.run_edges.specs.declared.turn.Turn.TheVariants.{Taken, Stopped}
use Rattle.run_edges.specs.declared.turn.Stop.{Stop}
use Rattle.run_edges.specs.declared.turn.Stop.TheVariants.{More, Last}
use Rattle.run_edges.specs.declared.halt.Halt.{Halt}
use Rattle.run_edges.specs.declared.halt.Halt.TheVariants as halts
use Rattle.run_edges.specs.Texts.{number_line}
use Rattle.run_edges.specs.Replay.{Spot, Reaches, behind, turn, Stops, OtherNumber}
use Rattle.npos_cli.specs.declared.output.Output.{Output}
use Rattle.npos_cli.specs.Outputs.{machine_of}
use Rattle.run_edges.specs.Owed.{Puts}
use Rattle.run_edges.specs.Turning.{spot, grown, IsCutHere, TakesTurn, WritesOn}
use Rattle.run_edges.proofs.ReplayLaws.{reaches_itself, reaches_more}
use Rattle.npos_cli.proofs.ChainLaws.{genesis_laws, turn_laws}
use Rattle.block_wire.proofs.StreamLemmas.{read_grows}
use Rattle.run_edges.proofs.TurnLaws.{reaches_join}

module _ (output : Output) where
  pub number_turn : (old here : Place) (q : Spot Chain) (life life' : Life) (ended : Bool) (before told : List ℕ)
      (block : Block) (at due found : ℕ) → IsRead (turn (machine_of output)) old (Some block) here
      → HasFault life life' block (WrongNumber due found) → at ≡ old.at + 1 → told ≡ before ++ number_line at due found
      → TakesTurn (machine_of output) ended (spot old life.state) q before told (Stopped (Last true))
  number_turn old here q life life' ended before told block at due found is fault at_is told_is = (
    number_line at due found,
    told_is,
    (
      λ more follow. OtherNumber block (here.rest ++ more) is.in_range (read_grows (turn (machine_of output)) old here (Some block) more is).whole (λ e. fault.3 (fault.2 ∙ (e ∙ sym fault.1)))
          (λ i. number_line (at_is i) (fault.1 i) (fault.2 i)) refl,
      λ e. cc,
    ),
  )

  -- the blocks so far lead from the start to here, and what they write was written
  abbrev pub HasWrit : Spot Chain → Spot Chain → Option Told → Option Told → Type 0
  HasWrit p q old new = (written : List ℕ) × Reaches (machine_of output) p q written × Appends old new written

  pub writ_none : (p : Spot Chain) (told : Option Told) → HasWrit p p told told
  writ_none p told = ([], reaches_itself (machine_of output) genesis_laws turn_laws p, appends_none told)

  -- blocks were taken behind those, and what they write is held
  abbrev pub IsHeld : Spot Chain → Spot Chain → Option Told → Option Told → List ℕ → Type 0
  IsHeld p q old new text = (r : Spot Chain) × HasWrit p r old new × Reaches (machine_of output) r q text

  pub held_none : (p : Spot Chain) (told : Option Told) (empty : List ℕ) → empty ≡ [] → IsHeld p p told told empty
  held_none p told empty none =
      (p, writ_none p told, subst (λ (t : List ℕ). Reaches (machine_of output) p p t) (sym none) (reaches_itself (machine_of output) genesis_laws turn_laws p))

  -- a block more was taken
  pub held_more : (p q r : Spot Chain) (ended : Bool) (old new : Option Told) (before text : List ℕ) → IsHeld p q old new before → TakesTurn (machine_of output) ended q r before text Taken
      → IsHeld p r old new text
  held_more p q r ended old new before text held turns =
      let is = turns.2 in
      let lines : text ≡ before ++ (machine_of output).lines q.state is.0 = turns.1 ∙ ap (λ (told : List ℕ). before ++ told) is.3 in (
        held.0,
        held.1,
        subst (λ (s : Spot Chain). Reaches (machine_of output) held.0 s text) (sym is.2)
            (subst (λ (t : List ℕ). Reaches (machine_of output) held.0 (behind (machine_of output) q is.0 r.rest) t) (sym lines)
            (reaches_more (machine_of output) genesis_laws turn_laws held.0 q before is.0 r.rest held.2 is.1)),
      )

  -- what was held was written
  writ_held : (p q : Spot Chain) (old mid new : Option Told) (text : List ℕ) → IsHeld p q old mid text → Appends mid new text → HasWrit p q old new
  writ_held p q old mid new text held puts = (
    held.1.0 ++ text,
    reaches_join (machine_of output) genesis_laws turn_laws p held.0 q held.1.0 text held.1.1 held.2,
    appends_both old mid new held.1.0 text held.1.2 puts,
  )

  pub held_put : (p q : Spot Chain) (old mid new : Option Told) (text empty : List ℕ) → IsHeld p q old mid text → Appends mid new text → empty ≡ [] → IsHeld p q old new empty
  held_put p q old mid new text empty held puts none =
      (q, writ_held p q old mid new text held puts, subst (λ (t : List ℕ). Reaches (machine_of output) q q t) (sym none) (reaches_itself (machine_of output) genesis_laws turn_laws q))

  -- a write failed within what was held
  pub held_cut : (p q s : Spot Chain) (ended : Bool) (old mid new : Option Told) (text line : List ℕ) (halt : Halt) → IsHeld p q old mid text → Puts mid new text (Err halt)
      → WritesOn (machine_of output) ended p s old new line (Err halt)
  held_cut p q s ended old mid new text line halts.WriteFault held puts = (
    q,
    held.1.0 ++ text,
    held.1.0 ++ take puts.0 text,
    reaches_join (machine_of output) genesis_laws turn_laws p held.0 q held.1.0 text held.1.1 held.2,
    (drop puts.0 text, ap (λ back. held.1.0 ++ back) (sym (take-append-drop puts.0 text)) ∙ sym (append_assoc held.1.0 (take puts.0 text) (drop puts.0 text))),
    appends_both old mid new held.1.0 (take puts.0 text) held.1.2 puts.1,
  )
  held_cut p q s ended old mid new text line halts.ReadFault held puts = absurd puts
  held_cut p q s ended old mid new text line halts.NoMemory held puts = absurd puts

  -- memory ran out
  pub held_starved : (p q s : Spot Chain) (ended : Bool) (old new : Option Told) (text line : List ℕ)
      → IsHeld p q old new text → WritesOn (machine_of output) ended p s old new line (Err halts.NoMemory)
  held_starved p q s ended old new text line held = (held.0, held.1.0, held.1.1, held.1.2)

  -- the turns stop, and what was held before the last of them was written
  pub held_stop : (p q r : Spot Chain) (ended : Bool) (old mid new : Option Told) (before text : List ℕ) (stop : Stop) → IsHeld p q old mid before
      → TakesTurn (machine_of output) ended q r before text (Stopped stop) → Appends mid new (take (length before) text)
      → WritesOn (machine_of output) ended p r old new (drop (length before) text) (Ok stop)
  held_stop p q r ended old mid new before text stop held turns puts = at stop turns where
    writ : (told : List ℕ) → text ≡ before ++ told → HasWrit p q old new
    writ told is = writ_held p q old mid new before held (subst (λ (t : List ℕ). Appends mid new t) (ap (take (length before)) is ∙ take-append_seam before told) puts)

    at : (stop : Stop) → TakesTurn (machine_of output) ended q r before text (Stopped stop) → WritesOn (machine_of output) ended p r old new (drop (length before) text) (Ok stop)
    at More (told, is, turn) = (
      turn.0,
      subst (λ (s : Spot Chain). IsCutHere (machine_of output) s) (sym turn.2) turn.1,
      subst (λ (s : Spot Chain). HasWrit p s old new) (sym turn.2) (writ told is),
    )
    at (Last faulty) (told, is, turn) =
        let all = writ told is in (
          q,
          all.0,
          all.1,
          (λ more follow. subst (λ (line : List ℕ). Stops (machine_of output) (grown more q) line faulty) (sym (ap (drop (length before)) is ∙ drop-append_seam before told)) (turn.0 more follow)),
          turn.1,
          all.2,
        )
