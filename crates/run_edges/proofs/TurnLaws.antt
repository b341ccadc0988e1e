-- What one turn of a reader comes to, by what was read and what was told; and how turns add up.
use Rattle.std.proofs.Common.{◌≡◌, inl, inr, ◌<◌, ◌≤◌, ◌^◌, ◌+◌, ◌-◌, ℕ, Bool, true, false, List, [], ◌∷◌, ◌++◌, length, Some, None, refl, sym, ◌∙◌, ap, ap₂, subst, append_assoc, arith, length-append}
use Rattle.std.proofs.lemmas.List.{append-nil}
use Rattle.scale_wire.specs.declared.fault.Why.TheVariants.{Short, Trailing}
use Rattle.scale_wire.specs.declared.fault.WireFault.{WireFault}
use Rattle.scale_wire.specs.Form.{IsBytes, IsWire}
use Rattle.scale_wire.specs.Reading.{Place, IsRead, IsFault}
use Rattle.run_edges.specs.declared.turn.Turn.TheVariants.{Taken, Stopped}
use Rattle.run_edges.specs.declared.turn.Stop.{Stop}
use Rattle.run_edges.specs.declared.turn.Stop.TheVariants.{More, Last}
use Rattle.bundle_reports.specs.Texts.{fault_line}
use Rattle.run_edges.specs.Replay.{Machine, Spot, Reaches, Passes, behind, turn, Refused, Followed, Ended}
use Rattle.run_edges.specs.Ahead.{IsSure}
use Rattle.run_edges.specs.Turning.{spot, TakesTurn, StopsHere}
use Rattle.run_edges.proofs.ReplayLaws.{shorter}
use Rattle.block_wire.proofs.StreamLemmas.{read_grows}
use Rattle.run_edges.proofs.GrowLaws.{bad_grows}

-- an input that has ended is nearer its end than one that may go on
abbrev pub one_if_open : Bool → ℕ
one_if_open true = 0
one_if_open false = 1

-- less of the input is ahead after each read
pub nearer_end : (before mid read : ℕ) (going ended : Bool) → going ≡ false → mid ≡ before → mid < 2 ^ 64 → mid ≤ read → (ended ≡ false → mid < read)
    → 2 ^ 64 - read + one_if_open ended < 2 ^ 64 - before + one_if_open going
nearer_end before mid read going ended was same fits later further = at ended refl (ap one_if_open was) where
  at : (b : Bool) → ended ≡ b → one_if_open going ≡ 1 → 2 ^ 64 - read + one_if_open b < 2 ^ 64 - before + one_if_open going
  at true e one = omega (arith, same, fits, later, one)
  at false e one = omega (arith, same, fits, further e, one)

module _ {G B S E : Type 0} (m : Machine G B S E) (genesis_laws : IsWire m.genesis) (turn_laws : IsWire (turn m)) where
  -- bytes are missing, and more may come
  pub wait_turn : (old new : Place) (state : S) (ended : Bool) (text : List ℕ) → ended ≡ false → (at : ℕ) → (turn m).bad old.rest at Short → new ≡ old
      → TakesTurn m ended (spot old state) (spot new state) text text (Stopped More)
  wait_turn old new state ended text going at bad same =
      ([], sym (append-nil text), (going, inl (at, bad), ap (λ (p : Place). spot p state) same, refl))

  -- whether a byte follows the None is not known yet
  pub lone_turn : (old : Place) (state : S) (ended : Bool) (text : List ℕ) → ended ≡ false → old.rest ≡ 0 ∷ []
      → TakesTurn m ended (spot old state) (spot old state) text text (Stopped More)
  lone_turn old state ended text going none = ([], sym (append-nil text), (going, inr none, refl, refl))

  pub none_turn : (old here : Place) (q : Spot S) (state : S) (ended : Bool) (before told : List ℕ) (stop : Stop) → IsRead (turn m) old None here
      → (ended ≡ false → old.rest ≡ 0 ∷ [] → ⊥) → StopsHere here (m.ending state) before told stop → TakesTurn m ended (spot old state) q before told (Stopped stop)
  none_turn old here q state ended before told More is lone stops = absurd stops
  none_turn old here q state ended before told (Last true) is lone stops = (
    fault_line here.at Trailing,
    stops.1,
    (
      λ more follow. Followed (here.rest ++ more) (read_grows (turn m) old here None more is).whole
          (omega (arith, stops.0, length-append here.rest more)) (ap (λ at. fault_line at Trailing) is.at_is) refl,
      λ e. cc,
    ),
  )
  none_turn old here q state ended before told (Last false) is lone stops = (
    m.ending state,
    stops.1,
    (λ more follow. Ended ((read_grows (turn m) old here None more is).whole ∙ ap (λ rest. (turn m).spelling None ++ rest) (ap₂ (λ a b. a ++ b) stops.0 (follow has_ended))) refl refl, λ _. has_ended),
  ) where
    alone : old.rest ≡ 0 ∷ []
    alone = is.whole ∙ ap (λ rest. (turn m).spelling None ++ rest) stops.0

    at : (b : Bool) → ended ≡ b → ended ≡ true
    at true e = e
    at false e = absurd (lone e alone)

    has_ended : ended ≡ true
    has_ended = at ended refl

  pub fault_turn : (old new : Place) (q : Spot S) (state : S) (ended : Bool) (before told : List ℕ) (fault : WireFault) → IsFault (turn m) old fault new → IsBytes old.rest
      → IsSure ended fault.why → told ≡ before ++ fault_line fault.at fault.why → TakesTurn m ended (spot old state) q before told (Stopped (Last true))
  fault_turn old new q state ended before told fault is bytes sure told_is = (
    fault_line fault.at fault.why,
    told_is,
    (
      λ more follow. Refused is.place fault.why (bad_grows (turn m) turn_laws old.rest more is.place fault.why ended
          bytes sure follow is.bad) (ap (λ at. fault_line at fault.why) is.at_is) refl,
      λ e. cc,
    ),
  )

  pub fewer_left : (q r : Spot S) (ended : Bool) (mid told : List ℕ) → TakesTurn m ended q r mid told Taken → length r.rest < length q.rest
  fewer_left q r ended mid told turns = shorter m genesis_laws turn_laws q turns.2.0 r.rest turns.2.1

  -- blocks that lead on take the bytes between
  pub bytes_between : (blocks : List B) (p q : Spot S) (text : List ℕ) → Passes m blocks p q text
      → (passed : List ℕ) × (p.rest ≡ passed ++ q.rest) × (q.at ≡ p.at + length passed)
  bytes_between [] p q text passes = ([], ap (λ (s : Spot S). s.rest) (sym passes.0), omega (arith, ap (λ (s : Spot S). s.at) passes.0))
  bytes_between (block ∷ blocks) p q text passes =
      let front = (turn m).spelling (Some block) in
      let rest = bytes_between blocks (behind m p block passes.0) q passes.2 passes.3 in (
        front ++ rest.0,
        passes.1.whole ∙ (ap (λ back. front ++ back) rest.1 ∙ sym (append_assoc front rest.0 q.rest)),
        omega (arith, rest.2, length-append front rest.0),
      )

  -- the bytes that are ahead end where they did
  pub ends_alike : (p q : Spot S) (text : List ℕ) → Reaches m p q text → q.at + length q.rest ≡ p.at + length p.rest
  ends_alike p q text reaches =
      let between = bytes_between reaches.blocks p q text reaches.passes in
      omega (arith, between.2, ap length between.1, length-append between.0 q.rest)

  -- blocks, and then more of them
  passes_join : (blocks more : List B) (p q r : Spot S) (text other : List ℕ) → Passes m blocks p q text → Passes m more q r other
      → Passes m (blocks ++ more) p r (text ++ other)
  passes_join [] more p q r text other first then =
      subst (λ (t : List ℕ). Passes m more p r (t ++ other)) (sym first.1) (subst (λ (s : Spot S). Passes m more s r other) first.0 then)
  passes_join (block ∷ blocks) more p q r text other first then = (
    first.0,
    first.1,
    first.2 ++ other,
    passes_join blocks more (behind m p block first.0) q r first.2 other first.3 then,
    ap (λ front. front ++ other) first.4 ∙ append_assoc (m.lines p.state block) first.2 other,
  )

  pub reaches_join : (p q r : Spot S) (text other : List ℕ) → Reaches m p q text → Reaches m q r other → Reaches m p r (text ++ other)
  reaches_join p q r text other first then = record {
    blocks = first.blocks ++ then.blocks;
    passes = passes_join first.blocks then.blocks p q r text other first.passes then.passes;
  }
