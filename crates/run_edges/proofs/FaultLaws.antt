-- A fault line stands whatever follows, unless bytes are missing.
use Rattle.std.proofs.Common.{◌≡◌, ◌≢◌, ◌⊎◌, inl, inr, Bool, true, ℕ, List, [], ◌∷◌, ◌++◌, Some, None, sym, ◌∙◌, ap, subst, append_assoc, arith, length-append, true≢false}
use Rattle.scale_wire.specs.declared.fault.Why.{Why}
use Rattle.scale_wire.specs.declared.fault.Why.TheVariants.{Short}
use Rattle.scale_wire.specs.Form.{IsWire, IsBytes}
use Rattle.run_edges.specs.Replay.{Machine, Spot, turn, behind, Passes, Stops, Refused, OtherNumber, Followed, Ended, Outcome, IsReplay, BadGenesis, FaultyGenesis, Replayed}
use Rattle.run_edges.specs.Laws.{CutGenesis, CutBlock, FaultsStand}
use Rattle.run_edges.specs.Turning.{grown}
use Rattle.run_edges.proofs.ReplayLaws.{bytes_behind}
use Rattle.run_edges.proofs.WholeLaws.{passes_grow, start_grows}
use Rattle.run_edges.proofs.GrowLaws.{is_short}

module _ {G B S E : Type 0} (m : Machine G B S E) (genesis_laws : IsWire m.genesis) (turn_laws : IsWire (turn m)) where
  passed_bytes : (blocks : List B) (p q : Spot S) (text : List ℕ) → Passes m blocks p q text → IsBytes p.rest → IsBytes q.rest
  passed_bytes [] p q text passes bytes = subst (λ (s : Spot S). IsBytes s.rest) (sym passes.0) bytes
  passed_bytes (b ∷ blocks) p q text passes bytes =
      passed_bytes blocks (behind m p b passes.0) q passes.2 passes.3 (bytes_behind ((turn m).spelling (Some b)) passes.0 (subst IsBytes passes.1.whole bytes))

  stop_stands : (more : List ℕ) (q : Spot S) (line : List ℕ) (faulty : Bool) → IsBytes q.rest → ((at : ℕ) → (turn m).bad q.rest at Short → ⊥) → faulty ≡ true
      → Stops m q line faulty → Stops m (grown more q) line faulty
  stop_stands more q line faulty bytes whole ends (Refused at why bad line_is faulty_is) = by (is_short why) where
    by : (why ≡ Short) ⊎ (why ≢ Short) → Stops m (grown more q) line faulty
    by (inl short) = absurd (whole at (subst (λ (w : Why). (turn m).bad q.rest at w) short bad))
    by (inr other) = Refused at why (turn_laws.persists q.rest more at why bytes other bad) line_is faulty_is
  stop_stands more q line faulty bytes whole ends (OtherNumber b rest in_range spelled not_due line_is faulty_is) =
      OtherNumber b (rest ++ more) in_range (ap (λ bs. bs ++ more) spelled ∙ append_assoc ((turn m).spelling (Some b)) rest more) not_due line_is faulty_is
  stop_stands more q line faulty bytes whole ends (Followed rest spelled some line_is faulty_is) =
      Followed (rest ++ more) (ap (λ bs. bs ++ more) spelled ∙ append_assoc ((turn m).spelling None) rest more) (omega (arith, some, length-append rest more)) line_is faulty_is
  stop_stands more q line faulty bytes whole ends (Ended spelled line_is faulty_is) = absurd (true≢false (sym ends ∙ faulty_is))

  pub faults_stand : FaultsStand m
  faults_stand bytes more out are_bytes uncut (BadGenesis at why bad o) faulty = by (is_short why) where
    by : (why ≡ Short) ⊎ (why ≢ Short) → IsReplay m (bytes ++ more) out
    by (inl short) = absurd (uncut (CutGenesis at (subst (λ (w : Why). m.genesis.bad bytes at w) short bad)))
    by (inr other) = BadGenesis at why (genesis_laws.persists bytes more at why are_bytes other bad) o
  faults_stand bytes more out are_bytes uncut (FaultyGenesis g rest fault in_range spelled started o) faulty =
      FaultyGenesis g (rest ++ more) fault in_range (ap (λ bs. bs ++ more) spelled ∙ append_assoc (m.genesis.spelling g) rest more) started o
  faults_stand bytes more out are_bytes uncut (Replayed p q text line ends start reaches stops o) faulty =
      Replayed (grown more p) (grown more q) text line ends (start_grows m genesis_laws turn_laws more bytes p start)
      (record { blocks = reaches.blocks; passes = passes_grow m genesis_laws turn_laws more reaches.blocks p q text reaches.passes })
      (stop_stands more q line ends
      (passed_bytes reaches.blocks p q text reaches.passes (bytes_behind (m.genesis.spelling start.genesis) p.rest (subst IsBytes start.whole are_bytes)))
      (λ at bad. uncut (CutBlock p q text at start reaches bad)) (sym (ap (λ (out : Outcome S E). out.faulty) o) ∙ faulty) stops)
      o
