-- The text of the whole blocks: each list of bytes has one, more bytes only lengthen it, and a replay begins with it.
use Rattle.std.proofs.Common.{◌≡◌, inl, inr, ℕ, ◌+◌, true, false, Some, List, [], ◌∷◌, ◌++◌, length, Result, Ok, Err, refl, sym, ◌∙◌, ap, subst, append_assoc, arith}
use Rattle.scale_wire.specs.Form.{IsWire, IsBytes}
use Rattle.run_edges.specs.Replay.{Machine, Spot, turn, behind, IsTurn, IsEnd, Passes, Reaches, Starts, Refused, Ended}
use Rattle.run_edges.specs.Replay.{Outcome, IsReplay, BadGenesis, FaultyGenesis, Replayed, IsWhole, NoStart, Blocks, IsFront}
use Rattle.scale_wire.specs.declared.fault.Why.TheVariants.{Short}
use Rattle.bundle_reports.specs.Texts.{fault_line}
use Rattle.run_edges.specs.Turning.{grown, IsCutHere, IsUndecided, InGenesis, Behind}
use Rattle.run_edges.proofs.ReplayLaws.{bytes_behind, one_turn, one_way, one_start, stop_ends, begun_once, unreadable, any_way}

front_of_none : (text other : List ℕ) → text ≡ [] → IsFront text other
front_of_none text other none = (other, ap (λ front. front ++ other) (sym none))

module _ {G B S E : Type 0} (m : Machine G B S E) (genesis_laws : IsWire m.genesis) (turn_laws : IsWire (turn m)) where
  turn_grows : (more : List ℕ) (p : Spot S) (b : B) (rest : List ℕ) → IsTurn m p b rest → IsTurn m (grown more p) b (rest ++ more)
  turn_grows more p b rest here = record {
    in_range = here.in_range;
    numbered = here.numbered;
    whole = ap (λ bytes. bytes ++ more) here.whole ∙ append_assoc ((turn m).spelling (Some b)) rest more;
  }

  pub passes_grow : (more : List ℕ) (bs : List B) (p q : Spot S) (text : List ℕ) → Passes m bs p q text → Passes m bs (grown more p) (grown more q) text
  passes_grow more [] p q text passes = (ap (grown more) passes.0, passes.1)
  passes_grow more (b ∷ bs) p q text passes = (
    passes.0 ++ more,
    turn_grows more p b passes.0 passes.1,
    passes.2,
    passes_grow more bs (behind m p b passes.0) q passes.2 passes.3,
    passes.4,
  )

  abbrev pub reaches_grow : (more : List ℕ) (p q : Spot S) (text : List ℕ) → Reaches m p q text → Reaches m (grown more p) (grown more q) text
  reaches_grow more p q text reaches = record {
    blocks = reaches.blocks;
    passes = passes_grow more reaches.blocks p q text reaches.passes;
  }

  pub start_grows : (more bytes : List ℕ) (p : Spot S) → Starts m bytes p → Starts m (bytes ++ more) (grown more p)
  start_grows more bytes p start = record {
    genesis = start.genesis;
    in_range = start.in_range;
    state_is = start.state_is;
    whole = ap (λ all. all ++ more) start.whole ∙ append_assoc (m.genesis.spelling start.genesis) p.rest more;
    at_is = start.at_is;
  }

  -- what is written on the way to an end begins with what is written on a part of that way
  passes_first : (bs cs : List B) (p q r : Spot S) (text other : List ℕ)
      → Passes m bs p q text → Passes m cs p r other → IsEnd m r → IsFront text other
  passes_first [] cs p q r text other one two r_ends = front_of_none text other one.1
  passes_first (b ∷ bs) [] p q r text other one two r_ends =
      absurd (r_ends b one.0 (subst (λ (s : Spot S). IsTurn m s b one.0) (sym two.0) one.1))
  passes_first (b ∷ bs) (c ∷ cs) p q r text other one two r_ends =
      let same = one_turn m genesis_laws turn_laws p b c one.0 two.0 one.1 two.1 in
      let there : behind m p c two.0 ≡ behind m p b one.0 = λ i. behind m p (sym same.0 i) (sym same.1 i) in
      let on = passes_first bs cs (behind m p b one.0) q r one.2 two.2 one.3
      (subst (λ (s : Spot S). Passes m cs s r two.2) there two.3) r_ends in
      let told : m.lines p.state c ++ two.2 ≡ m.lines p.state b ++ (one.2 ++ on.0) = λ i. m.lines p.state (sym same.0 i) ++ on.1 i in
      (on.0, two.4 ∙ (told ∙ (sym (append_assoc (m.lines p.state b) one.2 on.0) ∙ ap (λ front. front ++ on.0) (sym one.4))))

  pub whole_grows : (bytes more text longer : List ℕ) → IsWhole m bytes text → IsWhole m (bytes ++ more) longer → IsFront text longer
  whole_grows bytes more text longer (NoStart none text_is) whole = front_of_none text longer text_is
  whole_grows bytes more text longer (Blocks p q start reaches ends) (NoStart none longer_is) = absurd (none (grown more p) (start_grows more bytes p start))
  whole_grows bytes more text longer (Blocks p q start reaches ends) (Blocks p' q' start' reaches' ends') =
      let from = one_start m genesis_laws turn_laws (bytes ++ more) p' (grown more p) start' (start_grows more bytes p start) in
      passes_first reaches.blocks reaches'.blocks (grown more p) (grown more q) q' text longer
      (passes_grow more reaches.blocks p q text reaches.passes) (subst (λ (s : Spot S). Passes m reaches'.blocks s q' longer) from reaches'.passes) ends'

  pub one_whole : (bytes text other : List ℕ) → IsWhole m bytes text → IsWhole m bytes other → text ≡ other
  one_whole bytes text other (NoStart none text_is) (NoStart none' other_is) = text_is ∙ sym other_is
  one_whole bytes text other (NoStart none text_is) (Blocks p q start reaches ends) = absurd (none p start)
  one_whole bytes text other (Blocks p q start reaches ends) (NoStart none other_is) = absurd (none p start)
  one_whole bytes text other (Blocks p q start reaches ends) (Blocks p' q' start' reaches' ends') =
      let from = one_start m genesis_laws turn_laws bytes p' p start' start in
      let way = one_way m genesis_laws turn_laws reaches.blocks reaches'.blocks p q q' text other reaches.passes ends
      (subst (λ (s : Spot S). Passes m reaches'.blocks s q' other) from reaches'.passes) ends' in
      way.1

  begun_whole : (bytes : List ℕ) (g : G) (rest : List ℕ) → IsBytes bytes → m.genesis.in_range g → bytes ≡ m.genesis.spelling g ++ rest
      → (started : Result S (List ℕ)) → m.start g ≡ started → (text : List ℕ) × IsWhole m bytes text
  begun_whole bytes g rest are_bytes in_range whole (Err fault) faulty =
      ([], NoStart (λ p start. begun_once m genesis_laws turn_laws bytes g rest p fault in_range whole faulty start) refl)
  begun_whole bytes g rest are_bytes in_range whole (Ok state) started =
      let p : Spot S = record { at = length (m.genesis.spelling g); state = state; rest = rest } in
      let on = any_way m genesis_laws turn_laws (length rest) p (bytes_behind (m.genesis.spelling g) rest (subst IsBytes whole are_bytes)) (omega arith) in (
        on.text,
        Blocks p on.stop (record { genesis = g; in_range = in_range; state_is = started; whole = whole; at_is = refl }) on.reaches
            (stop_ends m genesis_laws turn_laws on.stop on.line on.faulty on.stops),
      )

  pub any_whole : (bytes : List ℕ) → IsBytes bytes → (text : List ℕ) × IsWhole m bytes text
  any_whole bytes are_bytes = elim (genesis_laws.covers bytes are_bytes) [
    | inl begins ↦ begun_whole bytes begins.value begins.rest are_bytes begins.in_range begins.whole (m.start begins.value) refl
    | inr refused ↦ ([], NoStart (λ p start. unreadable m genesis_laws turn_laws bytes start.genesis p.rest refused.at refused.why start.in_range start.whole refused.bad) refl)
  ]

  pub replay_begins : (bytes text : List ℕ) (out : Outcome S E) → IsWhole m bytes text → IsReplay m bytes out → IsFront text out.text
  replay_begins bytes text out (NoStart none text_is) replays = front_of_none text out.text text_is
  replay_begins bytes text out (Blocks p q start reaches ends) (BadGenesis at why bad o) =
      absurd (unreadable m genesis_laws turn_laws bytes start.genesis p.rest at why start.in_range start.whole bad)
  replay_begins bytes text out (Blocks p q start reaches ends) (FaultyGenesis g rest fault in_range whole faulty o) =
      absurd (begun_once m genesis_laws turn_laws bytes g rest p fault in_range whole faulty start)
  replay_begins bytes text out (Blocks p q start reaches ends) (Replayed p' q' text' line faulty start' reaches' stops o) =
      let same = one_whole bytes text' text (Blocks p' q' start' reaches' (stop_ends m genesis_laws turn_laws q' line faulty stops)) (Blocks p q start reaches ends) in
      (line, ap (λ (found : Outcome S E). found.text) o ∙ ap (λ front. front ++ line) same)

  front_of_front : (front mid whole : List ℕ) → IsFront front mid → IsFront mid whole → IsFront front whole
  front_of_front front mid whole first then =
      (first.0 ++ then.0, then.1 ∙ (ap (λ (t : List ℕ). t ++ then.0) first.1 ∙ append_assoc front first.0 then.0))

  -- what the first blocks write is what the replay begins with
  pub reached_front : (bytes text : List ℕ) (p q : Spot S) (out : Outcome S E) → Starts m bytes p → Reaches m p q text → IsReplay m bytes out → IsFront text out.text
  reached_front bytes text p q out start reaches (BadGenesis at why bad o) =
      absurd (unreadable m genesis_laws turn_laws bytes start.genesis p.rest at why start.in_range start.whole bad)
  reached_front bytes text p q out start reaches (FaultyGenesis g rest fault in_range whole faulty o) =
      absurd (begun_once m genesis_laws turn_laws bytes g rest p fault in_range whole faulty start)
  reached_front bytes text p q out start reaches (Replayed p' q' text' line faulty start' reaches' stops o) =
      let from : p' ≡ p = one_start m genesis_laws turn_laws bytes p' p start' start in
      let first = passes_first reaches.blocks reaches'.blocks p q q' text text' reaches.passes (subst (λ (s : Spot S). Passes m reaches'.blocks s q' text') from reaches'.passes)
      (stop_ends m genesis_laws turn_laws q' line faulty stops) in
      front_of_front text text' out.text first (line, ap (λ (found : Outcome S E). found.text) o)

  cut_ends : (q : Spot S) → IsCutHere m q → IsEnd m q
  cut_ends q (inl cut) = stop_ends m genesis_laws turn_laws q (fault_line (q.at + cut.0) Short) true (Refused cut.0 Short cut.1 refl refl)
  cut_ends q (inr none) = stop_ends m genesis_laws turn_laws q (m.ending q.state) false (Ended none refl refl)

  -- the text of bytes that leave the end open is that of their whole blocks
  pub undecided_whole : (bytes text : List ℕ) → IsUndecided m bytes text → IsWhole m bytes text
  undecided_whole bytes text (InGenesis at bad none) =
      NoStart (λ p start. unreadable m genesis_laws turn_laws bytes start.genesis p.rest at Short start.in_range start.whole bad) none
  undecided_whole bytes text (Behind p q starts reaches cut) = Blocks p q starts reaches (cut_ends q cut)
