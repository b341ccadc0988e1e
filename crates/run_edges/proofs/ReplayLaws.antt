-- Each byte list has exactly one replay. The laws of the two spellings are all that this rests on.
use Rattle.std.proofs.Common.{◌≡◌, inl, inr, ◌<◌, ◌≤◌, ℕ, zero, suc, ◌+◌, Bool, true, false, List, [], ◌∷◌, ◌++◌, length, Option}
use Rattle.std.proofs.Common.{Some, None, Result, Ok, Err, refl, sym, ◌∙◌, ap, subst, append_assoc, arith, length-append}
use Rattle.std.proofs.lemmas.List.{append-nil}
use Rattle.std.proofs.lemmas.Bool.Decides.{eqb_tells}
use Rattle.scale_wire.specs.declared.fault.Why.{Why}
use Rattle.scale_wire.specs.declared.fault.Why.TheVariants.{Trailing}
use Rattle.scale_wire.specs.Form.{IsWire, IsBytes}
use Rattle.bundle_reports.specs.Texts.{fault_line}
use Rattle.run_edges.specs.Texts.{number_line}
use Rattle.run_edges.specs.Replay.{Machine, Spot, turn, behind, IsTurn, Passes, Reaches, Starts, IsEnd, all_seated, Stops}
use Rattle.run_edges.specs.Replay.{Refused, OtherNumber, Followed, Ended, Outcome, IsReplay, BadGenesis, FaultyGenesis, Replayed}

pub same_spot : {S : Type 0} (p q : Spot S) → p.at ≡ q.at → p.state ≡ q.state → p.rest ≡ q.rest → p ≡ q
same_spot p q at state rest = λ i. record { at = at i; state = state i; rest = rest i }

pub bytes_behind : (front back : List ℕ) → IsBytes (front ++ back) → IsBytes back
bytes_behind [] back bytes = bytes
bytes_behind (b ∷ front) back bytes = bytes_behind front back bytes.1

module _ {G B S E : Type 0} (m : Machine G B S E) (genesis_laws : IsWire m.genesis) (turn_laws : IsWire (turn m)) where
  pub one_turn : (p : Spot S) (b c : B) (r s : List ℕ) → IsTurn m p b r → IsTurn m p c s → (b ≡ c) × (r ≡ s)
  one_turn p b c r s t u =
      let e = turn_laws.one_reading (Some b) (Some c) r s t.in_range u.in_range (sym t.whole ∙ u.whole) in
      let o : Some b ≡ Some c = e.0 in
      (cc, e.1)

  pub stop_ends : (q : Spot S) (line : List ℕ) (faulty : Bool) → Stops m q line faulty → IsEnd m q
  stop_ends q line faulty (Refused at why bad line_is faulty_is) b rest t =
      turn_laws.exclusive (Some b) rest at why t.in_range (subst (λ (bytes : List ℕ). (turn m).bad bytes at why) t.whole bad)
  stop_ends q line faulty (OtherNumber c other in_range whole not_due line_is faulty_is) b rest t =
      let e = turn_laws.one_reading (Some c) (Some b) other rest in_range t.in_range (sym whole ∙ t.whole) in
      let o : Some c ≡ Some b = e.0 in
      let same : c ≡ b = cc in
      not_due (ap m.number same ∙ t.numbered)
  stop_ends q line faulty (Followed other whole more line_is faulty_is) b rest t =
      let e = turn_laws.one_reading None (Some b) other rest tt t.in_range (sym whole ∙ t.whole) in
      let o : None ≡ Some b = e.0 in cc
  stop_ends q line faulty (Ended whole line_is faulty_is) b rest t =
      let e = turn_laws.one_reading None (Some b) [] rest tt t.in_range (append-nil ((turn m).spelling None) ∙ (sym whole ∙ t.whole)) in
      let o : None ≡ Some b = e.0 in cc

  -- blocks lead to one end alone, and write one text on the way
  pub one_way : (bs cs : List B) (p q r : Spot S) (text other : List ℕ)
      → Passes m bs p q text → IsEnd m q → Passes m cs p r other → IsEnd m r → (q ≡ r) × (text ≡ other) × (bs ≡ cs)
  one_way [] [] p q r text other one q_ends two r_ends = (one.0 ∙ sym two.0, one.1 ∙ sym two.1, refl)
  one_way [] (c ∷ cs) p q r text other one q_ends two r_ends =
      absurd (q_ends c two.0 (subst (λ (s : Spot S). IsTurn m s c two.0) (sym one.0) two.1))
  one_way (b ∷ bs) [] p q r text other one q_ends two r_ends =
      absurd (r_ends b one.0 (subst (λ (s : Spot S). IsTurn m s b one.0) (sym two.0) one.1))
  one_way (b ∷ bs) (c ∷ cs) p q r text other one q_ends two r_ends =
      let same = one_turn p b c one.0 two.0 one.1 two.1 in
      let there : behind m p b one.0 ≡ behind m p c two.0 = λ i. behind m p (same.0 i) (same.1 i) in
      let rest = one_way bs cs (behind m p b one.0) q r one.2 two.2 one.3 q_ends
      (subst (λ (s : Spot S). Passes m cs s r two.2) (sym there) two.3) r_ends in
      let told : m.lines p.state b ++ one.2 ≡ m.lines p.state c ++ two.2 = λ i. m.lines p.state (same.0 i) ++ rest.1 i in
      (rest.0, one.4 ∙ (told ∙ sym two.4), λ i. same.0 i ∷ rest.2 i)

  passes_more : (bs : List B) (p q : Spot S) (text : List ℕ) (b : B) (rest : List ℕ) → Passes m bs p q text → IsTurn m q b rest
      → Passes m (bs ++ b ∷ []) p (behind m q b rest) (text ++ m.lines q.state b)
  passes_more [] p q text b rest passes turns = (
    rest,
    subst (λ (s : Spot S). IsTurn m s b rest) passes.0 turns,
    [],
    (ap (λ (s : Spot S). behind m s b rest) passes.0, refl),
    (λ i. passes.1 i ++ m.lines ((passes.0 i).state) b) ∙ sym (append-nil (m.lines p.state b)),
  )
  passes_more (c ∷ bs) p q text b rest passes turns = (
    passes.0,
    passes.1,
    passes.2 ++ m.lines q.state b,
    passes_more bs (behind m p c passes.0) q passes.2 b rest passes.3 turns,
    ap (λ front. front ++ m.lines q.state b) passes.4 ∙ append_assoc (m.lines p.state c) passes.2 (m.lines q.state b),
  )

  -- one block more on the way
  pub reaches_more : (p q : Spot S) (text : List ℕ) (b : B) (rest : List ℕ) → Reaches m p q text → IsTurn m q b rest
      → Reaches m p (behind m q b rest) (text ++ m.lines q.state b)
  reaches_more p q text b rest reaches turns = record {
    blocks = reaches.blocks ++ b ∷ [];
    passes = passes_more reaches.blocks p q text b rest reaches.passes turns;
  }

  pub reaches_itself : (p : Spot S) → Reaches m p p []
  reaches_itself p = record { blocks = []; passes = (refl, refl) }

  spelled_twice : (q : Spot S) (x y : Option B) (r s : List ℕ) → (turn m).in_range x → (turn m).in_range y
      → q.rest ≡ (turn m).spelling x ++ r → q.rest ≡ (turn m).spelling y ++ s → (x ≡ y) × (r ≡ s)
  spelled_twice q x y r s in_x in_y one two = turn_laws.one_reading x y r s in_x in_y (sym one ∙ two)

  never_both : (q : Spot S) (x : Option B) (r : List ℕ) (at : ℕ) (why : Why) → (turn m).in_range x
      → q.rest ≡ (turn m).spelling x ++ r → (turn m).bad q.rest at why → ⊥
  never_both q x r at why in_x whole bad =
      turn_laws.exclusive x r at why in_x (subst (λ (bytes : List ℕ). (turn m).bad bytes at why) whole bad)

  pub one_stop : (q : Spot S) (line other : List ℕ) (faulty also : Bool)
      → Stops m q line faulty → Stops m q other also → (line ≡ other) × (faulty ≡ also)
  one_stop q line other faulty also (Refused at why bad l f) (Refused at' why' bad' l' f') =
      let e = turn_laws.one_fault q.rest at at' why why' bad bad' in
      (l ∙ ((λ i. fault_line (q.at + e.0 i) (e.1 i)) ∙ sym l'), f ∙ sym f')
  one_stop q line other faulty also (Refused at why bad l f) (OtherNumber c rest in_range whole not_due l' f') =
      absurd (never_both q (Some c) rest at why in_range whole bad)
  one_stop q line other faulty also (Refused at why bad l f) (Followed rest whole more l' f') =
      absurd (never_both q None rest at why tt whole bad)
  one_stop q line other faulty also (Refused at why bad l f) (Ended whole l' f') =
      absurd (never_both q None [] at why tt (whole ∙ sym (append-nil ((turn m).spelling None))) bad)
  one_stop q line other faulty also (OtherNumber b rest in_range whole not_due l f) (Refused at why bad l' f') =
      absurd (never_both q (Some b) rest at why in_range whole bad)
  one_stop q line other faulty also (OtherNumber b rest in_range whole not_due l f) (OtherNumber c rest' in_range' whole' not_due' l' f') =
      let e = spelled_twice q (Some b) (Some c) rest rest' in_range in_range' whole whole' in
      let o : Some b ≡ Some c = e.0 in
      let same : b ≡ c = cc in
      (l ∙ ((λ i. number_line (q.at + 1) (m.due q.state) (m.number (same i))) ∙ sym l'), f ∙ sym f')
  one_stop q line other faulty also (OtherNumber b rest in_range whole not_due l f) (Followed rest' whole' more l' f') =
      let e = spelled_twice q (Some b) None rest rest' in_range tt whole whole' in
      let o : Some b ≡ None = e.0 in cc
  one_stop q line other faulty also (OtherNumber b rest in_range whole not_due l f) (Ended whole' l' f') =
      let e = spelled_twice q (Some b) None rest [] in_range tt whole (whole' ∙ sym (append-nil ((turn m).spelling None))) in
      let o : Some b ≡ None = e.0 in cc
  one_stop q line other faulty also (Followed rest whole more l f) (Refused at why bad l' f') =
      absurd (never_both q None rest at why tt whole bad)
  one_stop q line other faulty also (Followed rest whole more l f) (OtherNumber c rest' in_range whole' not_due l' f') =
      let e = spelled_twice q None (Some c) rest rest' tt in_range whole whole' in
      let o : None ≡ Some c = e.0 in cc
  one_stop q line other faulty also (Followed rest whole more l f) (Followed rest' whole' more' l' f') = (l ∙ sym l', f ∙ sym f')
  one_stop q line other faulty also (Followed rest whole more l f) (Ended whole' l' f') =
      let e = spelled_twice q None None rest [] tt tt whole (whole' ∙ sym (append-nil ((turn m).spelling None))) in
      absurd (omega (arith, more, ap length e.1))
  one_stop q line other faulty also (Ended whole l f) (Refused at why bad l' f') =
      absurd (never_both q None [] at why tt (whole ∙ sym (append-nil ((turn m).spelling None))) bad)
  one_stop q line other faulty also (Ended whole l f) (OtherNumber c rest' in_range whole' not_due l' f') =
      let e = spelled_twice q None (Some c) [] rest' tt in_range (whole ∙ sym (append-nil ((turn m).spelling None))) whole' in
      let o : None ≡ Some c = e.0 in cc
  one_stop q line other faulty also (Ended whole l f) (Followed rest' whole' more' l' f') =
      let e = spelled_twice q None None [] rest' tt tt (whole ∙ sym (append-nil ((turn m).spelling None))) whole' in
      absurd (omega (arith, more', ap length e.1))
  one_stop q line other faulty also (Ended whole l f) (Ended whole' l' f') = (l ∙ sym l', f ∙ sym f')

  pub one_start : (bytes : List ℕ) (p q : Spot S) → Starts m bytes p → Starts m bytes q → p ≡ q
  one_start bytes p q one two =
      let e = genesis_laws.one_reading one.genesis two.genesis p.rest q.rest one.in_range two.in_range (sym one.whole ∙ two.whole) in
      let o : Ok p.state ≡ Ok q.state = sym one.state_is ∙ (ap m.start e.0 ∙ two.state_is) in
      same_spot p q (one.at_is ∙ ((λ i. length (m.genesis.spelling (e.0 i))) ∙ sym two.at_is)) (cc) e.1

  pub begun_once : (bytes : List ℕ) (g : G) (rest : List ℕ) (p : Spot S) (fault : List ℕ) → m.genesis.in_range g
      → bytes ≡ m.genesis.spelling g ++ rest → m.start g ≡ Err fault → Starts m bytes p → ⊥
  begun_once bytes g rest p fault in_range whole faulty start =
      let e = genesis_laws.one_reading g start.genesis rest p.rest in_range start.in_range (sym whole ∙ start.whole) in
      let o : Err fault ≡ Ok p.state = sym faulty ∙ (ap m.start e.0 ∙ start.state_is) in cc

  pub unreadable : (bytes : List ℕ) (g : G) (rest : List ℕ) (at : ℕ) (why : Why) → m.genesis.in_range g
      → bytes ≡ m.genesis.spelling g ++ rest → m.genesis.bad bytes at why → ⊥
  unreadable bytes g rest at why in_range whole bad =
      genesis_laws.exclusive g rest at why in_range (subst (λ (bs : List ℕ). m.genesis.bad bs at why) whole bad)

  pub one_replay : (bytes : List ℕ) (out other : Outcome S E) → IsReplay m bytes out → IsReplay m bytes other → out ≡ other
  one_replay bytes out other (BadGenesis at why bad o) (BadGenesis at' why' bad' o') =
      let e = genesis_laws.one_fault bytes at at' why why' bad bad' in
      o ∙ ((λ i. record { text = fault_line (e.0 i) (e.1 i); faulty = true; seated = []; last = None }) ∙ sym o')
  one_replay bytes out other (BadGenesis at why bad o) (FaultyGenesis g rest fault in_range whole faulty o') =
      absurd (unreadable bytes g rest at why in_range whole bad)
  one_replay bytes out other (BadGenesis at why bad o) (Replayed p q text line faulty start reaches stops o') =
      absurd (unreadable bytes start.genesis p.rest at why start.in_range start.whole bad)
  one_replay bytes out other (FaultyGenesis g rest fault in_range whole faulty o) (BadGenesis at why bad o') =
      absurd (unreadable bytes g rest at why in_range whole bad)
  one_replay bytes out other (FaultyGenesis g rest fault in_range whole faulty o) (FaultyGenesis g' rest' fault' in_range' whole' faulty' o') =
      let e = genesis_laws.one_reading g g' rest rest' in_range in_range' (sym whole ∙ whole') in
      let both : Err fault ≡ Err fault' = sym faulty ∙ (ap m.start e.0 ∙ faulty') in
      let same : fault ≡ fault' = cc in
      o ∙ ((λ i. record { text = same i; faulty = true; seated = []; last = None }) ∙ sym o')
  one_replay bytes out other (FaultyGenesis g rest fault in_range whole faulty o) (Replayed p q text line faulty' start reaches stops o') =
      absurd (begun_once bytes g rest p fault in_range whole faulty start)
  one_replay bytes out other (Replayed p q text line faulty start reaches stops o) (BadGenesis at why bad o') =
      absurd (unreadable bytes start.genesis p.rest at why start.in_range start.whole bad)
  one_replay bytes out other (Replayed p q text line faulty start reaches stops o) (FaultyGenesis g rest fault in_range whole faulty' o') =
      absurd (begun_once bytes g rest p fault in_range whole faulty' start)
  one_replay bytes out other (Replayed p q text line faulty start reaches stops o) (Replayed p' q' text' line' faulty' start' reaches' stops' o') =
      let from : p' ≡ p = one_start bytes p' p start' start in
      let way = one_way reaches.blocks reaches'.blocks p q q' text text' reaches.passes (stop_ends q line faulty stops)
      (subst (λ (s : Spot S). Passes m reaches'.blocks s q' text') from reaches'.passes) (stop_ends q' line' faulty' stops') in
      let stop = one_stop q line line' faulty faulty' stops (subst (λ (s : Spot S). Stops m s line' faulty') (sym way.0) stops') in
      o ∙ ((λ i. record {
        text = way.1 i ++ stop.0 i;
        faulty = stop.1 i;
        seated = all_seated m (((sym from) i).state) (way.2 i);
        last = Some ((way.0 i).state);
      }) ∙ sym o')

  -- a way on from a place to an end
  pub record GoesOn (p : Spot S) : Type 0 where
    pub stop : Spot S
    pub text : List ℕ
    pub line : List ℕ
    pub faulty : Bool
    pub reaches : Reaches m p stop text
    pub stops : Stops m stop line faulty

  stays : (p : Spot S) (line : List ℕ) (faulty : Bool) → Stops m p line faulty → GoesOn p
  stays p line faulty stops = record {
    stop = p;
    text = [];
    line = line;
    faulty = faulty;
    reaches = record { blocks = []; passes = (refl, refl) };
    stops = stops;
  }

  one_more : (p : Spot S) (b : B) (rest : List ℕ) → IsTurn m p b rest → GoesOn (behind m p b rest) → GoesOn p
  one_more p b rest turns on = record {
    stop = on.stop;
    text = m.lines p.state b ++ on.text;
    line = on.line;
    faulty = on.faulty;
    reaches = record { blocks = b ∷ on.reaches.blocks; passes = (rest, turns, on.text, on.reaches.passes, refl) };
    stops = on.stops;
  }

  at_the_end : (p : Spot S) (rest : List ℕ) → p.rest ≡ (turn m).spelling None ++ rest → GoesOn p
  at_the_end p [] whole =
      stays p (m.ending p.state) false (Ended (whole ∙ append-nil ((turn m).spelling None)) refl refl)
  at_the_end p (b ∷ rest) whole =
      stays p (fault_line (p.at + 1) Trailing) true (Followed (b ∷ rest) whole (omega arith) refl refl)

  spelled_on : (p : Spot S) → ((b : B) (rest : List ℕ) → IsTurn m p b rest → GoesOn (behind m p b rest))
      → (o : Option B) (rest : List ℕ) → (turn m).in_range o → p.rest ≡ (turn m).spelling o ++ rest → GoesOn p
  spelled_on p go None rest in_range whole = at_the_end p rest whole
  spelled_on p go (Some b) rest in_range whole = elim (eqb_tells (m.number b) (m.due p.state)) [
    | inl due ↦ (let here : IsTurn m p b rest = record { in_range = in_range; numbered = due.1; whole = whole } in one_more p b rest here (go b rest here))
    | inr other ↦ stays p (number_line (p.at + 1) (m.due p.state) (m.number b)) true (OtherNumber b rest in_range whole other.1 refl refl)
  ]

  read_on : (p : Spot S) → IsBytes p.rest → ((b : B) (rest : List ℕ) → IsTurn m p b rest → GoesOn (behind m p b rest)) → GoesOn p
  read_on p bytes go = elim (turn_laws.covers p.rest bytes) [
    | inl begins ↦ spelled_on p go begins.value begins.rest begins.in_range begins.whole
    | inr refused ↦ stays p (fault_line (p.at + refused.at) refused.why) true (Refused refused.at refused.why refused.bad refl refl)
  ]

  -- each block takes a byte at least, its tag
  pub shorter : (p : Spot S) (b : B) (rest : List ℕ) → IsTurn m p b rest → length rest < length p.rest
  shorter p b rest here = omega (arith, ap length here.whole, length-append (m.block.spelling b) rest)

  pub any_way : (n : ℕ) (p : Spot S) → IsBytes p.rest → length p.rest ≤ n → GoesOn p
  any_way zero p bytes few = read_on p bytes (λ b rest here. absurd (omega (arith, few, shorter p b rest here)))
  any_way (suc n) p bytes few = read_on p bytes (λ b rest here. any_way n (behind m p b rest)
      (bytes_behind ((turn m).spelling (Some b)) rest (subst IsBytes here.whole bytes)) (omega (arith, few, shorter p b rest here)))

  pub record HasReplay (bytes : List ℕ) : Type 0 where
    pub outcome : Outcome S E
    pub is_replay : IsReplay m bytes outcome

  begun : (bytes : List ℕ) (g : G) (rest : List ℕ) → IsBytes bytes → m.genesis.in_range g → bytes ≡ m.genesis.spelling g ++ rest
      → (started : Result S (List ℕ)) → m.start g ≡ started → HasReplay bytes
  begun bytes g rest are_bytes in_range whole (Err fault) faulty = record {
    outcome = record { text = fault; faulty = true; seated = []; last = None };
    is_replay = FaultyGenesis g rest fault in_range whole faulty refl;
  }
  begun bytes g rest are_bytes in_range whole (Ok state) started =
      let p : Spot S = record { at = length (m.genesis.spelling g); state = state; rest = rest } in
      let on = any_way (length rest) p (bytes_behind (m.genesis.spelling g) rest (subst IsBytes whole are_bytes)) (omega arith) in
      record {
        outcome = record { text = on.text ++ on.line; faulty = on.faulty; seated = all_seated m p.state on.reaches.blocks; last = Some on.stop.state };
        is_replay = Replayed p on.stop on.text on.line on.faulty
            (record { genesis = g; in_range = in_range; state_is = started; whole = whole; at_is = refl }) on.reaches on.stops refl;
      }

  pub any_replay : (bytes : List ℕ) → IsBytes bytes → HasReplay bytes
  any_replay bytes are_bytes = elim (genesis_laws.covers bytes are_bytes) [
    | inl begins ↦ begun bytes begins.value begins.rest are_bytes begins.in_range begins.whole (m.start begins.value) refl
    | inr refused ↦ record {
      outcome = record { text = fault_line refused.at refused.why; faulty = true; seated = []; last = None };
      is_replay = BadGenesis refused.at refused.why refused.bad refl;
    }
  ]
