-- How an input comes on whose items are taken while its pieces come, and when its text is settled.
use Rattle.std.proofs.Common.{◌≡◌, ◌⊎◌, inl, inr, ℕ, ◌+◌, ◌-◌, ◌<◌, ◌^◌, Bool, true, false, List, [], ◌++◌, length, drop, Option, Some}
use Rattle.std.proofs.Common.{None, Result, Ok, Err, IfOk, refl, sym, ◌∙◌, ap, subst, append_assoc, arith, length-append, true≢false}
use Rattle.std.proofs.lemmas.List.{append-nil}
use Rattle.std.proofs.Math.Seq.{drop-append_seam}
use Rattle.npos_base.specs.declared.outside.Asked.{Asked}
use Rattle.scale_wire.specs.declared.fault.WireFault.{WireFault}
use Rattle.scale_wire.specs.Form.{IsWire, IsBytes}
use Rattle.scale_wire.specs.Reading.{Place, IsRead, IsFault}
use Rattle.bundle_reports.specs.Texts.{fault_line}
use Rattle.run_edges.specs.declared.halt.Halt.{Halt}
use Rattle.run_edges.specs.declared.status.Status.{Status}
use Rattle.run_edges.specs.declared.turn.Turn.TheVariants.{Taken, Stopped}
use Rattle.run_edges.specs.declared.turn.Stop.{Stop}
use Rattle.run_edges.specs.declared.turn.Stop.TheVariants.{More, Last}
use Rattle.run_edges.specs.Ahead.{first_place, HasSeen, IsSure}
use Rattle.run_edges.specs.Turning.{HasTold, spot, grown, TakesTurn}
use Rattle.run_edges.specs.Intake.{Held, HoldsMore, TellsOn, Comes, IsSettled, IsTimely, StaysTimely}
use Rattle.run_edges.specs.Owed.{IsAll, IsDrained, AsksInTime, AsksOn, ReplayOwes}
use Rattle.run_edges.specs.Replay.{Machine, Spot, turn, Reaches, all_seated, IsReplay, BadGenesis, FaultyGenesis, Replayed}
use Rattle.run_edges.specs.Status.{replay_status}
use Rattle.run_edges.proofs.ReplayLaws.{reaches_more, reaches_itself}
use Rattle.run_edges.proofs.WholeLaws.{start_grows, reaches_grow}
use Rattle.block_wire.proofs.StreamLemmas.{read_grows}
use Rattle.run_edges.proofs.GrowLaws.{bad_grows}
use Rattle.run_edges.proofs.TurnLaws.{reaches_join, bytes_between, one_if_open, nearer_end}
use Rattle.run_edges.proofs.StartLaws.{found, finds_for}
use Rattle.run_edges.proofs.EdgeLaws.{seen_once, seen_more, seen_nothing}
use Rattle.run_edges.proofs.AskLaws.{asks_nothing, asks_more, asks_last}

-- ## Reads in time

pub timely_first : (now : Asked) (ended : Bool) → IsTimely now now ended
timely_first now ended = record { in_time = λ was. refl; goes_on = λ going. asks_nothing now }

-- one read more, where the input had not ended
pub timely_more : (first mid now : Asked) (was ended : Bool) → was ≡ false → IsTimely first mid was → AsksInTime mid now → (ended ≡ false → AsksOn mid now) → IsTimely first now ended
timely_more first mid now was ended unended so_far in_time goes_on = record {
  in_time = asks_last first mid now (so_far.goes_on unended) in_time;
  goes_on = λ going. asks_more first mid now (so_far.goes_on unended) (goes_on going);
}

-- and then on
pub timely_then : {T : Type 0} (before mid now : Asked) (was between ended : Bool) (result : Result T Halt) → ((first : Asked) → IsTimely first before was → IsTimely first mid between)
    → StaysTimely mid between now ended result → StaysTimely before was now ended result
timely_then before mid now was between ended (Ok done) so_far then = λ first timely. then first (so_far first timely)
timely_then before mid now was between ended (Err halt) so_far then = λ first timely. then first (so_far first timely)

pub ok_then : {T E : Type 0} (result : Result T E) (P Q : T → Type 0) → ((done : T) → P done → Q done) → IfOk result P → IfOk result Q
ok_then (Ok done) P Q then holds = then done holds
ok_then (Err e) P Q then holds = tt

-- ## What is held

-- all that stands in front of the last bytes was taken
pub kept : (old behind : Place) (left : ℕ) (passed : List ℕ) → old.rest ≡ passed ++ behind.rest → behind.at ≡ old.at + length passed → left ≡ length behind.rest
    → record { at = old.at + (length old.rest - left); rest = drop (length old.rest - left) old.rest } ≡ behind
kept old behind left passed rest_is at_is left_is =
    let taken : length old.rest - left ≡ length passed = omega (arith, ap length rest_is, length-append passed behind.rest, left_is) in
    let at : old.at + (length old.rest - left) ≡ behind.at = omega (arith, taken, at_is) in
    let rest : drop (length old.rest - left) old.rest ≡ behind.rest = (λ i. drop (taken i) (rest_is i)) ∙ drop-append_seam passed behind.rest in
    λ i. record { at = at i; rest = rest i }

pub held_first : (left : Option (List ℕ)) → HasSeen left left [] false false
held_first left = seen_nothing left false

-- what one read gave
pub seen_on : (left mid now : Option (List ℕ)) (seen : List ℕ) (old new : Held) → old.ended ≡ false → HasSeen left mid seen false old.ended → (more : HoldsMore mid now old new)
    → HasSeen left now (seen ++ more.0) false new.ended
seen_on left mid now seen old new unended so_far more =
    seen_more left mid now seen more.0 false old.ended new.ended so_far
    (subst (λ (b : Bool). HasSeen mid now more.0 b new.ended) (sym unended) (seen_once mid now more.0 new.ended more.1 more.3))

-- how much of the input may still be ahead
abbrev pub ahead : Held → ℕ
ahead held = 2 ^ 64 - (held.place.at + length held.place.rest) + one_if_open held.ended

-- less is after each read
pub nearer : (left now : Option (List ℕ)) (start mid new : Held) → start.ended ≡ false → mid.place.at + length mid.place.rest ≡ start.place.at + length start.place.rest
    → mid.place.at + length mid.place.rest < 2 ^ 64 → HoldsMore left now mid new → (new.ended ≡ false → length mid.place.rest < length new.place.rest) → ahead new < ahead start
nearer left now start mid new going same fits more further =
    let at : new.place.at ≡ mid.place.at = ap (λ (p : Place). p.at) more.2 in
    let rest : length new.place.rest ≡ length mid.place.rest + length more.0 = ap (λ (p : Place). length p.rest) more.2 ∙ length-append mid.place.rest more.0 in
    nearer_end (start.place.at + length start.place.rest) (mid.place.at + length mid.place.rest) (new.place.at + length new.place.rest) start.ended new.ended going same fits
    (omega (arith, at, rest)) (λ e. omega (arith, at, further e))

-- where the input has ended nothing is left
all_drained : (left now : Option (List ℕ)) (seen : List ℕ) → HasSeen left now seen false true → IsDrained left now
all_drained left now seen has_seen = by (has_seen.at_end refl) where
  by : ((false ≡ true) × (now ≡ left)) ⊎ IsDrained left now → IsDrained left now
  by (inl never) = absurd (true≢false (sym never.0))
  by (inr end) = end

module _ {G B S E : Type 0} (m : Machine G B S E) (genesis_laws : IsWire m.genesis) (turn_laws : IsWire (turn m)) where
  -- ## Items in turn

  pub told_none : (p : Spot S) (text : List ℕ) → HasTold m p p text text
  told_none p text = ([], reaches_itself m genesis_laws turn_laws p, sym (append-nil text))

  pub told_more : (ended : Bool) (p q r : Spot S) (old mid new : List ℕ) → HasTold m p q old mid → TakesTurn m ended q r mid new Taken → HasTold m p r old new
  told_more ended p q r old mid new told turns =
      let is = turns.2 in (
        told.0 ++ m.lines q.state is.0,
        subst (λ (s : Spot S). Reaches m p s (told.0 ++ m.lines q.state is.0)) (sym is.2)
            (reaches_more m genesis_laws turn_laws p q told.0 is.0 r.rest told.1 is.1),
        turns.1 ∙ ((λ i. told.2 i ++ is.3 i) ∙ append_assoc old told.0 (m.lines q.state is.0)),
      )

  pub told_stop : (ended : Bool) (p q r : Spot S) (old mid new : List ℕ) (stop : Stop) → HasTold m p q old mid → TakesTurn m ended q r mid new (Stopped stop) → TellsOn m ended p r old new stop
  told_stop ended p q r old mid new More told turns =
      let text : new ≡ mid = turns.1 ∙ (ap (λ back. mid ++ back) turns.2.3 ∙ append-nil mid) in
      (turns.2.0, (told.0, subst (λ (s : Spot S). Reaches m p s told.0) (sym turns.2.2) told.1, text ∙ told.2))
  told_stop ended p q r old mid new (Last faulty) told turns = (q, mid, turns.0, told, turns.2.0, turns.1)

  -- an item lies between the two places
  pub turn_longer : (ended : Bool) (p q : Spot S) (old new : List ℕ) → TakesTurn m ended p q old new Taken → (p.at < q.at) × (length q.rest < length p.rest)
  turn_longer ended p q old new turns =
      let is = turns.2 in
      let at : q.at ≡ p.at + length ((turn m).spelling (Some is.0)) = ap (λ (s : Spot S). s.at) is.2 in
      let whole = ap length is.1.whole in
      (omega (arith, at), omega (arith, whole, length-append ((turn m).spelling (Some is.0)) q.rest))

  -- items that lead on take the bytes between
  pub told_between : (p q : Spot S) (old new : List ℕ) → HasTold m p q old new → (passed : List ℕ) × (p.rest ≡ passed ++ q.rest) × (q.at ≡ p.at + length passed)
  told_between p q old new told = bytes_between m genesis_laws turn_laws told.1.blocks p q told.0 told.1.passes

  -- ## The whole input

  -- the genesis is refused
  pub settled_refused : (left now : Option (List ℕ)) (taken text : List ℕ) (ended : Bool) (fault : WireFault) → HasSeen left now taken false ended → IsBytes taken
      → IsFault m.genesis (first_place taken) fault (first_place taken) → IsSure ended fault.why → text ≡ fault_line fault.at fault.why → IsSettled m left now ended text true
  settled_refused left now taken text ended fault seen are_bytes is sure text_is =
      let place : fault.at ≡ is.place = omega (arith, is.at_is) in
      let line : text ≡ fault_line is.place fault.why = text_is ∙ ap (λ at. fault_line at fault.why) place in
      record {
        taken = taken;
        seen = seen;
        replays = λ more follow. (
          [],
          None,
          BadGenesis is.place fault.why (bad_grows m.genesis genesis_laws taken more is.place fault.why ended are_bytes sure follow is.bad)
              (λ i. record { text = line i; faulty = true; seated = []; last = None }),
        );
      }

  -- the genesis has a fault
  pub settled_faulty : (left now : Option (List ℕ)) (taken text line : List ℕ) (ended : Bool) (place : Place) (genesis : G) → HasSeen left now taken false ended
      → IsRead m.genesis (first_place taken) genesis place → m.start genesis ≡ Err line → text ≡ line → IsSettled m left now ended text true
  settled_faulty left now taken text line ended place genesis seen is faulty text_is = record {
    taken = taken;
    seen = seen;
    replays = λ more follow. (
      [],
      None,
      FaultyGenesis genesis (place.rest ++ more) line is.in_range (read_grows m.genesis (first_place taken) place genesis more is).whole faulty
          (λ i. record { text = text_is i; faulty = true; seated = []; last = None }),
    );
  }

  -- the genesis starts the machine
  pub comes_first : (left now : Option (List ℕ)) (taken text : List ℕ) (ended : Bool) (place : Place) (genesis : G) (state : S) → HasSeen left now taken false ended
      → IsRead m.genesis (first_place taken) genesis place → m.start genesis ≡ Ok state → text ≡ [] → Comes m left now ended (spot place state) text
  comes_first left now taken text ended place genesis state seen is started empty = record {
    taken = taken;
    seen = seen;
    start = spot place state;
    starts = record { genesis = genesis; in_range = is.in_range; state_is = started; whole = is.whole; at_is = omega (arith, is.at_is) };
    reaches = subst (λ (t : List ℕ). Reaches m (spot place state) (spot place state) t) (sym empty) (reaches_itself m genesis_laws turn_laws (spot place state));
  }

  -- items were told
  pub comes_told : (left now : Option (List ℕ)) (ended : Bool) (p q : Spot S) (old new : List ℕ) → Comes m left now ended p old → HasTold m p q old new → Comes m left now ended q new
  comes_told left now ended p q old new comes told = record {
    taken = comes.taken;
    seen = comes.seen;
    start = comes.start;
    starts = comes.starts;
    reaches = subst (λ (t : List ℕ). Reaches m comes.start q t) (sym told.2) (reaches_join m genesis_laws turn_laws comes.start p q old told.0 comes.reaches told.1);
  }

  -- the next piece was read
  pub comes_on : (left mid now : Option (List ℕ)) (old new : Held) (state : S) (text : List ℕ) → old.ended ≡ false → Comes m left mid old.ended (spot old.place state) text → HoldsMore mid now old new
      → Comes m left now new.ended (spot new.place state) text
  comes_on left mid now old new state text unended comes more =
      let there : grown more.0 (spot old.place state) ≡ spot new.place state = ap (λ (place : Place). spot place state) (sym more.2) in
      record {
        taken = comes.taken ++ more.0;
        seen = seen_on left mid now comes.taken old new unended comes.seen more;
        start = grown more.0 comes.start;
        starts = start_grows m genesis_laws turn_laws more.0 comes.taken comes.start comes.starts;
        reaches = subst (λ (s : Spot S). Reaches m (grown more.0 comes.start) s text) there
            (reaches_grow m genesis_laws turn_laws more.0 comes.start (spot old.place state) text comes.reaches);
      }

  -- the input ends here, whatever may follow
  pub settled_last : (left now : Option (List ℕ)) (ended : Bool) (p q : Spot S) (old new : List ℕ) (faulty : Bool) → Comes m left now ended p old → TellsOn m ended p q old new (Last faulty)
      → IsSettled m left now ended new faulty
  settled_last left now ended p q old new faulty comes tells =
      let r = tells.0 in
      let mid = tells.1 in
      let all = comes_told left now ended p r old mid comes tells.3 in
      record {
        taken = all.taken;
        seen = all.seen;
        replays = λ more follow. (
          all_seated m all.start.state all.reaches.blocks,
          Some r.state,
          Replayed (grown more all.start) (grown more r) mid tells.2 faulty (start_grows m genesis_laws turn_laws more all.taken all.start all.starts)
              (reaches_grow m genesis_laws turn_laws more all.start r mid all.reaches) (tells.4 more follow)
              (λ i. record { text = tells.5 i; faulty = faulty; seated = all_seated m all.start.state all.reaches.blocks; last = Some r.state }),
        );
      }

  -- and so it stays where more is read
  pub settled_on : (left mid now : Option (List ℕ)) (old new : Held) (text : List ℕ) (faulty : Bool) → old.ended ≡ false → IsSettled m left mid old.ended text faulty → HoldsMore mid now old new
      → IsSettled m left now new.ended text faulty
  settled_on left mid now old new text faulty unended settled more = record {
    taken = settled.taken ++ more.0;
    seen = seen_on left mid now settled.taken old new unended settled.seen more;
    replays = λ then follow. (
        let on = settled.replays (more.0 ++ then) (λ end. absurd (true≢false (sym end ∙ unended))) in (
          on.0,
          on.1,
          subst (λ (bytes : List ℕ). IsReplay m bytes (record { text = text; faulty = faulty; seated = on.0; last = on.1 })) (sym (append_assoc settled.taken more.0 then)) on.2,
        )
        );
  }

  -- the input was read to its end
  pub settled_found : (left now : Option (List ℕ)) (text : List ℕ) (faulty : Bool) (status : Status) → IsSettled m left now true text faulty → status ≡ replay_status faulty
      → ((bytes : List ℕ) × IsAll left bytes × ReplayOwes m bytes text status) × IsDrained left now
  settled_found left now text faulty status settled is = (
    finds_for m left now text faulty status (found m left now settled.taken text true faulty settled.seen settled.replays (λ sound. refl)) is,
    all_drained left now settled.taken settled.seen,
  )
