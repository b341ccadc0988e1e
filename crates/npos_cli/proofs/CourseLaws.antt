-- How a replay comes on that reads piece by piece and writes block by block, and how it ends.
use Rattle.std.proofs.Common.{◌≡◌, inl, inr, ◌≤◌, ◌+◌, ◌-◌, ℕ, Bool, true, false, List, [], ◌++◌, length, take, drop, Option, Some}
use Rattle.std.proofs.Common.{None, Result, Ok, Err, refl, sym, ◌∙◌, ap, subst, append_assoc, arith, length-append, true≢false}
use Rattle.std.proofs.lemmas.List.{append-nil, take-append-drop, take-append-le}
use Rattle.npos_base.specs.Outside.{Told, Appends}
use Rattle.npos_base.proofs.Appended.{appends_none, appends_both}
use Rattle.scale_wire.specs.declared.fault.Why.TheVariants.{Short}
use Rattle.scale_wire.specs.declared.fault.WireFault.{WireFault}
use Rattle.scale_wire.specs.Reading.{Place, IsRead}
use Rattle.block_wire.specs.declared.genesis.Genesis.{Genesis}
use Rattle.npos_runtime.specs.declared.chain.Chain.{Chain}
use Rattle.run_edges.specs.declared.turn.Stop.TheVariants.{More, Last}
use Rattle.run_edges.specs.declared.status.Status.{Status}
use Rattle.run_edges.specs.declared.halt.Halt.{Halt}
use Rattle.run_edges.specs.declared.halt.Halt.TheVariants as halts
use Rattle.run_edges.specs.Replay.{Spot, Starts, Reaches, all_seated, Replayed, IsWhole, NoStart, IsFront}
use Rattle.npos_cli.specs.declared.output.Output.{Output}
use Rattle.npos_cli.specs.Outputs.{machine_of}
use Rattle.npos_cli.specs.Chain.{npos_machine}
use Rattle.block_wire.specs.Genesis.{genesis_form}
use Rattle.run_edges.specs.Ahead.{HasSeen, FeedsMore}
use Rattle.npos_cli.specs.Ahead.{CutsGenesis, AwaitsGenesis, AwaitsMore, Begins}
use Rattle.run_edges.specs.Turning.{spot, grown, WritesOn, InGenesis, Behind, KeepsUp}
use Rattle.run_edges.specs.Owed.{LeftAfter, TakesAtMost, DeliversFront, FindsReplay, BeginsReplay, IsOwedReplay, Puts, FlushesBy, ReplayOwes}
use Rattle.run_edges.specs.Status.{replay_status}
use Rattle.run_edges.specs.Streaming.{Course, Finished, CutBy, Halts, Delivered, ReadsWhile}
use Rattle.npos_cli.specs.Streaming.{HasWritten}
use Rattle.npos_cli.proofs.ChainLaws.{genesis_laws, turn_laws}
use Rattle.run_edges.proofs.ReplayLaws.{reaches_itself, unreadable}
use Rattle.run_edges.proofs.WholeLaws.{reaches_grow, start_grows, whole_grows, reached_front, undecided_whole}
use Rattle.run_edges.proofs.EdgeLaws.{left_join, left_none, seen_once, seen_more, delivered, fronted}
use Rattle.run_edges.proofs.TurnLaws.{reaches_join}
use Rattle.run_edges.proofs.StartLaws.{found, finds_for}
use Rattle.npos_cli.proofs.RunLaws.{replay_front}

front_more : (text written more : List ℕ) → IsFront text written → IsFront text (written ++ more)
front_more text written more front = (front.0 ++ more, ap (λ (t : List ℕ). t ++ more) front.1 ∙ append_assoc text front.0 more)

front_itself : (text : List ℕ) → IsFront text text
front_itself text = ([], sym (append-nil text))

-- the empty input is cut within its genesis
pub awaits_none : AwaitsGenesis []
awaits_none = ([], [], refl, omega arith, (0, inl (refl, refl)))

pub has_written : (taken written : List ℕ) → KeepsUp npos_machine taken written → HasWritten taken written
has_written taken written keeps text whole =
    let size = length taken - 65536 in
    let long : length taken ≡ length keeps.earlier + length keeps.last = ap length keeps.split ∙ length-append keeps.earlier keeps.last in
    let within : size ≤ length keeps.earlier = omega (arith, long, keeps.one_piece) in
    let first : take size taken ≡ take size keeps.earlier = ap (take size) keeps.split ∙ take-append-le size keeps.earlier keeps.last within in
    let earlier : IsWhole npos_machine (take size keeps.earlier ++ drop size keeps.earlier) keeps.text =
    subst (λ (bytes : List ℕ). IsWhole npos_machine bytes keeps.text) (sym (take-append-drop size keeps.earlier))
    (undecided_whole npos_machine genesis_laws turn_laws keeps.earlier keeps.text keeps.unsure) in
    let front = whole_grows npos_machine genesis_laws turn_laws (take size keeps.earlier) (drop size keeps.earlier) text keeps.text
    (subst (λ (bytes : List ℕ). IsWhole npos_machine bytes text) first whole) earlier in
    (front.0 ++ keeps.before.0, keeps.before.1 ∙ (ap (λ (t : List ℕ). t ++ keeps.before.0) front.1 ∙ append_assoc text front.0 keeps.before.0))

-- nothing was read yet
pub awaits_first : (left : Option (List ℕ)) (gave : ℕ) → AwaitsMore left left gave
awaits_first left gave = record {
  earlier = [];
  last = [];
  taken = left_none left [] refl;
  last_read = omega arith;
  one_piece = omega arith;
  cut = (0, inl (refl, refl));
}

-- and then one piece more
pub awaits_more : (left mid now : Option (List ℕ)) (taken : List ℕ) (ended : Bool) (gave : ℕ) → HasSeen left mid taken false ended → CutsGenesis taken → TakesAtMost gave mid now → gave ≤ 65536
    → AwaitsMore left now gave
awaits_more left mid now taken ended gave seen cut few one_piece = record {
  earlier = taken;
  last = few.0;
  taken = left_join left mid now taken few.0 seen.taken few.1;
  last_read = few.2;
  one_piece = omega (arith, few.2, one_piece);
  cut = cut;
}

-- bytes that are a genesis are not cut within it
pub open_read : (ended : Bool) (place next : Place) (genesis : Genesis) → (ended ≡ true → CutsGenesis place.rest) → IsRead genesis_form place genesis next → ended ≡ false
open_read false place next genesis cut read = refl
open_read true place next genesis cut read =
    let c = cut refl in
    absurd (unreadable npos_machine genesis_laws turn_laws place.rest genesis next.rest c.0 Short read.in_range read.whole c.1)

-- the next piece of the genesis was not read
pub begins_unread : (left mid now : Option (List ℕ)) (here read place : Place) (taken : List ℕ) (ended : Bool) (halt : Halt) → HasSeen left mid taken false ended → CutsGenesis taken
    → FeedsMore mid now here read (Err halt) → Begins left now place (Err halt)
begins_unread left mid now here read place taken ended halts.ReadFault seen cut feeds = (
  taken ++ feeds.0,
  left_join left mid now taken feeds.0 seen.taken feeds.1,
  (taken, feeds.0, refl, feeds.2, cut),
  subst CutsGenesis (sym (append-nil taken) ∙ ap (λ (back : List ℕ). taken ++ back) (sym feeds.3)) cut,
)
begins_unread left mid now here read place taken ended halts.NoMemory seen cut feeds =
    (taken ++ feeds.0, left_join left mid now taken feeds.0 seen.taken feeds.1, (taken, feeds.0, refl, feeds.2, cut), tt)
begins_unread left mid now here read place taken ended halts.WriteFault seen cut feeds = absurd feeds.3

module _ (output : Output) where
  -- ## Fronts

  keeps_up_more : (taken written more : List ℕ) → KeepsUp (machine_of output) taken written → KeepsUp (machine_of output) taken (written ++ more)
  keeps_up_more taken written more keeps = record {
    earlier = keeps.earlier;
    last = keeps.last;
    text = keeps.text;
    split = keeps.split;
    one_piece = keeps.one_piece;
    unsure = keeps.unsure;
    before = front_more keeps.text written more keeps.before;
  }

  -- nothing was written
  begins_nothing : (left : Option (List ℕ)) (old new : Option Told) → Appends old new [] → BeginsReplay (machine_of output) left old new
  begins_nothing left old new appends text status owed = fronted old new [] text appends (text, refl)

  -- what was written is a front of what the blocks of the bytes taken write
  begins_reached : (left now : Option (List ℕ)) (old new : Option Told) (taken put text : List ℕ) (p q : Spot Chain) → LeftAfter left now taken → Starts (machine_of output) taken p
      → Reaches (machine_of output) p q text → IsFront put text → Appends old new put → BeginsReplay (machine_of output) left old new
  begins_reached left now old new taken put text p q left_is starts reaches front appends whole status owed = on left left_is owed where
    within : (all : List ℕ) (r s : Spot Chain) → Starts (machine_of output) all r → Reaches (machine_of output) r s text → ReplayOwes (machine_of output) all whole status → DeliversFront old new whole
    within all r s start reach owes =
        let first = reached_front (machine_of output) genesis_laws turn_laws all text r s owes.0 start reach owes.1 in
        fronted old new put whole appends (front.0 ++ first.0, owes.2 ∙ (first.1 ∙ (ap (λ (t : List ℕ). t ++ first.0) front.1 ∙ append_assoc put front.0 first.0)))

    on : (left : Option (List ℕ)) → LeftAfter left now taken → IsOwedReplay (machine_of output) left whole status → DeliversFront old new whole
    on None left_is owed = within taken p q starts reaches (owed taken tt)
    on (Some all) left_is owed =
        within (taken ++ left_is.0) (grown left_is.0 p) (grown left_is.0 q) (start_grows (machine_of output) genesis_laws turn_laws left_is.0 taken p starts)
        (reaches_grow (machine_of output) genesis_laws turn_laws left_is.0 p q text reaches) (owed (taken ++ left_is.0) (sym left_is.2))

  -- ## The genesis

  awaits_keeps : (taken : List ℕ) → AwaitsGenesis taken → KeepsUp (machine_of output) taken []
  awaits_keeps taken awaits = record {
    earlier = awaits.0;
    last = awaits.1;
    text = [];
    split = awaits.2;
    one_piece = awaits.3;
    unsure = InGenesis awaits.4.0 awaits.4.1 refl;
    before = ([], refl);
  }

  pub awaits_wary : (left now : Option (List ℕ)) (gave : ℕ) → AwaitsMore left now gave → ReadsWhile (machine_of output) left now gave
  awaits_wary left now gave awaits = record {
    earlier = awaits.earlier;
    last = awaits.last;
    text = [];
    taken = awaits.taken;
    last_read = awaits.last_read;
    one_piece = awaits.one_piece;
    unsure = InGenesis awaits.cut.0 awaits.cut.1 refl;
  }

  pub wary_first : (left : Option (List ℕ)) (gave : ℕ) → ReadsWhile (machine_of output) left left gave
  wary_first left gave = awaits_wary left left gave (awaits_first left gave)

  pub genesis_halts : (left now : Option (List ℕ)) (told : Option Told) (taken : List ℕ) (halt : Halt) → LeftAfter left now taken → AwaitsGenesis taken → CutBy (machine_of output) halt taken []
      → Halts (machine_of output) left now told told halt
  genesis_halts left now told taken halt left_is awaits cut = record {
    taken = taken;
    written = [];
    left_is = left_is;
    told = appends_none told;
    keeps_up = awaits_keeps taken awaits;
    front = begins_nothing left told told (appends_none told);
    cut = cut;
  }

  -- memory ran out before anything was read
  pub begins_starved : (left : Option (List ℕ)) (told : Option Told) → Halts (machine_of output) left left told told halts.NoMemory
  begins_starved left told = genesis_halts left left told [] halts.NoMemory (left_none left [] refl) awaits_none (inl refl)

  -- the genesis was not read
  pub begins_cut : (left now : Option (List ℕ)) (told : Option Told) (place : Place) (halt : Halt) → Begins left now place (Err halt) → Halts (machine_of output) left now told told halt
  begins_cut left now told place halts.ReadFault begins =
      genesis_halts left now told begins.0 halts.ReadFault begins.1 begins.2
      (NoStart (λ p start. unreadable (machine_of output) genesis_laws turn_laws begins.0 start.genesis p.rest begins.3.0 Short start.in_range start.whole begins.3.1) refl)
  begins_cut left now told place halts.NoMemory begins = genesis_halts left now told begins.0 halts.NoMemory begins.1 begins.2 (inl refl)
  begins_cut left now told place halts.WriteFault begins = absurd begins.3

  -- memory ran out behind the genesis
  pub begun_starved : (left now : Option (List ℕ)) (told : Option Told) (place : Place) (genesis : Result Genesis WireFault) → Begins left now place (Ok genesis)
      → Halts (machine_of output) left now told told halts.NoMemory
  begun_starved left now told place genesis begins = genesis_halts left now told begins.0 halts.NoMemory begins.1 begins.2 (inl refl)

  -- a replay whose one line was told
  pub finished_first : (left now : Option (List ℕ)) (told : Option Told) (taken line : List ℕ) (faulty : Bool) → LeftAfter left now taken → AwaitsGenesis taken
      → FindsReplay (machine_of output) left now line faulty → Finished (machine_of output) left now told told line faulty
  finished_first left now told taken line faulty left_is awaits finds = record {
    taken = taken;
    written = [];
    left_is = left_is;
    told = appends_none told;
    keeps_up = awaits_keeps taken awaits;
    finds = finds;
  }

  -- the chain was started
  pub course_starts : (left now : Option (List ℕ)) (told : Option Told) (taken : List ℕ) (here : Spot Chain) → LeftAfter left now taken → AwaitsGenesis taken
      → Starts (machine_of output) taken here → Course (machine_of output) left now told told false here
  course_starts left now told taken here left_is awaits starts = record {
    taken = taken;
    written = [];
    seen = record { taken = left_is; at_end = λ e. absurd (true≢false (sym e)) };
    told = appends_none told;
    start = here;
    starts = starts;
    reaches = reaches_itself (machine_of output) genesis_laws turn_laws here;
    keeps_up = awaits_keeps taken awaits;
  }

  -- ## The blocks

  module _ (left mid : Option (List ℕ)) (old told : Option Told) (ended : Bool) (p q : Spot Chain) (new : Option Told)
      (line : List ℕ) (course : Course (machine_of output) left mid old told ended p) where
    -- blocks were taken, and the next piece was read
    pub course_on : (now : Option (List ℕ)) (here read : Place) (chain : Chain) (going : Bool) → q ≡ spot here chain → WritesOn (machine_of output) ended p q told new line (Ok More)
        → FeedsMore mid now here read (Ok going) → Course (machine_of output) left now old new going (spot read chain)
    course_on now here read chain going q_is writes feeds =
        let more = feeds.0 in
        let all = reaches_join (machine_of output) genesis_laws turn_laws course.start p q course.written writes.2.0 course.reaches writes.2.1 in
        let there : grown more q ≡ spot read chain = ap (grown more) q_is ∙ ap (λ (place : Place). spot place chain) (sym feeds.3.0) in
        record {
          taken = course.taken ++ more;
          written = course.written ++ writes.2.0;
          seen = seen_more left mid now course.taken more false ended going course.seen
              (subst (λ (b : Bool). HasSeen mid now more b going) (sym writes.0) (seen_once mid now more going feeds.1 feeds.3.1));
          told = appends_both old told new course.written writes.2.0 course.told writes.2.2;
          start = grown more course.start;
          starts = start_grows (machine_of output) genesis_laws turn_laws more course.taken course.start course.starts;
          reaches = subst (λ (s : Spot Chain). Reaches (machine_of output) (grown more course.start) s (course.written ++ writes.2.0)) there
              (reaches_grow (machine_of output) genesis_laws turn_laws more course.start q (course.written ++ writes.2.0) all);
          keeps_up = record {
            earlier = course.taken;
            last = more;
            text = course.written ++ writes.2.0;
            split = refl;
            one_piece = feeds.2;
            unsure = Behind course.start q course.starts all writes.1;
            before = front_itself (course.written ++ writes.2.0);
          };
        }

    -- the next piece was asked for, whatever came of it
    pub wary_on : (now : Option (List ℕ)) (gave : ℕ) → WritesOn (machine_of output) ended p q told new line (Ok More)
        → TakesAtMost gave mid now → gave ≤ 65536 → ReadsWhile (machine_of output) left now gave
    wary_on now gave writes few one_piece = record {
      earlier = course.taken;
      last = few.0;
      text = course.written ++ writes.2.0;
      taken = left_join left mid now course.taken few.0 course.seen.taken few.1;
      last_read = few.2;
      one_piece = omega (arith, few.2, one_piece);
      unsure = Behind course.start q course.starts (reaches_join (machine_of output) genesis_laws turn_laws course.start p q course.written writes.2.0 course.reaches writes.2.1) writes.1;
    }

    -- the replay is known
    pub course_last : (faulty : Bool) → WritesOn (machine_of output) ended p q told new line (Ok (Last faulty)) → Finished (machine_of output) left mid old new line faulty
    course_last faulty writes =
        let r = writes.0 in
        let text = course.written ++ writes.1 in
        let all = reaches_join (machine_of output) genesis_laws turn_laws course.start p r course.written writes.1 course.reaches writes.2 in
        record {
          taken = course.taken;
          written = text;
          left_is = course.seen.taken;
          told = appends_both old told new course.written writes.1 course.told writes.5;
          keeps_up = keeps_up_more course.taken course.written writes.1 course.keeps_up;
          finds = found (machine_of output) left mid course.taken (text ++ line) ended faulty course.seen
              (λ more follow. (
                all_seated (machine_of output) course.start.state all.blocks,
                Some r.state,
                Replayed (grown more course.start) (grown more r) text line faulty (start_grows (machine_of output) genesis_laws turn_laws more course.taken course.start course.starts)
                    (reaches_grow (machine_of output) genesis_laws turn_laws more course.start r text all) (writes.3 more follow) refl,
              ))
              writes.4;
        }

    -- a write failed, or memory ran out
    pub course_cut : (halt : Halt) → WritesOn (machine_of output) ended p q told new line (Err halt) → Halts (machine_of output) left mid old new halt
    course_cut halts.NoMemory writes =
        let all = reaches_join (machine_of output) genesis_laws turn_laws course.start p writes.0 course.written writes.1 course.reaches writes.2 in
        let appends = appends_both old told new course.written writes.1 course.told writes.3 in
        record {
          taken = course.taken;
          written = course.written ++ writes.1;
          left_is = course.seen.taken;
          told = appends;
          keeps_up = keeps_up_more course.taken course.written writes.1 course.keeps_up;
          front = begins_reached left mid old new course.taken (course.written ++ writes.1) (course.written ++ writes.1) course.start writes.0 course.seen.taken course.starts all
              (front_itself (course.written ++ writes.1)) appends;
          cut = inr (course.start, writes.0, course.starts, all);
        }
    course_cut halts.WriteFault writes =
        let all = reaches_join (machine_of output) genesis_laws turn_laws course.start p writes.0 course.written writes.1 course.reaches writes.3 in
        let appends = appends_both old told new course.written writes.2 course.told writes.5 in
        record {
          taken = course.taken;
          written = course.written ++ writes.2;
          left_is = course.seen.taken;
          told = appends;
          keeps_up = keeps_up_more course.taken course.written writes.2 course.keeps_up;
          front = begins_reached left mid old new course.taken (course.written ++ writes.2) (course.written ++ writes.1) course.start writes.0 course.seen.taken course.starts all
              (writes.4.0, ap (λ (back : List ℕ). course.written ++ back) writes.4.1 ∙ sym (append_assoc course.written writes.2 writes.4.0)) appends;
          cut = tt;
        }
    course_cut halts.ReadFault writes = absurd writes

    unread : (now : Option (List ℕ)) (more : List ℕ) (halt : Halt) (writes : WritesOn (machine_of output) ended p q told new line (Ok More)) → LeftAfter mid now more → length more ≤ 65536
        → CutBy (machine_of output) halt (course.taken ++ more) (course.written ++ writes.2.0) → Halts (machine_of output) left now old new halt
    unread now more halt writes left_is one_piece cut =
        let all = reaches_join (machine_of output) genesis_laws turn_laws course.start p q course.written writes.2.0 course.reaches writes.2.1 in
        let appends = appends_both old told new course.written writes.2.0 course.told writes.2.2 in
        let text = course.written ++ writes.2.0 in
        let joined = left_join left mid now course.taken more course.seen.taken left_is in
        record {
          taken = course.taken ++ more;
          written = text;
          left_is = joined;
          told = appends;
          keeps_up = record {
            earlier = course.taken;
            last = more;
            text = text;
            split = refl;
            one_piece = one_piece;
            unsure = Behind course.start q course.starts all writes.1;
            before = front_itself text;
          };
          front = begins_reached left now old new (course.taken ++ more) text text (grown more course.start) (grown more q) joined
              (start_grows (machine_of output) genesis_laws turn_laws more course.taken course.start course.starts)
              (reaches_grow (machine_of output) genesis_laws turn_laws more course.start q text all)
              (front_itself text) appends;
          cut = cut;
        }

    -- a read failed, or memory ran out in it
    pub course_unread : (now : Option (List ℕ)) (here read : Place) (halt : Halt) → WritesOn (machine_of output) ended p q told new line (Ok More) → FeedsMore mid now here read (Err halt)
        → Halts (machine_of output) left now old new halt
    course_unread now here read halts.ReadFault writes feeds =
        let all = reaches_join (machine_of output) genesis_laws turn_laws course.start p q course.written writes.2.0 course.reaches writes.2.1 in
        let same : course.taken ≡ course.taken ++ feeds.0 = sym (append-nil course.taken) ∙ ap (λ (back : List ℕ). course.taken ++ back) (sym feeds.3) in
        unread now feeds.0 halts.ReadFault writes feeds.1 feeds.2
        (subst (λ (bytes : List ℕ). IsWhole (machine_of output) bytes (course.written ++ writes.2.0)) same
        (undecided_whole (machine_of output) genesis_laws turn_laws course.taken (course.written ++ writes.2.0) (Behind course.start q course.starts all writes.1)))
    course_unread now here read halts.NoMemory writes feeds =
        let all = reaches_join (machine_of output) genesis_laws turn_laws course.start p q course.written writes.2.0 course.reaches writes.2.1 in
        unread now feeds.0 halts.NoMemory writes feeds.1 feeds.2
        (inr (
          grown feeds.0 course.start,
          grown feeds.0 q,
          start_grows (machine_of output) genesis_laws turn_laws feeds.0 course.taken course.start course.starts,
          reaches_grow (machine_of output) genesis_laws turn_laws feeds.0 course.start q (course.written ++ writes.2.0) all,
        ))
    course_unread now here read halts.WriteFault writes feeds = absurd feeds.3

  -- ## The last line

  module _ (left now : Option (List ℕ)) (old told : Option Told) (line : List ℕ) (faulty : Bool) (done : Finished (machine_of output) left now old told line faulty) where
    halts_within : (new : Option Told) (put : List ℕ) → Appends told new put → IsFront put line → Halts (machine_of output) left now old new halts.WriteFault
    halts_within new put appends front =
        let all = appends_both old told new done.written put done.told appends in
        record {
          taken = done.taken;
          written = done.written ++ put;
          left_is = done.left_is;
          told = all;
          keeps_up = keeps_up_more done.taken done.written put done.keeps_up;
          front = replay_front (machine_of output) genesis_laws turn_laws left old new (done.written
              ++ line) (replay_status faulty) (finds_for (machine_of output) left now (done.written ++ line) faulty
              (replay_status faulty) done.finds refl)
              (fronted old new (done.written ++ put) (done.written ++ line) all
              (front.0, ap (λ (back : List ℕ). done.written ++ back) front.1 ∙ sym (append_assoc done.written put front.0)));
          cut = tt;
        }

    -- the line was not written whole
    pub finished_cut : (new : Option Told) (halt : Halt) → Puts told new line (Err halt) → Halts (machine_of output) left now old new halt
    finished_cut new halts.WriteFault puts = halts_within new (take puts.0 line) puts.1 (drop puts.0 line, sym (take-append-drop puts.0 line))
    finished_cut new halts.ReadFault puts = absurd puts
    finished_cut new halts.NoMemory puts = absurd puts

    -- the line was written, and the flush failed
    pub finished_unflushed : (mid new : Option Told) (halt : Halt) → Puts told mid line (Ok tt) → FlushesBy mid new (Err halt) → Halts (machine_of output) left now old new halt
    finished_unflushed mid new halts.WriteFault puts flushes =
        halts_within new line (subst (λ (t : List ℕ). Appends told new t) (append-nil line) (appends_both told mid new line [] puts flushes)) (front_itself line)
    finished_unflushed mid new halts.ReadFault puts flushes = absurd flushes
    finished_unflushed mid new halts.NoMemory puts flushes = absurd flushes

    pub finished_whole : (mid new : Option Told) (status : Status) → Puts told mid line (Ok tt)
        → FlushesBy mid new (Ok tt) → status ≡ replay_status faulty
        → Delivered (machine_of output) left now old new status
    finished_whole mid new status puts flushes is = record {
      taken = done.taken;
      written = done.written;
      left_is = done.left_is;
      keeps_up = done.keeps_up;
      text = done.written ++ line;
      faulty = faulty;
      finds = done.finds;
      status_is = is;
      delivers = delivered old mid new (done.written ++ line) (appends_both old told mid done.written line done.told puts) flushes;
    }
    -- ## What was written where a write failed
