-- What is owed for an input that was read whole, by what was read of it and told.
use Rattle.std.proofs.Common.{◌≡◌, ◌≢◌, ℕ, ◌+◌, ◌<◌, Bool, true, false, List, [], ◌++◌, length, Option, Some, None}
use Rattle.std.proofs.Common.{Result, Ok, Err, IfOk, refl, sym, ◌∙◌, ap, subst, append_assoc, arith, length-append}
use Rattle.std.proofs.lemmas.List.{append-nil}
use Rattle.scale_wire.specs.declared.fault.Why.TheVariants.{Trailing}
use Rattle.scale_wire.specs.declared.fault.WireFault.{WireFault}
use Rattle.scale_wire.specs.Form.{IsWire}
use Rattle.scale_wire.specs.Reading.{Place, IsRead, IsFault}
use Rattle.bundle_reports.specs.Texts.{fault_line}
use Rattle.run_edges.specs.Texts.{number_line}
use Rattle.npos_cli.specs.declared.going.Turn.{Turn}
use Rattle.npos_cli.specs.declared.going.Turn.TheVariants.{Taken, Last}
use Rattle.run_edges.specs.declared.status.Status.{Status}
use Rattle.run_edges.specs.declared.status.Status.TheVariants as statuses
use Rattle.run_edges.specs.Replay.{Machine, Spot, turn, Starts, Reaches, all_seated, Refused, OtherNumber, Followed, Ended, Outcome, BadGenesis, FaultyGenesis, Replayed}
use Rattle.run_edges.specs.Owed.{ReplayOwes}
use Rattle.run_edges.specs.Status.{replay_status}
use Rattle.run_edges.specs.Ahead.{first_place}
use Rattle.npos_cli.specs.Going.{EndsHere, TakesItem, GoesOn}
use Rattle.run_edges.specs.Turning.{HasTold, spot}
use Rattle.run_edges.proofs.ReplayLaws.{reaches_more, reaches_itself}

module _ {G B S E : Type 0} (m : Machine G B S E) (genesis_laws : IsWire m.genesis) (turn_laws : IsWire (turn m)) where
  -- ## One item

  stop_item : (old here : Place) (q : Spot S) (state : S) (before told : List ℕ) (stop : Turn) → IsRead (turn m) old None here
      → EndsHere here (m.ending state) before told stop → TakesItem m (spot old state) q before told stop
  stop_item old here q state before told Taken is ends = absurd ends
  stop_item old here q state before told (Last true) is ends =
      (fault_line here.at Trailing, Followed here.rest is.whole ends.0 (ap (λ at. fault_line at Trailing) is.at_is) refl, ends.1)
  stop_item old here q state before told (Last false) is ends =
      (m.ending state, Ended (is.whole ∙ (ap (λ rest. (turn m).spelling None ++ rest) ends.0 ∙ append-nil ((turn m).spelling None))) refl refl, ends.1)

  pub stop_items : {F : Type 0} (result : Result Turn F) (old here : Place) (q : Spot S) (state : S) (before told : List ℕ)
      → IsRead (turn m) old None here → IfOk result (EndsHere here (m.ending state) before told) → IfOk result (TakesItem m (spot old state) q before told)
  stop_items (Ok stop) old here q state before told is ends = stop_item old here q state before told stop is ends
  stop_items (Err e) old here q state before told is ends = tt

  pub fault_item : (old new : Place) (q : Spot S) (state : S) (before told : List ℕ) (fault : WireFault) → IsFault (turn m) old fault new
      → told ≡ before ++ fault_line fault.at fault.why → TakesItem m (spot old state) q before told (Last true)
  fault_item old new q state before told fault is told_is =
      (fault_line fault.at fault.why, Refused is.place fault.why is.bad (ap (λ at. fault_line at fault.why) is.at_is) refl, told_is)

  pub number_item : (old here : Place) (q : Spot S) (state : S) (before told : List ℕ) (item : B) → IsRead (turn m) old (Some item) here → m.number item ≢ m.due state
      → told ≡ before ++ number_line (old.at + 1) (m.due state) (m.number item) → TakesItem m (spot old state) q before told (Last true)
  number_item old here q state before told item is other told_is =
      (number_line (old.at + 1) (m.due state) (m.number item), OtherNumber item here.rest is.in_range is.whole other refl refl, told_is)

  -- an item lies between the two places
  pub item_longer : (p q : Spot S) (old new : List ℕ) → TakesItem m p q old new Taken → (p.at < q.at) × (length q.rest < length p.rest)
  item_longer p q old new takes =
      let at : q.at ≡ p.at + length ((turn m).spelling (Some takes.0)) = ap (λ (s : Spot S). s.at) takes.2 in
      let whole = ap length takes.1.whole in
      (omega (arith, at), omega (arith, whole, length-append ((turn m).spelling (Some takes.0)) q.rest))

  -- ## Items in turn

  pub told_none : (p : Spot S) (text : List ℕ) → HasTold m p p text text
  told_none p text = ([], reaches_itself m genesis_laws turn_laws p, sym (append-nil text))

  pub told_more : (p q r : Spot S) (old mid new : List ℕ) → HasTold m p q old mid → TakesItem m q r mid new Taken → HasTold m p r old new
  told_more p q r old mid new told takes = (
    told.0 ++ m.lines q.state takes.0,
    subst (λ (s : Spot S). Reaches m p s (told.0 ++ m.lines q.state takes.0)) (sym takes.2)
        (reaches_more m genesis_laws turn_laws p q told.0 takes.0 r.rest told.1 takes.1),
    takes.3 ∙ (ap (λ front. front ++ m.lines q.state takes.0) told.2 ∙ append_assoc old told.0 (m.lines q.state takes.0)),
  )

  pub told_last : (p q r : Spot S) (old mid new : List ℕ) (faulty : Bool) → HasTold m p q old mid → TakesItem m q r mid new (Last faulty) → GoesOn m p old new faulty
  told_last p q r old mid new faulty told takes = (
    q,
    told.0,
    takes.0,
    told.1,
    takes.1,
    takes.2 ∙ (ap (λ front. front ++ takes.0) told.2 ∙ append_assoc old told.0 takes.0),
  )

  -- ## The whole input

  abbrev outcome : List ℕ → Bool → Option S → Outcome S E
  outcome text faulty last = record { text = text; faulty = faulty; seated = []; last = last }

  pub refused_input : (bytes text : List ℕ) (new : Place) (fault : WireFault) (status : Status) → IsFault m.genesis (first_place bytes) fault new
      → text ≡ fault_line fault.at fault.why → status ≡ statuses.BadInput → ReplayOwes m bytes text status
  refused_input bytes text new fault status is text_is status_is =
      let place : fault.at ≡ is.place = omega (arith, is.at_is) in
      (outcome (fault_line is.place fault.why) true None, BadGenesis is.place fault.why is.bad refl, text_is ∙ ap (λ at. fault_line at fault.why) place, status_is)

  pub faulty_input : (bytes text line : List ℕ) (place : Place) (genesis : G) (status : Status) → IsRead m.genesis (first_place bytes) genesis place
      → m.start genesis ≡ Err line → text ≡ line → status ≡ statuses.BadInput → ReplayOwes m bytes text status
  faulty_input bytes text line place genesis status is faulty text_is status_is =
      (outcome line true None, FaultyGenesis genesis place.rest line is.in_range is.whole faulty refl, text_is, status_is)

  pub input_starts : (bytes : List ℕ) (place : Place) (genesis : G) (state : S) → IsRead m.genesis (first_place bytes) genesis place → m.start genesis ≡ Ok state
      → Starts m bytes (spot place state)
  input_starts bytes place genesis state is started = record {
    genesis = genesis;
    in_range = is.in_range;
    state_is = started;
    whole = is.whole;
    at_is = omega (arith, is.at_is);
  }

  pub replayed_input : (bytes before text : List ℕ) (start : Spot S) (faulty : Bool) (status : Status) → Starts m bytes start → before ≡ [] → GoesOn m start before text faulty
      → status ≡ replay_status faulty → ReplayOwes m bytes text status
  replayed_input bytes before text start faulty status starts empty goes status_is = (
    record { text = goes.1 ++ goes.2; faulty = faulty; seated = all_seated m start.state goes.3.blocks; last = Some goes.0.state },
    Replayed start goes.0 goes.1 goes.2 faulty starts goes.3 goes.4 refl,
    goes.5 ∙ ap (λ front. front ++ (goes.1 ++ goes.2)) empty,
    status_is,
  )
