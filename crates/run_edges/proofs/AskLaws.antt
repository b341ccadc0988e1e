-- How reads, and how writes and flushes, follow one another in time.
use Rattle.std.proofs.Common.{◌≡◌, ◌<◌, Bool, true, false, ◌||◌, ◌&&◌, nat_eq, nat_lt, ℕ, Result, Ok, Err, OnOk, refl, ◌∙◌, ap, arith, true≢false}
use Rattle.npos_base.specs.declared.outside.Asked.{Asked}
use Rattle.npos_base.specs.declared.outside.Tried.{Tried}
use Rattle.npos_base.specs.Outside.{given_more, given_none, flushed_more, tried_in_vain, StopsTrying}
use Rattle.run_edges.specs.declared.halt.Halt.{Halt}
use Rattle.run_edges.specs.Owed.{AsksInTime, AsksOn, AsksOnce, Settles}

either : (late ended : Bool) → ended ≡ false → (late || ended) ≡ late
either true true is = refl
either true false is = refl
either false true is = absurd (true≢false is)
either false false is = refl

still_open : (ended : Bool) (n room : ℕ) → ended ≡ false → 0 < n → (ended || (nat_eq n 0 && nat_lt 0 room)) ≡ false
still_open ended n room is some = grind (arith, is, some)

-- ## Reads

late_by : (before : Asked) (late : Bool) → late ≡ (before.late || before.ended) → before.ended ≡ false → late ≡ before.late
late_by before late is was = is ∙ either before.late before.ended was

-- a read gave so many bytes
pub asks_gave : (before now : Asked) (room n : ℕ) (ended : Bool) → now ≡ given_more before room n → (ended ≡ false → 0 < n) → AsksOnce before now (Ok ended)
asks_gave before now room n ended is some = record {
  in_time = λ was. late_by before now.late (ap (λ (a : Asked). a.late) is) was;
  goes_on = λ going was. (
    late_by before now.late (ap (λ (a : Asked). a.late) is) was,
    ap (λ (a : Asked). a.ended) is ∙ still_open before.ended n room was (some going),
  );
}

-- there was no memory for what a read gave
pub asks_lost : (before now : Asked) (room n : ℕ) (halt : Halt) → now ≡ given_more before room n → AsksOnce before now (Err halt)
asks_lost before now room n halt is = record { in_time = λ was. late_by before now.late (ap (λ (a : Asked). a.late) is) was; goes_on = tt }

-- a read failed
pub asks_failed : (before now : Asked) (halt : Halt) → now ≡ given_none before → AsksOnce before now (Err halt)
asks_failed before now halt is = record { in_time = λ was. late_by before now.late (ap (λ (a : Asked). a.late) is) was; goes_on = tt }

pub asks_nothing : (now : Asked) → AsksOn now now
asks_nothing now was = (refl, was)

pub asks_more : (first mid last : Asked) → AsksOn first mid → AsksOn mid last → AsksOn first last
asks_more first mid last before then was =
    let b = before was in
    let t = then b.1 in (t.0 ∙ b.0, t.1)

pub asks_last : (first mid last : Asked) → AsksOn first mid → AsksInTime mid last → AsksInTime first last
asks_last first mid last before then was =
    let b = before was in then b.1 ∙ b.0

pub asks_so_far : (first last : Asked) → AsksOn first last → AsksInTime first last
asks_so_far first last on was = (on was).0

-- ## Writes and flushes

-- what was tried so far did not fail
abbrev pub TriesOn : Tried → Tried → Type 0
TriesOn before now = (before.failed ≡ false → now.late ≡ before.late) × (now.failed ≡ before.failed)

on_any : {T E : Type 0} (result : Result T E) (P : Type 0) → P → OnOk result P
on_any (Ok done) P holds = holds
on_any (Err e) P holds = tt

on_then : {T E : Type 0} (result : Result T E) (P Q : Type 0) → (P → Q) → OnOk result P → OnOk result Q
on_then (Ok done) P Q turns holds = turns holds
on_then (Err e) P Q turns holds = tt

pub tries_nothing : (now : Tried) → TriesOn now now
tries_nothing now = (λ well. refl, refl)

later : (first mid last : Tried) → TriesOn first mid → (mid.failed ≡ false → last.late ≡ mid.late) → first.failed ≡ false → last.late ≡ first.late
later first mid last before then well = then (before.1 ∙ well) ∙ before.0 well

pub tries_more : {T E : Type 0} (first mid last : Tried) (done : T) → TriesOn first mid → StopsTrying {T = T} {E = E} mid last (Ok done) → TriesOn first last
tries_more first mid last done before then = (later first mid last before then.in_time, then.well ∙ before.1)

pub tries_last : {T E : Type 0} (first mid last : Tried) (result : Result T E) → TriesOn first mid → StopsTrying mid last result → StopsTrying first last result
tries_last first mid last result before then = record {
  in_time = later first mid last before then.in_time;
  well = on_then result (last.failed ≡ mid.failed) (last.failed ≡ first.failed) (λ well. well ∙ before.1) then.well;
}

pub tries_flush : {T : Type 0} (first mid last : Tried) (result : Result T Halt) → TriesOn first mid → Settles mid last result → Settles first last result
tries_flush first mid last result before then = record { in_time = later first mid last before then.in_time; flushed = then.flushed }

-- and nothing more is tried
pub tries_so_far : {T E : Type 0} (first last : Tried) (result : Result T E) → TriesOn first last → StopsTrying first last result
tries_so_far first last result on = record { in_time = on.0; well = on_any result (last.failed ≡ first.failed) on.1 }

pub stops_nothing : {T E : Type 0} (now : Tried) (result : Result T E) → StopsTrying now now result
stops_nothing now result = tries_so_far now now result (tries_nothing now)

pub settles_nothing : {T : Type 0} (now : Tried) (halt : Halt) → Settles {T = T} now now (Err halt)
settles_nothing now halt = record { in_time = λ well. refl; flushed = tt }

-- a flush
tried_by : (before : Tried) (late : Bool) → late ≡ (before.late || before.failed) → before.failed ≡ false → late ≡ before.late
tried_by before late is well = is ∙ either before.late before.failed well

pub settles_flushed : {T : Type 0} (before now : Tried) (done : T) → now ≡ flushed_more before → Settles before now (Ok done)
settles_flushed before now done is = record {
  in_time = λ well. tried_by before now.late (ap (λ (t : Tried). t.late) is) well;
  flushed = ap (λ (t : Tried). t.flushed) is;
}

pub settles_failed : {T : Type 0} (before now : Tried) (halt : Halt) → now ≡ tried_in_vain before → Settles {T = T} before now (Err halt)
settles_failed before now halt is = record { in_time = λ well. tried_by before now.late (ap (λ (t : Tried). t.late) is) well; flushed = tt }

-- behind a text that was written whole
pub settles_behind : {T U E : Type 0} (first mid last : Tried) (put : U) (result : Result T Halt) → StopsTrying {T = U} {E = E} first mid (Ok put) → Settles mid last result → Settles first last result
settles_behind first mid last put result stops then = tries_flush first mid last result (stops.in_time, stops.well) then

-- the text was not written whole
pub settles_cut : {T U E : Type 0} (first last : Tried) (fault : E) (halt : Halt) → StopsTrying {T = U} {E = E} first last (Err fault) → Settles {T = T} first last (Err halt)
settles_cut first last fault halt stops = record { in_time = stops.in_time; flushed = tt }

-- by these `edges` goes on
pub ruleset settlings = (settles_behind, settles_cut, settles_flushed, settles_failed)

-- by these `input` goes on
pub ruleset askings = (asks_nothing, asks_more, asks_last, asks_so_far)

-- by these `pieces` goes on
pub ruleset piece_asks = (asks_gave, asks_lost, asks_failed)

-- by these `replaying` goes on
pub ruleset tryings = (asks_nothing, tries_nothing, tries_last, tries_so_far)

-- by these `replaying` goes on
pub ruleset stoppings = (asks_last, asks_so_far, stops_nothing)
