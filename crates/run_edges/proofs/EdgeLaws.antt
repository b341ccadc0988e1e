-- How single reads add up to all that was left, and a write and a flush to a delivery.
use Rattle.std.proofs.Common.{◌≡◌, ◌⊎◌, inl, inr, Bool, true, false, ℕ, ◌+◌, ◌≤◌, List, [], ◌++◌, length, take, drop}
use Rattle.std.proofs.Common.{Option, Some, None, Ok, Err, refl, sym, ◌∙◌, ap, subst, append_assoc, arith, length-append}
use Rattle.std.proofs.lemmas.List.{append-nil, take_all, take_at, take-append-drop, length-take-le}
use Rattle.npos_base.specs.Outside.{Told, Takes, IsAtEnd, Appends, Flushes}
use Rattle.run_edges.specs.declared.halt.Halt.{Halt}
use Rattle.run_edges.specs.declared.halt.Halt.TheVariants as halts
use Rattle.run_edges.specs.Owed.{LeftAfter, IsAll, TakesMore, TakesAtMost, IsDrained, Delivers, DeliversFront, KeepsFlushed, Puts, FlushesBy}
use Rattle.run_edges.specs.Replay.{IsFront}
use Rattle.run_edges.specs.Ahead.{HasSeen}

pub left_join : (old mid new : Option (List ℕ)) (bytes taken : List ℕ)
    → LeftAfter old mid bytes → LeftAfter mid new taken → LeftAfter old new (bytes ++ taken)
left_join None mid new bytes taken before more = tt
left_join (Some left) mid new bytes taken before more =
    let t = subst (λ (m : Option (List ℕ)). LeftAfter m new taken) before.1 more in
    (t.0, t.1, before.2 ∙ (ap (λ back. bytes ++ back) t.2 ∙ sym (append_assoc bytes taken t.0)))

pub left_none : (old : Option (List ℕ)) (bytes : List ℕ) → bytes ≡ [] → LeftAfter old old bytes
left_none None bytes empty = tt
left_none (Some left) bytes empty = (left, refl, ap (λ front. front ++ left) (sym empty))

pub left_taken : (left now : Option (List ℕ)) (n : ℕ) (taken : List ℕ) → Takes left now n taken → LeftAfter left now taken
left_taken None now n taken takes = tt
left_taken (Some left) now n taken takes =
    (drop n left, takes.2, sym (take-append-drop n left) ∙ ap (λ (front : List ℕ). front ++ drop n left) (sym takes.1))

-- ## At most so many bytes

-- nothing was read
pub takes_none : (left : Option (List ℕ)) (most : ℕ) → TakesAtMost most left left
takes_none left most = ([], left_none left [] refl, omega arith)

-- a read failed
pub takes_no_more : (left now : Option (List ℕ)) (most : ℕ) → Takes left now 0 [] → TakesAtMost most left now
takes_no_more left now most takes = ([], left_taken left now 0 [] takes, omega arith)

-- one read
pub takes_some : (left now : Option (List ℕ)) (n most : ℕ) (buffer : List ℕ) → Takes left now n (take n buffer) → n ≤ length buffer → length buffer ≤ most → TakesAtMost most left now
takes_some left now n most buffer takes within few = (take n buffer, left_taken left now n (take n buffer) takes, omega (arith, length-take-le n buffer within, few))

-- what was read so far
pub takes_so_far : (left now : Option (List ℕ)) (bytes : List ℕ) (most : ℕ) → LeftAfter left now bytes → length bytes ≤ most → TakesAtMost most left now
takes_so_far left now bytes most taken few = (bytes, taken, few)

-- and then more
pub takes_more : (left mid now : Option (List ℕ)) (bytes : List ℕ) (room most : ℕ) → LeftAfter left mid bytes → TakesAtMost room mid now → length bytes + room ≤ most → TakesAtMost most left now
takes_more left mid now bytes room most taken more few =
    (bytes ++ more.0, left_join left mid now bytes more.0 taken more.1, omega (arith, more.2, few, length-append bytes more.0))

-- ## All that was left

-- what was read and one read more
pub takes_on : (left mid now : Option (List ℕ)) (bytes after : List ℕ) (ended : Bool) → LeftAfter left mid bytes → TakesMore mid now bytes after ended → LeftAfter left now after
takes_on left mid now bytes after ended taken more =
    subst (λ (b : List ℕ). LeftAfter left now b) (sym more.1) (left_join left mid now bytes more.0 taken more.2)

-- where the input has ended, what was read is all that was left
pub all_read : (left mid now : Option (List ℕ)) (bytes after : List ℕ) → LeftAfter left mid bytes → TakesMore mid now bytes after true → IsAll left after × IsDrained left now
all_read None mid now bytes after taken more = (tt, tt)
all_read (Some left) mid now bytes after taken more =
    let at_end = subst (λ (m : Option (List ℕ)). IsAtEnd m) taken.1 (more.3 refl).1 in
    let on = subst (λ (m : Option (List ℕ)). LeftAfter m now more.0) taken.1 more.2 in
    let none = (more.3 refl).0 in
    let last : taken.0 ≡ on.0 = on.2 ∙ ap (λ (front : List ℕ). front ++ on.0) none in (
      more.1 ∙ (ap (λ (back : List ℕ). bytes ++ back) (none ∙ sym at_end) ∙ sym taken.2),
      on.1 ∙ ap Some (sym last ∙ at_end),
    )

-- what one read tells of what was seen
pub seen_once : (old new : Option (List ℕ)) (taken : List ℕ) (ended : Bool) → LeftAfter old new taken → (ended ≡ true → (taken ≡ []) × IsAtEnd old) → HasSeen old new taken false ended
seen_once old new taken ended left end = record { taken = left; at_end = λ e. inr (drained old left (end e)) } where
  drained : (old : Option (List ℕ)) → LeftAfter old new taken → (taken ≡ []) × IsAtEnd old → IsDrained old new
  drained None left end = tt
  drained (Some all) after end = after.1 ∙ ap Some (ap (λ front. front ++ after.0) (sym end.0) ∙ (sym after.2 ∙ end.1))

-- what was seen, and then more of it
pub seen_more : (old mid new : Option (List ℕ)) (seen more : List ℕ) (before between ended : Bool)
    → HasSeen old mid seen before between → HasSeen mid new more between ended → HasSeen old new (seen ++ more) before ended
seen_more old mid new seen more before between ended first then = record {
  taken = left_join old mid new seen more first.taken then.taken;
  at_end = λ end. on (then.at_end end);
} where
  drained : (old : Option (List ℕ)) → LeftAfter old mid seen → IsDrained mid new → IsDrained old new
  drained None left end = tt
  drained (Some left) after end = subst (λ (m : Option (List ℕ)). IsDrained m new) after.1 end

  earlier : new ≡ mid → ((before ≡ true) × (mid ≡ old)) ⊎ IsDrained old mid → ((before ≡ true) × (new ≡ old)) ⊎ IsDrained old new
  earlier same (inl was) = inl (was.0, same ∙ was.1)
  earlier same (inr end) = inr (subst (λ (n : Option (List ℕ)). IsDrained old n) (sym same) end)

  on : ((between ≡ true) × (new ≡ mid)) ⊎ IsDrained mid new → ((before ≡ true) × (new ≡ old)) ⊎ IsDrained old new
  on (inl was) = earlier was.1 (first.at_end was.0)
  on (inr end) = inr (drained old first.taken end)

pub seen_nothing : (left : Option (List ℕ)) (ended : Bool) → HasSeen left left [] ended ended
seen_nothing left ended = record { taken = left_none left [] refl; at_end = λ end. inl (end, refl) }

-- a text of which this is a front was delivered as far
pub fronted : (old new : Option Told) (put text : List ℕ) → Appends old new put → IsFront put text → DeliversFront old new text
fronted old None put text appends front = tt
fronted old (Some now) put text appends front =
    let first : take (length put) text ≡ put = ap (take (length put)) front.1 ∙ take_at put front.0 (length put) refl in
    (appends.0, length put, appends.1, appends.2 ∙ ap (λ all. appends.0.written ++ all) (sym first))

pub unflushed : (old new : Option Told) (put : List ℕ) → Appends old new put → KeepsFlushed old new
unflushed old None put appends = tt
unflushed old (Some now) put appends = (appends.0, appends.1, appends.3)

pub delivered : (old mid new : Option Told) (text : List ℕ) → Appends old mid text → Flushes mid new → Delivers old new text
delivered old mid None text appends flushes = tt
delivered old mid (Some now) text appends flushes =
    let a = subst (λ (m : Option Told). Appends old m text) flushes.1 appends in
    (a.0, a.1, flushes.2 ∙ a.2, flushes.3 ∙ ap length (sym flushes.2))

pub not_flushed : (old mid new : Option Told) (text : List ℕ) → Appends old mid text → Appends mid new [] → DeliversFront old new text
not_flushed old mid None text appends none = tt
not_flushed old mid (Some now) text appends none =
    let a = subst (λ (m : Option Told). Appends old m text) none.1 appends in
    (a.0, length text, a.1, none.2 ∙ (append-nil none.0.written ∙ (a.2 ∙ ap (λ all. a.0.written ++ all) (sym (take_all (length text) text (omega arith))))))

pub front_put : (old new : Option Told) (n : ℕ) (text : List ℕ) → Appends old new (take n text) → DeliversFront old new text
front_put old None n text appends = tt
front_put old (Some now) n text appends = (appends.0, n, appends.1, appends.2)

pub put_unflushed : (old new : Option Told) (text : List ℕ) → Appends old new text → KeepsFlushed old new
put_unflushed old None text appends = tt
put_unflushed old (Some now) text appends = (appends.0, appends.1, appends.3)

pub still_unflushed : (old mid new : Option Told) (text : List ℕ) → Appends old mid text → Appends mid new [] → KeepsFlushed old new
still_unflushed old mid None text appends none = tt
still_unflushed old mid (Some now) text appends none =
    let a = subst (λ (m : Option Told). Appends old m text) none.1 appends in (a.0, a.1, none.3 ∙ a.3)

-- nothing was to be written
pub puts_none : (told : Option Told) (text : List ℕ) → text ≡ [] → Puts told told text (Ok tt)
puts_none None text none = tt
puts_none (Some now) text none = (now, refl, sym (append-nil now.written) ∙ ap (λ back. now.written ++ back) (sym none), refl)

-- where a text was to be written or flushed, nothing else may have failed
pub put_failed : (old new : Option Told) (text : List ℕ) (halt : Halt) → Puts old new text (Err halt) → halt ≡ halts.WriteFault
put_failed old new text halts.WriteFault puts = refl
put_failed old new text halts.ReadFault puts = absurd puts
put_failed old new text halts.NoMemory puts = absurd puts

pub flush_failed : (old new : Option Told) (halt : Halt) → FlushesBy old new (Err halt) → halt ≡ halts.WriteFault
flush_failed old new halts.WriteFault flushes = refl
flush_failed old new halts.ReadFault flushes = absurd flushes
flush_failed old new halts.NoMemory flushes = absurd flushes

-- by these `edges` goes on
pub ruleset deliveries = (delivered, not_flushed, front_put, put_unflushed, still_unflushed)

-- by these `input` goes on
pub ruleset takings = (takes_none, takes_so_far, takes_more)
