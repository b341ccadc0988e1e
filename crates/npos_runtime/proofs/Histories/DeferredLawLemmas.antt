-- What slashes come to that wait.
use Rattle.std.proofs.Common.{◌≡◌, ◌^◌, ℕ, zero, suc, ◌+◌, ◌≤◌, ◌<◌, Bool, true, false, not, cond, nat_le, nat_lt}
use Rattle.std.proofs.Common.{◌==◌, ◌&&◌, All, AllPairs, List, [], ◌∷◌, ◌++◌, length, filter, find, Option, Some}
use Rattle.std.proofs.Common.{None, option_map, option_to_list, refl, ap, sym, subst, ◌∙◌, arith, if◌then◌else◌}
use Rattle.std.proofs.lemmas.Bool.Decides.{nat_tests}
use Rattle.std.proofs.lemmas.List.Kept.{AllPairs-filter}
use Rattle.std.proofs.lemmas.List.Elements.{All-append, All-weaker, All-head, All-tail}
use Rattle.std.proofs.lemmas.List.Sums.{sum_by-cons}
use Rattle.npos_base.specs.declared.account.AccountId.{AccountId}
use Rattle.npos_base.proofs.NumberTests.{number_same, number_test}
use Rattle.block_wire.specs.declared.genesis.Params.{Params}
use Rattle.block_wire.specs.declared.call.Call.{Call}
use Rattle.block_wire.specs.declared.block.Block.{Block}
use Rattle.stake_ledger.specs.Ledger.{Ledger, row_at}
use Rattle.stake_ledger.specs.Calls.{slash_amount}
use Rattle.election_snapshot.specs.Snapshot.{has}
use Rattle.era_book.specs.declared.exposure.Backer.{Backer}
use Rattle.era_book.specs.declared.deferred.DeferredSlash.{DeferredSlash}
use Rattle.era_book.specs.Exposures.{amount_for}
use Rattle.era_book.specs.Eras.{Eras, started}
use Rattle.era_book.specs.Deferred.{has_number, without, next_due, without_slash, without_next_due}
use Rattle.era_book.specs.Events.{given_by, makes_due}
use Rattle.era_book.proofs.LawLemmas.{for_sum}
use Rattle.block_receipts.specs.declared.line.Line.{Line}
use Rattle.block_receipts.specs.declared.line.Line.TheVariants as lines
use Rattle.block_receipts.specs.declared.refusal.Refusal.{Refusal}
use Rattle.chain_params.specs.Rules.{era_of, place_of, begun_era}
use Rattle.npos_runtime.specs.declared.chain.Chain.{Chain}
use Rattle.npos_runtime.specs.Rules.Outcome.{Outcome, after}
use Rattle.npos_runtime.specs.Rules.Exposed.{exposed}
use Rattle.npos_runtime.specs.Rules.CallRule.{CallRule}
use Rattle.npos_runtime.specs.Rules.Calls.{rule_of, rule_for}
use Rattle.npos_runtime.specs.Rules.Offices.{slashed_once, slashes, slashing_rule, deferring_rule, apply_slash, applied}
use Rattle.npos_runtime.specs.Step.{waiting_after, eras_after, applied_in, before_calls, call_after, call_outcome, calls_outcome, step, after_blocks}
use Rattle.npos_runtime.specs.Live.{IsLive, CanDefer, IsBetweenBlocks}
use Rattle.npos_runtime.specs.Histories.Eras.{event_of, over_calls, over_blocks, taken_for, taken_by, due_by, amount_taken, told_taken}
use Rattle.npos_runtime.specs.Histories.Deferred.{AreApplied, AppliesWhatIsDue, QueuedLaw, AppliedLaw, waiting_for, numbers_at, numbers_of, taken_behind, applied_for, waiting_due, TakenInAllLaw}
use Rattle.npos_runtime.proofs.Rules.RuleLemmas.{KeepsDues}
use Rattle.npos_runtime.proofs.Rules.CallTable.{lawful_call}
use Rattle.npos_runtime.proofs.Rules.PartLemmas.{live_with, with_eras}
use Rattle.npos_runtime.proofs.Rules.OfficeCallLemmas.{slashes_live, slashes_within, told_slashes}
use Rattle.npos_runtime.proofs.Histories.WaitingDueLemmas.{due_found}
use Rattle.npos_runtime.proofs.Histories.AppliedLemmas.{shorter, idle}
use Rattle.npos_runtime.proofs.Rules.EraLemmas.{era_begun}
use Rattle.npos_runtime.proofs.Rules.LiveLemmas.{eras_before, slash_before, can_before, can_call, due_step}
use Rattle.npos_runtime.proofs.Histories.WaitingLemmas.{sound_waiting}
use Rattle.npos_runtime.proofs.Histories.TimeLemmas.{between_step, between_blocks}
use Rattle.npos_runtime.proofs.Rules.EraPhaseLemmas.{ended, told}
use Rattle.npos_runtime.proofs.Histories.EraLawLemmas.{taken_each}

-- ## One report, and one cancel

pub queued_law : QueuedLaw
unfolding rule_of
queued_law chain = (
  λ who era validator fraction some free.
      let waits : (chain.defer == 0) ≡ false = grind (arith, nat_tests) in
      let rule : Bool → CallRule = λ b. if b then slashing_rule chain era validator fraction else deferring_rule chain era validator fraction in
      record {
        told = ap (λ b. (rule b).told) waits;
        queue = ap (λ b. (rule b).done.eras.queue) waits;
        book = ap (λ b. (rule b).done.book) waits;
      },
  λ who number free. record { told = refl; queue = refl; kept = refl; book = refl },
)

-- ## The begin of an era

abbrev is_due : ℕ → DeferredSlash → Bool
is_due current slash = nat_le slash.due current

abbrev AreRising : List DeferredSlash → Type 0
AreRising slashes = AllPairs (λ first later. first.number < later.number) slashes

all_others : (number : ℕ) (slashes : List DeferredSlash) → All (λ s. has_number number s ≡ false) slashes → without number slashes ≡ slashes
all_others number [] apart = refl
all_others number (slash ∷ slashes) apart =
    ap (λ b. cond (not b) (slash ∷ without number slashes) (without number slashes)) (All-head (λ (s : DeferredSlash). has_number number s ≡ false) slash slashes apart)
    ∙ ap (λ xs. slash ∷ xs) (all_others number slashes (All-tail (λ (s : DeferredSlash). has_number number s ≡ false) slash slashes apart))

none_filter : (current : ℕ) (slashes : List DeferredSlash) → find (is_due current) slashes ≡ None → filter (is_due current) slashes ≡ []
none_filter current [] none = refl
none_filter current (slash ∷ slashes) none = at (nat_le slash.due current) none (λ is. none_filter current slashes is) where
  at : (b : Bool) → cond b (Some slash) (find (is_due current) slashes) ≡ None
      → (find (is_due current) slashes ≡ None → filter (is_due current) slashes ≡ [])
      → cond b (slash ∷ filter (is_due current) slashes) (filter (is_due current) slashes) ≡ []
  at true is later = cc
  at false is later = later is

-- the slash that is found is the first of those that are due
found_filter : (current : ℕ) (slash : DeferredSlash) (slashes : List DeferredSlash) → AreRising slashes → find (is_due current) slashes ≡ Some slash
    → filter (is_due current) slashes ≡ slash ∷ filter (is_due current) (without slash.number slashes)
found_filter current slash [] rise found = absurd (cc)
found_filter current slash (first ∷ slashes) rise found =
    at (nat_le first.due current) refl found
    (λ is. found_filter current slash slashes (λ i j d less within. rise (suc i) (suc j) d (omega (arith, less)) (omega (arith, within))) is) where
      rest : List DeferredSlash
      rest = without slash.number slashes

      at : (b : Bool) → nat_le first.due current ≡ b → cond b (Some first) (find (is_due current) slashes) ≡ Some slash
          → (find (is_due current) slashes ≡ Some slash → filter (is_due current) slashes ≡ slash ∷ filter (is_due current) rest)
          → cond b (first ∷ filter (is_due current) slashes) (filter (is_due current) slashes)
          ≡ slash ∷ filter (is_due current) (without slash.number (first ∷ slashes))
      at true e is later = λ i. same i ∷ filter (is_due current) (sym (gone ∙ stays) i) where
        same : first ≡ slash
        same = cc

        here : has_number slash.number first ≡ true
        here = ap (λ (s : DeferredSlash). has_number slash.number s) same ∙ number_same slash.number

        gone : without slash.number (first ∷ slashes) ≡ rest
        gone = ap (λ b. cond (not b) (first ∷ rest) rest) here

        stays : rest ≡ slashes
        stays =
            all_others slash.number slashes
            (λ k d within. number_test _ slash.number
            (λ equal. absurd (omega (arith, rise zero (suc k) d (omega arith) (omega (arith, within)), equal, ap (λ (s : DeferredSlash). s.number) same))))
      at false e is later =
          later is
          ∙ ap (λ xs. slash ∷ xs) (sym (over (not (has_number slash.number first)))) where
            over : (b : Bool) → filter (is_due current) (cond b (first ∷ rest) rest) ≡ filter (is_due current) rest
            over true = ap (λ b. cond b (first ∷ filter (is_due current) rest) (filter (is_due current) rest)) e
            over false = refl

-- the eras once a slash was applied
module _ (chain : Chain) (slash : DeferredSlash) (found : next_due chain.eras ≡ Some slash) where
  abbrev begun_slash : Chain
  begun_slash = record chain { eras = without_next_due chain.eras }

  abbrev done_slash : Outcome
  done_slash = slashes slash.lines begun_slash

  eras_done : done_slash.state.eras ≡ record chain.eras { queue = without slash.number chain.eras.queue }
  eras_done =
      ap (λ (c : Chain). c.eras) (slashes_within slash.lines begun_slash)
      ∙ ap (λ (o : Option DeferredSlash). record chain.eras { queue = without_slash o chain.eras.queue }) found

  fewer_left : length done_slash.state.eras.queue < length chain.eras.queue
  fewer_left =
      omega (
        arith,
        shorter chain.eras slash found,
        ap (λ (eras : Eras). length eras.queue) (ap (λ (c : Chain). c.eras) (slashes_within slash.lines begun_slash)),
      )

applied_are : (count : ℕ) (chain : Chain) → IsLive chain → AreRising chain.eras.queue → length chain.eras.queue ≤ count
    → AreApplied (filter (is_due chain.eras.current) chain.eras.queue) chain.book (applied count chain).lines (applied count chain).state.book
applied_are zero chain live rise few =
    subst (λ xs. AreApplied xs chain.book [] chain.book) (sym (none_left chain.eras.queue few)) (refl, refl) where
      none_left : (slashes : List DeferredSlash) → length slashes ≤ 0 → filter (is_due chain.eras.current) slashes ≡ []
      none_left [] none = refl
      none_left (slash ∷ slashes) none = absurd (omega (arith, none))
applied_are (suc more) chain live rise few = at (next_due chain.eras) refl (λ next. applied_are more next) where
  at : (found : Option DeferredSlash) → next_due chain.eras ≡ found
      → ((next : Chain) → IsLive next → AreRising next.eras.queue → length next.eras.queue ≤ more
      → AreApplied (filter (is_due next.eras.current) next.eras.queue) next.book (applied more next).lines (applied more next).state.book)
      → AreApplied (filter (is_due chain.eras.current) chain.eras.queue) chain.book (applied (suc more) chain).lines (applied (suc more) chain).state.book
  at None none next =
      subst (λ (o : Outcome). AreApplied (filter (is_due chain.eras.current) chain.eras.queue) chain.book o.lines o.state.book) (sym (idle (suc more) chain none))
      (subst (λ xs. AreApplied xs chain.book [] chain.book) (sym (none_filter chain.eras.current chain.eras.queue none)) (refl, refl))
  at (Some slash) found next =
      let start : Chain = begun_slash chain slash found in
      let done : Outcome = done_slash chain slash found in
      let live_start : IsLive start = with_eras chain (without_next_due chain.eras) live in
      let eras = eras_done chain slash found in
      let rest : Outcome = applied more done.state in
      let later =
      next done.state (slashes_live slash.lines start live_start)
      (subst (λ (es : Eras). AreRising es.queue) (sym eras)
      (AllPairs-filter (λ first next. first.number < next.number) (λ s. not (has_number slash.number s)) chain.eras.queue rise))
      (omega (arith, few, fewer_left chain slash found)) in
      subst (λ (o : Option DeferredSlash). AreApplied (filter (is_due chain.eras.current) chain.eras.queue) chain.book
      (after (apply_slash o chain) (applied more)).lines (after (apply_slash o chain) (applied more)).state.book) (sym found)
      (subst (λ xs. AreApplied xs chain.book ((lines.Applied slash.number ∷ [] ++ done.lines) ++ rest.lines) rest.state.book)
      (sym (found_filter chain.eras.current slash chain.eras.queue rise found)) (
        done.state.book,
        done.lines,
        rest.lines,
        taken_each slash.lines start live_start,
        refl,
        subst (λ (es : Eras). AreApplied (filter (is_due es.current) es.queue) done.state.book rest.lines rest.state.book) eras later,
      ))

-- an era that begins with a block is the one of the block
begun_is : (params : Option Params) (due era : ℕ) → begun_era params due ≡ Some era → era_of params due ≡ era
begun_is None due era is = absurd (cc)
begun_is (Some params) due era is = at ((place_of params due == 0) && nat_lt 0 (era_of (Some params) due)) is where
  at : (b : Bool) → (if b then Some (era_of (Some params) due) else None) ≡ Some era → era_of (Some params) due ≡ era
  at true e = cc
  at false e = absurd (cc)

applies : (chain : Chain) → IsBetweenBlocks chain → AppliesWhatIsDue chain
applies chain rests era begun = (
  left.lines,
  ap (λ (o : Option ℕ). told chain o) begun,
  subst (λ (book : Ledger). AreApplied (filter (is_due era) chain.eras.queue) chain.book left.lines book)
      (sym (ap (λ (o : Option ℕ). (ended chain o).state.book) begun)) are,
) where
  left : Outcome
  left = ended chain (Some era)

  start : Chain
  start = record chain { waiting = None; eras = started (exposed chain.waiting) chain.eras }

  current : chain.eras.current + 1 ≡ era
  current =
      ap (λ (o : Option ℕ). (eras_after chain.eras chain.waiting o).current) (sym begun)
      ∙ (era_begun chain.eras chain.waiting chain.params chain.due rests.live.params rests.live.due.at_least rests.era
      ∙ begun_is chain.params chain.due era begun)

  live_start : IsLive start
  live_start = live_with refl refl refl rests.live rests.live.books rests.live.roles rests.live.bags rests.live.round rests.live.queue tt

  are : AreApplied (filter (is_due era) chain.eras.queue) chain.book left.lines left.state.book
  are =
      subst (λ n. AreApplied (filter (is_due n) chain.eras.queue) chain.book left.lines left.state.book) current
      (applied_are (length chain.eras.queue) start live_start rests.slashes.order.queued.numbers (omega arith))

pub applied_law : AppliedLaw
applied_law chain blocks can = applies (after_blocks chain blocks) (between_blocks chain blocks can.between can.fit)

-- ## All that is taken for an era

module _ (numbers : List ℕ) (who : AccountId) where
  -- the lines of one slash count where it is one of these
  counted : (b : Bool) (dues : List Backer) (chain : Chain) (rest : List Line)
      → taken_behind numbers b who ((slashes dues chain).lines ++ rest)
      ≡ (if b then told_taken who (slashes dues chain).lines else 0) + taken_behind numbers b who rest
  counted true [] chain rest = omega arith
  counted false [] chain rest = omega arith
  counted b (due ∷ more) chain rest = at (slash_amount (row_at chain.book due.who) due.amount == 0) b (counted b more (slashed_once due chain) rest) where
    taken : ℕ
    taken = slash_amount (row_at chain.book due.who) due.amount

    later : List Line
    later = (slashes more (slashed_once due chain)).lines

    at : (t b : Bool)
        → taken_behind numbers b who (later ++ rest) ≡ (if b then told_taken who later else 0) + taken_behind numbers b who rest
        → taken_behind numbers b who (((if t then [] else lines.Slashed due.who taken ∷ []) ++ later) ++ rest)
        ≡ (if b then told_taken who ((if t then [] else lines.Slashed due.who taken ∷ []) ++ later) else 0) + taken_behind numbers b who rest
    at true b is = is
    at false true is = omega (arith, is, sum_by-cons (amount_taken who) (lines.Slashed due.who taken) later)
    at false false is = omega (arith, is)

  -- slashes that are applied take at most what is due by them
  behind : (count : ℕ) (counts : Bool) (chain : Chain)
      → taken_behind numbers counts who (applied count chain).lines + waiting_due numbers who (applied count chain).state.eras.queue
      ≤ waiting_due numbers who chain.eras.queue
  behind zero counts chain = omega arith
  behind (suc more) counts chain = at (next_due chain.eras) refl (λ b next. behind more b next) where
    at : (found : Option DeferredSlash) → next_due chain.eras ≡ found
        → ((b : Bool) (next : Chain)
        → taken_behind numbers b who (applied more next).lines + waiting_due numbers who (applied more next).state.eras.queue
        ≤ waiting_due numbers who next.eras.queue)
        → taken_behind numbers counts who (after (apply_slash (next_due chain.eras) chain) (applied more)).lines
        + waiting_due numbers who (after (apply_slash (next_due chain.eras) chain) (applied more)).state.eras.queue
        ≤ waiting_due numbers who chain.eras.queue
    at None none later =
        subst (λ (o : Option DeferredSlash). taken_behind numbers counts who (after (apply_slash o chain) (applied more)).lines
        + waiting_due numbers who (after (apply_slash o chain) (applied more)).state.eras.queue
        ≤ waiting_due numbers who chain.eras.queue) (sym none) (later counts chain)
    at (Some slash) found later =
        let done : Outcome = done_slash chain slash found in
        let among : Bool = has numbers slash.number in
        let rest : Outcome = applied more done.state in
        subst (λ (o : Option DeferredSlash). taken_behind numbers counts who (after (apply_slash o chain) (applied more)).lines
        + waiting_due numbers who (after (apply_slash o chain) (applied more)).state.eras.queue
        ≤ waiting_due numbers who chain.eras.queue) (sym found)
        (omega (
          arith,
          counted among slash.lines (begun_slash chain slash found) rest.lines,
          later among done.state,
          within among,
          ap (λ (eras : Eras). waiting_due numbers who eras.queue) (eras_done chain slash found),
          due_found numbers who chain.eras.current slash chain.eras.queue found,
        )) where
          within : (b : Bool)
              → (if b then told_taken who (done_slash chain slash found).lines else 0) ≤ (if b then amount_for who slash.lines else 0)
          within true = omega (arith, told_slashes who slash.lines (begun_slash chain slash found), for_sum who slash.lines)
          within false = omega arith

  behind_begin : (begun : Option ℕ) (chain : Chain)
      → let left : Outcome = applied_in begun (record chain {
        waiting = waiting_after chain.waiting begun;
        eras = eras_after chain.eras chain.waiting begun;
      }) in
      taken_behind numbers false who (option_to_list (option_map lines.Era begun) ++ left.lines) + waiting_due numbers who left.state.eras.queue
      ≤ waiting_due numbers who chain.eras.queue
  behind_begin None chain = omega arith
  behind_begin (Some era) chain =
      omega (
        arith,
        behind (length chain.eras.queue) false (record chain { waiting = None; eras = started (exposed chain.waiting) chain.eras }),
      )

module _ (era : ℕ) (who : AccountId) where
  -- one call
  call_due : (due : Option Refusal) (index : ℕ) (rule : CallRule) (chain : Chain) (numbers : List ℕ) → KeepsDues chain rule
      → All (λ n. n < chain.eras.next_slash) numbers → All (λ slash. slash.number < chain.eras.next_slash) chain.eras.queue
      → taken_for era who (event_of due rule) (call_after due index rule chain).lines
      + waiting_due (waiting_for era (event_of due rule) (call_after due index rule chain).lines ++ numbers) who (call_after due index rule chain).state.eras.queue
      ≤ given_by (makes_due era who) (event_of due rule) chain.eras + waiting_due numbers who chain.eras.queue
  call_due None index rule chain numbers keeps below given = keeps.waits era who index numbers below given
  call_due (Some refusal) index rule chain numbers keeps below given = omega arith

  below_after : (due : Option Refusal) (index : ℕ) (rule : CallRule) (chain : Chain) (numbers : List ℕ) → KeepsDues chain rule
      → All (λ n. n < chain.eras.next_slash) numbers
      → All (λ n. n < (call_after due index rule chain).state.eras.next_slash)
      (waiting_for era (event_of due rule) (call_after due index rule chain).lines ++ numbers)
  below_after None index rule chain numbers keeps below =
      All-append (λ n. n < rule.done.eras.next_slash) (waiting_for era rule.events (lines.CallOk index ∷ rule.told)) numbers (keeps.numbered era index)
      (All-weaker (λ n. n < chain.eras.next_slash) (λ n. n < rule.done.eras.next_slash) (λ n less. omega (arith, less, keeps.more)) numbers below)
  below_after (Some refusal) index rule chain numbers keeps below = below

  record IsWithin (index : ℕ) (calls : List Call) (chain : Chain) (numbers : List ℕ) : Type 0 where
    pub within : over_calls (taken_by era who) index calls chain
        + waiting_due (numbers_of era index calls chain numbers) who (calls_outcome index calls chain).state.eras.queue
        ≤ over_calls (due_by era who) index calls chain + waiting_due numbers who chain.eras.queue
    pub below : All (λ n. n < (calls_outcome index calls chain).state.eras.next_slash) (numbers_of era index calls chain numbers)

  calls_due : (index : ℕ) (calls : List Call) (chain : Chain) (numbers : List ℕ) → CanDefer chain → All (λ n. n < chain.eras.next_slash) numbers
      → IsWithin index calls chain numbers
  calls_due index [] chain numbers can below = record { within = omega arith; below = below }
  calls_due index (call ∷ calls) chain numbers can below =
      let keeps = (lawful_call call chain).dues in
      let due : Option Refusal = (rule_for chain call).refusal in
      let next : Chain = (call_outcome index call chain).state in
      let more : List ℕ = numbers_at era index call chain ++ numbers in
      let rest = calls_due (index + 1) calls next more (can_call index call chain can) (below_after due index (rule_for chain call) chain numbers keeps below) in
      record {
        within = omega (arith, rest.within, call_due due index (rule_for chain call) chain numbers keeps below can.order.queued.given);
        below = rest.below;
      }

  taken_blocks : (chain : Chain) (blocks : List Block) (numbers : List ℕ) → IsBetweenBlocks chain → chain.due + length blocks ≤ 2 ^ 32
      → All (λ n. n < chain.eras.next_slash) numbers
      → over_blocks (taken_by era who) chain blocks + applied_for era who numbers chain blocks
      ≤ over_blocks (due_by era who) chain blocks + waiting_due numbers who chain.eras.queue
  taken_blocks chain [] numbers rests fit below = omega arith
  taken_blocks chain (block ∷ more) numbers rests fit below =
      let before : Chain = before_calls chain in
      let next : Chain = (step chain block).state in
      let can = can_before chain rests.live rests.era (sound_waiting chain.waiting rests.elected rests.live.waiting) rests.slashes in
      let calls = calls_due 0 block.calls before numbers can (subst (λ most. All (λ n. n < most) numbers) (sym (slash_before chain)) below) in
      omega (
        arith,
        behind_begin numbers who (begun_era chain.params chain.due) chain,
        ap (λ (eras : Eras). waiting_due numbers who eras.queue) (eras_before chain),
        calls.within,
        taken_blocks next more (numbers_of era 0 block.calls before numbers) (between_step chain block rests (omega (arith, fit)))
            (omega (arith, fit, due_step chain block)) calls.below,
      )

pub taken_in_all : TakenInAllLaw
taken_in_all chain blocks era who numbers can below = taken_blocks era who chain blocks numbers can.between can.fit below
