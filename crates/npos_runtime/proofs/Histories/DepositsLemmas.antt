-- Behind a decision nothing waits, and what was issued by then stays settled once.
use Rattle.std.proofs.Common.{◌≡◌, ◌≢◌, ◌⊎◌, inl, inr, ℕ, suc, ◌+◌, ◌≤◌, ◌<◌, ◌^◌, Bool, true, false, cond, ◌==◌, nat_lt, List, [], ◌∷◌, ◌++◌, All}
use Rattle.std.proofs.Common.{AllPairs, length, Option, Some, None, refl, sym, ◌∙◌, ap, subst, arith, if◌then◌else◌, true≢false, append_assoc}
use Rattle.std.proofs.lemmas.Bool.Decides.{eqb_tells, nat_tests}
use Rattle.std.proofs.lemmas.List.Elements.{All-head, All-tail}
use Rattle.std.proofs.lemmas.List.{length-append}
use Rattle.std.proofs.lemmas.List.Sums.{sum_by-append}
use Rattle.block_wire.specs.declared.genesis.Params.{Params}
use Rattle.block_wire.specs.declared.genesis.Genesis.{Genesis}
use Rattle.block_wire.specs.declared.block.Block.{Block}
use Rattle.submission_queue.specs.declared.submission.Submission.{Submission}
use Rattle.chain_params.specs.Rules.{era_of, place_of, is_decision}
use Rattle.chain_params.specs.Faults.{params_fault, AreSound}
use Rattle.chain_params.proofs.PhaseLemmas.{next_place, first_next, phases_sound}
use Rattle.npos_runtime.specs.declared.chain.Chain.{Chain}
use Rattle.npos_runtime.specs.declared.round.Round.{Round}
use Rattle.npos_runtime.specs.declared.round.Round.TheVariants as rounds
use Rattle.npos_runtime.specs.Genesis.{genesis_chain}
use Rattle.npos_runtime.specs.Step.{step, after_blocks, told_by}
use Rattle.npos_runtime.specs.Histories.Fates.{fate, waiting_with, issued}
use Rattle.npos_runtime.specs.Live.{IsBetweenBlocks, IsInTime}
use Rattle.npos_runtime.specs.History.{CanTake, IsHistory}
use Rattle.npos_runtime.specs.Histories.Deposits.{AreSettledBy, DepositsLaw, DepositsGoOnLaw}
use Rattle.npos_runtime.proofs.Rules.OfficeCallLemmas.{settling}
use Rattle.npos_runtime.proofs.Rules.BeginLemmas.{start_law}
use Rattle.npos_runtime.proofs.Histories.LawLemmas.{held_after}
use Rattle.npos_runtime.proofs.Histories.FateLemmas.{one_fate, settled_law}
use Rattle.npos_runtime.proofs.Histories.FairLemmas.{waiting_more}
use Rattle.npos_runtime.proofs.Rules.LiveLemmas.{due_step, params_step, params_blocks}
use Rattle.npos_runtime.proofs.Histories.TimeLemmas.{between_step, between_blocks}

-- ## One block behind the other

pub after_append : (chain : Chain) (first next : List Block)
    → after_blocks chain (first ++ next) ≡ after_blocks (after_blocks chain first) next
after_append chain [] next = refl
after_append chain (block ∷ first) next = after_append (step chain block).state first next

pub told_append : (chain : Chain) (first next : List Block)
    → told_by chain (first ++ next) ≡ told_by chain first ++ told_by (after_blocks chain first) next
told_append chain [] next = refl
told_append chain (block ∷ first) next =
    ap (λ told. (step chain block).lines ++ told) (told_append (step chain block).state first next)
    ∙ sym (append_assoc (step chain block).lines (told_by (step chain block).state first)
    (told_by (after_blocks (step chain block).state first) next))

pub due_blocks : (chain : Chain) (blocks : List Block) → (after_blocks chain blocks).due ≡ chain.due + length blocks
due_blocks chain [] = omega arith
due_blocks chain (block ∷ more) = omega (arith, due_blocks (step chain block).state more, due_step chain block)

-- ## Behind a decision

module _ (params : Params) (sound : params_fault params ≡ None) where
  -- no round is open behind the place of the decision
  over : (due : ℕ) (round : Option Round) (items : List Submission) → 1 ≤ due → place_of params due ≡ params.offset + params.signed
      → IsInTime round (Some params) (due + 1) items → items ≡ []
  over due None items from last time = time
  over due (Some (rounds.Void number)) items from last time = time
  over due (Some (rounds.Open number snapshot commissions)) items from last time =
      let within = (phases_sound params sound).1 in
      by (next_place params due (omega (arith, within)) from) where
        by : ((place_of params (due + 1) ≡ place_of params due + 1) × (era_of (Some params) (due + 1) ≡ era_of (Some params) due))
            ⊎ ((place_of params due + 1 ≡ params.era_blocks) × (era_of (Some params) (due + 1) ≡ era_of (Some params) due + 1)) → items ≡ []
        by (inl (on, same)) = absurd (omega (arith, on, last, time.undecided))
        by (inr (end, past)) = absurd (let next = first_next params due from end past in omega (arith, next, time.begun))

pub emptied : (chain : Chain) (block : Block) → IsBetweenBlocks chain → chain.due < 2 ^ 32 → is_decision chain.params chain.due ≡ true
    → (step chain block).state.queue.items ≡ []
emptied chain block rests more is = at chain.params refl where
  next : IsBetweenBlocks (step chain block).state
  next = between_step chain block rests more

  at : (params : Option Params) → chain.params ≡ params → (step chain block).state.queue.items ≡ []
  at None none = absurd (true≢false (sym is ∙ ap (λ (ps : Option Params). is_decision ps chain.due) none))
  at (Some params) are =
      let decides : (place_of params chain.due == params.offset + params.signed) ≡ true =
      ap (λ (ps : Option Params). is_decision ps chain.due) (sym are) ∙ is in
      let last : place_of params chain.due ≡ params.offset + params.signed = grind (arith, nat_tests) in
      over params (subst AreSound are rests.live.params) chain.due (step chain block).state.round
      (step chain block).state.queue.items rests.live.due.at_least last
      (subst (λ due. IsInTime (step chain block).state.round (Some params) due (step chain block).state.queue.items) (due_step chain block)
      (subst (λ (ps : Option Params). IsInTime (step chain block).state.round ps (step chain block).state.due
      (step chain block).state.queue.items)
      (params_step chain block ∙ are) next.timely))

issued_one : (number next : ℕ) → number < next → issued number next ≡ 1
issued_one number next below = let is : nat_lt number next ≡ true = grind (arith, nat_tests) in ap (λ b. if b then 1 else 0) is

issued_most : (number next : ℕ) → issued number next ≤ 1
issued_most number next = at (nat_lt number next) where
  at : (b : Bool) → (if b then 1 else 0) ≤ 1
  at true = omega arith
  at false = omega arith

module _ (genesis : Genesis) (before : List Block) (decision : Block) (more : List Block)
    (history : IsHistory genesis (before ++ decision ∷ more))
    (is : is_decision (genesis_chain genesis).params (after_blocks (genesis_chain genesis) before).due ≡ true) where
  abbrev chain : Chain
  chain = genesis_chain genesis

  abbrev first : List Block
  first = before ++ decision ∷ []

  lengths : length (before ++ decision ∷ more) ≡ length before + (1 + length more)
  lengths = omega (arith, length-append before (decision ∷ more))

  whole : first ++ more ≡ before ++ decision ∷ more
  whole = append_assoc before (decision ∷ []) more

  history_first : IsHistory genesis first
  history_first = record { faultless = history.faultless; fit = omega (arith, length-append before (decision ∷ []), lengths, history.fit) }

  empty : (after_blocks chain first).queue.items ≡ []
  empty =
      let rests =
      between_blocks chain before (start_law genesis (before ++ decision ∷ more) history).between (omega (arith, lengths, history.fit)) in
      ap (λ (c : Chain). c.queue.items) (after_append chain before (decision ∷ []))
      ∙ emptied (after_blocks chain before) decision rests (omega (arith, due_blocks chain before, lengths, history.fit))
      (ap (λ (ps : Option Params). is_decision ps (after_blocks chain before).due) (params_blocks chain before) ∙ is)

  settled : (number : ℕ) → 1 ≤ number → number < (after_blocks chain first).next → fate number (told_by chain first) ≡ 1
  settled number from below =
      omega (
        arith,
        one_fate number genesis first history_first from,
        ap (waiting_with number) empty,
        issued_one number
            (after_blocks chain first).next below,
      )

  once : (number : ℕ) → 1 ≤ number → number < (after_blocks chain first).next → fate number (told_by chain (before ++ decision ∷ more)) ≡ 1
  once number from below =
      omega (
        arith,
        settled number from below,
        ap (λ blocks. fate number (told_by chain blocks)) whole,
        ap (fate number) (told_append chain first more),
        sum_by-append (settling number) (told_by chain first) (told_by (after_blocks chain first) more),
        one_fate number genesis (before ++ decision ∷ more) history from,
        issued_most number (after_blocks chain (before ++ decision ∷ more)).next,
      )

  pub settled_by : AreSettledBy chain before decision more
  settled_by = record { emptied = empty; settled = settled; once = once }

pub deposits_law : DepositsLaw
deposits_law genesis blocks history = record {
  held = λ who. held_after (genesis_chain genesis) blocks who (start_law genesis blocks history);
  fates = λ number from. one_fate number genesis blocks history from;
  decided = λ before more decision parts is. settled_by genesis before decision more (subst (IsHistory genesis) parts history) is;
}

-- ## From any chain on

-- submissions with numbers apart, all given: each number waits once, if it was given, and no other does
module _ (number next : ℕ) where
  none_waits : (items : List Submission) → All (λ item. item.number ≢ number) items → waiting_with number items ≡ 0
  none_waits [] others = refl
  none_waits (item ∷ items) others =
      let rest = none_waits items (All-tail (λ (other : Submission). other.number ≢ number) item items others) in
      elim (eqb_tells item.number number) [
        | inl same ↦ absurd (All-head (λ (other : Submission). other.number ≢ number) item items others same.1)
        | inr other ↦ omega (arith, waiting_more number item items, ap {B = ℕ} (λ b. cond b 1 0) other.0, rest)
      ]

  waits_once : (items : List Submission) → All (λ item. item.number < next) items
      → AllPairs (λ (first later : Submission). first.number ≢ later.number) items → waiting_with number items ≤ issued number next
  waits_once [] given apart = omega arith
  waits_once (item ∷ items) given apart =
      let rest = waits_once items (All-tail (λ (other : Submission). other.number < next) item items given)
      (λ i j d before below. apart (suc i) (suc j) d (omega (arith, before)) (omega (arith, below))) in
      elim (eqb_tells item.number number) [
        | inl same ↦ omega (
          arith,
          waiting_more number item items,
          ap {B = ℕ} (λ b. cond b 1 0) same.0,
          none_waits items (λ k d under is. apart 0 (suc k) d (omega arith) (omega (arith, under)) (same.1 ∙ sym is)),
          issued_one number next (omega (arith, same.1, All-head (λ (other : Submission). other.number < next) item items given)),
        )
        | inr other ↦ omega (arith, waiting_more number item items, ap {B = ℕ} (λ b. cond b 1 0) other.0, rest)
      ]

emptied_behind : (chain : Chain) (before more : List Block) (decision : Block) → CanTake chain (before ++ decision ∷ more)
    → is_decision chain.params (after_blocks chain before).due ≡ true → (after_blocks chain (before ++ decision ∷ [])).queue.items ≡ []
emptied_behind chain before more decision can decides =
    let fits = can.fit in
    let count = length-append before (decision ∷ more) in
    ap (λ (c : Chain). c.queue.items) (after_append chain before (decision ∷ []))
    ∙ emptied (after_blocks chain before) decision (between_blocks chain before can.between (omega (arith, count, fits)))
    (omega (arith, due_blocks chain before, count, fits))
    (ap (λ (params : Option Params). is_decision params (after_blocks chain before).due) (params_blocks chain before) ∙ decides)

pub deposits_go_on : DepositsGoOnLaw
deposits_go_on chain blocks can sound = record {
  held = λ who. held_after chain blocks who can;
  waited = λ number. waits_once number chain.next chain.queue.items (λ k d below. (sound.accepted k d below).given) sound.apart;
  fates = λ number. settled_law chain blocks number can;
  emptied = λ before more decision parts decides. emptied_behind chain before more decision (subst (CanTake chain) parts can) decides;
}
