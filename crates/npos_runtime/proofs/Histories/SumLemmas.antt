-- What parts of a step add to the books is what they tell.
use Rattle.std.proofs.Common.{◌≡◌, ℕ, zero, suc, ◌+◌, Bool, true, false, not, ◌==◌, List, [], ◌∷◌, ◌++◌, map, Option, Some, None, refl, ap, ◌∙◌, arith, if◌then◌else◌}
use Rattle.std.proofs.lemmas.Bool.Decides.{nat_tests}
use Rattle.std.proofs.lemmas.List.Sums.{sum_by-append, sum_by-cons}
use Rattle.block_wire.specs.declared.genesis.Endowment.{Endowment}
use Rattle.stake_ledger.specs.Rows as rows
use Rattle.stake_ledger.specs.Rows.{is_bonded}
use Rattle.stake_ledger.specs.Ledger.{Ledger, row_at, changed}
use Rattle.stake_ledger.specs.Calls.{endowed, minted_free, deposit_held, slashed, slash_amount}
use Rattle.era_book.specs.declared.exposure.Backer.{Backer}
use Rattle.era_book.specs.declared.deferred.DeferredSlash.{DeferredSlash}
use Rattle.era_book.specs.Deferred.{next_due, without_next_due}
use Rattle.election_snapshot.specs.Snapshot.{Snapshot}
use Rattle.weight_book.specs.Weights.{Weights}
use Rattle.submission_queue.specs.declared.submission.Submission.{Submission}
use Rattle.block_receipts.specs.declared.line.Line.{Line}
use Rattle.block_receipts.specs.declared.line.Line.TheVariants as lines
use Rattle.block_receipts.specs.Sums.{mints, burns}
use Rattle.chain_params.specs.Rules.{reward_of}
use Rattle.round_decision.specs.Deposits.{returned, burned, all_returned, all_burned, return_line, return_lines}
use Rattle.round_decision.specs.Decision.{losers, others, forfeit_line, reward_in, rewarded, paid_out, paid_lines, seat_line, member_line, books_decided}
use Rattle.npos_runtime.specs.declared.chain.Chain.{Chain}
use Rattle.npos_runtime.specs.Rules.Outcome.{Outcome}
use Rattle.npos_runtime.specs.Rules.Offices.{all_minted, paid_line, slash_told, slashed_once, slash_outcome, slashes, apply_slash, applied}
use Rattle.npos_runtime.specs.Rules.Deciding.{committee_of, decided}
use Rattle.npos_runtime.specs.Genesis.{endowment_sum, endowed_all}
use Rattle.npos_runtime.specs.Histories.Sums.{AddsUp}

-- ## One thing after the other

-- rows alone change, and nothing is told
pub adds_none : (old new : Ledger) → new ≡ record old { rows = new.rows } → AddsUp old [] new
adds_none old new same = record {
  genesis = ap (λ (book : Ledger). book.genesis) same;
  minted = omega (arith, ap (λ (book : Ledger). book.minted) same);
  burned = omega (arith, ap (λ (book : Ledger). book.burned) same);
}

pub adds_then : (a b c : Ledger) (first next : List Line) → AddsUp a first b → AddsUp b next c → AddsUp a (first ++ next) c
adds_then a b c first next p q = record {
  genesis = q.genesis ∙ p.genesis;
  minted = omega (arith, sum_by-append mints first next, p.minted, q.minted);
  burned = omega (arith, sum_by-append burns first next, p.burned, q.burned);
}

-- a line before the others that tells of no units
pub adds_behind : (line : Line) (old new : Ledger) (told : List Line) → mints line ≡ 0 → burns line ≡ 0 → AddsUp old told new → AddsUp old (line ∷ told) new
adds_behind line old new told unminted unburned adds = record {
  genesis = adds.genesis;
  minted = omega (arith, sum_by-cons mints line told, unminted, adds.minted);
  burned = omega (arith, sum_by-cons burns line told, unburned, adds.burned);
}

-- ## Payouts

pub adds_paid : (paid : List Backer) (book : Ledger) → AddsUp book (map paid_line paid) (all_minted paid book)
adds_paid [] book = adds_none book book refl
adds_paid (line ∷ more) book =
    adds_then book (minted_free line.who line.amount book) (all_minted more (minted_free line.who line.amount book)) (paid_line line ∷ []) (map paid_line more)
    (record { genesis = refl; minted = omega (arith, sum_by-cons mints (paid_line line) []); burned = omega (arith, sum_by-cons burns (paid_line line) []) })
    (adds_paid more (minted_free line.who line.amount book))

-- ## Slashes

-- where nothing is bonded nothing is taken
adds_slashed : (due : Backer) (book : Ledger)
    → AddsUp book (slash_told due.who (slash_amount (row_at book due.who) due.amount)) (slashed due.who due.amount book)
adds_slashed due book = at (is_bonded (row_at book due.who)) (taken == 0) refl refl where
  taken : ℕ
  taken = slash_amount (row_at book due.who) due.amount

  left : Ledger
  left = record (changed due.who (rows.slashed_row due.amount) book) { burned = book.burned + taken }

  at : (bonded nothing : Bool) → is_bonded (row_at book due.who) ≡ bonded → (taken == 0) ≡ nothing
      → AddsUp book (if nothing then [] else lines.Slashed due.who taken ∷ []) (if not bonded then book else left)
  at false true e f = adds_none book book refl
  at false false e f = absurd (grind (arith, nat_tests))
  at true true e f =
      let none : taken ≡ 0 = grind (arith, nat_tests) in record { genesis = refl; minted = omega arith; burned = omega (arith, none) }
  at true false e f = record {
    genesis = refl;
    minted = omega (arith, sum_by-cons mints (lines.Slashed due.who taken) []);
    burned = omega (arith, sum_by-cons burns (lines.Slashed due.who taken) []);
  }

pub adds_slashes : (dues : List Backer) (chain : Chain) → AddsUp chain.book (slashes dues chain).lines (slashes dues chain).state.book
adds_slashes [] chain = adds_none chain.book chain.book refl
adds_slashes (due ∷ more) chain =
    let next : Chain = slashed_once due chain in
    adds_then chain.book next.book (slashes more next).state.book (slash_outcome due chain).lines (slashes more next).lines
    (adds_slashed due chain.book) (adds_slashes more next)

adds_apply : (found : Option DeferredSlash) (chain : Chain) → AddsUp chain.book (apply_slash found chain).lines (apply_slash found chain).state.book
adds_apply None chain = adds_none chain.book chain.book refl
adds_apply (Some slash) chain =
    let start : Chain = record chain { eras = without_next_due chain.eras } in
    adds_behind (lines.Applied slash.number) chain.book (slashes slash.lines start).state.book (slashes slash.lines start).lines refl refl
    (adds_slashes slash.lines start)

pub adds_applied : (count : ℕ) (chain : Chain) → AddsUp chain.book (applied count chain).lines (applied count chain).state.book
adds_applied zero chain = adds_none chain.book chain.book refl
adds_applied (suc more) chain =
    let first : Outcome = apply_slash (next_due chain.eras) chain in
    adds_then chain.book first.state.book (applied more first.state).state.book first.lines (applied more first.state).lines
    (adds_apply (next_due chain.eras) chain) (adds_applied more first.state)

-- ## Deposits

adds_return : (item : Submission) (book : Ledger) → AddsUp book (return_line item ∷ []) (returned book item)
adds_return item book =
    adds_behind (return_line item) book (returned book item) [] refl refl (adds_none book (returned book item) (at (item.deposit == 0))) where
      at : (nothing : Bool) → let new : Ledger = if nothing then book else changed item.who (rows.returned item.deposit) book in
          new ≡ record book { rows = new.rows }
      at true = refl
      at false = refl

pub adds_returned : (items : List Submission) (book : Ledger) → AddsUp book (return_lines items) (all_returned items book)
adds_returned [] book = adds_none book book refl
adds_returned (item ∷ more) book =
    adds_then book (returned book item) (all_returned more (returned book item)) (return_line item ∷ []) (return_lines more)
    (adds_return item book) (adds_returned more (returned book item))

adds_forfeit : (snapshot : Snapshot) (item : Submission) (book : Ledger) → AddsUp book (forfeit_line snapshot item ∷ []) (burned book item)
adds_forfeit snapshot item book = at (item.deposit == 0) refl where
  line : Line
  line = forfeit_line snapshot item

  at : (nothing : Bool) → (item.deposit == 0) ≡ nothing
      → AddsUp book (line ∷ [])
      (if nothing then book else record (changed item.who (rows.forfeited item.deposit) book) { burned = book.burned + item.deposit })
  at true e =
      let none : item.deposit ≡ 0 = grind (arith, nat_tests) in
      record { genesis = refl; minted = omega (arith, sum_by-cons mints line []); burned = omega (arith, sum_by-cons burns line [], none) }
  at false e = record { genesis = refl; minted = omega (arith, sum_by-cons mints line []); burned = omega (arith, sum_by-cons burns line []) }

adds_forfeited : (snapshot : Snapshot) (items : List Submission) (book : Ledger)
    → AddsUp book (map (forfeit_line snapshot) items) (all_burned items book)
adds_forfeited snapshot [] book = adds_none book book refl
adds_forfeited snapshot (item ∷ more) book =
    adds_then book (burned book item) (all_burned more (burned book item)) (forfeit_line snapshot item ∷ []) (map (forfeit_line snapshot) more)
    (adds_forfeit snapshot item book) (adds_forfeited snapshot more (burned book item))

-- ## A decision

adds_rewarded : (reward : ℕ) (items : List Submission) (book : Ledger) → AddsUp book (paid_lines reward items book) (paid_out reward items book)
adds_rewarded reward [] book = adds_none book book refl
adds_rewarded reward (winner ∷ rest) book =
    let back : Ledger = returned book winner in
    let line : Line = lines.Reward winner.number (reward_in reward back) in
    adds_then book back (paid_out reward (winner ∷ rest) book) (return_line winner ∷ []) (line ∷ return_lines rest) (adds_return winner book)
    (adds_then back (rewarded reward back winner) (paid_out reward (winner ∷ rest) book) (line ∷ []) (return_lines rest)
    (record { genesis = refl; minted = omega (arith, sum_by-cons mints line []); burned = omega (arith, sum_by-cons burns line []) })
    (adds_returned rest (rewarded reward back winner)))

adds_members : (snapshot : Snapshot) (weights : Weights) (members : List ℕ) (book : Ledger)
    → AddsUp book (map (member_line snapshot weights) members) book
adds_members snapshot weights [] book = adds_none book book refl
adds_members snapshot weights (member ∷ more) book =
    adds_behind (member_line snapshot weights member) book book (map (member_line snapshot weights) more) refl refl (adds_members snapshot weights more book)

adds_seat : (round : ℕ) (items : List Submission) (book : Ledger) → AddsUp book (seat_line round items ∷ []) book
adds_seat round [] book = adds_behind (lines.SeatFill round) book book [] refl refl (adds_none book book refl)
adds_seat round (winner ∷ rest) book = adds_behind (lines.SeatSigned round winner.number) book book [] refl refl (adds_none book book refl)

pub adds_decided : (round : ℕ) (snapshot : Snapshot) (commissions : List ℕ) (chain : Chain)
    → AddsUp chain.book (decided round snapshot commissions chain).lines (decided round snapshot commissions chain).state.book
adds_decided round snapshot commissions chain =
    let items : List Submission = chain.queue.items in
    let left : Ledger = all_burned (losers snapshot items) chain.book in
    let end : Ledger = books_decided (reward_of chain.params) snapshot items chain.book in
    let weights : Weights = (committee_of snapshot commissions items).weights in
    let gone : List Line = map (forfeit_line snapshot) (losers snapshot items) in
    let paid : List Line = paid_lines (reward_of chain.params) (others snapshot items) left in
    let seat : List Line = seat_line round (others snapshot items) ∷ [] in
    adds_then chain.book end end (gone ++ (paid ++ seat)) (map (member_line snapshot weights) weights.committee)
    (adds_then chain.book left end gone (paid ++ seat) (adds_forfeited snapshot (losers snapshot items) chain.book)
    (adds_then left end end paid seat (adds_rewarded (reward_of chain.params) (others snapshot items) left) (adds_seat round (others snapshot items) end)))
    (adds_members snapshot weights weights.committee end)

-- ## Submissions

pub adds_submitted : (item : Submission) (out : List Submission) (book : Ledger)
    → AddsUp book (return_lines out) (all_returned out (deposit_held item.who item.deposit book))
adds_submitted item out book =
    let held : Ledger = deposit_held item.who item.deposit book in
    adds_then book held (all_returned out held) [] (return_lines out) (adds_none book held refl) (adds_returned out held)

-- ## Endowments

-- the books count what was endowed, and nothing else came or went
pub record CountsEndowments (endowments : List Endowment) (old new : Ledger) : Type 0 where
  pub genesis : new.genesis ≡ old.genesis + endowment_sum endowments
  pub minted : new.minted ≡ old.minted
  pub burned : new.burned ≡ old.burned

pub counts_endowments : (endowments : List Endowment) (book : Ledger) → CountsEndowments endowments book (endowed_all endowments book)
counts_endowments [] book = record { genesis = omega arith; minted = refl; burned = refl }
counts_endowments (endowment ∷ more) book =
    let rest = counts_endowments more (endowed endowment.who endowment.value book) in
    record {
      genesis = omega (arith, sum_by-cons (λ (e : Endowment). e.value) endowment more, rest.genesis);
      minted = rest.minted;
      burned = rest.burned;
    }
