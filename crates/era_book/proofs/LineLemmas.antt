-- The lines of payouts and slashes, and what they are together.
use Rattle.std.proofs.Common.{◌≡◌, ℕ, zero, suc, ◌+◌, ◌-◌, ◌<◌, ◌≤◌, Bool, true, false, cond, not, nat_lt, List, [], ◌∷◌, length, get_or, map, find, sum_by, Some, refl, ap, sym, ◌∙◌, arith}
use Rattle.std.specs.Option.{option_map_or}
use Rattle.std.proofs.lemmas.Bool.Decides.{nat_tests}
use Rattle.std.proofs.lemmas.List.Sums.{sum_by-cons, get_or-le-sum_by}
use Rattle.npos_base.specs.declared.account.AccountId.{AccountId}
use Rattle.npos_base.specs.declared.limits.TheConstants.{WHOLE_FRACTION}
use Rattle.npos_base.specs.Account.{same_account, account_at}
use Rattle.era_book.specs.declared.exposure.Backer.{Backer}
use Rattle.era_book.specs.declared.exposure.Exposure.{Exposure}
use Rattle.era_book.specs.Exposures.{amount_sum, IsSoundExposure}
use Rattle.era_book.specs.declared.seat.Share.{Share}
use Rattle.era_book.specs.Seats.{backer_seen, backers_seen}
use Rattle.era_book.specs.Payouts.{part, line, kept_lines, own_part, others, commission_of, share, validator_line, backer_line, payout_lines}
use Rattle.era_book.proofs.PartLemmas.{part_within, parts_within, two_parts}

-- lines of 0 add nothing to a sum to which they bring nothing
pub kept_sum : (f : Backer → ℕ) → ((l : Backer) → l.amount ≡ 0 → f l ≡ 0) → (ls : List Backer) → sum_by f (kept_lines ls) ≡ sum_by f ls
kept_sum f nothing [] = refl
kept_sum f nothing (l ∷ ls) = at (nat_lt 0 l.amount) refl (kept_sum f nothing ls) where
  at : (b : Bool) → nat_lt 0 l.amount ≡ b → sum_by f (kept_lines ls) ≡ sum_by f ls → sum_by f (cond b (l ∷ kept_lines ls) (kept_lines ls)) ≡ sum_by f (l ∷ ls)
  at true some rest = sum_by-cons f l (kept_lines ls) ∙ ap (λ n. f l + n) rest ∙ sym (sum_by-cons f l ls)
  at false none rest =
      let zero_amount : l.amount ≡ 0 = grind (arith, nat_tests) in
      omega (arith, rest, sum_by-cons f l ls, nothing l zero_amount)

pub kept_amount_sum : (ls : List Backer) → amount_sum (kept_lines ls) ≡ amount_sum ls
kept_amount_sum ls = kept_sum (λ l. l.amount) (λ l none. none) ls

-- what one backer gives is at most what all give
pub amount_within : (bs : List Backer) (i : ℕ) (d : Backer) → i < length bs → (get_or bs i d).amount ≤ amount_sum bs
amount_within bs i d h = get_or-le-sum_by (λ (b : Backer). b.amount) bs i d h

-- the validator's own part and the others' are at most all
others_within : (v : AccountId) (bs : List Backer) → amount_sum (others v bs) ≤ amount_sum bs
others_within v [] = omega arith
others_within v (b ∷ bs) = at (same_account b.who v) (others_within v bs) where
  at : (t : Bool) → amount_sum (others v bs) ≤ amount_sum bs → amount_sum (cond (not t) (b ∷ others v bs) (others v bs)) ≤ amount_sum (b ∷ bs)
  at true rest = omega (arith, rest, sum_by-cons (λ (l : Backer). l.amount) b bs)
  at false rest = omega (arith, rest, sum_by-cons (λ (l : Backer). l.amount) b bs, sum_by-cons (λ (l : Backer). l.amount) b (others v bs))

pub own_and_others : (v : AccountId) (bs : List Backer) → own_part v bs + amount_sum (others v bs) ≤ amount_sum bs
own_and_others v [] = omega arith
own_and_others v (b ∷ bs) = at (same_account b.who v) (own_and_others v bs) where
  at : (t : Bool) → own_part v bs + amount_sum (others v bs) ≤ amount_sum bs
      → option_map_or (λ (l : Backer). l.amount) (cond t (Some b) (find (λ (l : Backer). same_account l.who v) bs)) 0 + amount_sum (cond (not t) (b ∷ others v bs) (others v bs)) ≤ amount_sum (b ∷ bs)
  at true rest = omega (arith, others_within v bs, sum_by-cons (λ (l : Backer). l.amount) b bs)
  at false rest = omega (arith, rest, sum_by-cons (λ (l : Backer). l.amount) b bs, sum_by-cons (λ (l : Backer). l.amount) b (others v bs))

pub own_within : (v : AccountId) (bs : List Backer) → own_part v bs ≤ amount_sum bs
own_within v bs = omega (arith, own_and_others v bs)

-- the shares of all backers are at most the rest
shares_sum : (exposure : Exposure) (value : ℕ) (bs : List Backer) → amount_sum (map (backer_line exposure value) bs) ≡ sum_by (λ b. share exposure value b.amount) bs
shares_sum exposure value [] = refl
shares_sum exposure value (b ∷ bs) =
    sum_by-cons (λ (l : Backer). l.amount) (backer_line exposure value b) (map (backer_line exposure value) bs)
    ∙ ap (λ n. share exposure value b.amount + n) (shares_sum exposure value bs)
    ∙ sym (sum_by-cons (λ (l : Backer). share exposure value l.amount) b bs)

-- a payout is at most the value that is to be paid
pub payout_within : (exposure : Exposure) (value : ℕ) → IsSoundExposure exposure → amount_sum (payout_lines exposure value) ≤ value
payout_within exposure value sound =
    let rest : ℕ = value - commission_of exposure value in
    let own : ℕ = own_part exposure.validator exposure.backers in
    let outer : List Backer = others exposure.validator exposure.backers in
    let lines : List Backer = map (backer_line exposure value) outer in
    let commission : commission_of exposure value ≤ value = part_within value exposure.commission WHOLE_FRACTION sound.commission in
    let shares : sum_by (λ (b : Backer). share exposure value b.amount) outer ≤ part rest (amount_sum outer) exposure.support = parts_within (λ (b : Backer). b.amount) rest exposure.support outer in
    let both : part rest own exposure.support + part rest (amount_sum outer) exposure.support ≤ part rest
    (own + amount_sum outer) exposure.support = two_parts rest own (amount_sum outer) exposure.support in
    let all : part rest (own + amount_sum outer) exposure.support ≤ rest =
    part_within rest (own + amount_sum outer) exposure.support (omega (arith, own_and_others exposure.validator exposure.backers, sound.support)) in
    omega (
      arith,
      kept_amount_sum (validator_line exposure value ∷ lines),
      sum_by-cons (λ (l : Backer). l.amount) (validator_line exposure value) lines,
      shares_sum exposure value outer,
      commission,
      shares,
      both,
      all,
    )

-- the lines of the others among some backers
abbrev pub other_lines : AccountId → ℕ → ℕ → List Backer → List Backer
other_lines v rest support bs = kept_lines (map (λ b. line b.who (part rest b.amount support)) (others v bs))

-- ---- what shares hold, by the accounts that they name
pub own_seen : (v : AccountId) (accounts : List AccountId) (shares : List Share)
    → option_map_or (λ (share : Share). share.amount) (find (λ (share : Share). same_account (account_at accounts share.place) v) shares) 0 ≡ own_part v (backers_seen accounts shares)
own_seen v accounts [] = refl
own_seen v accounts (s ∷ ss) = at (same_account (account_at accounts s.place) v) (own_seen v accounts ss) where
  at : (t : Bool)
      → option_map_or (λ (share : Share). share.amount) (find (λ (share : Share). same_account (account_at accounts share.place) v) ss) 0 ≡ own_part v (backers_seen accounts ss)
      → option_map_or (λ (share : Share). share.amount) (cond t (Some s) (find (λ (share : Share). same_account (account_at accounts share.place) v) ss)) 0
      ≡ option_map_or (λ (l : Backer). l.amount) (cond t (Some (backer_seen accounts s)) (find (λ (l : Backer). same_account l.who v) (backers_seen accounts ss))) 0
  at true rest = refl
  at false rest = rest

pub share_within : (accounts : List AccountId) (shares : List Share) (i : ℕ) (d : Share) → i < length shares → (get_or shares i d).amount ≤ amount_sum (backers_seen accounts shares)
share_within accounts [] i d few = absurd (omega arith)
share_within accounts (s ∷ ss) zero d few = omega (arith, sum_by-cons (λ (l : Backer). l.amount) (backer_seen accounts s) (backers_seen accounts ss))
share_within accounts (s ∷ ss) (suc i) d few =
    omega (arith, share_within accounts ss i d (omega (arith, few)), sum_by-cons (λ (l : Backer). l.amount) (backer_seen accounts s) (backers_seen accounts ss))
