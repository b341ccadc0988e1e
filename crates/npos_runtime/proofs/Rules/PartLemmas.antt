-- The parts of a chain: some change, and the others stay.
use Rattle.std.proofs.Common.{◌≡◌, ◌≢◌, ◌⊎◌, inl, inr, ℕ, ◌+◌, Bool, true, false, List, Option, Some, None, option_map, refl, sym, ap, subst, is_some, if◌then◌else◌}
use Rattle.std.specs.Option.{unwrap_or, option_or}
use Rattle.std.proofs.lemmas.Bool.Decides.{eqb_tells}
use Rattle.npos_base.specs.declared.account.AccountId.{AccountId}
use Rattle.block_wire.specs.declared.genesis.Params.{Params}
use Rattle.npos_base.specs.Account.{same_account}
use Rattle.stake_ledger.specs.declared.chunks.Chunk.{Chunk}
use Rattle.stake_ledger.specs.declared.row.Row.{Row}
use Rattle.stake_ledger.specs.Rows.{empty_row}
use Rattle.stake_ledger.specs.Ledger.{Ledger, row_at, changed}
use Rattle.stake_ledger.proofs.LedgerLemmas.{row_of-changed, others_stay}
use Rattle.voter_lists.specs.Roles.{RoleList, without_role}
use Rattle.voter_lists.specs.Bags.{Listing, removed}
use Rattle.submission_queue.specs.Ranking.{IsOrdered}
use Rattle.era_book.specs.Eras.{Eras}
use Rattle.npos_runtime.specs.declared.chain.Chain.{Chain}
use Rattle.npos_runtime.specs.Rules.Lists.{has_role, followed, with_stake, is_over, retired}
use Rattle.npos_runtime.specs.Rules.BookCalls.{release_now}
use Rattle.chain_params.specs.Faults.{AreSound, CanWait}
use Rattle.chain_params.specs.Rules.{era_of, bonding_eras_of}
use Rattle.npos_runtime.specs.Live.{IsLive, AreBooks, AreRoles, IsListing, IsSoundRound, IsNotedCommittee, CanBeDue}
use Rattle.npos_runtime.proofs.Rules.ListLemmas.{IsListed, listed_from, listing_from, kept_followed, kept_removed}
use Rattle.npos_runtime.proofs.Rules.RoleLemmas.{apart_from, standing_without, standing_without_other, kept_without}

-- two accounts are one, or they are not
pub same_or_not : (a b : AccountId) → (a ≡ b) ⊎ (a ≢ b)
same_or_not a b = elim (eqb_tells a.hi b.hi) [
  | inr hi ↦ inr (λ e. hi.1 (ap (λ (x : AccountId). x.hi) e))
  | inl hi ↦ elim (eqb_tells a.lo b.lo) [
    | inr lo ↦ inr (λ e. lo.1 (ap (λ (x : AccountId). x.lo) e))
    | inl lo ↦ inl (λ i. record { hi = hi.1 i; lo = lo.1 i })
  ]
]

-- what holds of every account's chunks holds after one row changed, if it holds of that row
pub chunks_changed : (P : List Chunk → Type 0) (who : AccountId) (change : Row → Row) (ledger : Ledger)
    → ((other : AccountId) → P (row_at ledger other).chunks) → P (change (row_at ledger who)).chunks
    → (other : AccountId) → P (row_at (changed who change ledger) other).chunks
chunks_changed P who change ledger before now other = elim (same_or_not other who) [
  | inl same ↦ subst (λ (w : AccountId). P (row_at (changed who change ledger) w).chunks) (sym same)
      (subst (λ (o : Option Row). P (unwrap_or o empty_row).chunks) (sym (row_of-changed who change ledger)) now)
  | inr differ ↦ subst (λ (o : Option Row). P (unwrap_or o empty_row).chunks) (sym (others_stay who change ledger other differ))
      (before other)
]

-- a refusal that is none comes from none
pub none_inside : {A B : Type 0} (f : A → B) (o : Option A) → option_map f o ≡ None → o ≡ None
none_inside f None e = refl
none_inside f (Some a) e = cc

pub first_none : {A : Type 0} (a b : Option A) → option_or a b ≡ None → a ≡ None
first_none None b e = refl
first_none (Some x) b e = absurd (cc)

pub second_none : {A : Type 0} (a b : Option A) → option_or a b ≡ None → b ≡ None
second_none None b e = e
second_none (Some r) b e = cc

waits_with : (old new : Option Params) (defer more : ℕ) → new ≡ old → more ≡ defer → CanWait old defer → CanWait new more
waits_with old new defer more params same can = subst (λ (ps : Option Params). CanWait ps more) (sym params) (subst (CanWait old) (sym same) can)

-- The one place where a live chain is put together anew: each part that changed keeps what it must.
pub live_with : {chain new : Chain} → new.params ≡ chain.params → new.defer ≡ chain.defer → new.due ≡ chain.due → IsLive chain
    → AreBooks (release_now chain) new.queue.items new.book
    → AreRoles new.roles → IsListing new.roles new.bags → IsSoundRound new.round → IsOrdered new.queue → IsNotedCommittee new.waiting
    → IsLive new
live_with {chain = chain} {new = new} params defer due live books roles bags round queue waiting = record {
  params = subst AreSound (sym params) live.params;
  defer = waits_with chain.params new.params chain.defer new.defer params defer live.defer;
  due = subst CanBeDue (sym due) live.due;
  books =
      subst (λ release. AreBooks release new.queue.items new.book)
      (λ i. era_of (sym params i) (sym due i) + bonding_eras_of (sym params i)) books;
  roles = roles;
  bags = bags;
  round = round;
  queue = queue;
  waiting = waiting;
}

pub listed_of : (chain : Chain) → IsLive chain → IsListed (has_role chain.roles) chain.bags
listed_of chain live = listed_from chain.roles chain.bags live.bags

-- other books
pub with_books : (chain : Chain) (book : Ledger) → IsLive chain → AreBooks (release_now chain) chain.queue.items book
    → IsLive (record chain { book = book })
with_books chain book live books = live_with refl refl refl live books live.roles live.bags live.round live.queue live.waiting

-- and the place of the account follows
pub with_followed : (chain : Chain) (who : AccountId) (book : Ledger) → IsLive chain → AreBooks (release_now chain) chain.queue.items book
    → IsLive (with_stake chain who book)
with_followed chain who book live books =
    live_with refl refl refl live books live.roles
    (listing_from chain.roles (followed chain.bags who (row_at book who).active)
    (kept_followed (has_role chain.roles) chain.bags who (listed_of chain live) (row_at book who).active))
    live.round live.queue live.waiting

-- other roles and bags
pub with_lists : (chain : Chain) (roles : RoleList) (bags : Listing) → IsLive chain → IsListed (has_role roles) bags → AreRoles roles
    → IsLive (record chain { roles = roles; bags = bags })
with_lists chain roles bags live listed kept =
    live_with refl refl refl live live.books kept (listing_from roles bags listed) live.round live.queue live.waiting

-- other eras
pub with_eras : (chain : Chain) (eras : Eras) → IsLive chain → IsLive (record chain { eras = eras })
with_eras chain eras live = live_with refl refl refl live live.books live.roles live.bags live.round live.queue live.waiting

has_without : (chain : Chain) (who : AccountId) → IsLive chain → has_role (without_role chain.roles who) who ≡ false
has_without chain who live = ap is_some (standing_without who chain.roles live.roles.ranked.rising)

others_without : (chain : Chain) (who : AccountId) (q : AccountId) → same_account who q ≡ false
    → has_role (without_role chain.roles who) q ≡ has_role chain.roles q
others_without chain who q apart = ap is_some (standing_without_other who q chain.roles (apart_from who q apart))

pub without_live : (chain : Chain) (who : AccountId) → IsLive chain
    → IsLive (record chain { roles = without_role chain.roles who; bags = removed chain.bags who })
without_live chain who live =
    with_lists chain (without_role chain.roles who) (removed chain.bags who) live
    (kept_removed (has_role chain.roles) (has_role (without_role chain.roles who)) chain.bags who (listed_of chain live)
    (others_without chain who) (has_without chain who live))
    (kept_without chain.roles who live.roles)

pub retired_live : (chain : Chain) (who : AccountId) → IsLive chain → IsLive (retired who chain)
retired_live chain who live = at (is_over chain who) where
  at : (b : Bool)
      → IsLive (record chain {
        roles = if b then without_role chain.roles who else chain.roles;
        bags = if b then removed chain.bags who else chain.bags;
      })
  at true = without_live chain who live
  at false = live
