-- A sound chain keeps a state that fits its layout where the chain fits, and the other way round.
use Rattle.std.proofs.Common.{◌≡◌, ℕ, ◌-◌, Bool, true, false, cond, is_some, All, IfSome, List, [], ◌∷◌, ◌++◌, map}
use Rattle.std.proofs.Common.{get_or, Option, Some, None, option_map, refl, ap, sym, subst, ◌∙◌, true≢false, arith}
use Rattle.std.specs.List.{AllByRecursion}
use Rattle.std.specs.Map.{values_of}
use Rattle.std.proofs.lemmas.List.{length-map}
use Rattle.std.proofs.lemmas.List.Elements.{All-nil, All-cons, All-head, All-tail, All-map, All-weaker, All-from_recursion}
use Rattle.npos_base.specs.declared.account.AccountId.{AccountId}
use Rattle.npos_base.specs.Account.{same_account}
use Rattle.npos_base.proofs.AccountOrder.{same_exact}
use Rattle.scale_wire.specs.Composite.{pair}
use Rattle.scale_wire.specs.Parts.{compact_u32}
use Rattle.block_wire.specs.declared.genesis.Params.{Params}
use Rattle.block_wire.specs.Genesis.{params_form}
use Rattle.chain_params.proofs.FaultLemmas.{wait_within}
use Rattle.stake_ledger.specs.declared.row.Row.{Row}
use Rattle.stake_ledger.specs.Ledger.{Ledger, row_of}
use Rattle.voter_lists.specs.declared.standing.Standing.{Standing}
use Rattle.voter_lists.specs.declared.standing.Standing.TheVariants as standing
use Rattle.voter_lists.specs.Roles.{standing_of}
use Rattle.voter_lists.specs.Bags.{Order, number_of, is_listed}
use Rattle.submission_queue.specs.declared.submission.Submission.{Submission}
use Rattle.election_check.proofs.ListFacts.{All-of_map}
use Rattle.era_book.specs.Members.{Member, Members}
use Rattle.state_checkpoint.specs.Layout.{row_form, kind_form, role_form, member_form, era_form, queued_form, slash_form, state_form}
use Rattle.npos_runtime.specs.declared.chain.Chain.{Chain}
use Rattle.npos_runtime.specs.Kept.State.{book_row, kind_in, role_row, member_row, era_row, era_rows, queue_row, kept, IsTrueMember, AreTrueMembers, IsTold}
use Rattle.npos_runtime.specs.Live.{IsReady}
use Rattle.npos_runtime.specs.Kept.Sound.{IsSoundChain}
use Rattle.npos_runtime.proofs.Kept.Sound.EntryLemmas.{every_entry, each_found}
use Rattle.npos_runtime.proofs.Kept.Fits.PartLemmas.{IsAccount, AreHeard, IsNamed, IsFittingMember, AreFittingMembers, IsFittingSlash, IsFittingItem, IsFitting, nobody_fits}
use Rattle.npos_runtime.proofs.Kept.Fits.RowLemmas.{terms_in_range, rows_in_range, roles_in_range, eras_in_range}
use Rattle.npos_runtime.proofs.Kept.Fits.PollLemmas.{round_in_range, waiting_in_range, queue_in_range, slashes_in_range}

-- ## From the chain to its state

pub state_in_range : (chain : Chain) → IsReady chain → IsTold chain → IsSoundChain chain → IsFitting chain
    → state_form.in_range (kept chain)
state_in_range chain ready told sound fit =
    let live = ready.between.live in
    let balanced = live.books.balanced in (
      (
        terms_in_range chain.params chain.defer fit.params
            (omega (arith, wait_within chain.params chain.defer live.params live.defer)),
        omega (arith, live.due.at_most),
        (omega (arith, balanced.capped), omega (arith, balanced.capped), omega (arith, balanced.equation, balanced.capped)),
      ),
      (rows_in_range chain ready told sound fit, roles_in_range chain ready told sound fit, eras_in_range chain ready told sound fit),
      (
        round_in_range chain chain.round fit.heard live.round sound.round,
        (omega (arith, sound.queue.few, live.due.at_most), queue_in_range chain ready told sound fit),
        (
          waiting_in_range chain chain.waiting fit.heard ready.between.elected live.waiting sound.waiting,
          (omega (arith, sound.slashes.few, live.due.at_most), slashes_in_range chain ready told sound fit),
        ),
      ),
    )

-- ## From the state back to the chain

params_back : (params : Option Params) (defer : ℕ)
    → IfSome (option_map (λ (ps : Params). (ps, defer)) params) (pair params_form compact_u32).in_range
    → IfSome params params_form.in_range
params_back None defer is = tt
params_back (Some params) defer is = is.0

heard_back : (book : Ledger) → AllByRecursion row_form.in_range (map book_row book.rows) → AreHeard book
heard_back book all who known = at (row_of book who) refl known where
  owned : All (λ (entry : AccountId × Row). IsAccount entry.0) book.rows
  owned =
      All-weaker (λ (entry : AccountId × Row). row_form.in_range (book_row entry))
      (λ (entry : AccountId × Row). IsAccount entry.0)
      (λ entry is. is.0.0) book.rows
      (All-of_map row_form.in_range book_row book.rows
      (All-from_recursion row_form.in_range (map book_row book.rows) all))

  at : (found : Option Row) → row_of book who ≡ found → is_some found ≡ true → IsAccount who
  at None is some = absurd (true≢false (sym some))
  at (Some row) is some = each_found (λ (entry : AccountId × Row). IsAccount entry.0) book.rows owned who row is

-- what holds of all who stand in an order holds of whoever is listed there
listed_holds : (P : AccountId → Type 0) (order : Order) → All (λ entry. P entry.0) order → (who : AccountId)
    → is_listed order who ≡ true → P who
listed_holds P [] all who e = absurd (true≢false (sym e))
listed_holds P (entry ∷ order) all who e =
    at (same_account entry.0 who) refl e
    (listed_holds P order (All-tail (λ (each : AccountId × ℕ). P each.0) entry order all) who) where
      at : (b : Bool) → same_account entry.0 who ≡ b → is_some (cond b (Some entry.1) (number_of order who)) ≡ true
          → (is_listed order who ≡ true → P who) → P who
      at true same is rest =
          subst P (same_exact entry.0 who same) (All-head (λ (each : AccountId × ℕ). P each.0) entry order all)
      at false apart is rest = rest is

named_of : (standing : Standing) → kind_form.in_range (kind_in (Some standing)) → IsNamed standing
named_of (standing.Nominator targets) is = All-from_recursion IsAccount targets is.1
named_of (standing.Validator commission) is = tt

named_back : (chain : Chain) → IsTold chain → AllByRecursion role_form.in_range (kept chain).roles
    → All IsNamed (values_of chain.roles)
named_back chain told all =
    All-map IsNamed (λ (entry : AccountId × Standing). entry.1) chain.roles
    (every_entry (λ (entry : AccountId × Standing). IsNamed entry.1) chain.roles told.rising
    (λ who standing found.
    named_of standing
    (subst (λ (o : Option Standing). kind_form.in_range (kind_in o)) found
    (listed_holds (λ account. kind_form.in_range (kind_in (standing_of chain.roles account))) chain.bags.order each who
    (told.listed who ∙ ap is_some found))))) where
      each : All (λ (entry : AccountId × ℕ). kind_form.in_range (kind_in (standing_of chain.roles entry.0))) chain.bags.order
      each =
          All-weaker (λ (entry : AccountId × ℕ). role_form.in_range (role_row chain.roles entry))
          (λ (entry : AccountId × ℕ). kind_form.in_range (kind_in (standing_of chain.roles entry.0))) (λ entry is. is.2) chain.bags.order
          (All-of_map role_form.in_range (role_row chain.roles) chain.bags.order
          (All-from_recursion role_form.in_range (map (role_row chain.roles) chain.bags.order) all))

in_front : {A : Type 0} (P : A → Type 0) (xs ys : List A) → AllByRecursion P (xs ++ ys) → AllByRecursion P xs
in_front P [] ys all = tt
in_front P (x ∷ xs) ys all = (all.0, in_front P xs ys all.1)

behind : {A : Type 0} (P : A → Type 0) (xs ys : List A) → AllByRecursion P (xs ++ ys) → AllByRecursion P ys
behind P [] ys all = all
behind P (x ∷ xs) ys all = behind P xs ys all.1

member_back : (entry : AccountId × Member) → IsTrueMember entry → member_form.in_range (member_row entry)
    → IsFittingMember entry
member_back entry true_member is = record {
  own = subst IsAccount true_member.own is.0.0;
  validator = is.0.0;
  backers = is.1;
  points = is.2.0;
}

era_back : (era : ℕ) (members : Members) → AreTrueMembers members
    → AllByRecursion era_form.in_range (era_row era members) → AreFittingMembers members
era_back era [] true_members all = nobody_fits
era_back era (member ∷ more) true_members all =
    let ranges =
    All-of_map member_form.in_range member_row (member ∷ more)
    (All-from_recursion member_form.in_range (map member_row (member ∷ more)) all.0.1.1) in
    record {
      few = omega (arith, length-map (member ∷ more) member_row, all.0.1.0);
      each = λ k d inside. member_back (get_or (member ∷ more) k d) (true_members k d inside) (ranges k d inside);
    }

members_back : (era : ℕ) (eras : List Members) → All AreTrueMembers eras
    → AllByRecursion era_form.in_range (era_rows era eras) → All AreFittingMembers eras
members_back era [] true_eras all = All-nil AreFittingMembers
members_back era (members ∷ before) true_eras all =
    All-cons AreFittingMembers members before
    (era_back era members (All-head AreTrueMembers members before true_eras)
    (behind era_form.in_range (era_rows (era - 1) before) (era_row era members) all))
    (members_back (era - 1) before (All-tail AreTrueMembers members before true_eras)
    (in_front era_form.in_range (era_rows (era - 1) before) (era_row era members) all))

pub chain_fits : (chain : Chain) → IsTold chain → state_form.in_range (kept chain) → IsFitting chain
chain_fits chain told is = record {
  params = params_back chain.params chain.defer is.0.0;
  heard = heard_back chain.book is.1.0;
  named = named_back chain told is.1.1;
  members = members_back chain.eras.current chain.eras.kept told.eras.members is.1.2;
  slashes = All-weaker slash_form.in_range IsFittingSlash (λ slash fits. fits.2) chain.eras.queue
      (All-from_recursion slash_form.in_range chain.eras.queue is.2.2.1.1.1);
  queue = All-weaker (λ (item : Submission). queued_form.in_range (queue_row item)) IsFittingItem
      (λ item fits. record { own = fits.0.1; score = fits.1; bytes = fits.2.1 }) chain.queue.items
      (All-of_map queued_form.in_range queue_row chain.queue.items (All-from_recursion queued_form.in_range (map queue_row chain.queue.items) is.2.1.1.1));
}
