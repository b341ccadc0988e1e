-- What a chain keeps that no other fact bounds: accounts, points, how many back a member, and what was
-- claimed. It fits the layout of a state after each call.
use Rattle.std.proofs.Common.{◌≡◌, ℕ, ◌+◌, ◌-◌, ◌^◌, ◌<◌, ◌≤◌, Bool, true, false, cond, not, ◌==◌, nat_lt, is_some, ◌||◌, if◌then◌else◌, All, IfSome}
use Rattle.std.proofs.Common.{List, [], ◌∷◌, ◌++◌, length, map, fold, slice_get, unwrap_or, Option, Some, None, Ok, Err, refl, sym, subst, ◌∙◌, arith}
use Rattle.std.specs.BTreeMap.{is_at}
use Rattle.std.specs.Option.{option_or}
use Rattle.std.specs.List.{AllByRecursion, prefix_len}
use Rattle.std.specs.Map.{values_of}
use Rattle.std.proofs.lemmas.Map.{length-set_value}
use Rattle.std.proofs.lemmas.Map.Views.{All-values-insert_entry, All-map-remove_entry}
use Rattle.std.proofs.lemmas.List.{length-map}
use Rattle.std.proofs.lemmas.List.Sums.{length-filter, count_by-le-length}
use Rattle.std.proofs.lemmas.List.Elements.{All-nil, All-cons, All-take, All-drop, All-set, All-push, All-filter, All-map, All-weaker, All-from_recursion, recursion_from_All, All-head, All-tail}
use Rattle.npos_base.specs.declared.account.AccountId.{AccountId}
use Rattle.npos_base.specs.declared.limits.TheConstants.{WHOLE_FRACTION, MOST_VOTERS, MOST_SEATS}
use Rattle.npos_base.specs.Account.{account_cmp, same_account}
use Rattle.npos_base.proofs.AccountOrder.{same_exact}
use Rattle.scale_wire.specs.Form.{IsBytes}
use Rattle.scale_wire.specs.Parts.{account_form}
use Rattle.scale_wire.specs.Values.{score_form}
use Rattle.scale_wire.specs.Composite.{list}
use Rattle.block_wire.specs.declared.call.Call.{Call}
use Rattle.block_wire.specs.declared.call.CallKind.{CallKind}
use Rattle.block_wire.specs.declared.call.CallKind.TheVariants as kinds
use Rattle.block_wire.specs.Calls.{kind_form, call_form}
use Rattle.block_wire.specs.Genesis.{params_form}
use Rattle.stake_ledger.specs.declared.row.Row.{Row}
use Rattle.stake_ledger.specs.Rows as rows
use Rattle.stake_ledger.specs.Ledger.{Ledger, row_at, row_of, changed}
use Rattle.stake_ledger.specs.Calls.{minted_free, deposit_held, transferred, unbond_amount, rebond_amount}
use Rattle.stake_ledger.proofs.AccountLemmas.{known-changed, known-slashed}
use Rattle.voter_lists.specs.declared.standing.Standing.{Standing}
use Rattle.voter_lists.specs.declared.standing.Standing.TheVariants as standing
use Rattle.voter_lists.specs.Roles.{RoleList, without_role}
use Rattle.voter_lists.specs.Bags.{Listing}
use Rattle.submission_queue.specs.declared.submission.Submission.{Submission}
use Rattle.submission_queue.specs.Rank.{outranks, placed}
use Rattle.submission_queue.specs.Ranking.{Ranking, against}
use Rattle.submission_queue.proofs.RankLemmas.{all_placed}
use Rattle.election_snapshot.specs.Snapshot.{Snapshot}
use Rattle.era_book.specs.declared.exposure.Backer.{Backer}
use Rattle.era_book.specs.declared.exposure.Exposure.{Exposure}
use Rattle.era_book.specs.declared.deferred.DeferredSlash.{DeferredSlash}
use Rattle.era_book.specs.Payouts.{line, others as other_backers, payout_lines, validator_line, backer_line}
use Rattle.era_book.specs.Slashes.{due as due_part, slash_lines}
use Rattle.era_book.specs.Members.{Member, Members, member_of, put_member, changed as changed_member, with_member, gaining, with_points}
use Rattle.era_book.specs.Eras.{Eras, is_unknown, members_in, member_in, with_members}
use Rattle.era_book.specs.Calls.{due_behind, slash_in, slash_refusal, claiming, keeping, payout_in, paid_to, earned}
use Rattle.era_book.specs.Deferred.{has_number, queue_refusal}
use Rattle.era_book.proofs.EraLemmas.{all_at}
use Rattle.era_book.proofs.PartLemmas.{part_within}
use Rattle.era_book.proofs.HistoryLemmas.{reported_facts}
use Rattle.block_receipts.specs.declared.refusal.Refusal.{Refusal}
use Rattle.block_receipts.specs.declared.refusal.Refusal.TheVariants.{Era as ByEra}
use Rattle.chain_params.specs.Rules.{era_reward_of}
use Rattle.round_decision.specs.Decision.{losers, others, fails, reward_in, rewarded, paid_out, books_decided}
use Rattle.round_decision.specs.Deposits.{returned, burned, all_returned, all_burned}
use Rattle.state_checkpoint.specs.Layout.{backer_form}
use Rattle.npos_runtime.specs.declared.chain.Chain.{Chain}
use Rattle.npos_runtime.specs.Rules.CallRule.{CallRule}
use Rattle.npos_runtime.specs.Rules.Calls.{rule_of, rule_for}
use Rattle.npos_runtime.specs.Rules.BookCalls.{era_now, release_now}
use Rattle.npos_runtime.specs.Rules.Lists.{is_over}
use Rattle.npos_runtime.specs.Rules.Signed.{ejected, put_out, submission_of, submitted}
use Rattle.npos_runtime.specs.Rules.Offices.{is_root, all_minted, payout_now, slashed_once, slashes, slashing_rule, deferring_rule, due_now}
use Rattle.npos_runtime.specs.Step.{call_after, call_outcome, calls_outcome}
use Rattle.npos_runtime.proofs.Rules.PartLemmas.{none_inside, first_none}
use Rattle.npos_runtime.proofs.Rules.OfficeCallLemmas.{root_free}
use Rattle.npos_runtime.proofs.Kept.Sound.ErasLemmas.{set_each}

-- ## What fits

-- two halves of 16 bytes
abbrev pub IsAccount : AccountId → Type 0
IsAccount who = account_form.in_range who

-- whoever has a row in the books
abbrev pub AreHeard : Ledger → Type 0
AreHeard book = (who : AccountId) → is_some (row_of book who) ≡ true → IsAccount who

abbrev pub IsNamed : Standing → Type 0
IsNamed (standing.Nominator targets) = All IsAccount targets
IsNamed (standing.Validator commission) = Unit {0}

-- neither too many backers nor too many points
pub record IsFittingMember (entry : AccountId × Member) : Type 0 where
  pub own : IsAccount entry.0
  pub validator : IsAccount entry.1.exposure.validator
  pub backers : (list backer_form MOST_VOTERS).in_range entry.1.exposure.backers
  pub points : entry.1.points < 2 ^ 32

pub record AreFittingMembers (members : Members) : Type 0 where
  pub few : length members ≤ MOST_SEATS
  pub each : All IsFittingMember members

abbrev pub IsFittingSlash : DeferredSlash → Type 0
IsFittingSlash slash = (list backer_form MOST_VOTERS).in_range slash.lines

pub record IsFittingItem (item : Submission) : Type 0 where
  pub own : IsAccount item.who
  pub score : score_form.in_range item.score
  pub bytes : IsBytes item.bytes

pub record IsFitting (chain : Chain) : Type 0 where
  pub params : IfSome chain.params params_form.in_range
  pub heard : AreHeard chain.book
  pub named : All IsNamed (values_of chain.roles)
  pub members : All AreFittingMembers chain.eras.kept
  pub slashes : All IsFittingSlash chain.eras.queue
  pub queue : All IsFittingItem chain.queue.items

-- ## Books

pub heard_changed : (owner : AccountId) (change : Row → Row) (book : Ledger) → IsAccount owner → AreHeard book
    → AreHeard (changed owner change book)
heard_changed owner change book own heard who known =
    at (same_account who owner) refl (sym (known-changed owner change book who) ∙ known) where
      at : (b : Bool) → same_account who owner ≡ b → (b || is_some (row_of book who)) ≡ true → IsAccount who
      at true same is = subst IsAccount (sym (same_exact who owner same)) own
      at false apart is = heard who is

heard_returned : (book : Ledger) (item : Submission) → IsAccount item.who → AreHeard book
    → AreHeard (returned book item)
heard_returned book item own heard = at (item.deposit == 0) where
  at : (b : Bool) → AreHeard (if b then book else changed item.who (rows.returned item.deposit) book)
  at true = heard
  at false = heard_changed item.who (rows.returned item.deposit) book own heard

heard_burned : (book : Ledger) (item : Submission) → IsAccount item.who → AreHeard book → AreHeard (burned book item)
heard_burned book item own heard = at (item.deposit == 0) where
  at : (b : Bool)
      → AreHeard (if b then book
      else record (changed item.who (rows.forfeited item.deposit) book) { burned = book.burned + item.deposit })
  at true = heard
  at false = heard_changed item.who (rows.forfeited item.deposit) book own heard

-- the accounts of submissions
abbrev AreOwned : List Submission → Type 0
AreOwned items = All (λ item. IsAccount item.who) items

pub heard_all_returned : (items : List Submission) (book : Ledger) → AreOwned items → AreHeard book
    → AreHeard (all_returned items book)
heard_all_returned [] book own heard = heard
heard_all_returned (item ∷ more) book own heard =
    heard_all_returned more (returned book item) (All-tail (λ (i : Submission). IsAccount i.who) item more own)
    (heard_returned book item (All-head (λ (i : Submission). IsAccount i.who) item more own) heard)

heard_all_burned : (items : List Submission) (book : Ledger) → AreOwned items → AreHeard book
    → AreHeard (all_burned items book)
heard_all_burned [] book own heard = heard
heard_all_burned (item ∷ more) book own heard =
    heard_all_burned more (burned book item) (All-tail (λ (i : Submission). IsAccount i.who) item more own)
    (heard_burned book item (All-head (λ (i : Submission). IsAccount i.who) item more own) heard)

heard_paid : (reward : ℕ) (items : List Submission) (book : Ledger) → AreOwned items → AreHeard book
    → AreHeard (paid_out reward items book)
heard_paid reward [] book own heard = heard
heard_paid reward (winner ∷ rest) book own heard =
    let back : Ledger = returned book winner in
    let who : IsAccount winner.who = All-head (λ (i : Submission). IsAccount i.who) winner rest own in
    heard_all_returned rest (rewarded reward back winner) (All-tail (λ (i : Submission). IsAccount i.who) winner rest own)
    (heard_changed winner.who (rows.gained (reward_in reward back)) back who (heard_returned book winner who heard))

pub heard_decided : (reward : ℕ) (snapshot : Snapshot) (items : List Submission) (book : Ledger) → AreOwned items
    → AreHeard book
    → AreHeard (books_decided reward snapshot items book)
heard_decided reward snapshot items book own heard =
    heard_paid reward (others snapshot items) (all_burned (losers snapshot items) book)
    (All-drop (λ (i : Submission). IsAccount i.who) (prefix_len (fails snapshot) items) items own)
    (heard_all_burned (losers snapshot items) book
    (All-take (λ (i : Submission). IsAccount i.who) (prefix_len (fails snapshot) items) items own) heard)

heard_all_minted : (lines : List Backer) (book : Ledger) → All (λ line. IsAccount line.who) lines → AreHeard book
    → AreHeard (all_minted lines book)
heard_all_minted [] book own heard = heard
heard_all_minted (first ∷ more) book own heard =
    heard_all_minted more (minted_free first.who first.amount book)
    (All-tail (λ (l : Backer). IsAccount l.who) first more own)
    (heard_changed first.who (rows.gained first.amount) book
    (All-head (λ (l : Backer). IsAccount l.who) first more own) heard)

pub heard_slashes : (dues : List Backer) (chain : Chain) → AreHeard chain.book
    → AreHeard (slashes dues chain).state.book
heard_slashes [] chain heard = heard
heard_slashes (due ∷ more) chain heard =
    heard_slashes more (slashed_once due chain)
    (λ who known. heard who (sym (known-slashed due.who due.amount chain.book who) ∙ known))

-- ## Roles

named_without : (roles : RoleList) (who : AccountId) (b : Bool) → All IsNamed (values_of roles)
    → All IsNamed (values_of (if b then without_role roles who else roles))
named_without roles who true named = All-map-remove_entry (is_at (account_cmp who)) (λ entry. entry.1) IsNamed roles named
named_without roles who false named = named

pub named_slashes : (dues : List Backer) (chain : Chain) → All IsNamed (values_of chain.roles)
    → All IsNamed (values_of (slashes dues chain).state.roles)
named_slashes [] chain named = named
named_slashes (due ∷ more) chain named =
    named_slashes more (slashed_once due chain)
    (named_without chain.roles due.who (is_over (record chain { book = (slashed_once due chain).book }) due.who) named)

-- ## Members

pub nobody_fits : AreFittingMembers []
nobody_fits = record { few = omega arith; each = All-nil IsFittingMember }

changed_fits : (who : AccountId) (change : Member → Member)
    → ((entry : AccountId × Member) → IsFittingMember entry → IsFittingMember (entry.0, change entry.1))
    → (members : Members) → AreFittingMembers members → AreFittingMembers (with_member who change members)
changed_fits who change keeps members fit = at (member_of members who) refl where
  at : (found : Option Member) → member_of members who ≡ found
      → AreFittingMembers (put_member (changed_member change found) who members)
  at None is = fit
  at (Some member) is = record {
    few = omega (arith, length-set_value (is_at (account_cmp who)) members (change member), fit.few);
    each = set_each IsFittingMember (is_at (account_cmp who)) change keeps members member is fit.each;
  }

claiming_fits : (entry : AccountId × Member) → IsFittingMember entry → IsFittingMember (entry.0, claiming entry.1)
claiming_fits entry fit = record { own = fit.own; validator = fit.validator; backers = fit.backers; points = fit.points }

keeping_fits : (fraction : ℕ) (entry : AccountId × Member) → IsFittingMember entry
    → IsFittingMember (entry.0, keeping fraction entry.1)
keeping_fits fraction entry fit =
    record { own = fit.own; validator = fit.validator; backers = fit.backers; points = fit.points }

gaining_fits : (points : ℕ) (entry : AccountId × Member) → IsFittingMember entry
    → IsFittingMember (entry.0, gaining points entry.1)
gaining_fits points entry fit =
    record { own = fit.own; validator = fit.validator; backers = fit.backers; points = omega arith }

pointed_fits : (items : List (AccountId × ℕ)) (members : Members) → AreFittingMembers members
    → AreFittingMembers (fold with_points members items)
pointed_fits [] members fit = fit
pointed_fits (item ∷ more) members fit =
    pointed_fits more (with_points members item) (changed_fits item.0 (gaining item.1) (gaining_fits item.1) members fit)

members_at : (eras : Eras) (era : ℕ) → All AreFittingMembers eras.kept → AreFittingMembers (members_in eras era)
members_at eras era fit = at (is_unknown eras era) where
  found : (some : Option Members) → IfSome some AreFittingMembers → AreFittingMembers (unwrap_or some [])
  found None is = nobody_fits
  found (Some members) is = is

  at : (b : Bool) → AreFittingMembers (unwrap_or (cond b None (slice_get eras.kept (eras.current - era))) [])
  at true = nobody_fits
  at false =
      found (slice_get eras.kept (eras.current - era)) (all_at AreFittingMembers eras.kept (eras.current - era) fit)

-- one era has other members
others_fit : (eras : Eras) (era : ℕ) (change : Members → Members)
    → ((members : Members) → AreFittingMembers members → AreFittingMembers (change members))
    → All AreFittingMembers eras.kept
    → All AreFittingMembers (with_members era (change (members_in eras era)) eras).kept
others_fit eras era change keeps fit =
    All-set AreFittingMembers eras.kept (eras.current - era) (change (members_in eras era))
    (keeps (members_in eras era) (members_at eras era fit)) fit

-- ## Payouts and reports

-- the lines of a payout, and those of a slash, name a member and its backers
backers_own : (backers : List Backer) → (list backer_form MOST_VOTERS).in_range backers
    → All (λ backer. IsAccount backer.who) backers
backers_own backers fit =
    All-weaker backer_form.in_range (λ (backer : Backer). IsAccount backer.who) (λ backer is. is.0) backers
    (All-from_recursion backer_form.in_range backers fit.1)

-- who is found among fitting members is one
found_fits : (eras : Eras) (era : ℕ) (who : AccountId) (P : Option Member → Type 0) → P None
    → ((own : AccountId) (member : Member) → IsFittingMember (own, member) → P (Some member))
    → All AreFittingMembers eras.kept
    → P (member_in eras era who)
found_fits eras era who P none some fit = look (members_in eras era) (members_at eras era fit).each where
  look : (members : Members) → All IsFittingMember members → P (member_of members who)
  look [] all = none
  look (entry ∷ more) all =
      at (is_at (account_cmp who) entry.0) (look more (All-tail IsFittingMember entry more all)) where
        at : (b : Bool) → P (member_of more who) → P (cond b (Some entry.1) (member_of more who))
        at true rest = some entry.0 entry.1 (All-head IsFittingMember entry more all)
        at false rest = rest

paid_own : (exposure : Exposure) (value : ℕ) → IsAccount exposure.validator
    → All (λ backer. IsAccount backer.who) exposure.backers
    → All (λ line. IsAccount line.who) (payout_lines exposure value)
paid_own exposure value own backers =
    let others : List Backer = other_backers exposure.validator exposure.backers in
    All-filter (λ (l : Backer). nat_lt 0 l.amount) (λ (l : Backer). IsAccount l.who)
    (validator_line exposure value ∷ map (backer_line exposure value) others)
    (All-cons (λ (l : Backer). IsAccount l.who) (validator_line exposure value) (map (backer_line exposure value) others) own
    (All-map (λ (l : Backer). IsAccount l.who) (backer_line exposure value) others
    (All-filter (λ (backer : Backer). not (same_account backer.who exposure.validator))
    (λ (l : Backer). IsAccount l.who) exposure.backers backers)))

payout_own : (eras : Eras) (era : ℕ) (validator : AccountId) (reward : ℕ) → All AreFittingMembers eras.kept
    → All (λ line. IsAccount line.who) (payout_in eras era validator reward).lines
payout_own eras era validator reward fit =
    found_fits eras era validator
    (λ found. All (λ line. IsAccount line.who) (paid_to (members_in eras era) reward found).lines)
    (All-nil (λ (l : Backer). IsAccount l.who))
    (λ own member fits. paid_own member.exposure (earned (members_in eras era) reward member) fits.validator (backers_own member.exposure.backers fits.backers)) fit

due_fits : (backers : List Backer) (kept fraction : ℕ) → fraction ≤ WHOLE_FRACTION
    → (list backer_form MOST_VOTERS).in_range backers
    → (list backer_form MOST_VOTERS).in_range (slash_lines backers kept fraction)
due_fits backers kept fraction whole fit =
    let each : Backer → Backer = λ backer. line backer.who (due_part backer.amount kept fraction) in
    let gives : Backer → Bool = λ l. nat_lt 0 l.amount in (
      omega (
        arith,
        length-filter gives (map each backers),
        count_by-le-length gives (map each backers),
        length-map backers each,
        fit.0,
      ),
      recursion_from_All backer_form.in_range (slash_lines backers kept fraction)
          (All-filter gives backer_form.in_range (map each backers)
          (All-map backer_form.in_range each backers
          (All-weaker backer_form.in_range (λ backer. backer_form.in_range (each backer))
          (λ backer is. (is.0, omega (arith, part_within backer.amount fraction WHOLE_FRACTION whole, is.1))) backers
          (All-from_recursion backer_form.in_range backers fit.1)))),
    )

report_fits : (eras : Eras) (era : ℕ) (validator : AccountId) (fraction : ℕ)
    → slash_refusal eras era validator fraction ≡ None
    → All AreFittingMembers eras.kept → (list backer_form MOST_VOTERS).in_range (slash_in eras era validator fraction)
report_fits eras era validator fraction free fit =
    found_fits eras era validator (λ found. (list backer_form MOST_VOTERS).in_range (due_behind fraction found))
    (omega arith, tt)
    (λ own member fits. due_fits member.exposure.backers member.fraction fraction (reported_facts eras era validator fraction free).0 fits.backers) fit

-- ## Submissions

ejected_all : (P : Submission → Type 0) (queue : Ranking) (item : Submission) → All P queue.items
    → All P (ejected queue item)
ejected_all P queue item all = at (nat_lt (length queue.items) queue.places) where
  last : (found : Option Submission) → IfSome found P → All P (put_out (against found item))
  last None is = All-nil P
  last (Some worst) is = of (outranks item worst) where
    of : (b : Bool) → All P (put_out (if b then Ok (Some worst) else Err (record { worst = worst.score }, item)))
    of true = All-cons P worst [] is (All-nil P)
    of false = All-nil P

  at : (b : Bool)
      → All P (put_out (if b then Ok None else against (slice_get queue.items (length queue.items - 1)) item))
  at true = All-nil P
  at false = last (slice_get queue.items (length queue.items - 1)) (all_at P queue.items (length queue.items - 1) all)

ranked_all : (P : Submission → Type 0) (before items : List Submission) → All P before → All P items
    → All P (fold placed before items)
ranked_all P before [] old all = old
ranked_all P before (item ∷ more) old all =
    ranked_all P (placed before item) more (all_placed P before item (All-head P item more all) old)
    (All-tail P item more all)

submitted_fits : (chain : Chain) (item : Submission) → IsFittingItem item → IsFitting chain
    → IsFitting (submitted chain item)
submitted_fits chain item is fit = record {
  params = fit.params;
  heard = heard_all_returned (ejected chain.queue item) (deposit_held item.who item.deposit chain.book)
      (ejected_all (λ (i : Submission). IsAccount i.who) chain.queue item
      (All-weaker IsFittingItem (λ (i : Submission). IsAccount i.who) (λ i fits. fits.own) chain.queue.items fit.queue))
      (heard_changed item.who (rows.deposited item.deposit) chain.book is.own fit.heard);
  named = fit.named;
  members = fit.members;
  slashes = fit.slashes;
  queue = All-take IsFittingItem chain.queue.places (fold placed [] (chain.queue.items ++ item ∷ []))
      (ranked_all IsFittingItem [] (chain.queue.items ++ item ∷ []) (All-nil IsFittingItem) (All-push IsFittingItem chain.queue.items item fit.queue is));
}

-- ## Calls

-- other books, roles and bags
fits_with : (chain : Chain) (book : Ledger) (roles : RoleList) (bags : Listing) → IsFitting chain → AreHeard book
    → All IsNamed (values_of roles)
    → IsFitting (record chain { book = book; roles = roles; bags = bags })
fits_with chain book roles bags fit heard named = record {
  params = fit.params;
  heard = heard;
  named = named;
  members = fit.members;
  slashes = fit.slashes;
  queue = fit.queue;
}

-- a report, where slashes do not wait and where they do
offence_fits : (now : Bool) (chain : Chain) (era : ℕ) (validator : AccountId) (fraction : ℕ)
    → (if now then slashing_rule chain era validator fraction else deferring_rule chain era validator fraction).refusal ≡ None → IsFitting chain
    → IsFitting (if now then slashing_rule chain era validator fraction else deferring_rule chain era validator fraction).done
offence_fits true chain era validator fraction free fit =
    let dues : List Backer = slash_in chain.eras era validator fraction in
    record {
      params = fit.params;
      heard = heard_slashes dues chain fit.heard;
      named = named_slashes dues chain fit.named;
      members = others_fit chain.eras era (with_member validator (keeping fraction))
          (changed_fits validator (keeping fraction) (keeping_fits fraction)) fit.members;
      slashes = fit.slashes;
      queue = fit.queue;
    }
offence_fits false chain era validator fraction free fit =
    let dues : List Backer = slash_in chain.eras era validator fraction in
    let slash : DeferredSlash = record { number = chain.eras.next_slash; due = due_now chain; lines = dues } in
    let taken : slash_refusal chain.eras era validator fraction ≡ None =
    first_none (slash_refusal chain.eras era validator fraction) (queue_refusal chain.eras)
    (none_inside ByEra (option_or (slash_refusal chain.eras era validator fraction) (queue_refusal chain.eras)) free) in
    record {
      params = fit.params;
      heard = fit.heard;
      named = fit.named;
      members = others_fit chain.eras era (with_member validator (keeping fraction))
          (changed_fits validator (keeping fraction) (keeping_fits fraction)) fit.members;
      slashes = All-push IsFittingSlash chain.eras.queue slash fit.slashes
          (report_fits chain.eras era validator fraction taken fit.members);
      queue = fit.queue;
    }

-- a row a kind
rule_fits : (chain : Chain) (caller : AccountId) (kind : CallKind) → IsAccount caller → kind_form.in_range kind
    → (rule_of chain caller kind).refusal ≡ None → IsFitting chain → IsFitting (rule_of chain caller kind).done
unfolding rule_of
rule_fits chain caller (kinds.Transfer to value) own is free fit =
    fits_with chain (transferred caller to value chain.book) chain.roles chain.bags fit
    (heard_changed to (rows.gained value) (changed caller (rows.paid value) chain.book) is.0
    (heard_changed caller (rows.paid value) chain.book own fit.heard)) fit.named
rule_fits chain caller (kinds.Bond value) own is free fit =
    fits_with chain (changed caller (rows.activated value) chain.book) chain.roles chain.bags fit
    (heard_changed caller (rows.activated value) chain.book own fit.heard) fit.named
rule_fits chain caller (kinds.BondExtra value) own is free fit = record {
  params = fit.params;
  heard = heard_changed caller (rows.activated value) chain.book own fit.heard;
  named = fit.named;
  members = fit.members;
  slashes = fit.slashes;
  queue = fit.queue;
}
rule_fits chain caller (kinds.Unbond value) own is free fit = record {
  params = fit.params;
  heard = heard_changed caller
      (rows.unbonded (unbond_amount (row_at chain.book caller) value) (release_now chain)) chain.book own fit.heard;
  named = fit.named;
  members = fit.members;
  slashes = fit.slashes;
  queue = fit.queue;
}
rule_fits chain caller (kinds.Rebond value) own is free fit = record {
  params = fit.params;
  heard = heard_changed caller (rows.rebonded (rebond_amount (row_at chain.book caller) value)) chain.book own fit.heard;
  named = fit.named;
  members = fit.members;
  slashes = fit.slashes;
  queue = fit.queue;
}
rule_fits chain caller kinds.Withdraw own is free fit =
    let book : Ledger = changed caller (rows.withdrawn (era_now chain)) chain.book in
    record {
      params = fit.params;
      heard = heard_changed caller (rows.withdrawn (era_now chain)) chain.book own fit.heard;
      named = named_without chain.roles caller (is_over (record chain { book = book }) caller) fit.named;
      members = fit.members;
      slashes = fit.slashes;
      queue = fit.queue;
    }
rule_fits chain caller (kinds.Nominate targets) own is free fit = record {
  params = fit.params;
  heard = fit.heard;
  named = All-values-insert_entry account_cmp caller (standing.Nominator targets) IsNamed chain.roles fit.named
      (All-from_recursion IsAccount targets is.1);
  members = fit.members;
  slashes = fit.slashes;
  queue = fit.queue;
}
rule_fits chain caller (kinds.Validate commission) own is free fit = record {
  params = fit.params;
  heard = fit.heard;
  named = All-values-insert_entry account_cmp caller (standing.Validator commission) IsNamed chain.roles fit.named tt;
  members = fit.members;
  slashes = fit.slashes;
  queue = fit.queue;
}
rule_fits chain caller kinds.Chill own is free fit = record {
  params = fit.params;
  heard = fit.heard;
  named = named_without chain.roles caller true fit.named;
  members = fit.members;
  slashes = fit.slashes;
  queue = fit.queue;
}
rule_fits chain caller (kinds.Rebag whom) own is free fit = record {
  params = fit.params;
  heard = fit.heard;
  named = fit.named;
  members = fit.members;
  slashes = fit.slashes;
  queue = fit.queue;
}
rule_fits chain caller (kinds.PutInFront lighter) own is free fit = record {
  params = fit.params;
  heard = fit.heard;
  named = fit.named;
  members = fit.members;
  slashes = fit.slashes;
  queue = fit.queue;
}
rule_fits chain caller (kinds.Submit round claim bytes) own is free fit =
    submitted_fits chain (submission_of chain caller claim bytes) (record { own = own; score = is.1; bytes = is.2.1 }) fit
rule_fits chain caller (kinds.Points items) own is free fit = record {
  params = fit.params;
  heard = fit.heard;
  named = fit.named;
  members = others_fit chain.eras chain.eras.current (λ members. fold with_points members items)
      (pointed_fits items) fit.members;
  slashes = fit.slashes;
  queue = fit.queue;
}
rule_fits chain caller (kinds.Payout era validator) own is free fit = record {
  params = fit.params;
  heard = heard_all_minted (payout_now chain era validator).lines chain.book
      (payout_own chain.eras era validator (era_reward_of chain.params) fit.members) fit.heard;
  named = fit.named;
  members = others_fit chain.eras era (with_member validator claiming)
      (changed_fits validator claiming claiming_fits) fit.members;
  slashes = fit.slashes;
  queue = fit.queue;
}
rule_fits chain caller (kinds.Offence era validator fraction) own is free fit =
    let now : Bool = chain.defer == 0 in
    offence_fits now chain era validator fraction
    (root_free (is_root chain caller)
    (if now then slashing_rule chain era validator fraction else deferring_rule chain era validator fraction).refusal free) fit
rule_fits chain caller (kinds.CancelSlash number) own is free fit = record {
  params = fit.params;
  heard = fit.heard;
  named = fit.named;
  members = fit.members;
  slashes = All-filter
      (λ (slash : DeferredSlash). not (has_number number slash)) IsFittingSlash chain.eras.queue fit.slashes;
  queue = fit.queue;
}

fits_after : (due : Option Refusal) (index : ℕ) (rule : CallRule) (chain : Chain) → rule.refusal ≡ due
    → (rule.refusal ≡ None → IsFitting rule.done)
    → IsFitting chain → IsFitting (call_after due index rule chain).state
fits_after None index rule chain is keeps fit = keeps is
fits_after (Some refusal) index rule chain is keeps fit = fit

fits_call : (index : ℕ) (call : Call) (chain : Chain) → call_form.in_range call → IsFitting chain
    → IsFitting (call_outcome index call chain).state
fits_call index call chain is fit =
    fits_after (rule_for chain call).refusal index (rule_for chain call) chain refl
    (λ free. rule_fits chain call.who call.kind is.0 is.1 free fit) fit

pub fits_calls : (index : ℕ) (calls : List Call) (chain : Chain) → AllByRecursion call_form.in_range calls
    → IsFitting chain
    → IsFitting (calls_outcome index calls chain).state
fits_calls index [] chain are fit = fit
fits_calls index (call ∷ more) chain are fit =
    fits_calls (index + 1) more (call_outcome index call chain).state are.1 (fits_call index call chain are.0 fit)
