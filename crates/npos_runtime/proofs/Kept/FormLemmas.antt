-- The state that a chain keeps is in form, from the genesis on.
use Rattle.std.proofs.Common.{◌≡◌, ◌≢◌, ℕ, suc, ◌+◌, ◌-◌, ◌≤◌, ◌<◌, min, Bool, true, false, cond, IsTrue, All, List, []}
use Rattle.std.proofs.Common.{◌∷◌, ◌++◌, length, map, Option, Some, None, option_map, refl, ap, sym, subst, ◌∙◌, arith}
use Rattle.std.specs.List.{AllByRecursion, AllPairs, IsDistinct}
use Rattle.std.proofs.lemmas.List.Elements.{All-nil, All-from_recursion}
use Rattle.std.proofs.lemmas.List.Kept.{AllPairs-cons}
use Rattle.std.proofs.lemmas.List.Quantifiers.{all_pairs_push}
use Rattle.std.proofs.lemmas.List.Sums.{sum_by-cons}
use Rattle.npos_base.specs.declared.account.AccountId.{AccountId}
use Rattle.npos_base.specs.declared.figures.Edge.{Edge}
use Rattle.npos_base.specs.declared.limits.TheConstants.{MOST_PAST_ERAS}
use Rattle.npos_base.specs.Account.{same_account}
use Rattle.npos_base.proofs.AccountOrder.{same_exact, same_itself}
use Rattle.block_wire.specs.declared.genesis.Params.{Params}
use Rattle.voter_lists.specs.Roles.{RoleList}
use Rattle.voter_lists.specs.Bags.{Order, walk}
use Rattle.weight_book.specs.GivenEdges.{gives, is_before, kept_edges}
use Rattle.era_book.specs.Members.{Members}
use Rattle.chain_params.specs.Rules.{era_of}
use Rattle.state_rules.specs.declared.state.RoleRow.{RoleRow}
use Rattle.state_rules.specs.declared.state.EraRow.{EraRow}
use Rattle.npos_runtime.specs.declared.chain.Chain.{Chain}
use Rattle.npos_runtime.specs.Rules.Committee.{Committee}
use Rattle.npos_runtime.specs.Step.{after_blocks}
use Rattle.npos_runtime.specs.Genesis.{genesis_chain}
use Rattle.npos_runtime.specs.Live.{times, IsOnce, WasElected, IsBetweenBlocks}
use Rattle.npos_runtime.specs.Kept.Parts.{kept_committee}
use Rattle.npos_runtime.specs.Kept.State.{member_row, role_row, era_row, era_rows, waiting_row, kept, IsTold}
use Rattle.npos_runtime.specs.Kept.Chain.{chain_of, AreKeptEras, IsWaitingInOrder, IsInForm}
use Rattle.npos_runtime.specs.Kept.Laws.{CheckpointLaw}
use Rattle.npos_runtime.proofs.Rules.BeginLemmas.{start_law}
use Rattle.npos_runtime.proofs.Histories.TimeLemmas.{between_blocks}
use Rattle.weight_book.proofs.GivenEdgeLemmas.{IsAhead, Rise, kept_rise, kept_give}
use Rattle.npos_runtime.proofs.Kept.StateLemmas.{params_back, all_both, rows_until}
use Rattle.npos_runtime.proofs.Kept.LeftOutLemmas.{told_after, resume}
use Rattle.npos_runtime.proofs.Kept.ChainLemmas.{restore}

-- ## Roles

abbrev one : Bool → ℕ
one b = cond b 1 0

-- an account that does not stand in a list is told apart from all of it
none_alike : (who : AccountId) (accounts : List AccountId) → times who accounts ≡ 0 → AllByRecursion (λ other. same_account who other ≡ false) accounts
none_alike who [] none = tt
none_alike who (account ∷ accounts) none =
    (at (same_account who account) refl, none_alike who accounts (omega (arith, none, more))) where
      more : times who (account ∷ accounts) ≡ one (same_account account who) + times who accounts
      more = sum_by-cons (λ other. one (same_account other who)) account accounts

      at : (b : Bool) → same_account who account ≡ b → same_account who account ≡ false
      at false is = is
      at true is =
          let same : who ≡ account = same_exact who account is in
          let here : one (same_account account who) ≡ 1 =
          ap one (ap (λ (q : AccountId). same_account account q) same ∙ same_itself account) in
          absurd (omega (arith, none, more, here))

pub distinct_once : (accounts : List AccountId) → IsOnce accounts → IsDistinct same_account accounts
unfolding IsDistinct
distinct_once [] once = tt
distinct_once (account ∷ accounts) once =
    let here : one (same_account account account) ≡ 1 = ap one (same_itself account) in (
      none_alike account accounts (omega (arith, here, once account, sum_by-cons (λ other. one (same_account other account)) account accounts)),
      distinct_once accounts (λ who. omega (arith, once who, sum_by-cons (λ other. one (same_account other who)) account accounts)),
    )

rows_walk : (roles : RoleList) (order : Order) → map (λ (row : RoleRow). row.who) (map (role_row roles) order) ≡ walk order
rows_walk roles [] = refl
rows_walk roles (entry ∷ order) = ap (λ (accounts : List AccountId). entry.0 ∷ accounts) (rows_walk roles order)

-- ## Eras

rise_row : (era : ℕ) (members : Members) (rows : List EraRow) → All (λ (row : EraRow). row.era < era) rows
    → AllPairs (λ (first later : EraRow). first.era < later.era) rows → AllPairs (λ (first later : EraRow). first.era < later.era) (rows ++ era_row era members)
rise_row era [] rows below up = subst (AllPairs (λ (first later : EraRow). first.era < later.era)) (sym (none rows)) up where
  none : (xs : List EraRow) → xs ++ [] ≡ xs
  none [] = refl
  none (x ∷ xs) = ap (λ (ys : List EraRow). x ∷ ys) (none xs)
rise_row era (member ∷ members) rows below up =
    all_pairs_push (λ (first later : EraRow). first.era < later.era) rows (record { era = era; members = map member_row (member ∷ members) }) up
    (λ k d few. below k d few)

rows_rise : (era : ℕ) (kept_members : List Members) → length kept_members ≤ era + 1 → AllPairs (λ (first later : EraRow). first.era < later.era) (era_rows era kept_members)
rows_rise era [] few = λ i j d lt within. absurd (omega (arith, within))
rows_rise era (members ∷ before) few =
    rise_row era members (era_rows (era - 1) before) (below before few) (rows_rise (era - 1) before (omega (arith, few))) where
      below : (before : List Members) → suc (length before) ≤ era + 1 → All (λ (row : EraRow). row.era < era) (era_rows (era - 1) before)
      below [] few = All-nil (λ (row : EraRow). row.era < era)
      below (next ∷ before) few =
          let until = All-from_recursion (λ (row : EraRow). row.era ≤ era - 1) (era_rows (era - 1) (next ∷ before))
          (rows_until (era - 1) (era - 1) (next ∷ before) (omega arith)) in
          λ k d within. omega (arith, until k d within, few)

-- no row is earlier than the eras that are kept
rows_since : (least era : ℕ) (kept_members : List Members) → least + length kept_members ≤ era + 1 → AllByRecursion (λ (row : EraRow). least ≤ row.era) (era_rows era kept_members)
rows_since least era [] few = tt
rows_since least era (members ∷ before) few =
    all_both (λ (row : EraRow). least ≤ row.era) (era_rows (era - 1) before) (era_row era members)
    (rows_since least (era - 1) before (omega (arith, few))) (here members) where
      here : (members : Members) → AllByRecursion (λ (row : EraRow). least ≤ row.era) (era_row era members)
      here [] = tt
      here (member ∷ more) = (omega (arith, few), tt)

rows_peopled : (era : ℕ) (kept_members : List Members) → AllByRecursion (λ (row : EraRow). row.members ≢ []) (era_rows era kept_members)
rows_peopled era [] = tt
rows_peopled era (members ∷ before) =
    all_both (λ (row : EraRow). row.members ≢ []) (era_rows (era - 1) before) (era_row era members) (rows_peopled (era - 1) before) (here members) where
      here : (members : Members) → AllByRecursion (λ (row : EraRow). row.members ≢ []) (era_row era members)
      here [] = tt
      here (member ∷ more) = ((λ none. absurd (omega (arith, ap length none))), tt)

eras_form : (era : ℕ) (kept_members : List Members) → length kept_members ≡ min (era + 1) (MOST_PAST_ERAS + 1) → AreKeptEras era (era_rows era kept_members)
eras_form era kept_members count = record {
  rising = rows_rise era kept_members (omega (arith, count));
  each = λ k d few. record {
    begun = All-from_recursion (λ (row : EraRow). row.era ≤ era) (era_rows era kept_members) (rows_until era era kept_members (omega arith)) k d few;
    recent = omega (arith, count, since k d few);
    peopled = All-from_recursion (λ (row : EraRow). row.members ≢ []) (era_rows era kept_members) (rows_peopled era kept_members) k d few;
  };
} where
  since : All (λ (row : EraRow). era + 1 - length kept_members ≤ row.era) (era_rows era kept_members)
  since =
      All-from_recursion (λ (row : EraRow). era + 1 - length kept_members ≤ row.era) (era_rows era kept_members)
      (rows_since (era + 1 - length kept_members) era kept_members (omega (arith, count)))

-- ## Who waits

risen_pairs : (edges : List Edge) → Rise edges → AllPairs (λ (first later : Edge). IsTrue (is_before first later)) edges
risen_pairs [] up = λ i j d lt within. absurd (omega (arith, within))
risen_pairs (edge ∷ edges) up =
    AllPairs-cons (λ (first later : Edge). IsTrue (is_before first later)) edge edges (All-from_recursion (IsAhead edge) edges up.0) (risen_pairs edges up.1)

waiting_form : (waiting : Option Committee) → WasElected waiting → IsWaitingInOrder (option_map waiting_row (option_map kept_committee waiting))
waiting_form None elected = tt
waiting_form (Some committee) elected = record {
  rising = risen_pairs (kept_edges committee.weights.edges) (kept_rise committee.weights.edges elected.follows.pairs_distinct);
  given = All-from_recursion (λ (edge : Edge). gives edge ≡ true) (kept_edges committee.weights.edges) (kept_give committee.weights.edges);
}

-- ## The state

pub kept_form : (chain : Chain) → IsBetweenBlocks chain → IsTold chain → IsInForm (kept chain)
kept_form chain rests told = record {
  roles = subst (IsDistinct same_account) (sym (rows_walk chain.roles chain.bags.order)) (distinct_once (walk chain.bags.order) rests.live.bags.once);
  eras = subst (λ (last : ℕ). AreKeptEras last (era_rows chain.eras.current chain.eras.kept))
      (sym (ap (λ (params : Option Params). era_of params (chain.due - 1)) (params_back chain.params chain.defer) ∙ sym told.eras.era))
      (eras_form chain.eras.current chain.eras.kept told.eras.count);
  waiting = waiting_form chain.waiting rests.elected;
}

pub checkpoint : CheckpointLaw
checkpoint genesis first more history =
    let last : Chain = after_blocks (genesis_chain genesis) first in
    let form : IsInForm (kept last) =
    kept_form last (between_blocks (genesis_chain genesis) first (start_law genesis first history).between history.fit) (told_after genesis first history) in
    let restored = restore (kept last) form in
    (form, resume genesis first more (chain_of (kept last)) history restored.1 restored.0)
