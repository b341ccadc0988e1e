-- The rows, the roles and the eras of a sound chain that fits are in the range of their layout.
use Rattle.std.proofs.Common.{◌≡◌, ℕ, zero, suc, ◌+◌, ◌-◌, ◌^◌, ◌<◌, ◌≤◌, Bool, true, false, is_some, if◌then◌else◌, All, IfSome, List, length}
use Rattle.std.proofs.Common.{map, get_or, unwrap_or, Option, Some, None, option_map, refl, ap, sym, ◌∙◌, not, ◌&&◌, nat_le, true≢false, arith}
use Rattle.std.specs.List.{AllByRecursion}
use Rattle.std.specs.Option.{option_or}
use Rattle.std.proofs.lemmas.Bool.Decides.{nat_tests}
use Rattle.std.proofs.lemmas.List.{length-map}
use Rattle.std.proofs.lemmas.List.Elements.{All-map, All-weaker, recursion_from_All}
use Rattle.std.proofs.lemmas.List.Sums.{get_or-le-sum_by}
use Rattle.npos_base.specs.declared.account.AccountId.{AccountId}
use Rattle.npos_base.specs.declared.limits.TheConstants.{MOST_VOTERS, MOST_SEATS}
use Rattle.scale_wire.specs.Values.{flag_tag}
use Rattle.scale_wire.specs.Composite.{pair, list}
use Rattle.scale_wire.specs.Parts.{compact_u32}
use Rattle.block_wire.specs.declared.genesis.Params.{Params}
use Rattle.block_wire.specs.Genesis.{params_form}
use Rattle.chain_params.specs.declared.fault.GenesisFault.TheVariants.{BadQueue, BadSolutionMax}
use Rattle.chain_params.specs.Faults.{is_within, numbers_fault, threshold_fault, limits_fault, AreSound}
use Rattle.chain_params.specs.Rules.{bonding_eras_of, thresholds_in, solution_max_of}
use Rattle.chain_params.proofs.FaultLemmas.{first_none, wait_within}
use Rattle.stake_ledger.specs.declared.chunks.Chunk.{Chunk}
use Rattle.stake_ledger.specs.declared.row.Row.{Row}
use Rattle.stake_ledger.specs.Chunks.{chunk_sum, IsSchedule}
use Rattle.stake_ledger.specs.Rows.{empty_row, is_bonded, worth}
use Rattle.stake_ledger.specs.Ledger.{row_at}
use Rattle.stake_ledger.proofs.AccountLemmas.{known_by}
use Rattle.stake_ledger.proofs.LedgerLemmas.{part_within}
use Rattle.voter_lists.specs.declared.standing.Standing.{Standing}
use Rattle.voter_lists.specs.declared.standing.Standing.TheVariants as standing
use Rattle.voter_lists.specs.Roles.{standing_of}
use Rattle.election_check.proofs.ListFacts.{All-of_map}
use Rattle.era_book.specs.Members.{Members}
use Rattle.state_rules.specs.declared.state.EraRow.{EraRow}
use Rattle.state_rules.specs.declared.state.MemberRow.{MemberRow}
use Rattle.state_checkpoint.specs.Layout.{chunk_form, row_form, kind_form, role_form, backer_form, member_form, era_form}
use Rattle.npos_runtime.specs.declared.chain.Chain.{Chain}
use Rattle.npos_runtime.specs.Kept.State.{book_row, kind_in, role_row, member_row, era_rows, kept, IsTold}
use Rattle.npos_runtime.specs.Live.{IsReady}
use Rattle.npos_runtime.specs.Kept.Sound.{IsSoundStanding, IsSoundChain}
use Rattle.npos_runtime.proofs.Kept.Causes.RoleLemmas.{listed_at}
use Rattle.npos_runtime.proofs.Kept.Causes.EraLemmas.{rows_members, sound_eras}
use Rattle.npos_runtime.proofs.Kept.Causes.RowLemmas.{era_kept}
use Rattle.npos_runtime.proofs.Rules.LiveLemmas.{era_small}
use Rattle.npos_runtime.proofs.Kept.Sound.EntryLemmas.{every_entry, each_found}
use Rattle.npos_runtime.proofs.Kept.Sound.RolesLemmas.{above_is}
use Rattle.npos_runtime.proofs.Kept.Fits.PartLemmas.{IsAccount, IsNamed, IsFittingMember, AreFittingMembers, IsFitting}

-- ## Params

bonding_within : (params : Option Params) → AreSound params → bonding_eras_of params ≤ 84
bonding_within None sound = omega arith
bonding_within (Some params) sound =
    at params.bonding_eras (λ fewer. wait_within (Some params) (params.bonding_eras - 1) sound fewer) where
      at : (eras : ℕ) → (eras - 1 < eras → eras - 1 < 84) → eras ≤ 84
      at zero before = omega arith
      at (suc eras) before = omega (arith, before (omega arith))

pub solutions_within : (params : Option Params) → AreSound params → solution_max_of params ≤ 2097152
solutions_within None sound = omega arith
solutions_within (Some params) sound =
    at (not (is_within 1 16 params.queue)) (nat_le 1 params.solution_max) (nat_le params.solution_max 2097152) refl
    (first_none (threshold_fault 0 0 params.thresholds) (limits_fault params)
    (first_none (numbers_fault params) (option_or (threshold_fault 0 0 params.thresholds) (limits_fault params)) sound).1).1 where
      at : (queue least most : Bool) → nat_le params.solution_max 2097152 ≡ most
          → (if queue then Some (BadQueue params.queue) else if not (least && most) then Some (BadSolutionMax params.solution_max) else None) ≡ None
          → params.solution_max ≤ 2097152
      at true least most e none = cc
      at false false most e none = cc
      at false true true e none = grind (arith, nat_tests)
      at false true false e none = cc

few_thresholds : (params : Option Params) → IfSome params params_form.in_range → length (thresholds_in params) ≤ 200
few_thresholds None is = omega arith
few_thresholds (Some params) is = is.1.0

pub terms_in_range : (params : Option Params) (defer : ℕ) → IfSome params params_form.in_range → defer < 2 ^ 32
    → IfSome (option_map (λ (ps : Params). (ps, defer)) params) (pair params_form compact_u32).in_range
terms_in_range None defer is small = tt
terms_in_range (Some params) defer is small = (is, small)

module _ (chain : Chain) (ready : IsReady chain) (told : IsTold chain) (sound : IsSoundChain chain)
    (fit : IsFitting chain) where
  -- the number of an era is far below that of a block
  pub small_era : chain.eras.current < 2 ^ 31
  small_era =
      let live = ready.between.live in
      omega (arith, told.eras.era, era_small chain.params (chain.due - 1) live.params (omega (arith, live.due.at_most)))

  small_release : chain.eras.current + bonding_eras_of chain.params < 2 ^ 32
  small_release = omega (arith, small_era, bonding_within chain.params ready.between.live.params)

  -- ## Rows

  record IsSmallRow (entry : AccountId × Row) : Type 0 where
    own : IsAccount entry.0
    small : worth entry.1 < 2 ^ 63

  small_rows : All IsSmallRow chain.book.rows
  small_rows =
      let balanced = ready.between.live.books.balanced in
      every_entry IsSmallRow chain.book.rows balanced.distinct
      (λ who row found.
      let at : row_at chain.book who ≡ row = ap (λ (o : Option Row). unwrap_or o empty_row) found in
      record {
        own = fit.heard who (ap is_some found);
        small = omega (
          arith,
          part_within worth refl who chain.book balanced.distinct,
          balanced.equation,
          balanced.capped,
          ap worth at,
        );
      })

  chunks_in_range : (row : Row) → worth row < 2 ^ 63
      → All (λ chunk. chunk.release ≤ chain.eras.current + bonding_eras_of chain.params) row.chunks
      → AllByRecursion chunk_form.in_range row.chunks
  chunks_in_range row small timely =
      recursion_from_All chunk_form.in_range row.chunks
      (λ k d few. (
        omega (arith, get_or-le-sum_by (λ (chunk : Chunk). chunk.value) row.chunks k d few, small),
        omega (arith, timely k d few, small_release),
      ))

  row_in_range : (entry : AccountId × Row) → IsSmallRow entry → IsSchedule entry.1.chunks
      → All (λ chunk. chunk.release ≤ chain.eras.current + bonding_eras_of chain.params) entry.1.chunks
      → row_form.in_range (book_row entry)
  row_in_range entry is schedule timely = (
    (is.own, omega (arith, is.small), omega (arith, is.small)),
    (schedule.few, chunks_in_range entry.1 is.small timely),
    omega (arith, is.small),
  )

  pub rows_in_range : AllByRecursion row_form.in_range (kept chain).rows
  rows_in_range =
      let schedules =
      All-of_map (λ (row : Row). IsSchedule row.chunks)
      (λ (entry : AccountId × Row). entry.1) chain.book.rows ready.between.live.books.balanced.schedules in
      recursion_from_All row_form.in_range (map book_row chain.book.rows)
      (All-map row_form.in_range book_row chain.book.rows
      (λ k d few. row_in_range (get_or chain.book.rows k d) (small_rows k d few) (schedules k d few)
      (sound.books k d few)))

  -- ## Roles

  role_owned : (who : AccountId) (found : Option Standing) → standing_of chain.roles who ≡ found
      → is_some found ≡ true → IsAccount who
  role_owned who None is some = absurd (true≢false (sym some))
  role_owned who (Some standing) is some =
      let bonded : is_bonded (row_at chain.book who) ≡ true =
      each_found (λ (entry : AccountId × Standing). is_bonded (row_at chain.book entry.0) ≡ true) chain.roles
      sound.roles.bonded who standing is in
      fit.heard who
      (known_by (λ row. row.active + chunk_sum row.chunks) refl chain.book who (above_is (row_at chain.book who) bonded))

  kind_in_range : (who : AccountId) (found : Option Standing) → standing_of chain.roles who ≡ found
      → kind_form.in_range (kind_in found)
  kind_in_range who None is = (omega arith, tt)
  kind_in_range who (Some (standing.Nominator targets)) is =
      let form =
      each_found (λ (entry : AccountId × Standing). IsSoundStanding entry.0 entry.1) chain.roles sound.roles.standings who
      (standing.Nominator targets) is in
      let named = each_found (λ (entry : AccountId × Standing). IsNamed entry.1) chain.roles
      (All-of_map IsNamed (λ (entry : AccountId × Standing). entry.1) chain.roles fit.named) who (standing.Nominator targets) is in
      (omega (arith, form.few), recursion_from_All IsAccount targets named)
  kind_in_range who (Some (standing.Validator commission)) is =
      let form =
      each_found (λ (entry : AccountId × Standing). IsSoundStanding entry.0 entry.1) chain.roles sound.roles.standings who
      (standing.Validator commission) is in
      omega (arith, form)

  pub roles_in_range : AllByRecursion role_form.in_range (kept chain).roles
  roles_in_range =
      let order = chain.bags.order in
      recursion_from_All role_form.in_range (map (role_row chain.roles) order)
      (All-map role_form.in_range (role_row chain.roles) order
      (λ k d few. (
        role_owned (get_or order k d).0 (standing_of chain.roles (get_or order k d).0) refl
            (sym (told.listed (get_or order k d).0) ∙ listed_at order k d few),
        omega (
          arith,
          ready.between.live.bags.numbered k d few,
          ap (λ (ts : List ℕ). length ts) told.params.thresholds,
          few_thresholds chain.params fit.params,
        ),
        kind_in_range (get_or order k d).0 (standing_of chain.roles (get_or order k d).0) refl,
      )))

  -- ## Eras

  flag_small : (flag : Bool) → flag_tag flag < 2
  flag_small false = omega arith
  flag_small true = omega arith

  -- what no cause says of a member
  record IsFittingRow (member : MemberRow) : Type 0 where
    own : IsAccount member.who
    backers : (list backer_form MOST_VOTERS).in_range member.backers
    points : member.points < 2 ^ 32

  record AreFittingRows (members : List MemberRow) : Type 0 where
    few : length members ≤ MOST_SEATS
    each : All IsFittingRow members

  fitting_rows : All (λ (row : EraRow). AreFittingRows row.members) (era_rows chain.eras.current chain.eras.kept)
  fitting_rows =
      rows_members AreFittingRows chain.eras.current chain.eras.kept
      (All-weaker AreFittingMembers (λ (members : Members). AreFittingRows (map member_row members))
      (λ members is. record {
        few = omega (arith, length-map members member_row, is.few);
        each = All-map IsFittingRow member_row members
            (All-weaker IsFittingMember (λ entry. IsFittingRow (member_row entry))
            (λ entry fits. record { own = fits.validator; backers = fits.backers; points = fits.points }) members is.each);
      }) chain.eras.kept fit.members)

  pub eras_in_range : AllByRecursion era_form.in_range (kept chain).eras
  eras_in_range =
      let all_rows = era_rows chain.eras.current chain.eras.kept in
      recursion_from_All era_form.in_range all_rows
      (λ k d few.
      let row = get_or all_rows k d in
      let right = sound_eras chain ready told sound k d few in
      let fits = fitting_rows k d few in (
        omega (arith, right.reached, era_kept chain told, small_era),
        (
          fits.few,
          recursion_from_All member_form.in_range row.members
              (λ i e inside.
              let member = right.members i e inside in
              let one = fits.each i e inside in (
                (one.own, omega (arith, member.commission)),
                one.backers,
                (one.points, flag_small (get_or row.members i e).claimed, omega (arith, member.fraction)),
              )),
        ),
      ))
