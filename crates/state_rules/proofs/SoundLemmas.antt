-- What is not wrong is right, and the other way round.
use Rattle.std.proofs.Common.{◌≡◌, ℕ, zero, suc, ◌<◌, ◌≤◌, Bool, true, false, not, ◌||◌, if◌then◌else◌, List, [], ◌∷◌, ◌++◌}
use Rattle.std.proofs.Common.{Option, Some, None, is_some, refl, sym, ◌∙◌, ap, length, take, get_or, arith, nat_le, nat_lt, nat_eq}
use Rattle.std.proofs.lemmas.List.{append-nil, append_assoc}
use Rattle.std.proofs.lemmas.Bool.Decides.{nat_tests}
use Rattle.std.specs.List.{list_any}
use Rattle.std.proofs.lemmas.Bool.{or_parts}
use Rattle.npos_base.specs.declared.account.AccountId.{AccountId}
use Rattle.npos_base.specs.declared.limits.TheConstants.{WHOLE_FRACTION}
use Rattle.election_snapshot.specs.Draft.{target_fault, voter_fault, finish_fault}
use Rattle.era_book.specs.declared.exposure.Backer.{Backer}
use Rattle.era_book.specs.declared.deferred.DeferredSlash.{DeferredSlash}
use Rattle.stake_ledger.specs.declared.book_row.BookRow.{BookRow}
use Rattle.state_rules.specs.declared.state.RoleRow.{RoleRow}
use Rattle.state_rules.specs.declared.state.RoleKind.{RoleKind}
use Rattle.state_rules.specs.declared.state.RoleKind.TheVariants.{Nominator, Validator}
use Rattle.state_rules.specs.declared.state.EraRow.{EraRow}
use Rattle.state_rules.specs.declared.state.MemberRow.{MemberRow}
use Rattle.state_rules.specs.declared.state.RoundRow.{RoundRow}
use Rattle.state_rules.specs.declared.state.QueueRow.{QueueRow}
use Rattle.state_rules.specs.declared.state.WaitingRow.{WaitingRow}
use Rattle.state_rules.specs.Lists.{bad_from, bad_place, has_bad, follows}
use Rattle.state_rules.specs.Accounts.{is_below}
use Rattle.state_rules.specs.Known.{has_row}
use Rattle.state_rules.specs.Roles.{are_bad_targets, is_bad_kind, is_bad_role, validators_in}
use Rattle.state_rules.specs.Eras.{are_bad_backers, is_out_of_order, is_bad_member, is_bad_era}
use Rattle.state_rules.specs.Rounds.{Target, draft_of, is_bad_target, is_refused_target, is_refused_voter, is_refused, is_bad_round}
use Rattle.state_rules.specs.Queue.{is_bad_item, is_bad_count, is_outranking, outranks}
use Rattle.state_rules.specs.Waiting.{are_bad_edges, is_bad_committee}
use Rattle.state_rules.specs.Slashes.{is_bad_slash}
use Rattle.state_rules.specs.Terms.{is_next_number}
use Rattle.state_rules.specs.Sound.{EachIs, IsNomination, IsKind, IsSoundRole, AreSoundBackers, IsSoundMember, IsSoundEra}
use Rattle.state_rules.specs.Sound.{IsSoundTarget, IsSoundRound, IsSoundItem, IsSoundCommittee, IsSoundSlash, IsNextNumber}

-- ## Lists none of whose items is bad

passed : {A : Type 0} (bad : Bool) (place : A) (rest : Option A) → (if bad then Some place else rest) ≡ None → (bad ≡ false) × (rest ≡ None)
passed true place rest e = cc
passed false place rest e = (refl, e)

good_from : {A : Type 0} (bad : List A → A → Bool) (before items : List A) → bad_from bad before items ≡ None
    → (place : ℕ) (d : A) → place < length items → bad (before ++ take place items) (get_or items place d) ≡ false
good_from bad before [] e place d h = absurd (omega (arith, h))
good_from bad before (item ∷ more) e zero d h =
    ap (λ earlier. bad earlier item) (append-nil before) ∙ (passed (bad before item) (length before) (bad_from bad (before ++ item ∷ []) more) e).0
good_from bad before (item ∷ more) e (suc place) d h =
    ap (λ earlier. bad earlier (get_or more place d)) (sym (append_assoc before (item ∷ []) (take place more)))
    ∙ good_from bad (before ++ item ∷ []) more (passed (bad before item) (length before) (bad_from bad (before ++ item ∷ []) more) e).1 place d (omega (arith, h))

none_from : {A : Type 0} (bad : List A → A → Bool) (before items : List A)
    → ((place : ℕ) (d : A) → place < length items → bad (before ++ take place items) (get_or items place d) ≡ false) → bad_from bad before items ≡ None
none_from bad before [] good = refl
none_from bad before (item ∷ more) good =
    let here : bad before item ≡ false = sym (ap (λ earlier. bad earlier item) (append-nil before)) ∙ good 0 item (omega arith) in
    rw here (none_from bad (before ++ item ∷ []) more (λ place d h.
    ap (λ earlier. bad earlier (get_or more place d)) (append_assoc before (item ∷ []) (take place more))
    ∙ good (suc place) d (omega (arith, h))))

-- where what is not bad stands so, each item does
pub each_is : {A : Type 0} (bad : List A → A → Bool) (Stands : List A → A → Type 0) (items : List A)
    → ((before : List A) (item : A) → bad before item ≡ false → Stands before item) → bad_place bad items ≡ None → EachIs Stands items
each_is bad Stands items sound none place d h = sound (take place items) (get_or items place d) (good_from bad [] items none place d h)

-- where what stands so is not bad, none is
pub none_is : {A : Type 0} (bad : List A → A → Bool) (Stands : List A → A → Type 0) (items : List A)
    → ((before : List A) (item : A) → Stands before item → bad before item ≡ false) → EachIs Stands items → bad_place bad items ≡ None
none_is bad Stands items good each = none_from bad [] items (λ place d h. good (take place items) (get_or items place d) (each place d h))

pub no_place : {A : Type 0} (o : Option A) → is_some o ≡ false → o ≡ None
no_place None e = refl
no_place (Some x) e = cc

pub no_some : {A : Type 0} (o : Option A) → o ≡ None → is_some o ≡ false
no_some o e = ap is_some e

pub none_of : (a b : Bool) → a ≡ false → b ≡ false → (a || b) ≡ false
none_of false b e f = f
none_of true b e f = e

pub holds : (b : Bool) → not b ≡ false → b ≡ true
holds true e = refl
holds false e = cc

under : (a b : ℕ) → nat_lt a b ≡ false → b ≤ a
under a b e = grind (arith, nat_tests)

over : (a b : ℕ) → nat_le a b ≡ false → b < a
over a b e = grind (arith, nat_tests)

-- ## Roles

good_targets : (who : AccountId) (targets : List AccountId) → are_bad_targets who targets ≡ false → IsNomination who targets
good_targets who targets e = record {
  some = grind (arith, nat_tests);
  few = grind (arith, nat_tests);
  distinct = grind (arith, nat_tests);
  others = grind (arith, nat_tests);
}

targets_good : (who : AccountId) (targets : List AccountId) → IsNomination who targets → are_bad_targets who targets ≡ false
targets_good who targets is = grind (arith, nat_tests, is.some, is.few, is.distinct, is.others)

good_kind : (who : AccountId) (validators : ℕ) (role : RoleKind) → is_bad_kind who validators role ≡ false → IsKind who validators role
good_kind who validators (Nominator targets) e = good_targets who targets e
good_kind who validators (Validator commission) e = (grind (arith, nat_tests), grind (arith, nat_tests))

kind_good : (who : AccountId) (validators : ℕ) (role : RoleKind) → IsKind who validators role → is_bad_kind who validators role ≡ false
kind_good who validators (Nominator targets) is = targets_good who targets is
kind_good who validators (Validator commission) is = grind (arith, nat_tests, is.0, is.1)

pub good_role : (thresholds : List ℕ) (rows : List BookRow) (before : List RoleRow) (role : RoleRow)
    → is_bad_role thresholds rows before role ≡ false → IsSoundRole thresholds rows before role
good_role thresholds rows before role e = record {
  bonded = grind (arith, nat_tests);
  first = grind (arith, nat_tests);
  bag = grind (arith, nat_tests);
  scores = grind (arith, nat_tests);
  walk = grind (arith, nat_tests);
  kind = good_kind role.who (validators_in before) role.role (grind (arith, nat_tests));
}

pub role_good : (thresholds : List ℕ) (rows : List BookRow) (before : List RoleRow) (role : RoleRow)
    → IsSoundRole thresholds rows before role → is_bad_role thresholds rows before role ≡ false
role_good thresholds rows before role is =
    let kind = kind_good role.who (validators_in before) role.role is.kind in
    grind (arith, nat_tests, is.bonded, is.first, is.bag, is.scores, is.walk, kind)

-- ## Eras

good_backers : (rows : List BookRow) (who : AccountId) (backers : List Backer) → are_bad_backers rows who backers ≡ false → AreSoundBackers rows who backers
good_backers rows who backers e = record {
  own_first = grind (arith, nat_tests);
  fits = grind (arith, nat_tests);
  known = grind (arith, nat_tests);
  lines = grind (arith, nat_tests);
}

backers_good : (rows : List BookRow) (who : AccountId) (backers : List Backer) → AreSoundBackers rows who backers → are_bad_backers rows who backers ≡ false
backers_good rows who backers is = grind (arith, nat_tests, is.own_first, is.fits, is.known, is.lines)

pub good_member : (rows : List BookRow) (before : List MemberRow) (member : MemberRow) → is_bad_member rows before member ≡ false → IsSoundMember rows before member
good_member rows before member e =
    let backers = or_parts _ (are_bad_backers rows member.who member.backers) e in
    let fraction = or_parts _ (nat_lt WHOLE_FRACTION member.fraction) backers.0 in
    let commission = or_parts _ (nat_lt WHOLE_FRACTION member.commission) fraction.0 in
    let known = or_parts (is_out_of_order before member) (not (has_row rows member.who)) commission.0 in
    record {
      above = holds (follows (λ earlier later. is_below earlier.who later.who) before member) known.0;
      known = holds (has_row rows member.who) known.1;
      commission = under WHOLE_FRACTION member.commission commission.1;
      fraction = under WHOLE_FRACTION member.fraction fraction.1;
      backers = good_backers rows member.who member.backers backers.1;
    }

pub member_good : (rows : List BookRow) (before : List MemberRow) (member : MemberRow) → IsSoundMember rows before member → is_bad_member rows before member ≡ false
member_good rows before member is =
    let backers = backers_good rows member.who member.backers is.backers in
    grind (arith, nat_tests, is.above, is.known, is.commission, is.fraction, backers)

pub good_era : (has_params : Bool) (current : ℕ) (rows : List BookRow) (before : List EraRow) (era : EraRow)
    → is_bad_era has_params current rows before era ≡ false → IsSoundEra has_params current rows before era
good_era has_params current rows before era e = record {
  params = grind (arith, nat_tests);
  begun = grind (arith, nat_tests);
  reached = grind (arith, nat_tests);
  kept = grind (arith, nat_tests);
  above = grind (arith, nat_tests);
  some = grind (arith, nat_tests);
  members =
      let none : has_bad (is_bad_member rows) era.members ≡ false = grind (arith, nat_tests) in
      each_is (is_bad_member rows) (IsSoundMember rows) era.members (good_member rows) (no_place (bad_place (is_bad_member rows) era.members) none);
}

pub era_good : (has_params : Bool) (current : ℕ) (rows : List BookRow) (before : List EraRow) (era : EraRow)
    → IsSoundEra has_params current rows before era → is_bad_era has_params current rows before era ≡ false
era_good has_params current rows before era is =
    let none : has_bad (is_bad_member rows) era.members ≡ false =
    no_some (bad_place (is_bad_member rows) era.members) (none_is (is_bad_member rows) (IsSoundMember rows) era.members (member_good rows) is.members) in
    grind (arith, nat_tests, is.params, is.begun, is.reached, is.kept, is.above, is.some, none)

-- ## Snapshots

pub good_target : (rows : List BookRow) (before : List Target) (target : Target) → is_bad_target rows before target ≡ false → IsSoundTarget rows before target
good_target rows before target e = record {
  above = grind (arith, nat_tests);
  known = grind (arith, nat_tests);
  commission = grind (arith, nat_tests);
}

pub target_good : (rows : List BookRow) (before : List Target) (target : Target) → IsSoundTarget rows before target → is_bad_target rows before target ≡ false
target_good rows before target is = grind (arith, nat_tests, is.above, is.known, is.commission)

pub good_round : (rows : List BookRow) (seats : ℕ) (round : RoundRow) → is_bad_round rows seats round ≡ false → IsSoundRound rows seats round
good_round rows seats round e =
    let outer = or_parts _ (is_refused seats round) e in
    let known = or_parts (has_bad (is_bad_target rows) round.targets) _ outer.0 in
    let built = or_parts _ (is_some (finish_fault (draft_of round.targets round.voters) seats)) outer.1 in
    let taken = or_parts (has_bad is_refused_target round.targets) (has_bad (is_refused_voter round.targets) round.voters) built.0 in
    record {
      targets = each_is (is_bad_target rows) (IsSoundTarget rows) round.targets (good_target rows) (no_place (bad_place (is_bad_target rows) round.targets) known.0);
      voters = known.1;
      targets_taken = each_is is_refused_target (λ before target. target_fault (draft_of before []) target.0 ≡ None) round.targets
          (λ before target. no_place (target_fault (draft_of before []) target.0)) (no_place (bad_place is_refused_target round.targets) taken.0);
      voters_taken = each_is (is_refused_voter round.targets) (λ before voter. voter_fault (draft_of round.targets before) voter.account voter.stake voter.votes ≡ None) round.voters
          (λ before voter. no_place (voter_fault (draft_of round.targets before) voter.account voter.stake voter.votes))
          (no_place (bad_place (is_refused_voter round.targets) round.voters) taken.1);
      seated = no_place (finish_fault (draft_of round.targets round.voters) seats) built.1;
    }

pub round_good : (rows : List BookRow) (seats : ℕ) (round : RoundRow) → IsSoundRound rows seats round → is_bad_round rows seats round ≡ false
round_good rows seats round is =
    let targets : has_bad (is_bad_target rows) round.targets ≡ false =
    no_some (bad_place (is_bad_target rows) round.targets) (none_is (is_bad_target rows) (IsSoundTarget rows) round.targets (target_good rows) is.targets) in
    let targets_taken : has_bad is_refused_target round.targets ≡ false =
    no_some (bad_place is_refused_target round.targets) (none_is is_refused_target (λ before target. target_fault (draft_of before []) target.0 ≡ None) round.targets
    (λ before target. no_some (target_fault (draft_of before []) target.0)) is.targets_taken) in
    let voters_taken : has_bad (is_refused_voter round.targets) round.voters ≡ false =
    no_some (bad_place (is_refused_voter round.targets) round.voters) (none_is (is_refused_voter round.targets)
    (λ before voter. voter_fault (draft_of round.targets before) voter.account voter.stake voter.votes ≡ None) round.voters
    (λ before voter. no_some (voter_fault (draft_of round.targets before) voter.account voter.stake voter.votes)) is.voters_taken) in
    none_of _ (is_refused seats round) (none_of (has_bad (is_bad_target rows) round.targets) _ targets is.voters)
    (none_of _ (is_some (finish_fault (draft_of round.targets round.voters) seats))
    (none_of (has_bad is_refused_target round.targets) (has_bad (is_refused_voter round.targets) round.voters)
    targets_taken voters_taken)
    (no_some (finish_fault (draft_of round.targets round.voters) seats) is.seated))

-- ## Submissions

pub good_item : (has_round : Bool) (places most_bytes : ℕ) (rows : List BookRow) (next : ℕ) (before : List QueueRow) (item : QueueRow)
    → is_bad_item has_round places most_bytes rows next before item ≡ false → IsSoundItem has_round places most_bytes rows next before item
good_item has_round places most_bytes rows next before item e =
    let bytes = or_parts _ (nat_lt most_bytes (length item.bytes)) e in
    let rank = or_parts _ (is_outranking before item) bytes.0 in
    let count = or_parts _ (is_bad_count next before item) rank.0 in
    let known = or_parts _ (not (has_row rows item.who)) count.0 in
    let place = or_parts (not has_round) (nat_le places (length before)) known.0 in
    let fresh = or_parts _ (list_any (λ earlier. nat_eq earlier.number item.number) before) count.1 in
    let given = or_parts (nat_eq item.number 0) (nat_le next item.number) fresh.0 in
    record {
      round = holds has_round place.0;
      place = over places (length before) place.1;
      known = holds (has_row rows item.who) known.1;
      numbered = above_none item.number given.0;
      given = over next item.number given.1;
      fresh = fresh.1;
      rank = holds (follows outranks before item) rank.1;
      bytes = under most_bytes (length item.bytes) bytes.1;
    } where
      above_none : (n : ℕ) → nat_eq n 0 ≡ false → 1 ≤ n
      above_none n e = grind (arith, nat_tests)

pub item_good : (has_round : Bool) (places most_bytes : ℕ) (rows : List BookRow) (next : ℕ) (before : List QueueRow) (item : QueueRow)
    → IsSoundItem has_round places most_bytes rows next before item → is_bad_item has_round places most_bytes rows next before item ≡ false
item_good has_round places most_bytes rows next before item is =
    grind (arith, nat_tests, is.round, is.place, is.known, is.numbered, is.given, is.fresh, is.rank, is.bytes)

-- ## Committees that wait

pub good_committee : (rows : List BookRow) (seats : ℕ) (waiting : WaitingRow) → is_bad_committee rows seats waiting ≡ false → IsSoundCommittee rows seats waiting
good_committee rows seats waiting e =
    let outer = or_parts _ (is_bad_round rows seats waiting.round) e in
    let inner : (are_bad_edges waiting.edges ≡ false) = (or_parts _ (are_bad_edges waiting.edges) outer.0).1 in
    record {
      committee = grind (arith, nat_tests);
      edges = grind (arith, nat_tests);
      amounts = grind (arith, nat_tests);
      round = good_round rows seats waiting.round outer.1;
    }

pub committee_good : (rows : List BookRow) (seats : ℕ) (waiting : WaitingRow) → IsSoundCommittee rows seats waiting → is_bad_committee rows seats waiting ≡ false
committee_good rows seats waiting is =
    let round = round_good rows seats waiting.round is.round in
    grind (arith, nat_tests, is.committee, is.edges, is.amounts, round)

-- ## Slashes

pub good_slash : (era defer_eras next : ℕ) (rows : List BookRow) (before : List DeferredSlash) (slash : DeferredSlash)
    → is_bad_slash era defer_eras next rows before slash ≡ false → IsSoundSlash era defer_eras next rows before slash
good_slash era defer_eras next rows before slash e = record {
  numbered = grind (arith, nat_tests);
  given = grind (arith, nat_tests);
  above = grind (arith, nat_tests);
  ahead = grind (arith, nat_tests);
  within = grind (arith, nat_tests);
  dues = grind (arith, nat_tests);
  known = grind (arith, nat_tests);
  lines = grind (arith, nat_tests);
}

pub slash_good : (era defer_eras next : ℕ) (rows : List BookRow) (before : List DeferredSlash) (slash : DeferredSlash)
    → IsSoundSlash era defer_eras next rows before slash → is_bad_slash era defer_eras next rows before slash ≡ false
slash_good era defer_eras next rows before slash is =
    grind (arith, nat_tests, is.numbered, is.given, is.above, is.ahead, is.within, is.dues, is.known, is.lines)

pub good_number : (due next : ℕ) → not (is_next_number due next) ≡ false → IsNextNumber due next
good_number due next e = record { some = grind (arith, nat_tests); within = grind (arith, nat_tests) }

pub number_good : (due next : ℕ) → IsNextNumber due next → not (is_next_number due next) ≡ false
number_good due next is = grind (arith, nat_tests, is.some, is.within)
