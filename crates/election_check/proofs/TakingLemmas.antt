-- A packed solution while its entries are taken.
use Rattle.std.proofs.Common.{◌≡◌, ℕ, zero, suc, ◌+◌, ◌-◌, ◌*◌, ◌/◌, ◌%◌, ◌<◌, ◌≤◌, Bool, true, false, cond, not, ◌||◌, nat_eq}
use Rattle.std.proofs.Common.{nat_lt, nat_le, List, [], ◌∷◌, ◌++◌, length, take, drop, filter, get_or, Option, Some, None, find, All}
use Rattle.std.proofs.Common.{inl, inr, refl, sym, ap, ◌∙◌, subst, lit<, append-nil, append_assoc, length-append, slice_set, arith}
use Rattle.std.specs.Prelude.{if◌then◌else◌, Ok, Err}
use Rattle.std.specs.List.{range_with_len}
use Rattle.std.proofs.Math.Nat.{mul-add-div_right}
use Rattle.std.proofs.lemmas.Bool.{cases_Bool, true≢false, or_left, or_right, eqb-true, eq-eqb, lt-ltb, lt-leb, leb-false}
use Rattle.std.proofs.Math.Bool.{or-false}
use Rattle.std.proofs.Math.Seq.{drop-cons}
use Rattle.std.proofs.lemmas.List.{map-append, take_more, take-append-drop, get_or-set_other}
use Rattle.std.proofs.lemmas.List.Folds.{list_any-append}
use Rattle.std.proofs.lemmas.List.Elements.{filter_agree}
use Rattle.std.proofs.lemmas.List.Sums.{length-filter, count_by-le-length}
use Rattle.std.proofs.lemmas.List.FromFn.{length-range_with_len}
use Rattle.std.proofs.lemmas.Grind.{flat_map-append, get_or-set_at}
use Rattle.election_snapshot.specs.Snapshot.{Snapshot, IsWellFormed, nobody, has, nominates, stake_of, votes_of}
use Rattle.election_snapshot.proofs.HasLemmas.{all_has}
use Rattle.npos_base.specs.declared.figures.Edge.{Edge}
use Rattle.weight_book.specs.Weights.{Weights}
use Rattle.weight_book.specs.Room.{WeightBook, HasRoom, KeepsRoom, vote_count}
use Rattle.compact_solution.specs.Solution.{Entry, targets_of, entries_of, whole_stake}
use Rattle.election_check.specs.declared.fault.Fault.{Fault}
use Rattle.election_check.specs.First.{answer_of, first_of}
use Rattle.election_check.specs.Packed.{entry_edges, listed_in, weights_of, entry_fault, voters_in, entries_fault}
use Rattle.election_check.specs.Taking.{AreTaken}
use Rattle.election_check.proofs.FirstLemmas.{first_none}
use Rattle.election_check.proofs.ListFacts.{find_none_all}
use Rattle.election_check.proofs.SoundLemmas.{entry_sound, edges_within, length_of_edges}

-- a stake that is split at a multiple of all parts
pub parts_of_whole : (stake parts : ℕ) → stake / 65535 * parts + stake % 65535 * parts / 65535 ≡ stake * parts / whole_stake
parts_of_whole stake parts =
    let split : stake / 65535 * 65535 + stake % 65535 ≡ stake = omega arith in
    let product : stake / 65535 * parts * 65535 + stake % 65535 * parts ≡ stake * parts = regroup stake (stake / 65535) (stake % 65535) 65535 parts split in
    sym (mul-add-div_right (lit< tt) (stake / 65535 * parts) (stake % 65535 * parts)) ∙ ap (λ n. n / 65535) product
  where
    regroup : (s q r w p : ℕ) → q * w + r ≡ s → q * p * w + r * p ≡ s * p
    regroup s q r w p split = subst (λ (n : ℕ). q * p * w + r * p ≡ n * p) split (omega arith)

pub no_error : (o : Option Fault) → answer_of o ≡ Ok tt → o ≡ None
no_error None e = refl
no_error (Some fault) e = absurd (cc)

pub an_error : (o : Option Fault) (fault : Fault) → answer_of o ≡ Err fault → o ≡ Some fault
an_error None fault e = absurd (cc)
an_error (Some other) fault e = ap (λ v. Some v) (cc)

-- an entry none of whose targets is past the last one
pub targets_known : (snapshot : Snapshot) (entry : Entry)
    → find (λ target. nat_le (length snapshot.targets) target) (targets_of entry) ≡ None
    → All (λ target. target < length snapshot.targets) (targets_of entry)
targets_known snapshot entry none k d below =
    leb-false (length snapshot.targets) (get_or (targets_of entry) k d)
    (find_none_all (λ target. nat_le (length snapshot.targets) target) (targets_of entry) none k d below)

-- where all targets are among the votes, none is past the last target of the snapshot, since no vote is
nominated_known : (votes : List ℕ) (n : ℕ) → All (λ vote. vote < n) votes → (targets : List ℕ) → find (λ target. not (has votes target)) targets ≡ None
    → find (λ target. nat_le n target) targets ≡ None
nominated_known votes n within [] none = refl
nominated_known votes n within (target ∷ targets) none = elim (cases_Bool (has votes target)) [
  | inl t ↦
      let below : target < n = all_has (λ (vote : ℕ). vote < n) votes target within t in
      rw (lt-leb n target below) (nominated_known votes n within targets (rw t at none))
  | inr t ↦ absurd (let some : Some target ≡ None = rw t at none in cc)
]

-- an entry none of whose targets is a stray one has none that is unknown
pub none_unknown : (snapshot : Snapshot) (entry : Entry) → IsWellFormed snapshot → entry.voter < length snapshot.voters
    → find (λ target. not (nominates snapshot entry.voter target)) (targets_of entry) ≡ None → find (λ target. nat_le (length snapshot.targets) target) (targets_of entry) ≡ None
none_unknown snapshot entry formed voter none =
    nominated_known (votes_of snapshot entry.voter) (length snapshot.targets) (formed.voters.each_voter entry.voter nobody voter).votes_in_range (targets_of entry) none

-- ## Members

members_more : (p : ℕ → Bool) (low n : ℕ) → filter p (range_with_len low (suc n)) ≡ filter p (range_with_len low n) ++ cond (p (low + n)) ((low + n) ∷ []) []
members_more p low zero = let at : low ≡ low + 0 = omega arith in ap (λ m. cond (p m) (m ∷ []) []) at
members_more p low (suc n) =
    let at : low + 1 + n ≡ low + suc n = omega arith in
    elim (cases_Bool (p low)) [
      | inl t ↦ rw t (ap (λ xs. low ∷ xs) (members_more p (low + 1) n ∙ ap (λ m. filter p (range_with_len (low + 1) n) ++ cond (p m) (m ∷ []) []) at))
      | inr t ↦ rw t (members_more p (low + 1) n ∙ ap (λ m. filter p (range_with_len (low + 1) n) ++ cond (p m) (m ∷ []) []) at)
    ]

pub member_yes : (p : ℕ → Bool) (n : ℕ) → p n ≡ true → filter p (range_with_len 0 (n + 1)) ≡ filter p (range_with_len 0 n) ++ n ∷ []
member_yes p n t =
    let next : n + 1 ≡ suc n = omega arith in
    let at : 0 + n ≡ n = omega arith in
    ap (λ m. filter p (range_with_len 0 m)) next ∙ (members_more p 0 n ∙ (ap (λ m. filter p (range_with_len 0 n) ++ cond (p m) (m ∷ []) []) at ∙ rw t refl))

pub member_no : (p : ℕ → Bool) (n : ℕ) → p n ≡ false → filter p (range_with_len 0 (n + 1)) ≡ filter p (range_with_len 0 n)
member_no p n t =
    let next : n + 1 ≡ suc n = omega arith in
    let at : 0 + n ≡ n = omega arith in
    ap (λ m. filter p (range_with_len 0 m)) next ∙ (members_more p 0 n ∙ (ap (λ m. filter p (range_with_len 0 n) ++ cond (p m) (m ∷ []) []) at ∙ (rw t (append-nil (filter p (range_with_len 0 n))))))

-- ## Room

pub keeps_then : (old mid new : WeightBook) → KeepsRoom old mid → KeepsRoom mid new → KeepsRoom old new
keeps_then old mid new one two = record { members = omega (arith, one.members, two.members); edges = omega (arith, one.edges, two.edges); supports = two.supports ∙ one.supports }

pub keeps : (book : WeightBook) → KeepsRoom book book
keeps book = record { members = omega arith; edges = omega arith; supports = refl }

pub has_room_then : (snapshot : Snapshot) (old new : WeightBook) → HasRoom snapshot old → KeepsRoom old new → HasRoom snapshot new
has_room_then snapshot old new has keeps = record { members = omega (arith, has.members, keeps.members); edges = omega (arith, has.edges, keeps.edges) }

-- ## Entries one after the other

pub alone : (o : Option Fault) → first_of (o ∷ []) ≡ o
alone None = refl
alone (Some fault) = refl

regroup_first : (a b c d : Option Fault) → c ≡ first_of (b ∷ d ∷ []) → first_of (a ∷ c ∷ []) ≡ first_of (first_of (a ∷ b ∷ []) ∷ d ∷ [])
regroup_first None b c d e = alone c ∙ (e ∙ ap (λ o. first_of (o ∷ d ∷ [])) (sym (alone b)))
regroup_first (Some fault) b c d e = refl

pub entries-append : (snapshot : Snapshot) (before xs ys : List Entry)
    → entries_fault snapshot before (xs ++ ys) ≡ first_of (entries_fault snapshot before xs ∷ entries_fault snapshot (before ++ xs) ys ∷ [])
entries-append snapshot before [] ys = ap (λ bs. entries_fault snapshot bs ys) (sym (append-nil before)) ∙ sym (alone (entries_fault snapshot (before ++ []) ys))
entries-append snapshot before (x ∷ xs) ys =
    let next = before ++ x ∷ [] in
    regroup_first (entry_fault snapshot (has (voters_in before) x.voter) x) (entries_fault snapshot next xs) (entries_fault snapshot next (xs ++ ys)) (entries_fault snapshot (before ++ x ∷ xs) ys)
    (entries-append snapshot next xs ys ∙ ap (λ bs. first_of (entries_fault snapshot next xs ∷ entries_fault snapshot bs ys ∷ [])) (append_assoc before (x ∷ []) xs))

-- one entry more of a group
pub group_more : (before xs : List Entry) (i : ℕ) (entry : Entry) → i < length xs → entry ≡ get_or xs i entry → before ++ take (i + 1) xs ≡ (before ++ take i xs) ++ entry ∷ []
group_more before xs i entry below is =
    ap (λ es. before ++ es) (take_more xs i entry below ∙ ap (λ (e : Entry). take i xs ++ e ∷ []) (sym is)) ∙ sym (append_assoc before (take i xs) (entry ∷ []))

-- the group with `place + 1` targets stands at the place
pub this_group : (solution : List (List Entry)) (place : ℕ) (group : List Entry) → group ≡ get_or solution (place + 1 - 1) [] → group ≡ get_or solution place []
this_group solution place group is = let at : place + 1 - 1 ≡ place = omega arith in is ∙ ap (λ n. get_or solution n []) at

-- the entries of one group more
pub groups_more : (solution : List (List Entry)) (place : ℕ) → place < length solution → entries_of (take (place + 1) solution) ≡ entries_of (take place solution) ++ get_or solution place []
groups_more solution place below =
    ap entries_of (take_more solution place [] below)
    ∙ (flat_map-append (λ (group : List Entry). group) (take place solution) (get_or solution place [] ∷ [])
    ∙ ap (λ es. entries_of (take place solution) ++ es) (append-nil (get_or solution place [])))

module _ (snapshot : Snapshot) where
  -- entries behind others that have no fault
  pub behind_sound : (before xs : List Entry) → entries_fault snapshot [] before ≡ None → entries_fault snapshot [] (before ++ xs) ≡ entries_fault snapshot before xs
  behind_sound before xs none =
      entries-append snapshot [] before xs ∙ (ap (λ o. first_of (o ∷ entries_fault snapshot before xs ∷ [])) none ∙ alone (entries_fault snapshot before xs))

  pub sound_more : (before : List Entry) (entry : Entry) → entries_fault snapshot [] before ≡ None → entry_fault snapshot (has (voters_in before) entry.voter) entry ≡ None
      → entries_fault snapshot [] (before ++ entry ∷ []) ≡ None
  sound_more before entry none fine = behind_sound before (entry ∷ []) none ∙ ap (λ o. first_of (o ∷ None ∷ [])) fine

  pub front_sound : (before xs : List Entry) → entries_fault snapshot [] (before ++ xs) ≡ None → entries_fault snapshot [] before ≡ None
  front_sound before xs none =
      (first_none (entries_fault snapshot [] before) (entries_fault snapshot before xs ∷ []) (sym (entries-append snapshot [] before xs) ∙ none)).0

  -- the first fault of a group, after groups that have none and entries of its own that have none
  pub stops_in : (before xs : List Entry) (i : ℕ) (entry : Entry) (fault : Fault) → i < length xs → entry ≡ get_or xs i entry
      → entries_fault snapshot [] (before ++ take i xs) ≡ None → entry_fault snapshot (has (voters_in (before ++ take i xs)) entry.voter) entry ≡ Some fault
      → entries_fault snapshot before xs ≡ Some fault
  stops_in before xs i entry fault below is none faulty =
      let split : xs ≡ take i xs ++ (entry ∷ drop (suc i) xs) =
      sym (take-append-drop i xs) ∙ ap (λ ys. take i xs ++ ys) (drop-cons xs i entry below ∙ ap (λ (e : Entry). e ∷ drop (suc i) xs) (sym is)) in
      let rest = drop (suc i) xs in
      sym (behind_sound before xs (front_sound before (take i xs) none))
      ∙ (ap (λ ys. entries_fault snapshot [] (before ++ ys)) split
      ∙ (ap (entries_fault snapshot []) (sym (append_assoc before (take i xs) (entry ∷ rest)))
      ∙ (behind_sound (before ++ take i xs) (entry ∷ rest) none
      ∙ ap (λ o. first_of (o ∷ entries_fault snapshot ((before ++ take i xs) ++ entry ∷ []) rest ∷ [])) faulty)))

  -- the first fault of a solution, after groups that have none
  pub stops_at_group : (solution : List (List Entry)) (place : ℕ) (fault : Fault) → place < length solution
      → entries_fault snapshot [] (entries_of (take place solution)) ≡ None
      → entries_fault snapshot (entries_of (take place solution)) (get_or solution place []) ≡ Some fault
      → entries_fault snapshot [] (entries_of solution) ≡ Some fault
  stops_at_group solution place fault below none faulty =
      let before = entries_of (take place solution) in
      let group = get_or solution place [] in
      let rest = entries_of (drop (suc place) solution) in
      let split : entries_of solution ≡ before ++ (group ++ rest) =
      ap entries_of (sym (take-append-drop place solution))
      ∙ (flat_map-append (λ (g : List Entry). g) (take place solution) (drop place solution)
      ∙ ap (λ groups. before ++ entries_of groups) (drop-cons solution place [] below)) in
      ap (entries_fault snapshot []) split
      ∙ (behind_sound before (group ++ rest) none
      ∙ (entries-append snapshot before group rest
      ∙ ap (λ o. first_of (o ∷ entries_fault snapshot (before ++ group) rest ∷ [])) faulty))

  module _ (done : List Entry) (entry : Entry) (marks : List Bool) (stamps : List ℕ) (book : WeightBook) (taken : AreTaken snapshot done marks stamps book)
      (fine : entry_fault snapshot (get_or marks entry.voter false) entry ≡ None) where
    fine_behind : entry_fault snapshot (has (voters_in done) entry.voter) entry ≡ None
    fine_behind = ap (λ b. entry_fault snapshot b entry) (sym (taken.marked entry.voter)) ∙ fine

    still_sound : entries_fault snapshot [] (done ++ entry ∷ []) ≡ None
    still_sound = sound_more done entry taken.sound fine_behind

    edges_more : (weights_of snapshot (done ++ entry ∷ [])).edges ≡ (weights_of snapshot done).edges ++ entry_edges (stake_of snapshot entry.voter) entry
    edges_more = flat_map-append (λ (e : Entry). entry_edges (stake_of snapshot e.voter) e) done (entry ∷ [])
        ∙ ap (λ es. (weights_of snapshot done).edges ++ es) (append-nil (entry_edges (stake_of snapshot entry.voter) entry))

    -- there is room for the edges of one entry more
    pub room_for : length (targets_of entry) ≤ book.edge_spare
    room_for =
        let within : length (weights_of snapshot (done ++ entry ∷ [])).edges ≤ vote_count snapshot = edges_within snapshot (done ++ entry ∷ []) still_sound in
        omega (
          arith,
          within,
          ap length edges_more,
          length-append (weights_of snapshot done).edges (entry_edges (stake_of snapshot entry.voter) entry),
          length_of_edges (stake_of snapshot entry.voter) entry,
          ap length taken.edges,
          taken.room.edges,
        )

    voters_more : (voter : ℕ) → has (voters_in (done ++ entry ∷ [])) voter ≡ (has (voters_in done) voter || (nat_eq entry.voter voter || false))
    voters_more voter = ap (λ vs. has vs voter) (map-append (λ (e : Entry). e.voter) done (entry ∷ [])) ∙ list_any-append (λ other. nat_eq other voter) (voters_in done) (entry.voter ∷ [])

    listed_more : (target : ℕ) → has (listed_in (done ++ entry ∷ [])) target ≡ (has (listed_in done) target || has (targets_of entry) target)
    listed_more target = ap (λ ts. has ts target) (flat_map-append targets_of done (entry ∷ []) ∙ ap (λ ts. listed_in done ++ ts) (append-nil (targets_of entry)))
        ∙ list_any-append (λ other. nat_eq other target) (listed_in done) (targets_of entry)

    module _ (marks' : List Bool) (stamps' : List ℕ) (book' : WeightBook) (voters : length marks ≡ length snapshot.voters) (marked : marks' ≡ slice_set marks entry.voter true)
        (stamped : (target : ℕ) → get_or stamps' target 0 ≡ (if has (targets_of entry) target then entry.voter + 1 else get_or stamps target 0))
        (edges : book'.plain.edges ≡ book.plain.edges ++ entry_edges (stake_of snapshot entry.voter) entry)
        (members : book'.plain.committee ≡ book.plain.committee) (room : KeepsRoom book book') where
      in_range : entry.voter < length marks
      in_range = omega (arith, (entry_sound snapshot (has (voters_in done) entry.voter) entry fine_behind).0.voter, voters)

      marked_more : (voter : ℕ) → get_or marks' voter false ≡ has (voters_in (done ++ entry ∷ [])) voter
      marked_more voter = elim (cases_Bool (nat_eq entry.voter voter)) [
        | inl t ↦
            let same : entry.voter ≡ voter = eqb-true entry.voter voter t in
            ap (λ ms. get_or ms voter false) marked ∙ (get_or-set_at marks entry.voter voter true false (sym same) in_range
            ∙ sym (voters_more voter ∙ or_right (has (voters_in done) voter) (nat_eq entry.voter voter || false) (or_left (nat_eq entry.voter voter) false t)))
        | inr t ↦
            ap (λ ms. get_or ms voter false) marked ∙ (get_or-set_other marks entry.voter voter true false (λ same. true≢false (sym (eq-eqb entry.voter voter (sym same)) ∙ t))
            ∙ (taken.marked voter ∙ sym (voters_more voter ∙ (rw t (or-false (has (voters_in done) voter))))))
      ]

      stamped_more : (target : ℕ) → nat_lt 0 (get_or stamps' target 0) ≡ has (listed_in (done ++ entry ∷ [])) target
      stamped_more target = elim (cases_Bool (has (targets_of entry) target)) [
        | inl t ↦ ap (nat_lt 0) (stamped target) ∙ rw t (lt-ltb 0 (entry.voter + 1) (omega arith) ∙ sym (listed_more target ∙ or_right (has (listed_in done) target) (has (targets_of entry) target) t))
        | inr t ↦ ap (nat_lt 0) (stamped target) ∙ rw t (taken.stamped target ∙ sym (listed_more target ∙ (rw t (or-false (has (listed_in done) target)))))
      ]

      own_more : (target voter : ℕ) → get_or stamps' target 0 ≡ voter + 1 → has (voters_in (done ++ entry ∷ [])) voter ≡ true
      own_more target voter e = elim (cases_Bool (has (targets_of entry) target)) [
        | inl t ↦
            let here : get_or stamps' target 0 ≡ entry.voter + 1 = stamped target ∙ rw t refl in
            let same : entry.voter ≡ voter = omega (arith, here, e) in
            voters_more voter ∙ or_right (has (voters_in done) voter) (nat_eq entry.voter voter || false) (or_left (nat_eq entry.voter voter) false (eq-eqb entry.voter voter same))
        | inr t ↦
            let old : get_or stamps target 0 ≡ voter + 1 = sym (stamped target ∙ rw t refl) ∙ e in
            voters_more voter ∙ or_left (has (voters_in done) voter) (nat_eq entry.voter voter || false) (taken.own target voter old)
      ]

      -- one entry more is taken
      pub taken_more : AreTaken snapshot (done ++ entry ∷ []) marks' stamps' book'
      taken_more = record {
        sound = still_sound;
        marked = marked_more;
        stamped = stamped_more;
        own = own_more;
        committee = members ∙ taken.committee;
        edges = edges ∙ (ap (λ es. es ++ entry_edges (stake_of snapshot entry.voter) entry) taken.edges ∙ sym edges_more);
        room = has_room_then snapshot book book' taken.room room;
      }

  -- the weights once all entries are taken and the stamped targets are the members
  pub weights_are : (entries : List Entry) (marks : List Bool) (stamps : List ℕ) (book : WeightBook) (new : Weights) → AreTaken snapshot entries marks stamps book
      → new.committee ≡ filter (λ target. nat_lt 0 (get_or stamps target 0)) (range_with_len 0 (length snapshot.targets)) → new.edges ≡ book.plain.edges
      → new ≡ weights_of snapshot entries
  weights_are entries marks stamps book new taken members edges =
      let listed : new.committee ≡ (weights_of snapshot entries).committee =
      members ∙ filter_agree (λ target. nat_lt 0 (get_or stamps target 0)) (has (listed_in entries)) taken.stamped (range_with_len 0 (length snapshot.targets)) in
      ap (λ (ms : List ℕ). record { committee = ms; edges = new.edges }) listed
      ∙ ap (λ (es : List Edge). record { committee = (weights_of snapshot entries).committee; edges = es }) (edges ∙ taken.edges)

  pub members_few : (entries : List Entry) → length (weights_of snapshot entries).committee ≤ length snapshot.targets
  members_few entries =
      omega (
        arith,
        length-filter (has (listed_in entries)) (range_with_len 0 (length snapshot.targets)),
        count_by-le-length (has (listed_in entries)) (range_with_len 0 (length snapshot.targets)),
        length-range_with_len 0 (length snapshot.targets),
      )
