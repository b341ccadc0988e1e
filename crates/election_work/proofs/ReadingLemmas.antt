-- What a bundle comes to that is read part by part, where no voter is kept.
use Rattle.std.proofs.Common.{◌≡◌, ◌≢◌, ℕ, ◌+◌, ◌<◌, List, [], ◌∷◌, ◌++◌, length, refl, sym, ◌∙◌, ap, subst, inl, arith, length-append}
use Rattle.std.specs.Prelude.{Result, Ok, Err}
use Rattle.std.proofs.lemmas.List.{append-nil}
use Rattle.scale_wire.specs.declared.fault.Why.TheVariants.{Trailing}
use Rattle.scale_wire.specs.declared.fault.WireFault.{WireFault}
use Rattle.scale_wire.specs.declared.fault.ReadFault.{ReadFault}
use Rattle.scale_wire.specs.declared.fault.ReadFault.TheVariants.{Wire, NoMemory}
use Rattle.scale_wire.specs.Form.{Form, IsBytes}
use Rattle.scale_wire.specs.Parts.{account_form, compact_u32, length_form}
use Rattle.scale_wire.specs.Composite.{items, list, pair}
use Rattle.scale_wire.specs.Reading.{Place, IsRead, IsFault, Reads}
use Rattle.scale_wire.specs.WholeReading.{read_value, read_fault}
use Rattle.scale_wire.proofs.ReadLemmas.{pair_err, triple_err, bad_whole}
use Rattle.scale_wire.proofs.ListLemmas.{list_err, items_err}
use Rattle.npos_base.specs.declared.account.AccountId.{AccountId}
use Rattle.npos_base.specs.declared.limits.TheConstants.{MOST_TARGETS, MOST_VOTERS}
use Rattle.block_wire.specs.declared.bundle.BundleVoter.{BundleVoter}
use Rattle.block_wire.specs.declared.bundle.Work.{Work}
use Rattle.block_wire.specs.Bundles.{voter_form, work_form, election_form, bundle_form}
use Rattle.block_wire.specs.BundleLaws.{bundle_laws}
use Rattle.block_wire.proofs.BegunLemmas.{on_more, behind_read}
use Rattle.election_snapshot.specs.declared.fault.SnapshotFault.{SnapshotFault}
use Rattle.election_snapshot.specs.Draft.{Draft}
use Rattle.election_work.specs.declared.bundle_parts.Parts.{Parts}
use Rattle.election_work.specs.Elections.{unless, and_then, fault_of, draft_with, with_targets, with_voters, empty_draft}
use Rattle.election_work.specs.Growing.{grown, parts_behind_seats, parts_of, WasRead, ReadsTo, KeepsParts}

-- ## Adding voters

grown_none : (before : Result Draft SnapshotFault) → before ≡ grown before []
grown_none (Ok draft) = refl
grown_none (Err fault) = refl

and_then_behind : (state : Result Draft SnapshotFault) (first second both : Draft → Result Draft SnapshotFault) → ((draft : Draft) → both draft ≡ and_then (first draft) second)
    → and_then state both ≡ and_then (and_then state first) second
and_then_behind (Ok draft) first second both same = same draft
and_then_behind (Err fault) first second both same = refl

with_more : (voters more : List BundleVoter) (draft : Draft) → with_voters (voters ++ more) draft ≡ and_then (with_voters voters draft) (with_voters more)
with_more [] more draft = refl
with_more (voter ∷ voters) more draft =
    and_then_behind (unless (fault_of draft voter) (draft_with draft voter)) (with_voters voters) (with_voters more) (with_voters (voters ++ more)) (with_more voters more)

grown_more : (before : Result Draft SnapshotFault) (voters more : List BundleVoter) → grown before (voters ++ more) ≡ grown (grown before voters) more
grown_more before voters more = and_then_behind before (with_voters voters) (with_voters more) (with_voters (voters ++ more)) (with_more voters more)

-- ## Reading voters

-- no voter was read
pub none_read : (growing : Result Draft SnapshotFault) (here : Place) → WasRead (items voter_form 0) (grown growing) here growing here
none_read growing here = record {
  value = [];
  read = record { in_range = (tt, refl); whole = refl; at_is = omega arith };
  kept_is = grown_none growing;
}

more_items : {A : Type 0} (item : Form A) (count : ℕ) (xs : List A) (y : A) (old mid new : Place) → IsRead (items item count) old xs mid → IsRead item mid y new
    → IsRead (items item (count + 1)) old (xs ++ y ∷ []) new
more_items item count xs y old mid new before read =
    let sized : IsRead (items item (length xs)) old xs mid = subst (λ (n : ℕ). IsRead (items item n) old xs mid) (sym before.in_range.1) before in
    let more : IsRead (items item (length (xs ++ y ∷ []))) old (xs ++ y ∷ []) new = on_more item xs xs (xs ++ y ∷ []) mid mid new y (λ start first. first) read refl old sized in
    subst (λ (n : ℕ). IsRead (items item n) old (xs ++ y ∷ []) new) (omega (arith, length-append xs (y ∷ []), before.in_range.1)) more

-- one voter more was read and added
pub one_more : (first growing more : Result Draft SnapshotFault) (count : ℕ) (voter : BundleVoter) (old mid new : Place)
    → WasRead (items voter_form count) (grown first) old growing mid → IsRead voter_form mid voter new → more ≡ grown growing (voter ∷ [])
    → WasRead (items voter_form (count + 1)) (grown first) old more new
one_more first growing more count voter old mid new before read added = record {
  value = before.value ++ voter ∷ [];
  read = more_items voter_form count before.value voter old mid new before.read read;
  kept_is = added ∙ (ap (λ (g : Result Draft SnapshotFault). grown g (voter ∷ [])) before.kept_is ∙ sym (grown_more first before.value (voter ∷ [])));
}

-- all voters were read; `here` is a copy of the cursor as it was
pub all_read : (first growing : Result Draft SnapshotFault) (count done : ℕ) (old here new : Place) → here ≡ old → done ≡ count
    → WasRead (items voter_form done) (grown first) here growing new → WasRead (items voter_form count) (grown first) old growing new
all_read first growing count done old here new same all read =
    subst (λ (n : ℕ). WasRead (items voter_form n) (grown first) old growing new) all
    (subst (λ (o : Place). WasRead (items voter_form done) (grown first) o growing new) same read)

-- a voter was refused, or memory ran out
pub voter_err : (first growing : Result Draft SnapshotFault) (count done : ℕ) (old here mid new : Place) (fault : ReadFault) → here ≡ old → done < count
    → WasRead (items voter_form done) (grown first) here growing mid → Reads voter_form mid (Err fault) new → ReadsTo (items voter_form count) (grown first) old (Err fault) old
voter_err first growing count done old here mid new fault same below before refused =
    items_err voter_form count done old here mid new before.value fault same below before.read refused

-- ## One part behind another

-- the list of the voters was read
pub list_read : (first growing : Result Draft SnapshotFault) (old here mid new : Place) (count : ℕ) → here ≡ old → IsRead (length_form MOST_VOTERS) here count mid
    → WasRead (items voter_form count) (grown first) mid growing new → WasRead (list voter_form MOST_VOTERS) (grown first) old growing new
list_read first growing old here mid new count same counted voters =
    let sized : IsRead (length_form MOST_VOTERS) old (length voters.value) mid =
    subst (λ (n : ℕ). IsRead (length_form MOST_VOTERS) old n mid) (sym voters.read.in_range.1) (subst (λ (o : Place). IsRead (length_form MOST_VOTERS) o count mid) same counted) in
    let both = behind_read (length_form MOST_VOTERS) (items voter_form count) old mid new (length voters.value) voters.value sized voters.read in
    record {
      value = voters.value;
      read = record { in_range = (sized.in_range, voters.read.in_range.0); whole = both.whole; at_is = both.at_is };
      kept_is = voters.kept_is;
    }

-- a voter of the list was refused, or memory ran out
pub voters_err : (first : Result Draft SnapshotFault) (old here mid new : Place) (count : ℕ) (fault : ReadFault) → here ≡ old → IsRead (length_form MOST_VOTERS) here count mid
    → ReadsTo (items voter_form count) (grown first) mid (Err fault) new → ReadsTo (list voter_form MOST_VOTERS) (grown first) old (Err fault) old
voters_err first old here mid new count fault same counted refused = list_err voter_form MOST_VOTERS old here mid new count fault same counted refused

-- ## What stands behind the seats

-- all of it was read; `here` is a copy of the cursor as it was
pub rest_read : (targets : List AccountId) (first growing : Result Draft SnapshotFault) (work : Work) (old here mid next new : Place) → here ≡ old
    → IsRead (list account_form MOST_TARGETS) here targets mid → first ≡ with_targets targets empty_draft
    → WasRead (list voter_form MOST_VOTERS) (grown first) mid growing next → IsRead work_form next work new
    → WasRead election_form parts_behind_seats old (growing, work) new
rest_read targets first growing work old here mid next new same targets_read first_is voters work_read =
    let behind = behind_read (list voter_form MOST_VOTERS) work_form mid next new voters.value work voters.read work_read in
    let whole = behind_read (list account_form MOST_TARGETS) (pair (list voter_form MOST_VOTERS) work_form) here mid new targets (voters.value, work) targets_read behind in
    subst (λ (o : Place). WasRead election_form parts_behind_seats o (growing, work) new) same record {
      value = (targets, voters.value, work);
      read = record { in_range = (whole.in_range.0, whole.in_range.1.0, whole.in_range.1.1); whole = whole.whole; at_is = whole.at_is };
      kept_is = ap (λ (g : Result Draft SnapshotFault). (g, work)) (voters.kept_is ∙ ap (λ (g : Result Draft SnapshotFault). grown g voters.value) first_is);
    }

-- the targets were refused, or memory ran out
pub targets_err : (old here new : Place) (fault : ReadFault) → here ≡ old → Reads (list account_form MOST_TARGETS) here (Err fault) new
    → ReadsTo election_form parts_behind_seats old (Err fault) old
targets_err old here new (Wire fault) same refused =
    subst (λ (o : Place). IsFault election_form o fault o) same record { place = refused.place; bad = inl refused.bad; at_is = refused.at_is; unchanged = refl }
targets_err old here new NoMemory same refused = refl

-- the same of what follows the targets
behind_targets_err : (targets : List AccountId) (old here mid new : Place) (fault : ReadFault) → here ≡ old → IsRead (list account_form MOST_TARGETS) here targets mid
    → Reads (pair (list voter_form MOST_VOTERS) work_form) mid (Err fault) new → ReadsTo election_form parts_behind_seats old (Err fault) old
behind_targets_err targets old here mid new fault same read refused =
    subst (λ (o : Place). Reads election_form o (Err fault) o) same
    (triple_err (list account_form MOST_TARGETS) (list voter_form MOST_VOTERS) work_form here mid new targets fault read refused)

voters_first : (mid new : Place) (fault : ReadFault) → Reads (list voter_form MOST_VOTERS) mid (Err fault) new → Reads (pair (list voter_form MOST_VOTERS) work_form) mid (Err fault) mid
voters_first mid new (Wire fault) refused = record { place = refused.place; bad = inl refused.bad; at_is = refused.at_is; unchanged = refl }
voters_first mid new NoMemory refused = refl

-- the voters were refused, or memory ran out
pub voter_list_err : (first : Result Draft SnapshotFault) (targets : List AccountId) (old here mid new : Place)
    (fault : ReadFault) → here ≡ old → IsRead (list account_form MOST_TARGETS) here targets mid
    → ReadsTo (list voter_form MOST_VOTERS) (grown first) mid (Err fault) new → ReadsTo election_form parts_behind_seats old (Err fault) old
voter_list_err first targets old here mid new fault same read refused = behind_targets_err targets old here mid mid fault same read (voters_first mid new fault refused)

-- the work was refused, or memory ran out
pub work_err : (first growing : Result Draft SnapshotFault) (targets : List AccountId) (old here mid next new : Place)
    (fault : ReadFault) → here ≡ old → IsRead (list account_form MOST_TARGETS) here targets mid
    → WasRead (list voter_form MOST_VOTERS) (grown first) mid growing next → Reads work_form next (Err fault) new → ReadsTo election_form parts_behind_seats old (Err fault) old
work_err first growing targets old here mid next new fault same read voters refused =
    behind_targets_err targets old here mid mid fault same read (pair_err (list voter_form MOST_VOTERS) work_form mid next new voters.value fault voters.read refused)

-- ## A bundle

-- all of it was read
pub bundle_read : (parts : Parts) (old here mid new : Place) → here ≡ old → IsRead compact_u32 here parts.seats mid
    → WasRead election_form parts_behind_seats mid (parts.growing, parts.work) new → WasRead bundle_form parts_of old parts new
bundle_read parts old here mid new same seats behind =
    let of = behind.value in
    let whole = behind_read compact_u32 election_form here mid new parts.seats of seats behind.read in
    subst (λ (o : Place). WasRead bundle_form parts_of o parts new) same record {
      value = record { seats = parts.seats; targets = of.0; voters = of.1; work = of.2 };
      read = record { in_range = whole.in_range; whole = whole.whole; at_is = whole.at_is };
      kept_is = ap (λ (kept : Result Draft SnapshotFault × Work). record { seats = parts.seats; growing = kept.0; work = kept.1 }) behind.kept_is;
    }

-- the seats were refused
pub seats_err : (old here new : Place) (fault : WireFault) → here ≡ old → IsFault compact_u32 here fault new → ReadsTo bundle_form parts_of old (Err (Wire fault)) old
seats_err old here new fault same refused =
    subst (λ (o : Place). IsFault bundle_form o fault o) same record { place = refused.place; bad = inl refused.bad; at_is = refused.at_is; unchanged = refl }

-- what stands behind them was refused, or memory ran out
pub rest_err : (seats : ℕ) (old here mid new : Place) (fault : ReadFault) → here ≡ old → IsRead compact_u32 here seats mid
    → ReadsTo election_form parts_behind_seats mid (Err fault) new → ReadsTo bundle_form parts_of old (Err fault) old
rest_err seats old here mid new (Wire fault) same read refused =
    subst (λ (o : Place). IsFault bundle_form o fault o) same (pair_err compact_u32 election_form here mid new seats (Wire fault) read refused)
rest_err seats old here mid new NoMemory same read refused = refl

-- ## The whole input

none_left : (bytes : List ℕ) → length bytes ≡ 0 → bytes ≡ []
none_left [] none = refl
none_left (byte ∷ bytes) none = absurd (omega (arith, none))

-- nothing follows the bundle
pub whole_kept : (bytes : List ℕ) (parts : Parts) (end : Place) → IsBytes bytes → WasRead bundle_form parts_of (record { at = 0; rest = bytes }) parts end → length end.rest ≡ 0
    → KeepsParts bytes (Ok parts)
whole_kept bytes parts end are_bytes was none = record {
  bundle = was.value;
  read = read_value bundle_form bundle_laws bytes was.value are_bytes was.read.in_range
      (was.read.whole ∙ (ap (λ (s : List ℕ). bundle_form.spelling was.value ++ s) (none_left end.rest none) ∙ append-nil (bundle_form.spelling was.value)));
  parts_are = was.kept_is;
}

-- a byte follows it
pub trailing : (bytes : List ℕ) (parts : Parts) (end : Place) → IsBytes bytes → WasRead bundle_form parts_of (record { at = 0; rest = bytes }) parts end → length end.rest ≢ 0
    → KeepsParts bytes (Err (Wire (record { at = end.at; why = Trailing })))
trailing bytes parts end are_bytes was some =
    read_fault bundle_form bundle_laws bytes (record { at = end.at; why = Trailing }) are_bytes (bad_whole bundle_form bytes was.value end was.read (omega (arith, some)))

-- its bytes were refused, or memory ran out
pub whole_err : (bytes : List ℕ) (end : Place) (fault : ReadFault) → IsBytes bytes → ReadsTo bundle_form parts_of (record { at = 0; rest = bytes }) (Err fault) end
    → KeepsParts bytes (Err fault)
whole_err bytes end (Wire fault) are_bytes refused = read_fault bundle_form bundle_laws bytes fault are_bytes
    (inl (subst (λ (n : ℕ). bundle_form.bad bytes n fault.why) (omega (arith, refused.at_is)) refused.bad))
whole_err bytes end NoMemory are_bytes refused = tt
