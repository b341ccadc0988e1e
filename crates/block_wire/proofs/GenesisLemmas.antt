-- What the parts of a genesis that was begun add up to, and what a refusal of one of them is a refusal of.
use Rattle.std.proofs.Common.{◌≡◌, ◌≢◌, ℕ, zero, suc, ◌+◌, ◌-◌, ◌<◌, ◌≤◌, [], length, drop, Result, Ok, Err, MatchResult, refl, sym, subst, inl, arith, length-drop}
use Rattle.std.proofs.lemmas.List.{drop-drop}
use Rattle.scale_wire.specs.declared.fault.WireFault.{WireFault}
use Rattle.scale_wire.specs.declared.fault.ReadFault.{ReadFault}
use Rattle.scale_wire.specs.declared.fault.ReadFault.TheVariants.{Wire, NoMemory}
use Rattle.scale_wire.specs.Form.{Form}
use Rattle.scale_wire.specs.Parts.{tag_form, compact_u32, length_form}
use Rattle.scale_wire.specs.Composite.{items, pair, behind_tag}
use Rattle.scale_wire.specs.Reading.{Place, IsRead, IsFault, Reads}
use Rattle.scale_wire.proofs.ReadLemmas.{pair_err, triple_err, fields_err}
use Rattle.scale_wire.proofs.ListLemmas.{list_err, items_err}
use Rattle.npos_base.specs.declared.limits.TheConstants.{MOST_ENDOWMENTS}
use Rattle.block_wire.specs.declared.genesis.Genesis.TheVariants.{Plain, Full, Deferred}
use Rattle.block_wire.specs.declared.genesis.Params.{Params}
use Rattle.block_wire.specs.declared.begun_genesis.BegunGenesis.{BegunGenesis}
use Rattle.block_wire.specs.Genesis.{endowment_form, endowments_form, full_form, deferred_form, params_form, geneses, genesis_choice, genesis_form}
use Rattle.block_wire.specs.Begun.{behind}
use Rattle.block_wire.specs.BegunGenesis.{IsGenesisHead, IsBegunGenesis, ReadsAt}
use Rattle.block_wire.proofs.BegunLemmas.{Goes, goes_by, goes_on, no_items, behind_read}

-- ## The head

pub tag_fault : (old new : Place) (fault : WireFault) → IsFault (tag_form 3) old fault new → IsFault genesis_form old fault old
tag_fault old new fault refused = record { place = refused.place; bad = inl refused.bad; at_is = refused.at_is; unchanged = refl }

endowments_first : (old new : Place) (fault : ReadFault) → Reads endowments_form old (Err fault) new → Reads full_form old (Err fault) old
endowments_first old new (Wire fault) refused = record { place = refused.place; bad = inl refused.bad; at_is = refused.at_is; unchanged = refl }
endowments_first old new NoMemory refused = refl

endowments_foremost : (old new : Place) (fault : ReadFault) → Reads endowments_form old (Err fault) new → Reads deferred_form old (Err fault) old
endowments_foremost old new (Wire fault) refused = record { place = refused.place; bad = inl refused.bad; at_is = refused.at_is; unchanged = refl }
endowments_foremost old new NoMemory refused = refl

-- the endowments behind the tag were refused
endowments_err : (old mid new : Place) (tag : ℕ) (fault : ReadFault) → IsRead (tag_form 3) old tag mid → Reads endowments_form mid (Err fault) new → Reads genesis_form old (Err fault) old
endowments_err old mid new zero fault read refused = plain fault refused
  where
    plain : (fault : ReadFault) → Reads endowments_form mid (Err fault) new → Reads genesis_form old (Err fault) old
    plain (Wire fault) refused = fields_err geneses genesis_choice old old mid new 0 (Wire fault) refl read refused
    plain NoMemory refused = refl
endowments_err old mid new (suc zero) fault read refused = full fault (endowments_first mid new fault refused)
  where
    full : (fault : ReadFault) → Reads full_form mid (Err fault) mid → Reads genesis_form old (Err fault) old
    full (Wire fault) refused = fields_err geneses genesis_choice old old mid mid 1 (Wire fault) refl read refused
    full NoMemory refused = refl
endowments_err old mid new (suc (suc zero)) fault read refused = deferred fault (endowments_foremost mid new fault refused)
  where
    deferred : (fault : ReadFault) → Reads deferred_form mid (Err fault) mid → Reads genesis_form old (Err fault) old
    deferred (Wire fault) refused = fields_err geneses genesis_choice old old mid mid 2 (Wire fault) refl read refused
    deferred NoMemory refused = refl
endowments_err old mid new (suc (suc (suc tag))) fault read refused = absurd (omega (arith, read.in_range))

pub count_fault : (old mid new : Place) (tag : ℕ) (fault : WireFault) → IsRead (tag_form 3) old tag mid → IsFault (length_form MOST_ENDOWMENTS) mid fault new → IsFault genesis_form old fault old
count_fault old mid new tag fault tagged refused =
    endowments_err old mid mid tag (Wire fault) tagged (record { place = refused.place; bad = inl refused.bad; at_is = refused.at_is; unchanged = refl })

pub goes_endowments : (begun : BegunGenesis) (old counted : Place) → IsGenesisHead old begun.tag begun.count counted → Goes old counted
goes_endowments begun old counted head =
    goes_on old head.0 counted (goes_by (tag_form 3) old head.0 begun.tag head.1) (goes_by (length_form MOST_ENDOWMENTS) head.0 counted begun.count head.2)

-- a genesis was begun, and none of its endowments was read
pub genesis_opened : (old new : Place) (begun : BegunGenesis) → IsGenesisHead old begun.tag begun.count new → begun.size ≡ new.at - old.at → begun.endowments.items ≡ [] → IsBegunGenesis begun old
genesis_opened old new begun head size none =
    no_items (λ start end. IsGenesisHead start begun.tag begun.count end) endowment_form begun.count begun.size begun.endowments.items old new (goes_endowments begun old) head size none

-- ## The endowments

-- an endowment was refused, or memory ran out
cut_endowments : (begun : BegunGenesis) (old there : Place) (fault : ReadFault) → IsBegunGenesis begun old → there ≡ behind begun.size old → length begun.endowments.items < begun.count
    → Reads endowment_form there (Err fault) there → Reads genesis_form old (Err fault) old
cut_endowments begun old there fault is place fewer refused =
    let head = is.head in
    let here : IsRead (items endowment_form (length begun.endowments.items)) is.counted begun.endowments.items there =
    subst (λ (p : Place). IsRead (items endowment_form (length begun.endowments.items)) is.counted begun.endowments.items p) (sym place) is.whole in
    endowments_err old head.0 head.0 begun.tag fault head.1
    (list_err endowment_form MOST_ENDOWMENTS head.0 head.0 is.counted is.counted begun.count fault refl head.2
    (items_err endowment_form begun.count (length begun.endowments.items) is.counted is.counted there there begun.endowments.items fault refl fewer here refused))

-- what the endowments came to
pub endowed : (begun : BegunGenesis) (old there : Place) (result : Result (Unit {0}) ReadFault) → IsBegunGenesis begun old → there ≡ behind begun.size old
    → MatchResult result (λ _. length begun.endowments.items ≡ begun.count)
    (λ fault. (length begun.endowments.items < begun.count) × Reads endowment_form there (Err fault) there)
    → MatchResult result (λ _. length begun.endowments.items ≡ begun.count) (λ fault. Reads genesis_form old (Err fault) old)
endowed begun old there (Ok done) is place all = all
endowed begun old there (Err fault) is place cut = cut_endowments begun old there fault is place cut.0 cut.1

-- all endowments were read
endowments_read : (begun : BegunGenesis) (old : Place) (is : IsBegunGenesis begun old) → length begun.endowments.items ≡ begun.count
    → IsRead endowments_form is.head.0 begun.endowments.items (behind begun.size old)
endowments_read begun old is all =
    let head = is.head in
    let there = behind begun.size old in
    let counted : IsRead (length_form MOST_ENDOWMENTS) head.0 (length begun.endowments.items) is.counted =
    subst (λ (n : ℕ). IsRead (length_form MOST_ENDOWMENTS) head.0 n is.counted) (sym all) head.2 in
    let read = behind_read (length_form MOST_ENDOWMENTS) (items endowment_form (length begun.endowments.items)) head.0
    is.counted there (length begun.endowments.items) begun.endowments.items counted is.whole in
    record { in_range = (counted.in_range, is.whole.in_range.0); whole = read.whole; at_is = read.at_is }

-- a plain genesis is whole then
pub plain_whole : (begun : BegunGenesis) (old : Place) → IsBegunGenesis begun old → length begun.endowments.items ≡ begun.count → begun.tag ≡ 0
    → ReadsAt genesis_form old (Ok (Plain begun.endowments.items, begun.size))
plain_whole begun old is all plain =
    let head = is.head in
    let there = behind begun.size old in
    let tagged : IsRead (tag_form 3) old 0 head.0 = subst (λ (t : ℕ). IsRead (tag_form 3) old t head.0) plain head.1 in
    let listed = endowments_read begun old is all in
    let read = behind_read (tag_form 3) endowments_form old head.0 there 0 begun.endowments.items tagged listed in
    (record { in_range = listed.in_range; whole = read.whole; at_is = read.at_is }, is.within)

-- ## What stands behind the endowments

-- all of it was read
behind_endowments : {R : Type 0} (rest : Form R) (begun : BegunGenesis) (old : Place) (value : R) (more : ℕ) → IsBegunGenesis begun old → length begun.endowments.items ≡ begun.count
    → ReadsAt rest (behind begun.size old) (Ok (value, more))
    → IsRead (pair (tag_form 3) (pair endowments_form rest)) old (begun.tag, (begun.endowments.items, value)) (behind (begun.size + more) old) × (begun.size + more ≤ length old.rest)
behind_endowments {R} rest begun old value more is all read =
    let head = is.head in
    let mid = behind begun.size old in
    let there = behind more mid in
    let both = behind_read endowments_form rest head.0 mid there begun.endowments.items value (endowments_read begun old is all) read.0 in
    let whole = behind_read (tag_form 3) (pair endowments_form rest) old head.0 there begun.tag (begun.endowments.items, value) head.1 both in
    let place : there ≡ behind (begun.size + more) old = λ i. record { at = at_same i; rest = rest_same i } in (
      subst (λ (p : Place). IsRead (pair (tag_form 3) (pair endowments_form rest)) old (begun.tag, (begun.endowments.items, value)) p) place whole,
      omega (arith, read.1, is.within, length-drop begun.size old.rest),
    )
  where
    at_same : (old.at + begun.size) + more ≡ old.at + (begun.size + more)
    at_same = omega arith

    rest_same : drop more (drop begun.size old.rest) ≡ drop (begun.size + more) old.rest
    rest_same = drop-drop more begun.size old.rest

-- it was refused, or memory ran out
cut_behind : (begun : BegunGenesis) (old there : Place) (fault : ReadFault) → IsBegunGenesis begun old
    → ((mid : Place) → IsRead endowments_form mid begun.endowments.items there → Reads (behind_tag geneses genesis_choice begun.tag) mid (Err fault) mid)
    → length begun.endowments.items ≡ begun.count → there ≡ behind begun.size old → Reads genesis_form old (Err fault) old
cut_behind begun old there fault is cut all place =
    let head = is.head in
    fields_err geneses genesis_choice old old head.0 head.0 begun.tag fault refl head.1
    (cut head.0 (subst (λ (p : Place). IsRead endowments_form head.0 begun.endowments.items p) (sym place) (endowments_read begun old is all)))

-- a full genesis is whole behind its parameters
pub full_whole : (begun : BegunGenesis) (old : Place) (params : Params) (more : ℕ) → IsBegunGenesis begun old → length begun.endowments.items ≡ begun.count → begun.tag ≡ 1
    → ReadsAt params_form (behind begun.size old) (Ok (params, more)) → ReadsAt genesis_form old (Ok (Full begun.endowments.items params, begun.size + more))
full_whole begun old params more is all full params_read =
    let both = behind_endowments params_form begun old params more is all params_read in
    let read : IsRead (pair (tag_form 3) full_form) old (1, (begun.endowments.items, params)) (behind (begun.size + more) old) =
    subst (λ (t : ℕ). IsRead (pair (tag_form 3) full_form) old (t, (begun.endowments.items, params)) (behind (begun.size + more) old)) full both.0 in
    (record { in_range = read.in_range.1; whole = read.whole; at_is = read.at_is }, both.1)

-- the parameters of a full genesis were refused, or memory ran out
pub params_cut : (begun : BegunGenesis) (old there : Place) (fault : ReadFault) → IsBegunGenesis begun old → length begun.endowments.items ≡ begun.count → begun.tag ≡ 1
    → there ≡ behind begun.size old → Reads params_form there (Err fault) there → Reads genesis_form old (Err fault) old
params_cut begun old there fault is all full place refused =
    cut_behind begun old there fault is
    (λ mid listed. subst (λ (t : ℕ). Reads (behind_tag geneses genesis_choice t) mid (Err fault) mid) (sym full)
    (as_tagged mid fault (pair_err endowments_form params_form mid there there begun.endowments.items fault listed refused))) all place
  where
    as_tagged : (mid : Place) (fault : ReadFault) → Reads full_form mid (Err fault) mid → Reads (behind_tag geneses genesis_choice 1) mid (Err fault) mid
    as_tagged mid (Wire fault) refused = refused
    as_tagged mid NoMemory refused = refl

-- a genesis whose slashes wait is whole behind its parameters and the number of eras
pub deferred_whole : (begun : BegunGenesis) (old : Place) (tail : Params × ℕ) (more : ℕ) → IsBegunGenesis begun old → length begun.endowments.items ≡ begun.count
    → begun.tag ≢ 0 → begun.tag ≢ 1 → ReadsAt (pair params_form compact_u32) (behind begun.size old) (Ok (tail, more))
    → ReadsAt genesis_form old (Ok (Deferred begun.endowments.items tail.0 tail.1, begun.size + more))
deferred_whole begun old tail more is all some waits tail_read =
    let both = behind_endowments (pair params_form compact_u32) begun old tail more is all tail_read in
    let last : begun.tag ≡ 2 = omega (arith, is.head.1.in_range, some, waits) in
    let read : IsRead (pair (tag_form 3) (pair endowments_form (pair params_form compact_u32))) old (2, (begun.endowments.items, tail)) (behind (begun.size + more) old) =
    subst (λ (t : ℕ). IsRead (pair (tag_form 3) (pair endowments_form (pair params_form compact_u32))) old (t, (begun.endowments.items, tail)) (behind (begun.size + more) old)) last both.0 in
    (record { in_range = (read.in_range.1.0, read.in_range.1.1.0, read.in_range.1.1.1); whole = read.whole; at_is = read.at_is }, both.1)

-- they were refused, or memory ran out
pub tail_cut : (begun : BegunGenesis) (old there : Place) (fault : ReadFault) → IsBegunGenesis begun old → length begun.endowments.items ≡ begun.count
    → begun.tag ≢ 0 → begun.tag ≢ 1 → there ≡ behind begun.size old → Reads (pair params_form compact_u32) there (Err fault) there → Reads genesis_form old (Err fault) old
tail_cut begun old there fault is all some waits place refused =
    cut_behind begun old there fault is
    (λ mid listed. subst (λ (t : ℕ). Reads (behind_tag geneses genesis_choice t) mid (Err fault) mid) (sym last)
    (as_tagged mid fault (triple_err endowments_form params_form compact_u32 mid there there begun.endowments.items fault listed refused))) all place
  where
    last : begun.tag ≡ 2
    last = omega (arith, is.head.1.in_range, some, waits)

    as_tagged : (mid : Place) (fault : ReadFault) → Reads deferred_form mid (Err fault) mid → Reads (behind_tag geneses genesis_choice 2) mid (Err fault) mid
    as_tagged mid (Wire fault) refused = refused
    as_tagged mid NoMemory refused = refl

-- by these `begun_genesis` goes on
pub ruleset genesis_ends = (plain_whole, full_whole, params_cut, deferred_whole, tail_cut)
