-- What the cursor's calls answer, over plain bytes.
use Rattle.std.specs.Prelude.{◌≡◌, ℕ, ◌+◌, ◌%◌, ◌^◌, ◌<◌, ◌≤◌, List, [], ◌∷◌, ◌++◌, length, slice_index, drop, Some, None, refl}
use Rattle.std.proofs.Common.{sym, ◌∙◌, ap, subst, arith}
use Rattle.std.proofs.lemmas.Bool.{le-leb}
use Rattle.scale_wire.specs.declared.fault.Why.TheVariants.{BadTag, TooMany}
use Rattle.scale_wire.specs.declared.fault.WireFault.{WireFault}
use Rattle.scale_wire.specs.Form.{IsBytes}
use Rattle.scale_wire.specs.Reading.{Place, IsRead, IsFault}
use Rattle.scale_wire.specs.LittleEndian.{little_endian, number_from}
use Rattle.scale_wire.specs.LittleEndianLaws.{little_endian-number_from, number_from-bound}
use Rattle.scale_wire.specs.Compact.{mode_of, number_in, bytes_in, compact_bytes, compact_refusal}
use Rattle.scale_wire.specs.Parts.{account_form, fixed, fixed_u8, byte_string, tag_form, tag_refusal, compact_form, compact_u32, length_form, length_refusal}
use Rattle.npos_base.specs.Account.{account_bytes, account_of}
use Rattle.npos_base.specs.declared.account.AccountId.{AccountId}
use Rattle.scale_wire.specs.AccountLaws.{fits_account, account_is}
use Rattle.scale_wire.specs.CompactRange.{Suits}
use Rattle.scale_wire.specs.PartLaws.{some_left}
use Rattle.scale_wire.specs.CompactLaws.{compact_part, too_many}

-- the bytes that were taken are a number
pub fixed_read : (count : ℕ) (old new : Place) (bytes : List ℕ) (number : ℕ) → IsRead (byte_string count) old bytes new
    → number ≡ number_from bytes → IsRead (fixed count) old number new
fixed_read count old new bytes number read number_is =
    let long : length bytes ≡ count = read.in_range.0 in
    let spelled : little_endian count number ≡ bytes =
    subst (λ (n : ℕ). little_endian n number ≡ bytes) long
    (ap (λ (n : ℕ). little_endian (length bytes) n) number_is ∙ little_endian-number_from bytes read.in_range.1) in
    let below : number_from bytes < 256 ^ count = subst (λ (n : ℕ). number_from bytes < 256 ^ n) long (number_from-bound bytes read.in_range.1) in
    record {
      in_range = subst (λ (n : ℕ). n < 256 ^ count) (sym number_is) below;
      whole = read.whole ∙ ap (λ (s : List ℕ). s ++ new.rest) (sym spelled);
      at_is = read.at_is ∙ ap (λ (s : List ℕ). old.at + length s) (sym spelled);
    }

one_byte : (byte : ℕ) → byte < 256 → little_endian 1 byte ≡ byte ∷ []
unfolding little_endian
one_byte byte below = let same : byte % 256 ≡ byte = omega arith in ap (λ (b : ℕ). b ∷ []) same

pub tag_read : (below : ℕ) (old new : Place) (tag : ℕ) → IsRead fixed_u8 old tag new → tag < below
    → IsRead (tag_form below) old tag new
tag_read below old new tag read fits =
    let spelled : little_endian 1 tag ≡ tag ∷ [] = one_byte tag read.in_range in
    record {
      in_range = fits;
      whole = read.whole ∙ ap (λ (s : List ℕ). s ++ new.rest) spelled;
      at_is = read.at_is ∙ ap (λ (s : List ℕ). old.at + length s) spelled;
    }

bad_tag : (below tag : ℕ) (rest : List ℕ) → below ≤ tag → tag_refusal below (tag ∷ rest) ≡ Some BadTag
bad_tag below tag rest over = rw (some_left tag rest, le-leb below tag over)

pub tag_fault : (below : ℕ) (old new : Place) (tag : ℕ) (fault : WireFault) → IsRead fixed_u8 old tag new → below ≤ tag
    → fault ≡ record { at = old.at; why = BadTag } → IsFault (tag_form below) old fault old
tag_fault below old new tag fault read over fault_is =
    let whole : old.rest ≡ tag ∷ new.rest =
    read.whole ∙ ap (λ (s : List ℕ). s ++ new.rest) (one_byte tag read.in_range) in
    record {
      place = 0;
      bad = (
        refl,
        subst (λ (bytes : List ℕ). tag_refusal below bytes ≡ Some BadTag) (sym whole) (bad_tag below tag new.rest over)
            ∙ ap (λ (f : WireFault). Some f.why) (sym fault_is),
      );
      at_is = ap (λ (f : WireFault). f.at) fault_is ∙ omega arith;
      unchanged = refl;
    }

pub compact_read : (most limit : ℕ) (old : Place) (rest : List ℕ) (number size : ℕ) → Suits most limit 9 → IsBytes old.rest
    → compact_refusal most limit old.rest ≡ None → number ≡ number_in (mode_of old.rest) old.rest
    → size ≡ bytes_in (mode_of old.rest) old.rest → rest ≡ drop size old.rest
    → IsRead (compact_form most limit 9) old number (record { at = old.at + size; rest = rest })
compact_read most limit old rest number size suits are_bytes none number_is size_is rest_is =
    let is_head = (compact_part most limit 9 suits).head old.rest are_bytes none in
    let spelled : compact_bytes number ≡ compact_bytes (number_in (mode_of old.rest) old.rest) = ap (λ (n : ℕ). compact_bytes n) number_is in
    let left : rest ≡ drop (bytes_in (mode_of old.rest) old.rest) old.rest = rest_is ∙ ap (λ (n : ℕ). drop n old.rest) size_is in
    record {
      in_range = subst (λ (n : ℕ). n < limit) (sym number_is) is_head.in_range;
      whole = is_head.whole ∙ (ap (λ (s : List ℕ). s ++ drop (bytes_in (mode_of old.rest) old.rest) old.rest) (sym spelled)
          ∙ ap (λ (s : List ℕ). compact_bytes number ++ s) (sym left));
      at_is = ap (λ (n : ℕ). old.at + n) (size_is ∙ (sym is_head.size_is ∙ ap length (sym spelled)));
    }

pub suits_within : (most limit longest : ℕ) → Suits most limit longest → longest ≤ 9 → Suits most limit 9
suits_within most limit longest suits within =
    let four = suits.four in
    let reaches = suits.reaches in
    record { few = suits.few; bounded = suits.bounded; holds = suits.holds; four = omega arith; reaches = omega arith }

pub over_limit : (limit : ℕ) (old new : Place) (number : ℕ) (fault : WireFault) → limit < 2 ^ 32 → IsRead compact_u32 old number new
    → limit < number → fault ≡ record { at = old.at; why = TooMany } → IsFault (length_form limit) old fault old
over_limit limit old new number fault fits read over fault_is = record {
  place = 0;
  bad = (
    refl,
    subst (λ (bytes : List ℕ). length_refusal limit bytes ≡ Some TooMany) (sym read.whole)
        (too_many limit number new.rest fits read.in_range over)
        ∙ ap (λ (f : WireFault). Some f.why) (sym fault_is),
  );
  at_is = ap (λ (f : WireFault). f.at) fault_is ∙ omega arith;
  unchanged = refl;
}

pub account_read : (old new : Place) (bytes : List ℕ) (account : AccountId) → IsRead (byte_string 32) old bytes new
    → account ≡ account_of bytes → IsRead account_form old account new
account_read old new bytes account read is =
    let made = account_is bytes read.in_range.0 read.in_range.1 in
    let spelled : account_bytes account ≡ bytes = ap (λ (a : AccountId). account_bytes a) is ∙ made.1 in
    record {
      in_range = subst (λ (a : AccountId). fits_account a) (sym is) made.0;
      whole = read.whole ∙ ap (λ (s : List ℕ). s ++ new.rest) (sym spelled);
      at_is = read.at_is ∙ ap (λ (s : List ℕ). old.at + length s) (sym spelled);
    }

pub only_byte : (bytes : List ℕ) → length bytes ≡ 1 → slice_index bytes 0 ≡ number_from bytes
unfolding number_from
only_byte [] long = absurd (omega arith)
only_byte (byte ∷ []) long = omega arith
only_byte (byte ∷ next ∷ bytes) long = absurd (omega arith)
