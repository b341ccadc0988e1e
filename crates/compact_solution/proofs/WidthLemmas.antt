-- The two forms of a solution: how many groups it has, and what stands before them.
use Rattle.std.proofs.Common.{◌≡◌, ℕ, ◌+◌, ◌%◌, ◌<◌, Bool, true, false, nat_eq, List, [], ◌∷◌, ◌++◌, length, drop, refl, sym, ◌∙◌, ap, ap₂, subst, inl, inr, arith}
use Rattle.std.specs.Prelude.{Err}
use Rattle.std.proofs.lemmas.Bool.Decides.{eqb_tells}
use Rattle.scale_wire.specs.declared.fault.WireFault.{WireFault}
use Rattle.scale_wire.specs.declared.fault.ReadFault.{ReadFault}
use Rattle.scale_wire.specs.declared.fault.ReadFault.TheVariants.{Wire, NoMemory}
use Rattle.scale_wire.specs.LittleEndian.{little_endian}
use Rattle.scale_wire.specs.Parts.{fixed_u8}
use Rattle.scale_wire.specs.PartLaws.{short_from_some}
use Rattle.scale_wire.specs.Composite.{IsRow, row_bytes}
use Rattle.scale_wire.specs.Marked.{begins_with, marked_bytes, BadMarked}
use Rattle.scale_wire.specs.MarkedLaws.{plain_spelled, wide_spelled}
use Rattle.scale_wire.specs.Reading.{Place, IsRead, IsFault, Reads}
use Rattle.compact_solution.specs.declared.entry.TheConstants.{WIDE_MARK}
use Rattle.compact_solution.specs.Solution.{Entry, plain_groups, wide_groups, groups_in, is_wide, group_form, groups_form, solution_form}
use Rattle.compact_solution.specs.SolutionLaws.{groups_laws, groups_long, solution_apart}
use Rattle.compact_solution.specs.Widths.{mark_before, behind_mark}

pub groups_counted : (solution : List (List Entry)) → solution_form.in_range solution → length solution ≡ groups_in (is_wide solution)
groups_counted solution (inl fits) = groups_long 0 plain_groups solution fits ∙ ap groups_in (sym (solution_apart.plain_is solution fits))
groups_counted solution (inr fits) = groups_long 0 wide_groups solution fits ∙ ap groups_in (sym (solution_apart.wide_is solution fits))

-- the groups of a solution are a row, in either form
pub groups_row : (solution : List (List Entry)) → solution_form.in_range solution → IsRow group_form 0 (length solution) solution
groups_row solution (inl fits) = subst (λ (n : ℕ). IsRow group_form 0 n solution) (sym (groups_long 0 plain_groups solution fits)) fits
groups_row solution (inr fits) = subst (λ (n : ℕ). IsRow group_form 0 n solution) (sym (groups_long 0 wide_groups solution fits)) fits

-- ## The mark

one_byte : (byte : ℕ) → byte < 256 → little_endian 1 byte ≡ byte ∷ []
unfolding little_endian
one_byte byte below = let same : byte % 256 ≡ byte = omega arith in ap (λ (b : ℕ). b ∷ []) same

module _ (old new : Place) (byte : ℕ) (read : IsRead fixed_u8 old byte new) where
  byte_taken : old.rest ≡ byte ∷ new.rest
  byte_taken = read.whole ∙ ap (λ (s : List ℕ). s ++ new.rest) (one_byte byte (omega (arith, read.in_range)))

  -- a byte that was taken is the first one, whether it is the mark or not
  pub mark_tells : begins_with WIDE_MARK old.rest ≡ nat_eq byte WIDE_MARK
  mark_tells = ap (begins_with WIDE_MARK) byte_taken

  pub mark_passed : new ≡ behind_mark true old
  mark_passed =
      let at : new.at ≡ old.at + 1 = omega (arith, read.at_is, ap length (one_byte byte (omega (arith, read.in_range)))) in
      ap₂ (λ (a : ℕ) (r : List ℕ). record { at = a; rest = r }) at (sym (ap (drop 1) byte_taken))

-- where no byte is left there is no mark
pub no_mark : (old new : Place) (fault : WireFault) → IsFault fixed_u8 old fault new → begins_with WIDE_MARK old.rest ≡ false
no_mark old new fault refused = at old.rest (short_from_some 1 old.rest fault.why refused.bad.1).1 where
  at : (rest : List ℕ) → length rest < 1 → begins_with WIDE_MARK rest ≡ false
  at [] short = refl
  at (first ∷ rest) short = absurd (omega (arith, short))

mark_is_first : (bytes : List ℕ) → begins_with WIDE_MARK bytes ≡ true → bytes ≡ WIDE_MARK ∷ drop 1 bytes
mark_is_first [] is = cc
mark_is_first (first ∷ rest) is = elim (eqb_tells first WIDE_MARK) [
  | inl same ↦ ap (λ (b : ℕ). b ∷ rest) same.1
  | inr other ↦ cc
]

-- ## Reading behind it

-- the groups that were read behind the mark, or where there is none, are a solution
pub solution_read : (wide : Bool) (old here mid new : Place) (solution : List (List Entry)) → here ≡ old → wide ≡ begins_with WIDE_MARK here.rest → mid ≡ behind_mark wide here
    → IsRead (groups_form (groups_in wide)) mid solution new → IsRead solution_form old solution new
solution_read true old here mid new solution same marked place read =
    let spelled = wide_spelled WIDE_MARK is_wide (groups_form plain_groups) (groups_form wide_groups) (groups_laws plain_groups) (groups_laws wide_groups) solution_apart solution read.in_range in
    let rest_is : mid.rest ≡ drop 1 old.rest = ap (λ (p : Place). p.rest) place ∙ ap (λ (p : Place). drop 1 p.rest) same in
    let at_is : mid.at ≡ old.at + 1 = ap (λ (p : Place). p.at) place ∙ ap (λ (p : Place). p.at + 1) same in
    let first = mark_is_first old.rest (ap (λ (p : Place). begins_with WIDE_MARK p.rest) (sym same) ∙ sym marked) in
    record {
      in_range = inr read.in_range;
      whole = first ∙ (ap (λ (s : List ℕ). WIDE_MARK ∷ s) (sym rest_is ∙ read.whole) ∙ ap (λ (s : List ℕ). s ++ new.rest) (sym spelled));
      at_is = omega (arith, at_is, read.at_is, ap length spelled);
    }
solution_read false old here mid new solution same marked place read =
    let spelled = plain_spelled WIDE_MARK is_wide (groups_form plain_groups) (groups_form wide_groups) (groups_laws plain_groups) (groups_laws wide_groups) solution_apart solution read.in_range in
    let is : mid ≡ old = place ∙ same in
    record {
      in_range = inl read.in_range;
      whole = ap (λ (p : Place). p.rest) (sym is) ∙ (read.whole ∙ ap (λ (s : List ℕ). s ++ new.rest) (sym spelled));
      at_is = omega (arith, ap (λ (p : Place). p.at) is, read.at_is, ap length spelled);
    }

solution_fault : (wide : Bool) (old mid new : Place) (fault : WireFault) → begins_with WIDE_MARK old.rest ≡ wide → mid ≡ behind_mark wide old
    → IsFault (groups_form (groups_in wide)) mid fault new → IsFault solution_form old fault old
solution_fault true old mid new fault marked place refused = record {
  place = 1 + refused.place;
  bad = subst (λ (b : Bool). BadMarked (groups_form plain_groups) (groups_form wide_groups) b old.rest (1 + refused.place) fault.why) (sym marked) record {
    place = refused.place;
    at_is = refl;
    refused = subst (λ (p : Place). (groups_form wide_groups).bad p.rest refused.place fault.why) place refused.bad;
  };
  at_is = omega (arith, ap (λ (p : Place). p.at) place, refused.at_is);
  unchanged = refl;
}
solution_fault false old mid new fault marked place refused = record {
  place = refused.place;
  bad = subst (λ (b : Bool). BadMarked (groups_form plain_groups) (groups_form wide_groups) b old.rest refused.place fault.why) (sym marked)
      (subst (λ (p : Place). (groups_form plain_groups).bad p.rest refused.place fault.why) place refused.bad);
  at_is = omega (arith, ap (λ (p : Place). p.at) place, refused.at_is);
  unchanged = refl;
}

-- what was refused behind the mark is refused as a solution
pub solution_err : (wide : Bool) (old here mid new : Place) (fault : ReadFault) → here ≡ old → wide ≡ begins_with WIDE_MARK here.rest → mid ≡ behind_mark wide here
    → Reads (groups_form (groups_in wide)) mid (Err fault) new → Reads solution_form old (Err fault) old
solution_err wide old here mid new (Wire fault) same marked place refused =
    solution_fault wide old mid new fault (ap (λ (p : Place). begins_with WIDE_MARK p.rest) (sym same) ∙ sym marked) (place ∙ ap (behind_mark wide) same) refused
solution_err wide old here mid new NoMemory same marked place refused = refl

-- ## Writing behind it

pub solution_spelled : (solution : List (List Entry)) → mark_before (is_wide solution) ++ row_bytes group_form 0 solution ≡ solution_form.spelling solution
solution_spelled solution = at (is_wide solution) where
  at : (wide : Bool) → mark_before wide ++ row_bytes group_form 0 solution ≡ marked_bytes WIDE_MARK (groups_form plain_groups) (groups_form wide_groups) wide solution
  at true = refl
  at false = refl

pub wide_by_count : (solution : List (List Entry)) → nat_eq (length solution) 24 ≡ is_wide solution
unfolding wide_groups
wide_by_count solution = refl
