-- Each refusal of a call has one of the numbers from 1 to 32: none of them is want of memory.
use Rattle.std.proofs.Common.{◌≡◌, ℕ, Bool, true, false, Option, Some, None, option_map, if◌then◌else◌}
use Rattle.std.specs.Option.{option_or}
use Rattle.npos_base.specs.Limits.{is_within}
use Rattle.era_book.specs.Calls.{claim_refusal, fraction_refusal}
use Rattle.era_book.specs.Members.{Member}
use Rattle.block_receipts.specs.declared.refusal.Refusal.{Refusal}
use Rattle.block_receipts.specs.declared.refusal.Refusal.TheVariants.{Era as ByEra}
use Rattle.block_receipts.specs.Refusals.{code_of}

abbrev pub HasCode : Refusal → Type 0
HasCode refusal = is_within 1 32 (code_of refusal) ≡ true

-- the reason that is due, if one is, has such a number as a refusal of a call
pub data IsCoded {A : Type 0} (by : A → Refusal) : Option A → Type 0 where
  Free : IsCoded by None
  Due : (why : A) → HasCode (by why) → IsCoded by (Some why)

-- a refusal of a call is one already
abbrev pub itself : Refusal → Refusal
itself refusal = refusal

-- ## The first of several reasons

pub coded_if : {A : Type 0} {by : A → Refusal} (b : Bool) (why : A) (rest : Option A) → HasCode (by why) → IsCoded by rest
    → IsCoded by (if b then Some why else rest)
coded_if true why rest coded more = Due why coded
coded_if false why rest coded more = more

pub coded_unless : {A : Type 0} {by : A → Refusal} (b : Bool) (why : A) → HasCode (by why) → IsCoded by (if b then None else Some why)
coded_unless true why coded = Free
coded_unless false why coded = Due why coded

pub coded_or : {A : Type 0} {by : A → Refusal} {first next : Option A} → IsCoded by first → IsCoded by next → IsCoded by (option_or first next)
coded_or Free more = more
coded_or (Due why coded) more = Due why coded

pub coded_by : {A : Type 0} {by : A → Refusal} {due : Option A} → IsCoded by due → IsCoded itself (option_map by due)
coded_by Free = Free
coded_by {by = by} (Due why coded) = Due (by why) coded

pub ruleset codes = (coded_if, coded_unless, coded_or, coded_by, Free, Due)

-- ## Reasons that depend on a member

pub claim_code : (found : Option Member) → IsCoded ByEra (claim_refusal found)
claim_code None = search codes
claim_code (Some member) = search codes

pub fraction_code : (fraction : ℕ) (found : Option Member) → IsCoded ByEra (fraction_refusal fraction found)
fraction_code fraction None = search codes
fraction_code fraction (Some member) = search codes

-- by these every rule is coded
pub ruleset coding = (codes, claim_code, fraction_code)
