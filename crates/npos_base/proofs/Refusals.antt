-- Answers that were found beforehand meet what a call owes.
use Rattle.std.proofs.Common.{◌≡◌, refl, ap, subst, Option, Some, None, Result, Ok, Err, OnOk}
use Rattle.npos_base.specs.Refusal.{IsDue, answer_of, Meets}

-- the refusal that stands is due
pub due_itself : {E : Type 0} (memory refusal : E) → IsDue memory (Some refusal) refusal
due_itself memory refusal other = refl

pub due_answer : {E : Type 0} (memory : E) (due : Option E) (error : E) → answer_of due ≡ Err error → IsDue memory due error
due_answer memory None error e = absurd (cc)
due_answer memory (Some refusal) error e = let same : refusal ≡ error = cc in subst (λ r. IsDue memory (Some refusal) r) same (due_itself memory refusal)

pub none_answered : {E : Type 0} (due : Option E) → answer_of due ≡ Ok tt → due ≡ None
none_answered None e = refl
none_answered (Some refusal) e = absurd (cc)

-- a call that refuses meets what it owes where its answer is the refusal that stands
pub meets_answer : {S T E : Type 0} (memory : E) (due : Option E) (error : E) (effect old : S)
    → answer_of due ≡ Err error → Meets {T = T} memory due effect old old (Err error)
meets_answer memory due error effect old e = record { ok = tt; refused = due_answer memory due error e; unchanged = refl }

pub refused_meets : {S T E : Type 0} (memory : E) (due : Option E) (error : E) (effect old : S)
    → due ≡ Some error → Meets {T = T} memory due effect old old (Err error)
refused_meets memory due error effect old e = meets_answer memory due error effect old (ap answer_of e)

-- a call that is done meets what it owes where no refusal stands
pub done_meets : {S E : Type 0} (memory : E) (due : Option E) (effect old new : S)
    → due ≡ None → new ≡ effect → Meets {T = Unit {0}} memory due effect old new (Ok tt)
done_meets memory due effect old new e f = record { ok = (e, f); refused = tt; unchanged = tt }

-- what follows from a fact that holds where there is a value
pub then_ok : {T E P Q : Type 0} (result : Result T E) → (P → Q) → OnOk result P → OnOk result Q
then_ok (Ok value) follows holds = follows holds
then_ok (Err error) follows holds = tt
