-- Few marks stand in the value itself, more of them in a list.
use Rattle.std.specs.Prelude.{◌≤◌, ℕ, List, length, take}
use Rattle.voter_lists.specs.declared.marks.Held.{Held}
use Rattle.voter_lists.specs.declared.marks.Held.TheVariants.{Few, Many}

-- the marks, in order
abbrev pub marks_in : Held → List ℕ
marks_in (Few count marks) = take count marks
marks_in (Many marks) = marks

-- no more marks are counted than stand there
abbrev pub IsWithin : Held → Type 0
IsWithin (Few count marks) = count ≤ length marks
IsWithin (Many marks) = Unit {0}
