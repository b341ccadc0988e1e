-- What a line holds once a part of it was written over.
use Rattle.std.proofs.Common.{◌≡◌, ◌-◌, ◌+◌, ◌≤◌, ℕ, List, [], ◌++◌, take, drop, length, arith, ap, ap₂, length-append}
use Rattle.std.proofs.Common.{length-take, length-drop, length-take-le, take_at, drop_at, drop-drop, append-nil, ◌∙◌}
use Rattle.std.proofs.lemmas.List.{drop_all}
use borrow.Rule.Slice.PartMut.{put_mid}

-- from the part on: the part, and what stood behind it
pub behind_put : (from count : ℕ) (line part : List ℕ) → from ≤ length line
    → drop from (put_mid from count line part) ≡ part ++ drop (from + count) line
behind_put from count line part within =
    drop_at (take from line) (part ++ drop count (drop from line)) from
    (length-take-le from line within)
    ∙ ap (λ rest. part ++ rest) (drop-drop count from line)

-- so many places before a place within a line
pub before : (count place : ℕ) (line : List ℕ) → count ≤ place → place ≤ length line
    → length (take (place - (place - count)) (drop (place - count) line)) ≡ count
before count place line behind within = omega (
  arith,
  behind,
  within,
  length-take (place - (place - count)) (drop (place - count) line),
  length-drop (place - count) line,
)

-- what stands behind a part, written over to the end
pub over_the_rest : (from : ℕ) (part rest behind : List ℕ) → length part ≡ from
    → put_mid from (length (part ++ rest) - from) (part ++ rest) behind ≡ part ++ behind
over_the_rest from part rest behind size =
    let count = length (part ++ rest) - from in
    let nothing : drop count (drop from (part ++ rest)) ≡ [] =
    ap (λ l. drop count l) (drop_at part rest from size)
    ∙ drop_all count rest (omega (arith, size, length-append part rest)) in
    ap₂ (λ l m. l ++ (behind ++ m)) (take_at part rest from size) nothing
    ∙ ap (λ l. part ++ l) (append-nil behind)

-- a part that is written over by as much leaves the line as long
pub long_put : (from count : ℕ) (line part : List ℕ) → from + count ≤ length line → length part ≡ count
    → length (put_mid from count line part) ≡ length line
long_put from count line part within size = omega (
  arith,
  within,
  size,
  length-append (take from line) (part ++ drop count (drop from line)),
  length-append part (drop count (drop from line)),
  length-take-le from line (omega (arith, within)),
  length-drop count (drop from line),
  length-drop from line,
)
