-- What is written into a buffer of the caller.
use Rattle.std.specs.Prelude.{ℕ, List, ◌++◌, length, drop}

-- these stand at the front, and what is behind them stays
abbrev pub over : List ℕ → List ℕ → List ℕ
over written buffer = written ++ drop (length written) buffer
