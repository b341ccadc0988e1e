-- Numbers as bytes, the least significant first.
use Rattle.std.specs.Prelude.{ℕ, zero, suc, ◌+◌, ◌*◌, ◌/◌, ◌%◌, List, [], ◌∷◌}

-- the lowest `count` bytes of a number
unfoldable pub little_endian : ℕ → ℕ → List ℕ
little_endian zero number = []
little_endian (suc count) number = number % 256 ∷ little_endian count (number / 256)

-- the number that the bytes are
unfoldable pub number_from : List ℕ → ℕ
number_from [] = 0
number_from (byte ∷ bytes) = byte + 256 * number_from bytes
