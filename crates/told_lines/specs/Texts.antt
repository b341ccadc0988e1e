-- The words and numbers of lines. Numbers are decimal, and every line ends with a newline.
use Rattle.std.specs.Prelude.{◌≡◌, ℕ, List, [], ◌∷◌, ◌++◌, length, take, flat_map, codes, decimal}
use Rattle.hex.specs.Hex.{encode_lower}
use Rattle.npos_base.specs.declared.account.AccountId.{AccountId}
use Rattle.npos_base.specs.Account.{account_bytes}

abbrev pub newline : List ℕ
newline = 10 ∷ []

-- the bytes of an account, each as two digits in hexadecimal, in lower case
abbrev pub account_text : AccountId → List ℕ
account_text who = encode_lower (account_bytes who)

-- a number behind a blank
abbrev pub number_text : ℕ → List ℕ
number_text number = codes " " ++ decimal number

-- a number behind a blank, and the end of the line
abbrev pub amount_text : ℕ → List ℕ
amount_text amount = codes " " ++ (decimal amount ++ newline)

-- the line of an account and an amount, behind some words
abbrev pub amount_line : List ℕ → AccountId → ℕ → List ℕ
amount_line words who amount = words ++ (account_text who ++ amount_text amount)

-- the line of a call that was accepted
abbrev pub ok_line : ℕ → List ℕ
ok_line index = codes "call " ++ (decimal index ++ codes " ok\n")

-- words, and then numbers behind a blank each
abbrev pub numbers_line : List ℕ → List ℕ → List ℕ
numbers_line words numbers = words ++ (flat_map number_text numbers ++ newline)

-- what was told before still stands, whatever follows it; a call whose memory is refused may have
-- told a front of what it tells
abbrev pub Keeps : List ℕ → List ℕ → Type 0
Keeps old new = take (length old) new ≡ old
