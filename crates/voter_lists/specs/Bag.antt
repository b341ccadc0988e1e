-- One bag is the list of its accounts.
use Rattle.std.specs.Prelude.{not, if◌then◌else◌, List, [], ◌∷◌, filter}
use Rattle.npos_base.specs.declared.account.AccountId.{AccountId}
use Rattle.npos_base.specs.Account.{same_account}

-- the accounts but this one
abbrev pub without : List AccountId → AccountId → List AccountId
without accounts who = filter (λ account. not (same_account account who)) accounts

-- an account goes directly before another
abbrev pub with_before : List AccountId → AccountId → AccountId → List AccountId
with_before [] who lighter = who ∷ []
with_before (account ∷ accounts) who lighter = if same_account account lighter then who ∷ account ∷ accounts
    else account ∷ with_before accounts who lighter
