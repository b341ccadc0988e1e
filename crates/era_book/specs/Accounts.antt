-- The accounts of an era, if it has any.
use Rattle.std.specs.Prelude.{List, [], Option, Some, None, Vec}
use Rattle.std.specs.Global.{Global}
use Rattle.std.specs.Rc.{rc_value}
use Rattle.std.specs.declared.rc.Rc.{Rc}
use Rattle.npos_base.specs.declared.account.AccountId.{AccountId}

abbrev pub accounts_in : Option (Rc (Vec AccountId Global) Global) → List AccountId
accounts_in None = []
accounts_in (Some list) = (rc_value list).items
