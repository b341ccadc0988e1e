use Rattle.std.proofs.Common.{List, ℕ, take, drop, sym, subst}
use Rattle.std.proofs.lemmas.List.{take-append-drop}
use Rattle.scale_wire.specs.Form.{IsBytes}
use Rattle.scale_wire.specs.Reading.{Place}
use Rattle.scale_wire.specs.FormLaws.{IsBytes-append, IsBytes-rest}
use Rattle.block_wire.specs.Begun.{front_bytes}
use Rattle.block_wire.proofs.stream.StreamReader.read_genesis.Goals as goal

pub returns-in_err-put_back-clause-bytes : goal.returns-in_err-put_back-clause-bytes
returns-in_err-put_back-clause-bytes c =
    let all = c.self.inside.bytes.items in
    let from = c.self.inside.from in
    let held : IsBytes (drop from all) = IsBytes-rest (take from all) (drop from all) (subst (λ (s : List ℕ). IsBytes s) (sym (take-append-drop from all)) c.put_back.ensures.are_bytes) in
    subst (λ (p : Place). IsBytes p.rest) c.self.view_is (IsBytes-append (front_bytes c.self.inside.begun) (drop from all) c.self.invariant.2 held)
