use Rattle.std.proofs.Common.{rules, ◌≢◌, Ok, Err, sym, subst}
use Rattle.scale_wire.specs.Parts.{compact_u32}
use Rattle.scale_wire.specs.Composite.{pair}
use Rattle.scale_wire.specs.Reading.{Place, Reads}
use Rattle.block_wire.specs.declared.begun_genesis.GenesisStep.{GenesisStep}
use Rattle.block_wire.specs.Genesis.{params_form}
use Rattle.block_wire.specs.Begun.{behind}
use Rattle.block_wire.specs.BegunGenesis.{ReadsAt, GenesisSteps}
use Rattle.block_wire.proofs.GenesisLemmas.{full_whole, params_cut, deferred_whole, tail_cut}
use Rattle.block_wire.proofs.begun_genesis.finish.Goals as goal

pub returns-in-Ok : goal.returns-in-Ok
returns-in-Ok c =
    let old : Place = record { at = c.args.at; rest = c.args.bytes.now } in
    let read : ReadsAt params_form (behind c.args.begun.size old) (Ok (c.in-Ok.params, c.in-Ok.more)) = search rules in
    subst (λ (step : GenesisStep). GenesisSteps old step) (sym c.whole_full.ensures)
    (full_whole c.args.begun old c.in-Ok.params c.in-Ok.more c.requires.begun c.requires.filled c.in-1.is read)

pub returns-in-Err : goal.returns-in-Err
returns-in-Err c =
    let old : Place = record { at = c.args.at; rest = c.args.bytes.now } in
    let there = behind c.args.begun.size old in
    let refused : Reads params_form there (Err c.in-Err.fault) there = search rules in
    (c.requires.begun, params_cut c.args.begun old there c.in-Err.fault c.requires.begun c.requires.filled c.in-1.is (λ i. there) refused)

pub returns-in-Ok-read_at : goal.returns-in-Ok-read_at
returns-in-Ok-read_at c =
    let old : Place = record { at = c.args.at; rest = c.args.bytes.now } in
    let some : c.args.begun.tag ≢ 0 = search rules in
    let waits : c.args.begun.tag ≢ 1 = search rules in
    let read : ReadsAt (pair params_form compact_u32) (behind c.args.begun.size old) (Ok (c.in-Ok-read_at.tail, c.in-Ok-read_at.more)) = search rules in
    subst (λ (step : GenesisStep). GenesisSteps old step) (sym c.whole_deferred.ensures)
    (deferred_whole c.args.begun old c.in-Ok-read_at.tail c.in-Ok-read_at.more c.requires.begun c.requires.filled some waits read)

pub returns-in-Err-read_at : goal.returns-in-Err-read_at
returns-in-Err-read_at c =
    let old : Place = record { at = c.args.at; rest = c.args.bytes.now } in
    let there = behind c.args.begun.size old in
    let some : c.args.begun.tag ≢ 0 = search rules in
    let waits : c.args.begun.tag ≢ 1 = search rules in
    let refused : Reads (pair params_form compact_u32) there (Err c.in-Err-read_at.fault) there = search rules in
    (c.requires.begun, tail_cut c.args.begun old there c.in-Err-read_at.fault c.requires.begun c.requires.filled some waits (λ i. there) refused)
