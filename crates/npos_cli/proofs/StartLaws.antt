-- How a replay begins: the genesis is refused, or has a fault, or starts the chain.
use Rattle.std.proofs.Common.{◌≡◌, ◌≢◌, inl, inr, ℕ, Bool, true, false, List, [], ◌++◌, Option, Some, None, Ok, sym, ◌∙◌, ap, arith, true≢false}
use Rattle.scale_wire.specs.declared.fault.WireFault.{WireFault}
use Rattle.scale_wire.specs.Form.{IsBytes}
use Rattle.scale_wire.specs.Reading.{Place, IsRead, IsFault}
use Rattle.block_wire.specs.declared.genesis.Genesis.{Genesis}
use Rattle.block_wire.specs.Genesis.{genesis_form}
use Rattle.npos_runtime.specs.declared.chain.Chain.{Chain}
use Rattle.npos_runtime.specs.Rules.Outcome.{Election}
use Rattle.chain_params.specs.declared.fault.GenesisFault.{GenesisFault}
use Rattle.chain_params.specs.declared.fault.GenesisFault.TheVariants.{NoMemory}
use Rattle.npos_runtime.specs.Genesis.{genesis_fault, genesis_chain, IsFault as IsGenesisFault}
use Rattle.chain_params.specs.Faults.{fault_numbers}
use Rattle.bundle_reports.specs.Texts.{fault_line}
use Rattle.npos_cli.specs.Texts.{genesis_line}
use Rattle.run_edges.specs.Replay.{Outcome, Starts, BadGenesis, FaultyGenesis}
use Rattle.npos_cli.specs.declared.output.Output.{Output}
use Rattle.npos_cli.specs.Outputs.{machine_of}
use Rattle.npos_cli.specs.Chain.{started}
use Rattle.run_edges.specs.Owed.{LeftAfter, FindsReplay}
use Rattle.run_edges.specs.Ahead.{first_place, HasSeen, IsSure}
use Rattle.run_edges.specs.Turning.{spot}
use Rattle.npos_cli.proofs.ChainLaws.{genesis_laws}
use Rattle.block_wire.proofs.StreamLemmas.{read_grows}
use Rattle.run_edges.proofs.GrowLaws.{bad_grows}
use Rattle.run_edges.proofs.StartLaws.{found}

abbrev pub outcome : List ℕ → Bool → List Election → Option Chain → Outcome Chain Election
outcome text faulty seated last = record { text = text; faulty = faulty; seated = seated; last = last }

pub outcome_with : (text other : List ℕ) (faulty : Bool) (seated : List Election) (last : Option Chain) → text ≡ other
    → outcome text faulty seated last ≡ outcome other faulty seated last
outcome_with text other faulty seated last same = ap (λ (t : List ℕ). outcome t faulty seated last) same

is_due : (due : Option GenesisFault) (fault : GenesisFault) → IsGenesisFault due fault → fault ≢ NoMemory → due ≡ Some fault
is_due due fault (inl memory) not_memory = absurd (not_memory memory)
is_due due fault (inr e) not_memory = e

module _ (output : Output) where
  pub refused_replay : (left now : Option (List ℕ)) (taken told : List ℕ) (ended : Bool) (fault : WireFault) → HasSeen left now taken false ended → IsBytes taken
      → IsFault genesis_form (first_place taken) fault (first_place taken) → IsSure ended fault.why → told ≡ fault_line fault.at fault.why → FindsReplay (machine_of output) left now told true
  refused_replay left now taken told ended fault has_seen are_bytes is sure told_is =
      let place : fault.at ≡ is.place = omega (arith, is.at_is) in
      found (machine_of output) left now taken told ended true has_seen
      (λ more follow. (
        [],
        None,
        BadGenesis is.place fault.why (bad_grows genesis_form genesis_laws taken more is.place fault.why ended are_bytes sure follow is.bad)
            (outcome_with told (fault_line is.place fault.why) true [] None (told_is ∙ ap (λ at. fault_line at fault.why) place)),
      ))
      (λ e. cc)

  pub faulty_replay : (left now : Option (List ℕ)) (taken told : List ℕ) (place : Place) (genesis : Genesis) (fault : GenesisFault) → LeftAfter left now taken
      → IsRead genesis_form (first_place taken) genesis place → IsGenesisFault (genesis_fault genesis) fault → fault ≢ NoMemory → told ≡ genesis_line (fault_numbers fault)
      → FindsReplay (machine_of output) left now told true
  faulty_replay left now taken told place genesis fault left_is is due not_memory told_is =
      found (machine_of output) left now taken told false true (record { taken = left_is; at_end = λ e. absurd (true≢false (sym e)) })
      (λ more follow. (
        [],
        None,
        FaultyGenesis genesis (place.rest ++ more) (genesis_line (fault_numbers fault)) is.in_range (read_grows genesis_form (first_place taken) place genesis more is).whole
            (ap (λ (o : Option GenesisFault). started o genesis) (is_due (genesis_fault genesis) fault due not_memory))
            (outcome_with told (genesis_line (fault_numbers fault)) true [] None told_is),
      ))
      (λ e. cc)

  -- the genesis starts the chain
  pub genesis_starts : (taken : List ℕ) (place : Place) (genesis : Genesis) (chain : Chain) → IsRead genesis_form (first_place taken) genesis place → genesis_fault genesis ≡ None
      → chain ≡ genesis_chain genesis → Starts (machine_of output) taken (spot place chain)
  genesis_starts taken place genesis chain is sound chain_is = record {
    genesis = genesis;
    in_range = is.in_range;
    state_is = ap (λ (o : Option GenesisFault). started o genesis) sound ∙ ap Ok (sym chain_is);
    whole = is.whole;
    at_is = omega (arith, is.at_is);
  }
