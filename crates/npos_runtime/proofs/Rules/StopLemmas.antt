-- A call that the lists refuse is refused, or stops for want of memory.
use Rattle.std.proofs.Common.{◌≡◌, Option, option_map, Err, ap, refl}
use Rattle.npos_base.specs.Refusal.{IsDue}
use Rattle.voter_lists.specs.declared.refusal.ListRefusal.{ListRefusal}
use Rattle.voter_lists.specs.declared.refusal.ListRefusal.TheVariants as lists
use Rattle.npos_runtime.specs.declared.chain.Chain.{Chain}
use Rattle.block_receipts.specs.declared.refusal.Refusal.TheVariants.{List}
use Rattle.block_receipts.specs.declared.stop.Stop.TheVariants as stops
use Rattle.block_receipts.specs.Stops.{list_stop}
use Rattle.npos_runtime.specs.Rules.Outcome.{Meets}

due_stop : (due : Option ListRefusal) (refusal : ListRefusal) → IsDue lists.NoMemory due refusal
    → IsDue stops.NoMemory (option_map stops.Refused (option_map (λ r. List r) due)) (list_stop refusal)
due_stop due lists.NoTargets is other = ap (λ d. option_map stops.Refused (option_map (λ r. List r) d)) (is (λ e. absurd (cc)))
due_stop due lists.TooManyTargets is other = ap (λ d. option_map stops.Refused (option_map (λ r. List r) d)) (is (λ e. absurd (cc)))
due_stop due lists.RepeatedTarget is other = ap (λ d. option_map stops.Refused (option_map (λ r. List r) d)) (is (λ e. absurd (cc)))
due_stop due lists.NotValidator is other = ap (λ d. option_map stops.Refused (option_map (λ r. List r) d)) (is (λ e. absurd (cc)))
due_stop due lists.TooManyValidators is other = ap (λ d. option_map stops.Refused (option_map (λ r. List r) d)) (is (λ e. absurd (cc)))
due_stop due lists.BadFraction is other = ap (λ d. option_map stops.Refused (option_map (λ r. List r) d)) (is (λ e. absurd (cc)))
due_stop due lists.NotListed is other = ap (λ d. option_map stops.Refused (option_map (λ r. List r) d)) (is (λ e. absurd (cc)))
due_stop due lists.SameBag is other = ap (λ d. option_map stops.Refused (option_map (λ r. List r) d)) (is (λ e. absurd (cc)))
due_stop due lists.OtherBag is other = ap (λ d. option_map stops.Refused (option_map (λ r. List r) d)) (is (λ e. absurd (cc)))
due_stop due lists.NotHeavier is other = ap (λ d. option_map stops.Refused (option_map (λ r. List r) d)) (is (λ e. absurd (cc)))
due_stop due lists.NoMemory is other = absurd (other refl)

pub list_refused : {T : Type 0} (due : Option ListRefusal) (refusal : ListRefusal) (done old new : Chain) → IsDue lists.NoMemory due refusal → new ≡ old
    → Meets {T = T} (option_map (λ r. List r) due) done old new (Err (list_stop refusal))
list_refused due refusal done old new is same = record { ok = tt; refused = due_stop due refusal is; unchanged = λ other. same }
