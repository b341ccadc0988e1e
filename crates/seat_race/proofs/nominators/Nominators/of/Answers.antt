use Rattle.std.proofs.Common.{rules, ◌+◌, ◌<◌, length, arith}
use Rattle.seat_race.specs.Parts.{parted}
use Rattle.seat_race.proofs.PartLemmas.{part_rises, part_within, said}
use Rattle.seat_race.proofs.nominators.Nominators.of.Goals as goal

pub slice_bounds-result-count : goal.slice_bounds-result-count
slice_bounds-result-count c =
    let target = c.from-target.result in
    let voters = c.self.inside.voters.items in
    let starts = c.self.inside.starts.items in
    let there : target < length (parted voters starts) = search rules in
    let within : target + 1 < length starts = part_within voters starts target there in
    omega (
      arith,
      part_rises voters starts target c.self.invariant there,
      said starts target c.index.result.now (omega (arith, within)) c.index.ensures,
      said starts (target + 1) c.index-2.result.now within c.index-2.ensures,
    )
