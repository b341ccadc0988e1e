use Rattle.std.proofs.Common.{rules, arith, ◌≡◌, get_or, length, ◌<◌, ◌^◌}
use Rattle.std.proofs.lemmas.Nat.{mul-lt}
use Rattle.weight_book.specs.Weights.{support}
use Rattle.weight_book.proofs.ScoreLemmas.{supports_more, scored_more, scored_all}
use Rattle.weight_book.proofs.weights.Weights.score.Goals as goal

pub overflow_cast-support : goal.overflow_cast-support
overflow_cast-support c =
    let at : c.support-support.result ≡ support c.args.self.now.plain.edges (get_or c.args.self.now.plain.committee c.loop-member.member-index 0) = search rules in
    let h : c.loop-member.member-index < length c.args.self.now.plain.committee = search rules in
    omega (arith, supports_more c.args.self.now.plain c.loop-member.member-index 0 h c.requires.distinct)

pub overflow_add-score : goal.overflow_add-score
overflow_add-score c =
    let at : c.support-support.result ≡ support c.args.self.now.plain.edges (get_or c.args.self.now.plain.committee c.loop-member.member-index 0) = search rules in
    let h : c.loop-member.member-index < length c.args.self.now.plain.committee = search rules in
    omega (arith, supports_more c.args.self.now.plain c.loop-member.member-index 0 h c.requires.distinct)

pub overflow_mul-score : goal.overflow_mul-score
overflow_mul-score c =
    let at : c.support-support.result ≡ support c.args.self.now.plain.edges (get_or c.args.self.now.plain.committee c.loop-member.member-index 0) = search rules in
    let h : c.loop-member.member-index < length c.args.self.now.plain.committee = search rules in
    let more = supports_more c.args.self.now.plain c.loop-member.member-index 0 h c.requires.distinct in
    let fits = mul-lt c.from.result c.from-in-loop-member.result (2 ^ 64) (2 ^ 64) (omega (arith, more)) (omega (arith, more)) in
    omega (arith, fits)

pub loop-member-preserved : goal.loop-member-preserved
loop-member-preserved c =
    let at : c.support-support.result ≡ support c.args.self.now.plain.edges (get_or c.args.self.now.plain.committee c.loop-member.member-index 0) = search rules in
    let h : c.loop-member.member-index < length c.args.self.now.plain.committee = search rules in
    scored_more c.args.self.now.plain c.loop-member.member-index 0 h c.loop-member.score c.support-support.result _ _ _ at c.loop-member.invariant
    (search rules) (search rules) (search rules)

pub returns : goal.returns
returns c = scored_all c.args.self.now.plain c.loop-member.member-index c.loop-member.score c.loop-member.invariant (search rules) c.requires.some c.requires.distinct c.requires.fits
