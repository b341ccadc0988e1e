-- The committee's exposures are sound, and what is kept is what the start of an era with them leaves.
use Rattle.std.proofs.Common.{rules, ◌≡◌, List, length, map, sym, subst}
use Rattle.std.proofs.lemmas.Result.{on_ok_weaker}
use Rattle.era_book.specs.declared.exposure.Exposure.{Exposure}
use Rattle.era_book.specs.Exposures.{AreSound}
use Rattle.era_book.specs.Committee.{edges_by_voter, exposure_of}
use Rattle.era_book.specs.Members.{members_with}
use Rattle.era_book.specs.Eras.{started, AreMembers}
use Rattle.era_book.proofs.EraLemmas.{sound_newcomers}
use Rattle.era_book.proofs.OtherLemmas.{exposures_begun, no_other_begun, earlier_begun}
use Rattle.era_book.proofs.SoundLemmas.{elected_sound}
use Rattle.era_book.proofs.book.EraBook.start_elected.Goals as goal

pub begin-requires-clause-sound : goal.begin-requires-clause-sound
begin-requires-clause-sound c =
    let exposures : List Exposure = map (exposure_of c.args.targets.now c.args.commissions.now c.args.supports.now
    c.args.voters (edges_by_voter (length c.args.voters) c.args.edges.now)) c.args.members.now in
    let sound : AreSound exposures = elected_sound c.args.targets.now c.args.voters c.args.commissions.now c.args.supports.now c.args.edges.now c.args.members.now c.requires.elected in
    let members : c.in_ok-era.era ≡ members_with exposures = search rules in
    subst AreMembers (sym members) (sound_newcomers exposures sound.each)

pub returns-clause-newcomers : goal.returns-clause-newcomers
returns-clause-newcomers c =
    let exposures : List Exposure = map (exposure_of c.args.targets.now c.args.commissions.now c.args.supports.now
    c.args.voters (edges_by_voter (length c.args.voters) c.args.edges.now)) c.args.members.now in
    let sound : AreSound exposures = elected_sound c.args.targets.now c.args.voters c.args.commissions.now c.args.supports.now c.args.edges.now c.args.members.now c.requires.elected in
    on_ok_weaker c.begin.result
    (λ (is : c.begin.new.self ≡ started exposures c.args.self.now). exposures_begun c.args.self.now c.begin.new.self exposures sound.distinct is)
    (search rules)

pub returns-clause-nobody_else : goal.returns-clause-nobody_else
returns-clause-nobody_else c =
    let exposures : List Exposure = map (exposure_of c.args.targets.now c.args.commissions.now c.args.supports.now
    c.args.voters (edges_by_voter (length c.args.voters) c.args.edges.now)) c.args.members.now in
    on_ok_weaker c.begin.result
    (λ (is : c.begin.new.self ≡ started exposures c.args.self.now). no_other_begun c.args.self.now c.begin.new.self exposures is)
    (search rules)

pub returns-clause-earlier : goal.returns-clause-earlier
returns-clause-earlier c =
    let exposures : List Exposure = map (exposure_of c.args.targets.now c.args.commissions.now c.args.supports.now
    c.args.voters (edges_by_voter (length c.args.voters) c.args.edges.now)) c.args.members.now in
    on_ok_weaker c.begin.result
    (λ (is : c.begin.new.self ≡ started exposures c.args.self.now). earlier_begun c.args.self.now c.begin.new.self exposures is)
    (search rules)
