-- What is kept is what the start of an era leaves.
use Rattle.std.proofs.Common.{rules, ◌≡◌, sym, subst}
use Rattle.std.proofs.lemmas.Result.{on_ok_weaker}
use Rattle.era_book.specs.Members.{members_with}
use Rattle.era_book.specs.Eras.{started, AreMembers}
use Rattle.era_book.proofs.EraLemmas.{sound_newcomers}
use Rattle.era_book.proofs.OtherLemmas.{exposures_begun, no_other_begun, earlier_begun}
use Rattle.era_book.proofs.book.EraBook.start_era.Goals as goal

pub begin-requires-clause-sound : goal.begin-requires-clause-sound
begin-requires-clause-sound c =
    let members : c.in_ok-era.era ≡ members_with c.args.exposures = search rules in
    subst AreMembers (sym members) (sound_newcomers c.args.exposures c.requires.sound.each)

pub returns-clause-newcomers : goal.returns-clause-newcomers
returns-clause-newcomers c =
    on_ok_weaker c.begin.result
    (λ (is : c.begin.new.self ≡ started c.args.exposures c.args.self.now). exposures_begun c.args.self.now c.begin.new.self c.args.exposures c.requires.sound.distinct is)
    (search rules)

pub returns-clause-nobody_else : goal.returns-clause-nobody_else
returns-clause-nobody_else c =
    on_ok_weaker c.begin.result
    (λ (is : c.begin.new.self ≡ started c.args.exposures c.args.self.now). no_other_begun c.args.self.now c.begin.new.self c.args.exposures is)
    (search rules)

pub returns-clause-earlier : goal.returns-clause-earlier
returns-clause-earlier c =
    on_ok_weaker c.begin.result
    (λ (is : c.begin.new.self ≡ started c.args.exposures c.args.self.now). earlier_begun c.args.self.now c.begin.new.self c.args.exposures is)
    (search rules)
