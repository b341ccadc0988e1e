use Rattle.std.proofs.Common.{◌∙◌, Option, drop, map, string_bytes, subst}
use Rattle.clap.specs.declared.parser.matches.ArgMatches.{ArgMatches}
use Rattle.npos_words.specs.Found.{Finds}
use Rattle.npos_words.specs.Options.{options_of}
use Rattle.npos_words.specs.Words.{demo_names, demo_of}
use Rattle.npos_words.proofs.WordLemmas.{found_gives}
use Rattle.npos_words.proofs.words.demo_by.Goals as goal

pub returns-in-Some : goal.returns-in-Some
returns-in-Some c =
    let given = options_of demo_names (drop 1 (map string_bytes c.args.words.now)) in
    c.demo_of.ensures ∙ found_gives demo_of c.in-Some.options given
    (subst (λ (found : Option ArgMatches). Finds found given) c.in-Some.is c.in_ok-options.ensures)
