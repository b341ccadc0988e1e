-- What clap finds of the options of a verb: the command that it is given, and what it answers.
use Rattle.std.specs.Prelude.{◌≡◌, true, List, map, codes, Option, Some, None}
use Rattle.clap.specs.Words.{App, Rule, found_of, first_value, new_app, new_rule}
use Rattle.clap.specs.Simple.{on_top}
use Rattle.clap.specs.declared.builder.action.ArgAction.TheVariants.{Set}
use Rattle.clap.specs.declared.parser.matches.ArgMatches.{ArgMatches}
use Rattle.npos_words.specs.Options.{Text, Setting, value_of}

-- an option with a text as its value
abbrev pub option_rule : Text → Rule
option_rule name = record (new_rule name) { long = Some name; action = Some Set }

-- a command with these options alone
abbrev pub app_with : List Text → App
app_with names = on_top (λ shape. record shape { disable_help_flag = true; rules = map option_rule names })
    (new_app (codes "npos"))

-- clap finds these options, or none where there are none
abbrev pub Finds : Option ArgMatches → Option (List Setting) → Type 0
Finds None None = Unit {0}
Finds (Some matches) (Some given) = (name : Text) → first_value (found_of matches) name ≡ value_of given name
Finds _ _ = ⊥
