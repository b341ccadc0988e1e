-- The words of a call, and the command that they ask for.
use Rattle.std.specs.Prelude.{⊤, ℕ, ◌≤◌, Bool, false, not, ◌&&◌, ◌||◌, ◌^◌, ◌-◌, List, [], ◌∷◌, drop, codes, Option, Some, None, option_map, option_and_then, if◌then◌else◌}
use Rattle.std.specs.List.{list_any}
use Rattle.std.specs.Str.{bytes_eq}
use Rattle.npos_base.specs.declared.limits.TheConstants.{MOST_ROUNDS, MOST_SEATS, MOST_VOTERS}
use Rattle.npos_base.specs.Miner.{named, KeepsRounds}
use Rattle.npos_words.specs.declared.command.Command.{Command}
use Rattle.npos_words.specs.declared.command.Command.TheVariants as commands
use Rattle.npos_words.specs.Numbers.{number_within}
use Rattle.npos_words.specs.Options.{Text, options_of, value_of}

-- ## The commands, by the value of each option that is given

-- what the options of a verb are, by name
abbrev pub Values : Type 0
Values = Text → Option Text

abbrev pub option_number : Values → Text → ℕ → ℕ → Option ℕ
option_number values name least most = option_and_then (number_within least most) (values name)

-- 8 rounds where none are given
abbrev pub rounds_of : Option Text → Option ℕ
rounds_of None = Some 8
rounds_of (Some text) = number_within 1 MOST_ROUNDS text

-- the rounds are within their bounds whoever mines
abbrev pub mine_of : Values → Option Command
mine_of values =
    option_and_then (λ rounds. option_map commands.Mine (option_and_then (λ name. named name rounds) (values (codes "miner"))))
    (rounds_of (values (codes "rounds")))

abbrev pub demo_of : Values → Option Command
demo_of values =
    option_and_then (λ seed. option_and_then (λ voters. option_map (commands.Demo seed voters)
    (option_number values (codes "seats") 1 MOST_SEATS)) (option_number values (codes "voters") 1 MOST_VOTERS))
    (option_number values (codes "seed") 0 (2 ^ 64 - 1))

abbrev pub mine_names : List Text
mine_names = codes "miner" ∷ codes "rounds" ∷ []

abbrev pub demo_names : List Text
demo_names = codes "seed" ∷ codes "voters" ∷ codes "seats" ∷ []

-- ## The words

-- a command that has no options
abbrev pub alone : Command → List Text → Option Command
alone command words = option_map (λ given. command) (options_of [] words)

abbrev pub mine_by : List Text → Option Command
mine_by words = option_and_then (λ given. mine_of (value_of given)) (options_of mine_names words)

abbrev pub demo_by : List Text → Option Command
demo_by words = option_and_then (λ given. demo_of (value_of given)) (options_of demo_names words)

-- a verb, and the command that the words behind it ask for
pub record Verb : Type 0 where
  pub name : Text
  pub asks : List Text → Option Command

abbrev pub verb : Text → (List Text → Option Command) → Verb
verb word reading = record { name = word; asks = reading }

abbrev pub verbs : List Verb
verbs =
    verb (codes "replay") (alone commands.Replay)
    ∷ verb (codes "check") (alone commands.Check)
    ∷ verb (codes "mine") mine_by
    ∷ verb (codes "pack") (alone commands.Pack)
    ∷ verb (codes "show") (alone commands.Show)
    ∷ verb (codes "demo") demo_by
    ∷ verb (codes "checkpoint") (alone commands.Checkpoint)
    ∷ verb (codes "resume") (alone commands.Resume)
    ∷ verb (codes "pools") (alone commands.Pools)
    ∷ []

-- what the first of these verbs that is the word asks for
abbrev pub asked_by : List Verb → Text → List Text → Option Command
asked_by [] word words = None
asked_by (verb ∷ more) word words =
    if bytes_eq word verb.name then verb.asks words else asked_by more word words

-- the command of a word, by the words behind it
abbrev pub command_by : Text → List Text → Option Command
command_by word words = asked_by verbs word words

-- a word of one or two hyphens alone, which is neither an option nor a value
abbrev pub is_bare : Text → Bool
is_bare word = bytes_eq word (codes "-") || bytes_eq word (codes "--")

abbrev pub command_after : List Text → Option Command
command_after [] = None
command_after (verb ∷ words) = command_by verb words

-- The first word is the program's name, which is not looked at. The second is the verb. No word
-- behind the first is bare.
abbrev pub command_of : List Text → Option Command
command_of words = if list_any is_bare (drop 1 words) then None else command_after (drop 1 words)

-- ## Where memory is wanted

abbrev pub is_verb : Text → Bool
is_verb text = list_any (λ verb. bytes_eq text verb.name) verbs

abbrev pub begins_with_verb : List Text → Bool
begins_with_verb [] = false
begins_with_verb (verb ∷ words) = is_verb verb

-- the second word is a verb, and no word behind the first is bare
abbrev pub has_verb : List Text → Bool
has_verb words = begins_with_verb (drop 1 words) && not (list_any is_bare (drop 1 words))

-- ## What is known of a command

-- each number of a command is one that its option may have
abbrev pub KeepsBounds : Option Command → Type 0
KeepsBounds (Some (commands.Mine miner)) = KeepsRounds miner
KeepsBounds (Some (commands.Demo seed voters seats)) = (1 ≤ voters) × (voters ≤ MOST_VOTERS)
    × (1 ≤ seats) × (seats ≤ MOST_SEATS)
KeepsBounds command = ⊤
