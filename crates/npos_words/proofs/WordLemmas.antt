-- From the options that clap finds to the command, and what is known of a command.
use Rattle.std.proofs.Common.{◌≡◌, ◌≤◌, ℕ, Bool, cond, true, false, ap, arith, List, [], ◌∷◌, codes, drop, refl, sym, subst, true≢false, ◌||◌, IfOk, IfSome, Option, Some, None, Result, Ok, Err}
use Rattle.std.specs.List.{AllByRecursion, list_any}
use Rattle.std.specs.Str.{bytes_eq}
use Rattle.std.specs.Prelude.{not, ◌&&◌, option_and_then, option_map}
use Rattle.clap.specs.Words.{first_value, found_of}
use Rattle.clap.specs.declared.parser.matches.ArgMatches.{ArgMatches}
use Rattle.npos_words.specs.declared.command.Command.{Command}
use Rattle.npos_words.specs.declared.command.Command.TheVariants as commands
use Rattle.npos_base.specs.declared.limits.TheConstants.{MOST_ROUNDS}
use Rattle.npos_base.specs.declared.miner.Miner.{Miner}
use Rattle.npos_base.specs.Miner.{named, KeepsRounds}
use Rattle.npos_base.proofs.MinerLaws.{named_keeps}
use Rattle.npos_words.specs.Found.{Finds}
use Rattle.npos_words.specs.Numbers.{number_within}
use Rattle.npos_words.specs.Options.{Setting, Text, options_of, value_of}
use Rattle.npos_words.specs.Words.{Verb, Values, asked_by, verbs, begins_with_verb, command_after, command_by, command_of, demo_names}
use Rattle.npos_words.specs.Words.{demo_of, has_verb, is_bare, KeepsBounds, mine_names, mine_of, option_number, rounds_of}
use Rattle.npos_words.proofs.NumberLemmas.{within_bounds}

pub found_gives : {X : Type 0} (read : Values → Option X) (m : ArgMatches) (o : Option (List Setting)) → Finds (Some m) o
    → read (first_value (found_of m)) ≡ option_and_then (λ given. read (value_of given)) o
found_gives read m None h = absurd h
found_gives read m (Some given) h = ap read (λ i name. h name i)

-- ## Where memory is wanted

no_command : (verbs : List Verb) (word : Text) (words : List Text) → list_any (λ verb. bytes_eq word verb.name) verbs ≡ false
    → asked_by verbs word words ≡ None
no_command [] word words none = refl
no_command (verb ∷ more) word words none = go (bytes_eq word verb.name) (no_command more word words) none where
  go : (is : Bool) → (list_any (λ other. bytes_eq word other.name) more ≡ false → asked_by more word words ≡ None)
      → (is || list_any (λ other. bytes_eq word other.name) more) ≡ false
      → cond is (verb.asks words) (asked_by more word words) ≡ None
  go true others none = absurd (true≢false none)
  go false others none = others none

-- words without a verb, or with one that is bare, have no form
pub no_verb : (words : List Text) → has_verb words ≡ false → command_of words ≡ None
no_verb words e = go (list_any is_bare (drop 1 words)) (drop 1 words) e
  where
    by : (behind : List Text) → begins_with_verb behind ≡ false → command_after behind ≡ None
    by [] e = refl
    by (verb ∷ words) e = no_command verbs verb words e

    true_and : (b : Bool) → (b && true) ≡ false → b ≡ false
    true_and true e = e
    true_and false e = e

    go : (b : Bool) (behind : List Text) → (begins_with_verb behind && not b) ≡ false → cond b None (command_after behind) ≡ None
    go true behind e = refl
    go false behind e = by behind (true_and (begins_with_verb behind) e)

-- ## The bounds of a command's numbers

abbrev Within : ℕ → ℕ → Option ℕ → Type 0
Within least most o = IfSome o (λ number. (least ≤ number) × (number ≤ most))

mine_kept : (values : Values) → KeepsBounds (mine_of values)
mine_kept values = by_rounds (values (codes "rounds"))
  where
    of : (o : Option Miner) → IfSome o KeepsRounds → KeepsBounds (option_map commands.Mine o)
    of None keeps = tt
    of (Some miner) keeps = keeps

    by : (rounds : ℕ) → 1 ≤ rounds → rounds ≤ MOST_ROUNDS → (name : Option Text) → KeepsBounds (option_map commands.Mine (option_and_then (λ name. named name rounds) name))
    by rounds some few None = tt
    by rounds some few (Some name) = of (named name rounds) (named_keeps name rounds some few)

    by_given : (o : Option ℕ) → Within 1 MOST_ROUNDS o
        → KeepsBounds (option_and_then (λ rounds. option_map commands.Mine (option_and_then (λ name. named name rounds) (values (codes "miner")))) o)
    by_given None within = tt
    by_given (Some rounds) within = by rounds within.0 within.1 (values (codes "miner"))

    by_rounds : (text : Option Text) → KeepsBounds (option_and_then (λ rounds. option_map commands.Mine (option_and_then (λ name. named name rounds) (values (codes "miner")))) (rounds_of text))
    by_rounds None = by_given (Some 8) (omega arith, omega arith)
    by_rounds (Some text) = by_given (number_within 1 MOST_ROUNDS text) (within_bounds 1 MOST_ROUNDS text)

number_kept : (values : Values) (name : Text) (least most : ℕ) → Within least most (option_number values name least most)
number_kept values name least most = by (values name)
  where
    by : (o : Option Text) → Within least most (option_and_then (number_within least most) o)
    by None = tt
    by (Some text) = within_bounds least most text

demo_kept : (values : Values) → KeepsBounds (demo_of values)
demo_kept values = by_seed (option_number values (codes "seed") 0 18446744073709551615)
  where
    by_seats : (seed voters : ℕ) → (1 ≤ voters) × (voters ≤ 16384) → (o : Option ℕ) → Within 1 512 o → KeepsBounds (option_map (commands.Demo seed voters) o)
    by_seats seed voters h None within = tt
    by_seats seed voters h (Some seats) within = (h.0, h.1, within.0, within.1)

    by_voters : (seed : ℕ) (o : Option ℕ) → Within 1 16384 o
        → KeepsBounds (option_and_then (λ voters. option_map (commands.Demo seed voters) (option_number values (codes "seats") 1 512)) o)
    by_voters seed None h = tt
    by_voters seed (Some voters) h = by_seats seed voters h (option_number values (codes "seats") 1 512) (number_kept values (codes "seats") 1 512)

    by_seed : (o : Option ℕ) → KeepsBounds (option_and_then (λ seed. option_and_then (λ voters. option_map (commands.Demo seed voters)
        (option_number values (codes "seats") 1 512)) (option_number values (codes "voters") 1 16384)) o)
    by_seed None = tt
    by_seed (Some seed) = by_voters seed (option_number values (codes "voters") 1 16384) (number_kept values (codes "voters") 1 16384)

read_kept : (read : Values → Option Command) → ((values : Values) → KeepsBounds (read values)) → (o : Option (List Setting))
    → KeepsBounds (option_and_then (λ given. read (value_of given)) o)
read_kept read keeps None = tt
read_kept read keeps (Some given) = keeps (value_of given)

alone_kept : (command : Command) → KeepsBounds (Some command) → (o : Option (List Setting)) → KeepsBounds (option_map (λ given. command) o)
alone_kept command keeps None = tt
alone_kept command keeps (Some given) = keeps

-- what a verb asks for keeps its bounds
abbrev Keeps : Verb → Type 0
Keeps verb = (words : List Text) → KeepsBounds (verb.asks words)

asked_keeps : (verbs : List Verb) (word : Text) (words : List Text) → AllByRecursion Keeps verbs → KeepsBounds (asked_by verbs word words)
asked_keeps [] word words keeps = tt
asked_keeps (verb ∷ more) word words keeps = go (bytes_eq word verb.name) (asked_keeps more word words keeps.1) where
  go : (is : Bool) → KeepsBounds (asked_by more word words) → KeepsBounds (cond is (verb.asks words) (asked_by more word words))
  go true others = keeps.0 words
  go false others = others

by_kept : (word : Text) (words : List Text) → KeepsBounds (command_by word words)
by_kept word words = asked_keeps verbs word words (
  (λ w. alone_kept commands.Replay tt (options_of [] w)),
  (
    (λ w. alone_kept commands.Check tt (options_of [] w)),
    (
      (λ w. read_kept mine_of mine_kept (options_of mine_names w)),
      (
        (λ w. alone_kept commands.Pack tt (options_of [] w)),
        (
          (λ w. alone_kept commands.Show tt (options_of [] w)),
          (
            (λ w. read_kept demo_of demo_kept (options_of demo_names w)),
            (
              (λ w. alone_kept commands.Checkpoint tt (options_of [] w)),
              (
                (λ w. alone_kept commands.Resume tt (options_of [] w)),
                (
                  (λ w. alone_kept commands.Pools tt (options_of [] w)),
                  tt,
                ),
              ),
            ),
          ),
        ),
      ),
    ),
  ),
)

after_keeps : (words : List Text) → KeepsBounds (command_after words)
after_keeps [] = tt
after_keeps (verb ∷ words) = by_kept verb words

pub keeps_bounds : (words : List Text) → KeepsBounds (command_of words)
keeps_bounds words = go (list_any is_bare (drop 1 words)) (after_keeps (drop 1 words))
  where
    go : (b : Bool) → KeepsBounds (command_after (drop 1 words)) → KeepsBounds (cond b None (command_after (drop 1 words)))
    go true keeps = tt
    go false keeps = keeps

pub result_keeps : {E : Type 0} (words : List Text) (result : Result (Option Command) E) → IfOk result (λ command. command ≡ command_after words) → IfOk result KeepsBounds
result_keeps words (Ok command) is = subst KeepsBounds (sym is) (after_keeps words)
result_keeps words (Err e) h = tt
