use Rattle.std.proofs.Common.{◌∙◌, rules, ap₂}
use Rattle.clap.specs.Words.{with_rule}
use Rattle.npos_words.proofs.FoundLemmas.{more_options}
use Rattle.npos_words.proofs.options.command_with.Goals as goal

pub loop-name-preserved : goal.loop-name-preserved
loop-name-preserved c =
    c.in_ok-command.ensures.shape (search rules)
    ∙ ap₂ with_rule c.loop-name.invariant c.option_of.ensures.rule
    ∙ more_options c.args.names.now c.loop-name.name-index _ (search rules)
