use Rattle.std.proofs.Common.{◌≡◌, rules, true, Err}
use Rattle.std.specs.Char.{is_ascii_digit}
use Rattle.std.specs.List.{list_all}
use Rattle.std.proofs.lemmas.Str.Parse.{parse_digits}
use Rattle.npos_words.proofs.NumberLemmas.{not_read, own}
use Rattle.npos_words.proofs.numbers.number_within.Goals as goal

-- std refuses digits where there are none, or where they are too many for a u64
pub returns-in_default-3-clause-number : goal.returns-in_default-3-clause-number
returns-in_default-3-clause-number c =
    let digits : list_all is_ascii_digit c.args.text.now ≡ true = search rules in
    not_read c.args.least c.args.most c.args.text.now (search rules)
    (parse_digits own 64 c.args.text.now (Err c.in_default.field-0) c.in_default.ensures.value.0 digits)
