use Rattle.std.proofs.Common.{◌≡◌, ◌∙◌, rules, tests, string_bytes}
use Rattle.std.specs.List.{list_any}
use Rattle.std.proofs.lemmas.Iterator.{YieldsList-from_slice}
use Rattle.std.proofs.lemmas.Iterator.Search.{any_from_yields_List}
use Rattle.clap.proofs.WalkLemmas.{list_any-map}
use Rattle.npos_words.specs.Words.{is_bare}
use Rattle.npos_words.proofs.words.has_bare.Goals as goal

pub returns : goal.returns
returns c =
    let tells : c.any.result ≡ list_any (λ word. is_bare (string_bytes word)) c.args.words.now =
    any_from_yields_List (λ word. is_bare (string_bytes word)) _ _ c.any.result c.any.ensures.ran (YieldsList-from_slice c.args.words.now cc)
    (λ x b q k. search (rules, tests)) in
    tells ∙ list_any-map is_bare string_bytes c.args.words.now
