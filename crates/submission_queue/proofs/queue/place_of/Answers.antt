use Rattle.std.proofs.Common.{◌≡◌, ◌≤◌, ℕ, Bool, true, false, cond, Some, None, length, ltb, not, ap, refl, ◌∙◌, rules, tests, arith}
use Rattle.std.proofs.lemmas.Bool.Decides.{nat_tests}
use Rattle.std.proofs.lemmas.Iterator.{YieldsList-from_slice}
use Rattle.std.proofs.lemmas.Iterator.Search.{position_from_yields_List}
use Rattle.std.proofs.lemmas.List.Sums.{prefix_len-le-length}
use Rattle.std.specs.List.{position_or_len}
use Rattle.std.specs.Option.{unwrap_or}
use Rattle.npos_base.specs.Score.{is_better}
use Rattle.submission_queue.specs.declared.submission.Submission.{Submission}
use Rattle.submission_queue.proofs.queue.place_of.Goals as goal

or_behind : (p n : ℕ) → p ≤ n → unwrap_or (cond (ltb p n) (Some p) None) n ≡ p
or_behind p n within = at (ltb p n) refl where
  at : (b : Bool) → ltb p n ≡ b → unwrap_or (cond b (Some p) None) n ≡ p
  at true less = refl
  at false less = grind (arith, nat_tests)

pub returns : goal.returns
returns c =
    let test : Submission → Bool = λ queued. is_better c.args.score.now queued.score in
    c.unwrap_or.ensures
    ∙ ap (λ found. unwrap_or found (length c.args.items.now))
    (position_from_yields_List (λ (queued : Submission). is_better c.args.score.now queued.score) _ _ c.position.result c.position.ensures.ran
    (YieldsList-from_slice c.args.items.now c.iter.ensures.rest) (λ x b q k. search (rules, tests)))
    ∙ or_behind (position_or_len test c.args.items.now) (length c.args.items.now)
    (prefix_len-le-length (λ queued. not (is_better c.args.score.now queued.score)) c.args.items.now)
