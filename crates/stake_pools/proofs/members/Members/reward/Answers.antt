use Rattle.std.proofs.Common.{rules, ◌≡◌, ◌∙◌, ◌+◌, ◌*◌, ◌/◌, ◌<◌, ◌≤◌, ◌^◌, List, map, refl, ap, sym, subst, arith}
use Rattle.std.proofs.lemmas.Fn.{chained_keeps}
use Rattle.std.proofs.lemmas.Map.Made.{map_same_pairs}
use Rattle.npos_base.specs.declared.account.AccountId.{AccountId}
use Rattle.stake_pools.specs.declared.member.Member.{Member}
use Rattle.stake_pools.specs.Members.{all_staying, all_credits, rewarded}
use Rattle.stake_pools.specs.Kept.{AreSummed}
use Rattle.stake_pools.proofs.MemberLemmas.{summed_seen}
use Rattle.stake_pools.proofs.RewardLemmas.{inside, credit_fits, summed_rewarded}
use Rattle.stake_pools.proofs.members.Members.reward.Goals as goal

pub retain-requires : goal.retain-requires
retain-requires c = record {
  at = λ before after f' k v split folds p q pk qv.
      let members : List (AccountId × Member) = c.args.self.now in
      let kept = summed_seen c.self.inside.entries.entries members c.self.inside.points c.self.inside.staying c.self.view_is c.self.invariant in
      let captured : (f'.0.now ≡ c.args.value) × (f'.1.now ≡ c.self.inside.staying) =
      chained_keeps _ (λ xs h. (h.0.now ≡ c.args.value) × (h.1.now ≡ c.self.inside.staying))
      (λ xs h x h' so_far call. let t = call.2 in let same : h' ≡ h = search rules in rw same so_far) before _ f' (refl, refl) folds in
      let value_is : f'.0.now ≡ c.args.value = captured.0 in
      let all_is : f'.1.now ≡ c.self.inside.staying = captured.1 in
      let some : 0 < c.self.inside.staying = omega (arith, kept.staying_are, c.requires.stayer) in
      let part : v.staying ≤ c.self.inside.staying =
      omega (arith, inside (λ m. m.staying) before after k v, ap all_staying (sym split), ap all_staying c.self.view_is, kept.staying_are) in
      let fits : v.credit + c.args.value * v.staying / c.self.inside.staying < 2 ^ 64 =
      credit_fits before after k v c.args.value c.self.inside.staying part (omega (arith, ap all_credits (sym split), ap all_credits c.self.view_is, c.requires.fits)) in
      let staying_is : q.now.staying ≡ v.staying = ap (λ (m : Member). m.staying) qv in
      let credit_is : q.now.credit ≡ v.credit = ap (λ (m : Member). m.credit) qv in
      let sum : q.now.credit + f'.0.now * q.now.staying / f'.1.now < 2 ^ 64 = rw (credit_is, value_is, staying_is, all_is) fits in (
        λ l r n r' n' e k a b d u. (omega (arith, some, all_is), omega (arith, part, staying_is, all_is)),
        λ l r n r' n' e k a b d u result g h i is j. omega (arith, sum, is),
      );
}

pub returns : goal.returns
returns c =
    let members : List (AccountId × Member) = c.args.self.now in
    let kept = summed_seen c.self.inside.entries.entries members c.self.inside.points c.self.inside.staying c.self.view_is c.self.invariant in
    map_same_pairs _ (rewarded c.args.value c.self.inside.staying) _ (λ k v b w f' t. search rules) c.self.inside.entries.entries c.retain.new.self.entries c.retain.ensures.filtered
    ∙ (ap (λ (es : List (AccountId × Member)). map (λ e. (e.0, rewarded c.args.value c.self.inside.staying e.1)) es) c.self.view_is
    ∙ ap (λ all. map (λ e. (e.0, rewarded c.args.value all e.1)) members) kept.staying_are)

pub invariant_of-self : goal.invariant_of-self
invariant_of-self c =
    let members : List (AccountId × Member) = c.args.self.now in
    let kept = summed_seen c.self.inside.entries.entries members c.self.inside.points c.self.inside.staying c.self.view_is c.self.invariant in
    subst (λ (es : List (AccountId × Member)). AreSummed es c.self.inside.points c.self.inside.staying) (sym (returns c))
    (summed_rewarded c.args.value members c.self.inside.points c.self.inside.staying kept c.requires.stayer c.requires.fits)
