use Rattle.std.proofs.Common.{sym, ap, ◌∙◌, subst, ◌+◌, Bool, true, false, List, ◌∷◌, [], length, length-append, arith, inl, inr}
use Rattle.std.proofs.lemmas.Bool.{true≢false}
use Rattle.jh_explanations.specs.Marks.{IsMarkedAt}
use Rattle.jh_explanations.proofs.Lists.{slice-pushed}
use Rattle.jh_explanations.proofs.marking.no_marks.Goals as goal

pub loop-place-preserved : goal.loop-place-preserved
loop-place-preserved c =
    let old : List Bool = c.loop-place.marks.items in
    record {
      long = ap length c.in_ok-push.ensures.items ∙ (length-append old (false ∷ []) ∙ ap (λ n. n + 1) c.loop-place.invariant.long);
      none = λ n h. elim (slice-pushed old false true n (subst (λ (xs : List Bool). IsMarkedAt xs n) c.in_ok-push.ensures.items h)) [
        | inl was ↦ c.loop-place.invariant.none n was
        | inr last ↦ true≢false (sym last.1)
      ];
    }

pub returns-clause-long : goal.returns-clause-long
returns-clause-long c = omega (arith, c.loop-place, c.loop-place-test.false, c.loop-place.invariant.long)

pub returns-clause-none : goal.returns-clause-none
returns-clause-none c = c.loop-place.invariant.none
