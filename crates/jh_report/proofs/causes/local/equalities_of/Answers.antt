use Rattle.std.proofs.Common.{◌≡◌, ◌∙◌, ap, sym, ℕ, suc, ◌+◌, List, ◌∷◌, ◌++◌, add-one, drop, map}
use Rattle.jh_closure.specs.declared.structures.literal.Literal.{Literal}
use Rattle.jh_closure.specs.structures.Literals.{literal_tree}
use Rattle.jh_report.specs.causes.LocalCauses.{equalities}
use Rattle.jh_report.proofs.causes.Shown.{drop-at}
use Rattle.jh_report.proofs.causes.local.equalities_of.Goals as goal

pub loop-place-preserved : goal.loop-place-preserved
loop-place-preserved c =
    let ls = c.args.literals.now in
    let i = c.loop-place.place in
    let l = c.literal_at.result.now in
    let old = c.loop-place.invariant in
    let rest : drop i ls ≡ l ∷ drop (i + 1) ls = drop-at ls i l c.literal_at.ensures ∙ ap (λ (n : ℕ). l ∷ drop n ls) (sym (add-one i)) in
    let one = c.in_ok-left.ensures old.0 (map literal_tree (drop (i + 1) ls)) old.1 in
    (one.0, one.1, one.2 ∙ (ap (λ (ms : List Literal). old.0 ++ equalities c.loop-place.left (map literal_tree ms)) (sym rest) ∙ old.2))
