use Rattle.std.proofs.Common.{◌≡◌, ◌<◌, ◌+◌, sym, ap, subst, ◌∙◌, ℕ, slice_get, Some, inl, inr, arith}
use Rattle.std.proofs.lemmas.Option.{slice_get_within, same_Some}
use Rattle.jh_closure.specs.congruence_closure.Nodes.{Follows, Has}
use Rattle.jh_closure.specs.declared.congruence_closure.equation.Equation.{Equation}
use Rattle.jh_closure.proofs.congruence_closure.Having.{has-at}
use Rattle.jh_cong.proofs.classes.Looking.{placed-more}
use Rattle.jh_cong.proofs.classes.following.following.Goals as goal

pub add_where-requires-clause-left : goal.add_where-requires-clause-left
add_where-requires-clause-left c = c.requires.left c.asked_at.result (has-at c.args.asked.now c.loop-place.place c.asked_at.result c.asked_at.ensures)

pub add_where-requires-clause-right : goal.add_where-requires-clause-right
add_where-requires-clause-right c = c.requires.right c.asked_at.result (has-at c.args.asked.now c.loop-place.place c.asked_at.result c.asked_at.ensures)

pub loop-place-preserved : goal.loop-place-preserved
loop-place-preserved c =
    let n = c.loop-place.place in
    let a = c.in_ok-add_where.ensures in
    let listed = c.add_where.new.listed.items in
    let cl = c.args.closure.now in
    record {
      all = placed-more (λ i (e : Equation). Follows cl.nodes cl.said e.left e.right → Has listed i) c.args.asked.now n c.asked_at.result c.asked_at.ensures a.added (λ i e l h f. a.keeps i (c.loop-place.invariant.all i e l h f));
      only = λ i e h w. elim (a.only i h) [
        | inl old ↦ c.loop-place.invariant.only i e old w
        | inr new ↦ subst (λ (q : Equation). Follows cl.nodes cl.said q.left q.right) (same_Some c.asked_at.result e (sym c.asked_at.ensures ∙ (ap (slice_get c.args.asked.now) new.0 ∙ w))) new.1
      ];
      inside = λ i h. elim (a.only i h) [
        | inl old ↦ let l : i < n = c.loop-place.invariant.inside i old in omega (arith, l)
        | inr new ↦ let e : n ≡ i = new.0 in omega (arith, e)
      ];
    }

pub returns-clause-all : goal.returns-clause-all
returns-clause-all c i e h f = c.loop-place.invariant.all i e (let l = slice_get_within c.args.asked.now i e h in omega (arith, l, c.loop-place)) h f
