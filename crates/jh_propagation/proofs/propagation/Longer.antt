-- Trails that go on.
use Rattle.std.proofs.Common.{◌≡◌, refl, ap, ◌∙◌, ◌≤◌, arith, List}
use Rattle.jh_closure.proofs.congruence_closure.Growing.{begins-same, begins-trans}
use Rattle.jh_cong.specs.classes.Saying.{Asserted}
use Rattle.jh_propagation.specs.declared.trail.decided.Decided.{Decided}
use Rattle.jh_propagation.specs.declared.propagation.problem.Problem.{Problem}
use Rattle.jh_propagation.specs.declared.propagation.branch.Branch.{Branch}
use Rattle.jh_propagation.specs.propagation.Branches.{IsLonger, left_over, undecided_count}
use Rattle.jh_propagation.specs.propagation.Passing.{GoesOn, IsMore}

pub longer-same : (b : Branch) → IsLonger b b
longer-same b = record { trail = begins-same b.trail b.trail refl; reasons = begins-same b.reasons.items b.reasons.items refl }

pub longer-twice : (a b c : Branch) → IsLonger a b → IsLonger b c → IsLonger a c
longer-twice a b c h k = record { trail = begins-trans a.trail b.trail c.trail h.trail k.trail; reasons = begins-trans a.reasons.items b.reasons.items c.reasons.items h.reasons k.reasons }

-- A branch that went on, was told, and went on.
module _ (p : Problem) (a b t c : Branch) (classes : b.classes ≡ a.classes) (decisions : b.decisions.items ≡ a.decisions.items) (longer : IsLonger a b) (count : undecided_count p b ≤ undecided_count p a) (table : t.classes.table ≡ b.classes.table) (decided : t.decisions.items ≡ b.decisions.items) (trail : t.trail ≡ b.trail) (reasons : t.reasons.items ≡ b.reasons.items) (g : GoesOn p t c) where
  same-count : undecided_count p t ≡ undecided_count p b
  same-count = ap (λ (xs : List Decided). left_over (λ k. 1) xs p.ground.atoms) trail

  pub passed-on : GoesOn p a c
  passed-on = record {
    table = g.table ∙ (table ∙ ap (λ (z : Asserted). z.table) classes);
    decisions = g.decisions ∙ (decided ∙ decisions);
    longer = longer-twice a t c (longer-twice a b t longer (record { trail = begins-same b.trail t.trail trail; reasons = begins-same b.reasons.items t.reasons.items reasons })) g.longer;
    count = let one = g.count in let same = same-count in omega (arith, one, same, count);
  }

  pub more-on : IsMore p t c → IsMore p a c
  more-on m = record { branch = m.branch; fewer = let one = m.fewer in let same = same-count in omega (arith, one, same, count); rested = m.rested }
