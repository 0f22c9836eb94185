use Rattle.std.proofs.Common.{◌≡◌, sym, subst, true, false, ◌↔◌, List, ◌∷◌}
use Rattle.jh_closure.specs.congruence_closure.Nodes.{Has}
use Rattle.jh_closure.specs.structures.Literals.{NotMet}
use Rattle.jh_arena.specs.table.Nodes.{nodes}
use Rattle.jh_propagation.specs.declared.trail.decided.Decided.{Decided}
use Rattle.jh_propagation.specs.trail.Saying.{literals_at}
use Rattle.jh_propagation.specs.propagation.Speaking.{AreSpoken}
use Rattle.jh_explanations.specs.Testing.{IsAsked, IsSaidToo, IsRefused}
use Rattle.jh_explanations.proofs.Tests.{undone, front-met-too, front-refused}
use Rattle.jh_explanations.proofs.testing.is_equal.Goals as goal

pub is_met-requires-clause-atom : goal.is_met-requires-clause-atom
is_met-requires-clause-atom c = subst (λ (d : Decided). Has c.args.problem.now.ground.atoms d.atom) (sym c.opposite.ensures) c.requires.atom

pub returns-then-branch-clause-classes : goal.returns-then-branch-clause-classes
returns-then-branch-clause-classes c =
    let asked : IsSaidToo (nodes c.args.problem.now.table) c.args.classes.now c.is_met.new.classes c.opposite.result = subst (IsAsked (nodes c.args.problem.now.table) c.args.classes.now c.is_met.new.classes c.opposite.result) c.if-branch.true c.in_ok-is_met.ensures.asked in
    undone c.args.problem.now c.args.classes.now c.is_met.new.classes c.opposite.result c.undo.new.self c.len-count.result asked c.len-count.ensures c.undo.ensures

pub returns-then-branch-clause-unmet : goal.returns-then-branch-clause-unmet
returns-then-branch-clause-unmet c =
    let ts = nodes c.args.problem.now.table in
    let asked : IsSaidToo (nodes c.args.problem.now.table) c.args.classes.now c.is_met.new.classes c.opposite.result = subst (IsAsked (nodes c.args.problem.now.table) c.args.classes.now c.is_met.new.classes c.opposite.result) c.if-branch.true c.in_ok-is_met.ensures.asked in
    subst (λ (d : Decided). (ds : List Decided) → AreSpoken (nodes c.args.classes.now.table) ts ds c.args.classes.now.said → (false ≡ true) ↔ NotMet (literals_at ts (d ∷ ds))) c.opposite.ensures (front-met-too c.args.problem.now c.args.classes.now c.is_met.new.classes c.opposite.result asked)

pub returns-clause-classes : goal.returns-clause-classes
returns-clause-classes c =
    let asked : IsRefused (nodes c.args.problem.now.table) c.args.classes.now c.is_met.new.classes c.opposite.result = subst (IsAsked (nodes c.args.problem.now.table) c.args.classes.now c.is_met.new.classes c.opposite.result) c.if-branch.false c.in_ok-is_met.ensures.asked in
    asked.classes

pub returns-clause-unmet : goal.returns-clause-unmet
returns-clause-unmet c =
    let ts = nodes c.args.problem.now.table in
    let asked : IsRefused (nodes c.args.problem.now.table) c.args.classes.now c.is_met.new.classes c.opposite.result = subst (IsAsked (nodes c.args.problem.now.table) c.args.classes.now c.is_met.new.classes c.opposite.result) c.if-branch.false c.in_ok-is_met.ensures.asked in
    subst (λ (d : Decided). (ds : List Decided) → AreSpoken (nodes c.args.classes.now.table) ts ds c.args.classes.now.said → (true ≡ true) ↔ NotMet (literals_at ts (d ∷ ds))) c.opposite.ensures (front-refused c.args.problem.now c.args.classes.now c.is_met.new.classes c.opposite.result asked)
