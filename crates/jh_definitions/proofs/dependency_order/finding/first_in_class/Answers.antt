use Rattle.std.proofs.Common.{subst, get_or, arith}
use Rattle.jh_ast.specs.declared.program.SpecVar.{SpecVar}
use Rattle.jh_containers.proofs.transitive_closure.Places.{item-get}
use Rattle.jh_definitions.specs.dependency_order.Defining.{ReadsItself, named, variables_in}
use Rattle.jh_definitions.proofs.dependency_order.Firsts.{first-at, variable-at, none-next, none-all, same-item}
use Rattle.jh_definitions.proofs.dependency_order.finding.first_in_class.Goals as goal

-- src/finding.rt
pub returns-then-branch-clause-found : goal.returns-then-branch-clause-found
returns-then-branch-clause-found c =
    let vars = c.args.vars.now in
    let at = c.loop-at.at in
    let v = get_or vars at c.index-vars-at-then-branch.result in
    first-at (ReadsItself c.args.search.now.numbers.now c.args.search.now.rows.now) (variables_in c.args.class vars) at (named c.args.class v.name) (variable-at c.args.class vars at v (item-get vars at _ c.loop-at-test.true))
    (subst (λ (x : SpecVar). ReadsItself c.args.search.now.numbers.now c.args.search.now.rows.now (named c.args.class x.name)) (same-item vars at c.index-vars-at.result c.index-vars-at-then-branch.result c.loop-at-test.true) (c.in_ok-reads_itself.ensures.yes c.if-branch.true)) c.loop-at.invariant

-- src/finding.rt
pub loop-at-preserved : goal.loop-at-preserved
loop-at-preserved c =
    let vars = c.args.vars.now in
    let at = c.loop-at.at in
    none-next (ReadsItself c.args.search.now.numbers.now c.args.search.now.rows.now) c.args.class vars at (get_or vars at c.index-vars-at.result) (item-get vars at _ c.loop-at-test.true) (c.in_ok-reads_itself.ensures.no c.if-branch.false) c.loop-at.invariant

-- src/finding.rt
pub returns-clause-none : goal.returns-clause-none
returns-clause-none c = λ e. none-all (ReadsItself c.args.search.now.numbers.now c.args.search.now.rows.now) c.args.class c.args.vars.now c.loop-at.at (omega arith) c.loop-at.invariant
