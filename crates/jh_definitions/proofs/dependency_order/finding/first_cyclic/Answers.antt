use Rattle.std.proofs.Common.{sym, subst, ◌∙◌, List, get_or, arith}
use Rattle.std.proofs.lemmas.Option.{IfSome_then}
use Rattle.jh_ast.specs.declared.program.SpecVar.{SpecVar}
use Rattle.jh_vars.specs.Reading.{IsFirst}
use Rattle.jh_definitions.specs.dependency_order.Defining.{ReadsItself, IsOfNone, named, variables_in}
use Rattle.jh_definitions.proofs.dependency_order.Firsts.{searched-next, searched-found, searched-all, none-of, same-item}
use Rattle.jh_definitions.proofs.dependency_order.finding.first_cyclic.Goals as goal

-- src/finding.rt
pub returns-then-is_some-clause-found : goal.returns-then-is_some-clause-found
returns-then-is_some-clause-found c =
    let cs = c.args.classes.now in
    let n = c.loop-class.class in
    let H = ReadsItself c.args.search.now.numbers.now c.args.search.now.rows.now in
    IfSome_then c.in_ok-found.found c.in_ok-found.ensures.found
    (λ w f. (n, searched-found H cs n (get_or cs n c.index-classes-class.result) (named n w.now) c.loop-class-test.true (same-item cs n c.index-classes-class.result (get_or cs n c.index-classes-class.result) c.loop-class-test.true) c.loop-class.invariant (subst (λ (vs : List SpecVar). IsFirst H (variables_in n vs) (named n w.now)) c.items.ensures f)))

-- src/finding.rt
pub loop-class-preserved : goal.loop-class-preserved
loop-class-preserved c =
    let cs = c.args.classes.now in
    let H = ReadsItself c.args.search.now.numbers.now c.args.search.now.rows.now in
    let n = c.loop-class.class in
    searched-next H cs n (get_or cs n c.index-classes-class.result) c.loop-class-test.true (same-item cs n c.index-classes-class.result (get_or cs n c.index-classes-class.result) c.loop-class-test.true) c.loop-class.invariant
    (subst (λ (vs : List SpecVar). IsOfNone H (variables_in n vs)) c.items.ensures (c.in_ok-found.ensures.none (none-of c.in_ok-found.found (sym c.is_some.ensures ∙ c.if-is_some.false))))

-- src/finding.rt
pub returns-clause-none : goal.returns-clause-none
returns-clause-none c = λ e. searched-all (ReadsItself c.args.search.now.numbers.now c.args.search.now.rows.now) c.args.classes.now c.loop-class.class (omega arith) c.loop-class.invariant
