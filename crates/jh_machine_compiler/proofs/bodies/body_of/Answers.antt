use Rattle.std.proofs.Common.{◌≡◌, List, true, subst}
use Rattle.jh_semantics.specs.declared.typed_code.stmts.Local.{Local}
use Rattle.jh_semantics.specs.declared.typed_code.stmts.Code.{Code}
use Rattle.jh_semantics.specs.typed_code.Statements.{codes_in}
use Rattle.jh_machine_code.specs.declared.code.step.Step.{Step}
use Rattle.jh_machine_code.specs.entry_state.Now.{steps_now}
use Rattle.jh_machine_compiler.specs.Lasting.{HasParams, MakesAll}
use Rattle.jh_machine_compiler.specs.Sources.{numbered_in}
use Rattle.jh_machine_compiler.proofs.BodySteps.{params_still, body_made}
use Rattle.jh_machine_compiler.proofs.bodies.body_of.Goals as goal

pub returns-clause-is : goal.returns-clause-is
returns-clause-is c = λ p h.
    let names = c.steps_of.new.names in
    let table = c.steps_of.new.table in
    body_made p c.args.method.now c.steps_recall-keeps_entry.result c.steps_that_recall_nothing.ensures
    (subst (λ (ls : List Local). HasParams names ls c.in_ok-params.params) c.items.ensures (params_still c.steps_of.ensures.names c.in_ok-params.ensures.are))
    (subst (λ (ss : List Code). MakesAll (numbered_in c.args.source.now) true names table (codes_in p ss) c.in_ok-steps.steps) c.items-2.ensures (c.in_ok-steps.ensures.are p h))
    (λ no. subst (λ (xs : List Step). steps_now table xs ≡ true) c.items-3.ensures (c.steps_recall-keeps_entry.ensures no))
