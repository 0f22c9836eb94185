use Rattle.std.proofs.Common.{◌≡◌, sym, ap, subst, ◌∙◌, List}
use Rattle.jh_ast.specs.Bare.{program_tree}
use Rattle.jh_ast.specs.Programs.{ProgramTree}
use Rattle.jh_definitions.specs.dependency_order.Answered.{AreOrdered, IsOpening}
use Rattle.jh_definitions.specs.dependency_order.Defining.{named}
use Rattle.jh_definitions.specs.declared.dependency_order.ordering.Opening.{Opening}
use Rattle.jh_definitions.specs.declared.dependency_order.ordering.Opening.TheVariants as o
use Rattle.jh_definitions.specs.declared.expansion.opening.Definition.{Definition}
use Rattle.jh_definitions.specs.expansion.Opening.{source_of}
use Rattle.jh_rules.specs.Breaks.{Breaks}
use Rattle.jh_rules.specs.Names.{declared_in}
use Rattle.jh_vars.specs.Reading.{IsAcyclic}
use Rattle.jh_effects.proofs.modified_state.Parts.{source-is}
use Rattle.jh_effects.proofs.modified_state.modifying.modified_by.Goals as goal

-- src/modifying.rt
pub in_order-requires-clause-declared : goal.in_order-requires-clause-declared
in_order-requires-clause-declared c = c.requires.declared ∙ ap declared_in (source-is c.args.program.now c.items.result.now c.items.ensures)

-- src/modifying.rt
pub in_order-requires-clause-typed : goal.in_order-requires-clause-typed
in_order-requires-clause-typed c =
    let is : program_tree c.args.program.now ≡ source_of c.items.result.now = source-is c.args.program.now c.items.result.now c.items.ensures in
    λ rule place b. c.requires.typed rule place (subst (λ (t : ProgramTree). Breaks t rule place) (sym is) b)

-- src/modifying.rt
pub unreachable-requires : goal.unreachable-requires
unreachable-requires c =
    let p = source_of c.items.result.now in
    let is : program_tree c.args.program.now ≡ p = source-is c.args.program.now c.items.result.now c.items.ensures in
    let first : IsOpening p (o.Cyclic c.in-Cyclic._word) = subst (λ (opening : Opening). IsOpening p opening) c.in-Cyclic.is c.in_ok-_word.ensures in
    (subst (λ (t : ProgramTree). IsAcyclic t) is c.requires.acyclic) (named first.0 c.in-Cyclic._word.now) first.1.here

-- src/modifying.rt
pub modified_over-requires-clause-ordered : goal.modified_over-requires-clause-ordered
modified_over-requires-clause-ordered c =
    let p = source_of c.items.result.now in
    let is : program_tree c.args.program.now ≡ p = source-is c.args.program.now c.items.result.now c.items.ensures in
    let ordered : IsOpening p (o.Ordered c.in-Ordered.definitions) = subst (λ (opening : Opening). IsOpening p opening) c.in-Ordered.is c.in_ok-_word.ensures in
    subst (λ (ds : List Definition). AreOrdered (program_tree c.args.program.now) ds) (sym c.as_slice.ensures.value) (subst (λ (t : ProgramTree). AreOrdered t c.in-Ordered.definitions.items) (sym is) ordered)
