use Rattle.std.proofs.Common.{sym, subst, ℕ, List}
use Rattle.jh_containers.specs.topological_order.Orders.{IsReversed}
use Rattle.jh_vars.specs.Reading.{IsCyclic, IsFirst, variables}
use Rattle.jh_definitions.specs.declared.expansion.opening.Definition.{Definition}
use Rattle.jh_definitions.specs.expansion.Opening.{source_of}
use Rattle.jh_definitions.specs.dependency_order.Defining.{AreTaken, ReadsItself, named}
use Rattle.jh_definitions.proofs.dependency_order.Firsts.{of-some}
use Rattle.jh_definitions.proofs.dependency_order.Numbered.{things-read, cyclic-to, cyclic-from, first-other}
use Rattle.jh_definitions.proofs.dependency_order.Ordered.{are-ordered}
use Rattle.jh_definitions.proofs.dependency_order.Variables.{of-variables}
use Rattle.jh_definitions.proofs.dependency_order.ordering.ordered.Goals as goal

-- src/ordering.rt
pub readers_of-requires : goal.readers_of-requires
readers_of-requires c = things-read (source_of c.args.classes.now) c.args.definitions.now.numbers c.args.definitions.now.list.items c.args.rows.now c.requires.numbered c.requires.sound c.requires.all c.requires.rows

-- src/ordering.rt
pub order-requires : goal.order-requires
order-requires c = record { reversed = subst (λ (rs : List (List ℕ)). IsReversed c.args.rows.now rs) (sym c.as_slice.ensures.value) c.in_ok-readers.ensures }

-- src/ordering.rt
pub returns-in-Some : goal.returns-in-Some
returns-in-Some c =
    let p = source_of c.args.classes.now in
    let numbers = c.args.definitions.now.numbers in
    let ds = c.args.definitions.now.list.items in
    let rows = c.args.rows.now in
    let found = of-some (λ word. (x : ℕ) × IsFirst (ReadsItself numbers rows) (variables p) (named x word.now)) c.in_ok-word.field-0 c.in-Some.word c.in-Some.is c.in_ok-word.ensures.found in
    (found.0, first-other (ReadsItself numbers rows) (IsCyclic p) (variables p) (named found.0 c.in-Some.word.now) (cyclic-to p numbers ds rows c.requires.numbered c.requires.sound c.requires.all c.requires.rows) (cyclic-from p numbers ds rows c.requires.numbered c.requires.sound c.requires.all c.requires.rows) found.1)

-- src/ordering.rt
pub returns : goal.returns
returns c =
    let p = source_of c.args.classes.now in
    let numbers = c.args.definitions.now.numbers in
    let ds = c.args.definitions.now.list.items in
    let rows = c.args.rows.now in
    let inside = things-read p numbers ds rows c.requires.numbered c.requires.sound c.requires.all c.requires.rows in
    are-ordered p numbers ds rows c.requires.numbered c.requires.sound c.requires.all c.requires.rows (of-variables p c.requires.typed) (c.in_ok-word.ensures.none c.in-None.is) c.in_ok-done.done
    c.in_ok-done.ensures.ordered c.in_ok-done.ensures.things c.in_ok-done.ensures.few c.requires.few (c.in_ok-done.ensures.cycle inside) c.in_ok-taken-in-None.field-0.items
    (subst (λ (xs : List Definition). AreTaken xs c.in_ok-done.done c.in_ok-taken-in-None.field-0.items) c.as_slice-in-None.ensures.value c.in_ok-taken-in-None.ensures)
