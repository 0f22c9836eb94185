use Rattle.std.proofs.Common.{sym, ◌∙◌, rules, [], slice_get}
use Rattle.jh_form.specs.Meaning.{datum}
use Rattle.jh_arena.specs.table.Nodes.{nodes}
use Rattle.jh_store.specs.state_pairs.Seen.{seen}
use Rattle.jh_operands.specs.Scalars.{IsInside}
use Rattle.jh_machine.specs.continuation.Formulas.{OverflowsOnly, ValueOverflows}
use Rattle.jh_operands.specs.declared.values.Scalar.TheVariants as y
use Rattle.jh_machine.specs.declared.ghosts.ghosts.NodeValue.TheVariants as nv
use Rattle.jh_machine.specs.ghosts.Nodes.{IsValue, ValueInside}
use Rattle.jh_machine.proofs.ghosts.NodeSteps.{sort_number, sort_set, object_value, object_stop, truth_value, truth_stop, number_value, number_stop, set_is, set_stop, field_is}
use Rattle.jh_machine.proofs.ghosts.ghosts.value_of_sort.Goals as goal

pub returns-in_err-object-in-Obj-clause-stop : goal.returns-in_err-object-in-Obj-clause-stop
returns-in_err-object-in-Obj-clause-stop c = λ v is.
    let o = slice_get (nodes c.args.moment.now.table.now) c.args.node in
    let m = seen c.args.moment.now in
    let last = c.args.moment.now.current.now.last in
    let whole : OverflowsOnly c.args.place (ValueOverflows m v) c.in_err-object-in-Obj.field-0.0 = object_stop last o v is m c.args.place (sym c.in-Obj.is ∙ c.requires) c.in_err-object-in-Obj.field-0.0 c.in_err-object-in-Obj.ensures.stop in
    search rules

pub returns-in_ok-object-in-Obj-clause-value : goal.returns-in_ok-object-in-Obj-clause-value
returns-in_ok-object-in-Obj-clause-value c = λ v is.
    let o = slice_get (nodes c.args.moment.now.table.now) c.args.node in
    let m = seen c.args.moment.now in
    let last = c.args.moment.now.current.now.last in
    object_value last o v is m c.args.place (sym c.in-Obj.is ∙ c.requires) c.in_ok-object-in-Obj.object c.in_ok-object-in-Obj.ensures.value

pub returns-in_err-truth-in-Bool-clause-stop : goal.returns-in_err-truth-in-Bool-clause-stop
returns-in_err-truth-in-Bool-clause-stop c = λ v is.
    let o = slice_get (nodes c.args.moment.now.table.now) c.args.node in
    let m = seen c.args.moment.now in
    let last = c.args.moment.now.current.now.last in
    let whole : OverflowsOnly c.args.place (ValueOverflows m v) c.in_err-truth-in-Bool.field-0.0 = truth_stop last o v is m c.args.place (sym c.in-Bool.is ∙ c.requires) c.in_err-truth-in-Bool.field-0.0 c.in_err-truth-in-Bool.ensures.stop in
    search rules

pub returns-in_ok-truth-in-Bool-clause-value : goal.returns-in_ok-truth-in-Bool-clause-value
returns-in_ok-truth-in-Bool-clause-value c = λ v is.
    let o = slice_get (nodes c.args.moment.now.table.now) c.args.node in
    let m = seen c.args.moment.now in
    let last = c.args.moment.now.current.now.last in
    truth_value last o v is m c.args.place (sym c.in-Bool.is ∙ c.requires) c.in_ok-truth-in-Bool.truth c.in_ok-truth-in-Bool.ensures.value

pub returns-in_ok-object-in-Obj-clause-inside : goal.returns-in_ok-object-in-Obj-clause-inside
unfolding ValueInside IsInside
returns-in_ok-object-in-Obj-clause-inside c = c.in_ok-object-in-Obj.ensures.inside

pub returns-in_ok-truth-in-Bool-clause-inside : goal.returns-in_ok-truth-in-Bool-clause-inside
unfolding ValueInside IsInside
returns-in_ok-truth-in-Bool-clause-inside c = tt

pub returns-in_ok-number-in-Int-clause-inside : goal.returns-in_ok-number-in-Int-clause-inside
unfolding ValueInside IsInside
returns-in_ok-number-in-Int-clause-inside c = tt

pub returns-in_ok-members-in-Set-clause-inside : goal.returns-in_ok-members-in-Set-clause-inside
unfolding ValueInside
returns-in_ok-members-in-Set-clause-inside c = tt

pub returns-in-Field-clause-inside : goal.returns-in-Field-clause-inside
unfolding ValueInside
returns-in-Field-clause-inside c = tt

pub node_number-requires : goal.node_number-requires
node_number-requires c = sort_number (slice_get (nodes c.args.moment.now.table.now) c.args.node) (sym c.in-Int.is ∙ c.requires)

pub returns-in_err-number-in-Int-clause-stop : goal.returns-in_err-number-in-Int-clause-stop
returns-in_err-number-in-Int-clause-stop c = λ v is.
    let o = slice_get (nodes c.args.moment.now.table.now) c.args.node in
    let m = seen c.args.moment.now in
    let last = c.args.moment.now.current.now.last in
    let whole : OverflowsOnly c.args.place (ValueOverflows m v) c.in_err-number-in-Int.field-0.0 = number_stop last o v is m c.args.place (sym c.in-Int.is ∙ c.requires) c.in_err-number-in-Int.field-0.0 c.in_err-number-in-Int.ensures.stop in
    search rules

pub returns-in_ok-number-in-Int-clause-value : goal.returns-in_ok-number-in-Int-clause-value
returns-in_ok-number-in-Int-clause-value c = λ v is.
    let o = slice_get (nodes c.args.moment.now.table.now) c.args.node in
    let m = seen c.args.moment.now in
    let last = c.args.moment.now.current.now.last in
    let whole : IsValue last (nv.Scalar (y.Number c.in_ok-number-in-Int.number)) (datum v m []) =
    number_value last o v is m c.args.place (sym c.in-Int.is ∙ c.requires) c.in_ok-number-in-Int.number c.in_ok-number-in-Int.ensures.value in
    search rules

pub node_set-requires : goal.node_set-requires
node_set-requires c = sort_set (slice_get (nodes c.args.moment.now.table.now) c.args.node) (sym c.in-Set.is ∙ c.requires)

pub returns-in_err-members-in-Set-clause-stop : goal.returns-in_err-members-in-Set-clause-stop
returns-in_err-members-in-Set-clause-stop c = λ v is.
    let o = slice_get (nodes c.args.moment.now.table.now) c.args.node in
    let m = seen c.args.moment.now in
    let last = c.args.moment.now.current.now.last in
    let whole : OverflowsOnly c.args.place (ValueOverflows m v) c.in_err-members-in-Set.field-0.0 = set_stop last o v is m c.args.place (sym c.in-Set.is ∙ c.requires) c.in_err-members-in-Set.field-0.0 c.in_err-members-in-Set.ensures.stop in
    search rules

pub returns-in_ok-members-in-Set-clause-value : goal.returns-in_ok-members-in-Set-clause-value
returns-in_ok-members-in-Set-clause-value c = λ v is.
    let o = slice_get (nodes c.args.moment.now.table.now) c.args.node in
    let m = seen c.args.moment.now in
    let last = c.args.moment.now.current.now.last in
    set_is last o v is m c.args.place (sym c.in-Set.is ∙ c.requires) c.in_ok-members-in-Set.members c.in_ok-members-in-Set.ensures.value

pub returns-in-Field-clause-value : goal.returns-in-Field-clause-value
returns-in-Field-clause-value c = λ v is.
    let o = slice_get (nodes c.args.moment.now.table.now) c.args.node in
    let m = seen c.args.moment.now in
    let last = c.args.moment.now.current.now.last in
    field_is last o v is m c.args.place (sym c.in-Field.is ∙ c.requires)
