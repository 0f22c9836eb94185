-- Written by tools/value.py.
use Rattle.std.proofs.Common.{◌≡◌, rules, arith, ◌<◌, true, slice_get, get_or}
use Rattle.jh_arena.specs.table.Entries.{is_field}
use Rattle.jh_arena.specs.table.Nodes.{nodes}
use Rattle.jh_export.proofs.ValueSteps.{term-else, int-else, set-else, field-else, formula-else}
use Rattle.jh_export.proofs.FieldLists.{item-is-field, item-below, fields-step, fields-end}
use Rattle.jh_export.proofs.making.+made.Goals as goal

pub make_term-unreachable-requires : goal.make_term-unreachable-requires
make_term-unreachable-requires t c =
    term-else c.args.table.now c.args.node c.standing.result c.standing.ensures c.requires
    c.in_default.not-Bound c.in_default.not-FreeObject c.in_default.not-Null c.in_default.not-ReadObject

pub make_int-unreachable-requires : goal.make_int-unreachable-requires
make_int-unreachable-requires t c =
    int-else c.args.table.now c.args.node c.standing.result c.standing.ensures c.requires
    c.in_default.not-Const c.in_default.not-FreeNumber c.in_default.not-ReadNumber c.in_default.not-Add c.in_default.not-Sub c.in_default.not-Neg c.in_default.not-Scale c.in_default.not-Card

pub make_set-unreachable-requires : goal.make_set-unreachable-requires
make_set-unreachable-requires t c =
    set-else c.args.table.now c.args.node c.standing.result c.standing.ensures c.requires
    c.in_default.not-FreeSet c.in_default.not-ReadSet c.in_default.not-Empty c.in_default.not-Univ c.in_default.not-Single c.in_default.not-Union c.in_default.not-Inter c.in_default.not-Diff c.in_default.not-Compl c.in_default.not-Compr

pub make_field-unreachable-requires : goal.make_field-unreachable-requires
make_field-unreachable-requires t c =
    field-else c.args.table.now c.args.node c.standing.result c.standing.ensures c.requires
    c.in_default.not-FreeField c.in_default.not-Update

pub formula_box-unreachable-requires : goal.formula_box-unreachable-requires
formula_box-unreachable-requires t c =
    formula-else c.args.table.now c.args.node c.standing.result c.standing.ensures c.requires
    c.in_default.not-True c.in_default.not-False c.in_default.not-FreeTruth c.in_default.not-ReadTruth c.in_default.not-Negation c.in_default.not-And c.in_default.not-Or c.in_default.not-Implies c.in_default.not-Iff c.in_default.not-All c.in_default.not-Ex c.in_default.not-EqObject c.in_default.not-EqNumber c.in_default.not-EqSet c.in_default.not-Less c.in_default.not-LessEqual c.in_default.not-Divides c.in_default.not-Member c.in_default.not-Subset c.in_default.not-Reach c.in_default.not-Tree c.in_default.not-Mark

pub make_fields-make_field-requires : goal.make_fields-make_field-requires
make_fields-make_field-requires t c =
    let part = get_or c.args.fields.now c.loop-field.field-index 0 in
    let smaller : part < c.args.node = item-below c.args.node c.args.fields.now c.loop-field.field-index c.requires.below c.loop-field-test.true in
    let field : is_field (slice_get (nodes c.args.table.now) part) ≡ true = item-is-field (nodes c.args.table.now) c.args.fields.now c.loop-field.field-index c.requires.fields c.loop-field-test.true in
    search (rules, arith)

pub make_fields-loop-field-preserved : goal.make_fields-loop-field-preserved
make_fields-loop-field-preserved t c =
    fields-step (nodes c.args.table.now) c.args.fields.now c.loop-field.field-index c.in_ok-field.field c.loop-field.made.items c.push.new.self.items
    c.loop-field-test.true c.loop-field.invariant c.in_ok-field.ensures c.in_ok-push.ensures.items

pub make_fields-returns : goal.make_fields-returns
make_fields-returns t c =
    fields-end (nodes c.args.table.now) c.args.fields.now c.loop-field.field-index c.loop-field.made.items c.loop-field-test.false c.loop-field.invariant
