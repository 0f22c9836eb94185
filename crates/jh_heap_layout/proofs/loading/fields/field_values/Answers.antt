use Rattle.jh_heap_layout.proofs.loading.Fielding.{field-same, objects-inside}
use Rattle.jh_heap_layout.proofs.loading.fields.field_values.Goals as goal

pub returns-clause-field : goal.returns-clause-field
returns-clause-field c =
    field-same c.args.cells.now (record { objects = c.in_ok-objects.objects; numbers = c.in_ok-numbers.numbers; truths = c.in_ok-truths.truths; sets = c.in_ok-sets.sets }) c.in_ok-objects.ensures c.in_ok-numbers.ensures c.in_ok-truths.ensures c.in_ok-sets.ensures

pub returns-clause-inside : goal.returns-clause-inside
returns-clause-inside c = λ n inside. objects-inside n c.args.cells.now c.in_ok-objects.objects.items c.in_ok-objects.ensures inside
