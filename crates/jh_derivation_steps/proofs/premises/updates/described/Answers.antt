use Rattle.std.proofs.Common.{sym, ◌∙◌}
use Rattle.jh_arena.specs.table.Nodes.{nodes}
use Rattle.jh_derivation_steps.specs.premises.Nodes.{field_at, term_at, value_at, option_formula, IsMade}
use Rattle.jh_derivation_steps.proofs.premises.Equating.{term-of-sort, number-of-sort, formula-of-sort, set-of-sort}
use Rattle.jh_derivation_steps.proofs.premises.Describing.{described-objects, described-numbers, described-truths, described-sets, described-none}
use Rattle.jh_derivation_steps.proofs.premises.updates.described.Goals as goal

pub updated_objects-requires-clause-value : goal.updated_objects-requires-clause-value
updated_objects-requires-clause-value c =
    let t0 = c.args.table.now in
    let v = value_at (nodes t0) c.args.value in
    let so = sym c.sort.ensures ∙ c.in-Obj.is in
    term-of-sort (nodes t0) c.args.value v c.requires.value so

pub returns-in_ok-updated_objects-in-Obj-clause-made : goal.returns-in_ok-updated_objects-in-Obj-clause-made
returns-in_ok-updated_objects-in-Obj-clause-made c =
    let t0 = c.args.table.now in
    let v = value_at (nodes t0) c.args.value in
    let so = sym c.sort.ensures ∙ c.in-Obj.is in
    described-objects (nodes t0) (nodes c.updated_objects.new.table) c.args.value c.in_ok-updated_objects-in-Obj.field-0 (field_at (nodes t0) c.args.new) (field_at (nodes t0) c.args.old) (term_at (nodes t0) c.args.at) v c.requires.value so
    (λ x h. c.in_ok-updated_objects-in-Obj.ensures.made (field_at (nodes t0) c.args.new) (field_at (nodes t0) c.args.old) (term_at (nodes t0) c.args.at) x c.requires.new c.requires.old c.requires.at h)

pub updated_numbers-requires-clause-value : goal.updated_numbers-requires-clause-value
updated_numbers-requires-clause-value c =
    let t0 = c.args.table.now in
    let v = value_at (nodes t0) c.args.value in
    let so = sym c.sort.ensures ∙ c.in-Int.is in
    number-of-sort (nodes t0) c.args.value v c.requires.value so

pub returns-in_ok-updated_numbers-in-Int-clause-made : goal.returns-in_ok-updated_numbers-in-Int-clause-made
returns-in_ok-updated_numbers-in-Int-clause-made c =
    let t0 = c.args.table.now in
    let v = value_at (nodes t0) c.args.value in
    let so = sym c.sort.ensures ∙ c.in-Int.is in
    described-numbers (nodes t0) (nodes c.updated_numbers.new.table) c.args.value c.in_ok-updated_numbers-in-Int.field-0 (field_at (nodes t0) c.args.new) (field_at (nodes t0) c.args.old) (term_at (nodes t0) c.args.at) v c.requires.value so
    (λ x h. c.in_ok-updated_numbers-in-Int.ensures.made (field_at (nodes t0) c.args.new) (field_at (nodes t0) c.args.old) (term_at (nodes t0) c.args.at) x c.requires.new c.requires.old c.requires.at h)

pub updated_truths-requires-clause-value : goal.updated_truths-requires-clause-value
updated_truths-requires-clause-value c =
    let t0 = c.args.table.now in
    let v = value_at (nodes t0) c.args.value in
    let so = sym c.sort.ensures ∙ c.in-Bool.is in
    formula-of-sort (nodes t0) c.args.value v c.requires.value so

pub returns-in_ok-updated_truths-in-Bool-clause-made : goal.returns-in_ok-updated_truths-in-Bool-clause-made
returns-in_ok-updated_truths-in-Bool-clause-made c =
    let t0 = c.args.table.now in
    let v = value_at (nodes t0) c.args.value in
    let so = sym c.sort.ensures ∙ c.in-Bool.is in
    described-truths (nodes t0) (nodes c.updated_truths.new.table) c.args.value c.in_ok-updated_truths-in-Bool.field-0 (field_at (nodes t0) c.args.new) (field_at (nodes t0) c.args.old) (term_at (nodes t0) c.args.at) v c.requires.value so
    (λ x h. c.in_ok-updated_truths-in-Bool.ensures.made (field_at (nodes t0) c.args.new) (field_at (nodes t0) c.args.old) (term_at (nodes t0) c.args.at) x c.requires.new c.requires.old c.requires.at h)

pub updated_sets-requires-clause-value : goal.updated_sets-requires-clause-value
updated_sets-requires-clause-value c =
    let t0 = c.args.table.now in
    let v = value_at (nodes t0) c.args.value in
    let so = sym c.sort.ensures ∙ c.in-Set.is in
    set-of-sort (nodes t0) c.args.value v c.requires.value so

pub returns-in_ok-updated_sets-in-Set-clause-made : goal.returns-in_ok-updated_sets-in-Set-clause-made
returns-in_ok-updated_sets-in-Set-clause-made c =
    let t0 = c.args.table.now in
    let v = value_at (nodes t0) c.args.value in
    let so = sym c.sort.ensures ∙ c.in-Set.is in
    described-sets (nodes t0) (nodes c.updated_sets.new.table) c.args.value c.in_ok-updated_sets-in-Set.field-0 (field_at (nodes t0) c.args.new) (field_at (nodes t0) c.args.old) (term_at (nodes t0) c.args.at) v c.requires.value so
    (λ x h. c.in_ok-updated_sets-in-Set.ensures.made (field_at (nodes t0) c.args.new) (field_at (nodes t0) c.args.old) (term_at (nodes t0) c.args.at) x c.requires.new c.requires.old c.requires.at h)

pub returns-in-Field-clause-made : goal.returns-in-Field-clause-made
unfolding option_formula IsMade
returns-in-Field-clause-made c =
    let t0 = c.args.table.now in
    (sym (described-none (field_at (nodes t0) c.args.new) (field_at (nodes t0) c.args.old) (term_at (nodes t0) c.args.at) (value_at (nodes t0) c.args.value) (sym c.sort.ensures ∙ c.in-Field.is)), tt)
