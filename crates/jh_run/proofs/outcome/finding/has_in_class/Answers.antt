use Rattle.std.proofs.Common.{ap, sym, ◌∙◌, Some, false, slice_get}
use Rattle.std.proofs.lemmas.Option.{slice_get-get_or, slice_get_past}
use Rattle.std.specs.Option.{option_map_or}
use Rattle.jh_ast.specs.declared.program.Class.{Class}
use Rattle.jh_run.proofs.outcome.Named.{among, class-has}
use Rattle.jh_run.proofs.outcome.finding.has_in_class.Goals as goal

-- src/finding.rt
pub returns-in-None : goal.returns-in-None
returns-in-None c =
    ap (λ o. option_map_or (λ (k : Class). among c.args.name.now k.methods) o false) (sym (ap (λ xs. slice_get xs c.args.class) (sym c.items.ensures) ∙ slice_get_past c.items.result.now c.args.class c.in-None.ensures.lookup.3))
    ∙ class-has c.args.name.now c.args.program.now c.args.class

-- src/finding.rt
pub returns-in-Some : goal.returns-in-Some
returns-in-Some c =
    let at = slice_get-get_or c.items.result.now c.args.class c.in-Some.class.now c.in-Some.ensures.lookup.3.0 ∙ ap (λ k. Some k) (sym c.in-Some.ensures.lookup.1) in
    c.is_among.ensures
    ∙ ap (among c.args.name.now) c.items-in-Some.ensures
    ∙ ap (λ o. option_map_or (λ (k : Class). among c.args.name.now k.methods) o false) (sym at ∙ ap (λ xs. slice_get xs c.args.class) c.items.ensures)
    ∙ class-has c.args.name.now c.args.program.now c.args.class
