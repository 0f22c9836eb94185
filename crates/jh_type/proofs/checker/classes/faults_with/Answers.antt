use Rattle.std.proofs.Common.{sym, ap, ◌∙◌, map}
use Rattle.jh_ast.specs.Bare.{class_part, program_tree}
use Rattle.jh_rules.specs.Found.{least}
use Rattle.jh_rules.specs.Names.{declared_in}
use Rattle.jh_rules.specs.Words.{used_before}
use Rattle.jh_type.specs.checker.Wholes as wholes
use Rattle.jh_type.proofs.checker.Joining.{whole-classes, map-twice}
use Rattle.jh_ast.specs.declared.program.Class.{Class}
use Rattle.jh_ast.specs.Programs.{ClassPart}
use Rattle.jh_type.proofs.checker.classes.faults_with.Goals as goal

pub returns : goal.returns
unfolding program_tree class_part
returns c = λ h.
    let p = program_tree c.args.program.now in
    let cs = map class_part c.args.program.now.classes in
    c.in_ok-found.ensures
    ∙ (λ i. least (wholes.all_classes (h i) 0 (λ w. (c.in_ok-names.ensures w ∙ ap (λ xs. used_before (map (λ (x : Class). x.name) xs) w) c.items.ensures ∙ ap (λ ws. used_before ws w) (sym (map-twice (λ (d : ClassPart). d.name) class_part c.args.program.now.classes))) i) (map class_part (c.items-2.ensures i))))
    ∙ ap least (whole-classes (declared_in p) p 0 cs)
