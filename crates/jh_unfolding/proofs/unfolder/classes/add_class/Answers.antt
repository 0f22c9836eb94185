use Rattle.std.proofs.Common.{map, subst}
use Rattle.std.specs.List.{flat_map}
use Rattle.jh_ast.specs.Bare.{method_part, class_part}
use Rattle.jh_vars.specs.Opened as opened
use Rattle.jh_vars.specs.Opened.{in_class}
use Rattle.jh_unfolding.specs.unfolder.Adding.{program_of, Adds}
use Rattle.jh_unfolding.proofs.unfolder.Addings.{adds-two}
use Rattle.jh_unfolding.proofs.unfolder.classes.add_class.Goals as goal

pub returns-clause-adds : goal.returns-clause-adds
unfolding class_part in_class
returns-clause-adds c =
    let p = program_of c.args.visitor.now.context in
    let g0 = c.args.visitor.now.gathered in
    let g1 = c.add_outer.new.gathered in
    let g2 = c.add_methods.new.visitor.gathered in
    let second = subst (λ us. Adds p g1 g2 us) (λ i. flat_map (opened.in_method p c.args.number) (map method_part (c.items.ensures i))) c.in_ok-add_methods.ensures.adds in
    adds-two p g0 g1 g2 _ _ c.in_ok-add_outer.ensures.adds second
