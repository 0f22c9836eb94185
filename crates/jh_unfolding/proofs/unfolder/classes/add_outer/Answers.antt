use Rattle.std.proofs.Common.{◌∷◌, [], map, subst}
use Rattle.std.specs.List.{flat_map}
use Rattle.jh_ast.specs.Forms.{LabelledPart}
use Rattle.jh_ast.specs.Programs.{VarPart, DefPart}
use Rattle.jh_ast.specs.Bare.{var_part, def_part, labelled_part, class_part}
use Rattle.jh_vars.specs.Opened as opened
use Rattle.jh_unfolding.specs.unfolder.Adding.{program_of, Adds}
use Rattle.jh_unfolding.proofs.unfolder.Addings.{adds-two}
use Rattle.jh_unfolding.proofs.unfolder.classes.add_outer.Goals as goal

pub returns-clause-adds : goal.returns-clause-adds
unfolding class_part
returns-clause-adds c =
    let p = program_of c.args.context.now in
    let n = c.args.number in
    let g0 = c.args.gathered.now in
    let g1 = c.add_inits.new.gathered in
    let g2 = c.add_defs.new.gathered in
    let g3 = c.add_invariants.new.gathered in
    let spot = c.outside-spot.ensures in
    let first = subst (λ us. Adds p g0 g1 us) (λ i. flat_map (λ (v : VarPart). opened.valued_some p (spot i) v.init) (map var_part (c.items.ensures i))) c.in_ok-add_inits.ensures.adds in
    let second = subst (λ us. Adds p g1 g2 us) (λ i. flat_map (λ (d : DefPart). opened.valued p (spot i) d.spec) (map def_part (c.items-2.ensures i))) c.in_ok-add_defs.ensures.adds in
    let third = subst (λ us. Adds p g2 g3 us) (λ i. flat_map (λ (l : LabelledPart). (l.spec.number, opened.invariant_value p n (class_part c.args.class.now) l.spec.form) ∷ []) (map labelled_part (c.items-3.ensures i))) c.in_ok-add_invariants.ensures.adds in
    adds-two p g0 g2 g3 _ _ (adds-two p g0 g1 g2 _ _ first second) third
