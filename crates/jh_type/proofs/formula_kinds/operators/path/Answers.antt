use Rattle.jh_ast.specs.Bare.{form_tree}
use Rattle.jh_name.specs.declared.place.Kind.TheVariants as k
use Rattle.jh_rules.specs.Faults.{both}
use Rattle.jh_type.specs.formula_kinds.Parts as parts
use Rattle.jh_type.specs.declared.formula_kinds.operators.Wanted.TheVariants as w
use Rattle.jh_type.proofs.formula_kinds.operators.path.Goals as goal

pub returns : goal.returns
returns c = λ i j m h x y. c.instead.ensures (both i (parts.two w.Obj w.Obj (form_tree c.args.form.now) j m k.Bool)) (c.both.ensures _ _ h (c.two-ends.ensures j m x y))
