use Rattle.std.proofs.Common.{◌≡◌, subst, sym, ap, ◌∙◌, ◌&&◌, ◌≡◌}
use Rattle.jh_ast.specs.Bare.{form_body_tree, form_tree}
use Rattle.jh_ast.specs.Forms as f
use Rattle.jh_rules.specs.Formulas.{equations}
use Rattle.jh_type.specs.formula_kinds.Parts as parts
use Rattle.jh_type.proofs.formula_kinds.Steps.{or-gathered}
use Rattle.jh_ast.proofs.FormSteps.{tree-Binary}
use Rattle.jh_type.proofs.formula_kinds.shapes.+gather.Goals as goal

pub returns-in_ok-more-in-Binary : goal.returns-in_ok-more-in-Binary
returns-in_ok-more-in-Binary t c =
    let left : c.deref.result.now ≡ c.in-Binary.left.value = c.deref.ensures in
    let right : c.deref-then-is_or.result.now ≡ c.in-Binary.right.value = c.deref-then-is_or.ensures in
    let x = c.args.first.now in
    let y = c.args.second.now in
    let old = c.args.made.now.items in
    let made = c.gather-then-is_or.new.made.items in
    subst (λ g. parts.Gathered (equations x y (form_tree c.args.form.now)) old made g) (sym c.both_good.ensures)
    (subst (λ a. parts.Gathered (equations x y a) old made (c.in_ok-good-in-Binary.good && c.in_ok-more-in-Binary.more)) ((λ i. f.binary c.args.form.now.place c.in-Binary.op (form_tree (left i)) (form_tree (right i))) ∙ sym (ap (form_body_tree c.args.form.now.place) c.in-Binary.is ∙ tree-Binary c.args.form.now.place c.in-Binary.op _ _ _ _ _ _))
    (or-gathered x y c.args.form.now.place c.in-Binary.op _ _ old _ made c.in_ok-good-in-Binary.good c.in_ok-more-in-Binary.more (sym c.is_or.ensures ∙ c.if-is_or.true) c.in_ok-good-in-Binary.ensures c.in_ok-more-in-Binary.ensures))
