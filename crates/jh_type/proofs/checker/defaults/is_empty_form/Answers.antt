use Rattle.std.proofs.Common.{◌≡◌, ap, sym}
use Rattle.jh_name.specs.declared.place.Place.{Place}
use Rattle.jh_ast.specs.declared.spec.SpecBody.{SpecBody}
use Rattle.jh_ast.specs.Bare.{form_body_tree}
use Rattle.jh_type.specs.checker.Defaults.{is_empty_form}
use Rattle.jh_type.proofs.checker.defaults.is_empty_form.Goals as goal

same : (p : Place) (a b : SpecBody) → a ≡ b → is_empty_form (form_body_tree p b) ≡ is_empty_form (form_body_tree p a)
same p a b e = ap (λ x. is_empty_form (form_body_tree p x)) (sym e)

pub returns-in-Null : goal.returns-in-Null
unfolding form_body_tree
returns-in-Null c = same c.args.form.now.place _ _ c.in-Null.is

pub returns-in-True : goal.returns-in-True
unfolding form_body_tree
returns-in-True c = same c.args.form.now.place _ _ c.in-True.is

pub returns-in-False : goal.returns-in-False
unfolding form_body_tree
returns-in-False c = same c.args.form.now.place _ _ c.in-False.is

pub returns-in-Univ : goal.returns-in-Univ
unfolding form_body_tree
returns-in-Univ c = same c.args.form.now.place _ _ c.in-Univ.is

pub returns-in-Number : goal.returns-in-Number
unfolding form_body_tree
returns-in-Number c = same c.args.form.now.place _ _ c.in-Number.is

pub returns-in-Name : goal.returns-in-Name
unfolding form_body_tree
returns-in-Name c = same c.args.form.now.place _ _ c.in-Name.is

pub returns-in-Member : goal.returns-in-Member
unfolding form_body_tree
returns-in-Member c = same c.args.form.now.place _ _ c.in-Member.is

pub returns-in-Not : goal.returns-in-Not
unfolding form_body_tree
returns-in-Not c = same c.args.form.now.place _ _ c.in-Not.is

pub returns-in-Minus : goal.returns-in-Minus
unfolding form_body_tree
returns-in-Minus c = same c.args.form.now.place _ _ c.in-Minus.is

pub returns-in-Old : goal.returns-in-Old
unfolding form_body_tree
returns-in-Old c = same c.args.form.now.place _ _ c.in-Old.is

pub returns-in-Card : goal.returns-in-Card
unfolding form_body_tree
returns-in-Card c = same c.args.form.now.place _ _ c.in-Card.is

pub returns-in-Binary : goal.returns-in-Binary
unfolding form_body_tree
returns-in-Binary c = same c.args.form.now.place _ _ c.in-Binary.is

pub returns-in-Dvd : goal.returns-in-Dvd
unfolding form_body_tree
returns-in-Dvd c = same c.args.form.now.place _ _ c.in-Dvd.is

pub returns-in-All : goal.returns-in-All
unfolding form_body_tree
returns-in-All c = same c.args.form.now.place _ _ c.in-All.is

pub returns-in-Ex : goal.returns-in-Ex
unfolding form_body_tree
returns-in-Ex c = same c.args.form.now.place _ _ c.in-Ex.is

pub returns-in-Tree : goal.returns-in-Tree
unfolding form_body_tree
returns-in-Tree c = same c.args.form.now.place _ _ c.in-Tree.is

pub returns-in-Rtrancl : goal.returns-in-Rtrancl
unfolding form_body_tree
returns-in-Rtrancl c = same c.args.form.now.place _ _ c.in-Rtrancl.is

pub returns-in-Compr : goal.returns-in-Compr
unfolding form_body_tree
returns-in-Compr c = same c.args.form.now.place _ _ c.in-Compr.is
