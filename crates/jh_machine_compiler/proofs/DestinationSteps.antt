-- What the arms of destinations cite.
use Rattle.std.proofs.Common.{◌≡◌, refl, sym, ap, subst, ℕ, List}
use Rattle.jh_name.specs.declared.naming.Name.{Name}
use Rattle.jh_name.specs.declared.place.Place.{Place}
use Rattle.jh_semantics.specs.Code as c
use Rattle.jh_semantics.specs.declared.typed_code.code.ObjectCode.{ObjectCode}
use Rattle.jh_semantics.specs.declared.typed_code.stmts.Local.{Local}
use Rattle.jh_semantics.specs.declared.typed_code.stmts.Target.{Target}
use Rattle.jh_semantics.specs.declared.typed_code.stmts.Target.TheVariants as o
use Rattle.jh_semantics.specs.typed_code.Statements as lowered
use Rattle.jh_operands.specs.declared.exprs.ObjectExpr.{ObjectExpr}
use Rattle.jh_machine_code.specs.declared.code.destination.Destination.TheVariants as x
use Rattle.jh_machine_code.specs.code.Destinations.{undeclared, target_in, DestinationFits}
use Rattle.jh_machine_code.specs.numbering.Numbered.{IsText, IsObject}
use Rattle.jh_machine_code.proofs.numbering.Standing.{grows_twice, stands_still}
use Rattle.jh_machine_compiler.specs.Lasting.{IsDestination}

module _ (names : List Name) where
  nowhere : IsDestination names o.Nowhere x.Nowhere
  unfolding undeclared target_in DestinationFits lowered.target_in
  nowhere = record { is = λ later more. record { same = refl; fits = tt } }

  declared : (l : Local) (k : ℕ) → IsText names l.name.text k → IsDestination names (o.New l) (x.Name k)
  unfolding undeclared target_in DestinationFits lowered.target_in
  declared l k number = record { is = λ later more. record { same = ap c.to_name (sym (number.same later more)); fits = number.fits later more } }

  named : (y : Name) (k : ℕ) → IsText names y.text k → IsDestination names (o.Name y) (x.Name k)
  unfolding undeclared target_in DestinationFits lowered.target_in
  named y k number = record { is = λ later more. record { same = ap c.to_name (sym (number.same later more)); fits = number.fits later more } }

  in_field : (f : Name) (k : ℕ) (u : ObjectCode) (r : ObjectExpr) (q : Place) → IsText names f.text k → IsObject names u r → IsDestination names (o.Field f u q) (x.Field k r q)
  unfolding undeclared target_in DestinationFits lowered.target_in
  in_field f k u r q number receiver = record { is = λ later more. record { same = λ i. c.to_field (sym (number.same later more) i) (sym (receiver.same later more) i) q; fits = (number.fits later more, receiver.fits later more) } }

pub goes_nowhere : {names : List Name} {target : Target} → target ≡ o.Nowhere → IsDestination names target x.Nowhere
goes_nowhere {names} is = subst (λ e. IsDestination names e x.Nowhere) (sym is) (nowhere names)

pub goes_new : {names : List Name} {target : Target} {l : Local} {k : ℕ} → target ≡ o.New l → IsText names l.name.text k → IsDestination names target (x.Name k)
goes_new {names} {target} {l} {k} is number = subst (λ e. IsDestination names e (x.Name k)) (sym is) (declared names l k number)

pub goes_name : {names : List Name} {target : Target} {y : Name} {k : ℕ} → target ≡ o.Name y → IsText names y.text k → IsDestination names target (x.Name k)
goes_name {names} {target} {y} {k} is number = subst (λ e. IsDestination names e (x.Name k)) (sym is) (named names y k number)

pub goes_field : {names : List Name} {target : Target} {f : Name} {k : ℕ} {u : ObjectCode} {r : ObjectExpr} {q : Place} → target ≡ o.Field f u q → IsText names f.text k → IsObject names u r → IsDestination names target (x.Field k r q)
goes_field {names} {target} {f} {k} {u} {r} {q} is number receiver = subst (λ e. IsDestination names e (x.Field k r q)) (sym is) (in_field names f k u r q number receiver)

pub ruleset destination_steps = (grows_twice, stands_still, goes_nowhere, goes_new, goes_name, goes_field)
