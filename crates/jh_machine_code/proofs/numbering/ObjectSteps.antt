-- What the arms of objects cite.
use Rattle.std.proofs.Common.{◌≡◌, refl, ap, subst, sym, ◌∙◌, ℕ, List, Some, codes}
use Rattle.std.specs.declared.alloc.Global.{Global}
use Rattle.std.specs.declared.boxed.Box.{Box}
use Rattle.jh_name.specs.declared.naming.Name.{Name}
use Rattle.jh_name.specs.declared.place.Place.{Place}
use Rattle.jh_semantics.specs.Code as c
use Rattle.jh_semantics.specs.State.{named}
use Rattle.jh_semantics.specs.declared.typed_code.code.ObjectCode.{ObjectCode}
use Rattle.jh_semantics.specs.declared.typed_code.code.ObjectCode.TheVariants as o
use Rattle.jh_semantics.specs.typed_code.Codes.{object_code}
use Rattle.jh_operands.specs.declared.exprs.ObjectExpr.{ObjectExpr}
use Rattle.jh_operands.specs.declared.exprs.ObjectExpr.TheVariants as x
use Rattle.jh_operands.specs.Exprs.{object_in, ObjectFits}
use Rattle.jh_machine_code.specs.numbering.Numbered.{IsText, IsObject}
use Rattle.jh_machine_code.proofs.numbering.Standing.{grows_twice, stands_still, boxed}

module _ (names : List Name) where
  null : IsObject names o.Null x.Null
  unfolding object_in object_code ObjectFits
  null = record { same = λ later more. refl; fits = λ later more. tt }

  this : (k : ℕ) → IsText names (codes "this") k → IsObject names o.This (x.This k)
  unfolding object_in object_code ObjectFits
  this k number = record { same = λ later more. refl; fits = λ later more. number.fits later more ∙ ap (λ u. Some (named u)) (number.same later more) }

  name : (k : ℕ) (y : Name) → IsText names y.text k → IsObject names (o.Name y) (x.Name k)
  unfolding object_in object_code ObjectFits
  name k y number = record { same = λ later more. ap c.object (number.same later more); fits = λ later more. number.fits later more }

  read : (k : ℕ) (f : Name) (u : Box ObjectCode Global) (r : Box ObjectExpr Global) (q : Place) → IsText names f.text k → IsObject names u.value r.value → IsObject names (o.Read f u q) (x.Read k r q)
  unfolding object_in object_code ObjectFits
  read k f u r q number receiver = record {
    same = λ later more. λ i. c.read_object (number.same later more i) (receiver.same later more i) q;
    fits = λ later more. (number.fits later more, receiver.fits later more);
  }

pub object_null : {names : List Name} {code : ObjectCode} → code ≡ o.Null → IsObject names code x.Null
object_null {names} is = subst (λ e. IsObject names e x.Null) (sym is) (null names)

pub object_this : {names : List Name} {code : ObjectCode} {k : ℕ} → code ≡ o.This → IsText names (codes "this") k → IsObject names code (x.This k)
object_this {names} {code} {k} is number = subst (λ e. IsObject names e (x.This k)) (sym is) (this names k number)

pub object_name : {names : List Name} {code : ObjectCode} {y : Name} {k : ℕ} → code ≡ o.Name y → IsText names y.text k → IsObject names code (x.Name k)
object_name {names} {code} {y} {k} is number = subst (λ e. IsObject names e (x.Name k)) (sym is) (name names k y number)

pub object_read : {names : List Name} {code : ObjectCode} {f : Name} {u : Box ObjectCode Global} {q : Place} {k : ℕ} {r : Box ObjectExpr Global} {u0 : ObjectCode} {r0 : ObjectExpr} → code ≡ o.Read f u q → IsText names f.text k → u0 ≡ u.value → r.value ≡ r0 → IsObject names u0 r0 → IsObject names code (x.Read k r q)
object_read {names} {code} {f} {u} {q} {k} {r} {u0} {r0} is number at-u at-r receiver = subst (λ e. IsObject names e (x.Read k r q)) (sym is) (read names k f u r q number (boxed object_code u r at-u at-r receiver))

pub ruleset object_steps = (grows_twice, stands_still, object_null, object_this, object_name, object_read)
