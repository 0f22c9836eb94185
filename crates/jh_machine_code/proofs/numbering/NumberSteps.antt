-- What the arms of numbers cite.
use Rattle.std.proofs.Common.{◌≡◌, refl, subst, sym, ℕ, ℤ, List}
use Rattle.std.specs.declared.alloc.Global.{Global}
use Rattle.std.specs.declared.boxed.Box.{Box}
use Rattle.jh_name.specs.declared.naming.Name.{Name}
use Rattle.jh_name.specs.declared.place.Place.{Place}
use Rattle.jh_semantics.specs.Code as c
use Rattle.jh_semantics.specs.declared.typed_code.code.ObjectCode.{ObjectCode}
use Rattle.jh_semantics.specs.declared.typed_code.code.NumberCode.{NumberCode}
use Rattle.jh_semantics.specs.declared.typed_code.code.NumberCode.TheVariants as o
use Rattle.jh_semantics.specs.typed_code.Codes.{number_code}
use Rattle.jh_operands.specs.declared.exprs.ObjectExpr.{ObjectExpr}
use Rattle.jh_operands.specs.declared.exprs.NumberExpr.{NumberExpr}
use Rattle.jh_operands.specs.declared.exprs.NumberExpr.TheVariants as x
use Rattle.jh_operands.specs.Exprs.{number_in, NumberFits}
use Rattle.jh_machine_code.specs.numbering.Numbered.{IsText, IsObject, IsNumber}
use Rattle.jh_machine_code.proofs.numbering.Standing.{grows_twice, stands_still, boxed}

module _ (names : List Name) where
  const : (z : ℤ) → IsNumber names (o.Const z) (x.Const z)
  unfolding number_in number_code NumberFits
  const z = record { same = λ later more. refl; fits = λ later more. tt }

  name : (f : Name) (k : ℕ) → IsText names f.text k → IsNumber names (o.Name f) (x.Name k)
  unfolding number_in number_code NumberFits
  name f k number = record { same = λ later more. λ i. c.number (number.same later more i); fits = λ later more. number.fits later more }

  read : (f : Name) (k : ℕ) (u : ObjectCode) (l : ObjectExpr) (q : Place) → IsText names f.text k → IsObject names u l → IsNumber names (o.Read f u q) (x.Read k l q)
  unfolding number_in number_code NumberFits
  read f k u l q number first = record { same = λ later more. λ i. c.read_number (number.same later more i) (first.same later more i) q; fits = λ later more. (number.fits later more, first.fits later more) }

  add : (q : Place) (u : Box NumberCode Global) (l : Box NumberExpr Global) (v : Box NumberCode Global) (r : Box NumberExpr Global) → IsNumber names u.value l.value → IsNumber names v.value r.value → IsNumber names (o.Add q u v) (x.Add q l r)
  unfolding number_in number_code NumberFits
  add q u l v r first second = record { same = λ later more. λ i. c.add q (first.same later more i) (second.same later more i); fits = λ later more. (first.fits later more, second.fits later more) }

  sub : (q : Place) (u : Box NumberCode Global) (l : Box NumberExpr Global) (v : Box NumberCode Global) (r : Box NumberExpr Global) → IsNumber names u.value l.value → IsNumber names v.value r.value → IsNumber names (o.Sub q u v) (x.Sub q l r)
  unfolding number_in number_code NumberFits
  sub q u l v r first second = record { same = λ later more. λ i. c.sub q (first.same later more i) (second.same later more i); fits = λ later more. (first.fits later more, second.fits later more) }

  minus : (q : Place) (u : Box NumberCode Global) (l : Box NumberExpr Global) → IsNumber names u.value l.value → IsNumber names (o.Minus q u) (x.Minus q l)
  unfolding number_in number_code NumberFits
  minus q u l first = record { same = λ later more. λ i. c.minus q (first.same later more i); fits = λ later more. first.fits later more }

  times : (q : Place) (z : ℤ) (u : Box NumberCode Global) (l : Box NumberExpr Global) → IsNumber names u.value l.value → IsNumber names (o.Times q z u) (x.Times q z l)
  unfolding number_in number_code NumberFits
  times q z u l first = record { same = λ later more. λ i. c.times q z (first.same later more i); fits = λ later more. first.fits later more }

pub number_const : {names : List Name} {code : NumberCode} {z : ℤ} → code ≡ o.Const z → IsNumber names code (x.Const z)
number_const {names} {code} {z} is = subst (λ e. IsNumber names e (x.Const z)) (sym is) (const names z)

pub number_name : {names : List Name} {code : NumberCode} {f : Name} {k : ℕ} → code ≡ o.Name f → IsText names f.text k → IsNumber names code (x.Name k)
number_name {names} {code} {f} {k} is number = subst (λ e. IsNumber names e (x.Name k)) (sym is) (name names f k number)

pub number_read : {names : List Name} {code : NumberCode} {f : Name} {k : ℕ} {u : ObjectCode} {l : ObjectExpr} {q : Place} → code ≡ o.Read f u q → IsText names f.text k → IsObject names u l → IsNumber names code (x.Read k l q)
number_read {names} {code} {f} {k} {u} {l} {q} is number first = subst (λ e. IsNumber names e (x.Read k l q)) (sym is) (read names f k u l q number first)

pub number_add : {names : List Name} {code : NumberCode} {q : Place} {u : Box NumberCode Global} {l : Box NumberExpr Global} {v : Box NumberCode Global} {r : Box NumberExpr Global} {u0 : NumberCode} {l0 : NumberExpr} {v0 : NumberCode} {r0 : NumberExpr} → code ≡ o.Add q u v → u0 ≡ u.value → l.value ≡ l0 → IsNumber names u0 l0 → v0 ≡ v.value → r.value ≡ r0 → IsNumber names v0 r0 → IsNumber names code (x.Add q l r)
number_add {names} {code} {q} {u} {l} {v} {r} {u0} {l0} {v0} {r0} is at-u at-l first at-v at-r second = subst (λ e. IsNumber names e (x.Add q l r)) (sym is) (add names q u l v r (boxed number_code u l at-u at-l first) (boxed number_code v r at-v at-r second))

pub number_sub : {names : List Name} {code : NumberCode} {q : Place} {u : Box NumberCode Global} {l : Box NumberExpr Global} {v : Box NumberCode Global} {r : Box NumberExpr Global} {u0 : NumberCode} {l0 : NumberExpr} {v0 : NumberCode} {r0 : NumberExpr} → code ≡ o.Sub q u v → u0 ≡ u.value → l.value ≡ l0 → IsNumber names u0 l0 → v0 ≡ v.value → r.value ≡ r0 → IsNumber names v0 r0 → IsNumber names code (x.Sub q l r)
number_sub {names} {code} {q} {u} {l} {v} {r} {u0} {l0} {v0} {r0} is at-u at-l first at-v at-r second = subst (λ e. IsNumber names e (x.Sub q l r)) (sym is) (sub names q u l v r (boxed number_code u l at-u at-l first) (boxed number_code v r at-v at-r second))

pub number_minus : {names : List Name} {code : NumberCode} {q : Place} {u : Box NumberCode Global} {l : Box NumberExpr Global} {u0 : NumberCode} {l0 : NumberExpr} → code ≡ o.Minus q u → u0 ≡ u.value → l.value ≡ l0 → IsNumber names u0 l0 → IsNumber names code (x.Minus q l)
number_minus {names} {code} {q} {u} {l} {u0} {l0} is at-u at-l first = subst (λ e. IsNumber names e (x.Minus q l)) (sym is) (minus names q u l (boxed number_code u l at-u at-l first))

pub number_times : {names : List Name} {code : NumberCode} {q : Place} {z : ℤ} {u : Box NumberCode Global} {l : Box NumberExpr Global} {u0 : NumberCode} {l0 : NumberExpr} → code ≡ o.Times q z u → u0 ≡ u.value → l.value ≡ l0 → IsNumber names u0 l0 → IsNumber names code (x.Times q z l)
number_times {names} {code} {q} {z} {u} {l} {u0} {l0} is at-u at-l first = subst (λ e. IsNumber names e (x.Times q z l)) (sym is) (times names q z u l (boxed number_code u l at-u at-l first))

pub ruleset number_steps = (grows_twice, stands_still, number_const, number_name, number_read, number_add, number_sub, number_minus, number_times)

pub ruleset pair_steps = (grows_twice, stands_still)
