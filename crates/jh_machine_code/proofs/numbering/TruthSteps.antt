-- What the arms of truths cite.
use Rattle.std.proofs.Common.{◌≡◌, refl, subst, sym, ℕ, Bool, List}
use Rattle.std.specs.declared.alloc.Global.{Global}
use Rattle.std.specs.declared.boxed.Box.{Box}
use Rattle.jh_name.specs.declared.naming.Name.{Name}
use Rattle.jh_name.specs.declared.place.Place.{Place}
use Rattle.jh_semantics.specs.Code as c
use Rattle.jh_semantics.specs.declared.typed_code.code.ObjectCode.{ObjectCode}
use Rattle.jh_semantics.specs.declared.typed_code.code.NumberCode.{NumberCode}
use Rattle.jh_semantics.specs.declared.typed_code.code.TruthCode.{TruthCode}
use Rattle.jh_semantics.specs.declared.typed_code.code.TruthCode.TheVariants as o
use Rattle.jh_semantics.specs.typed_code.Codes.{truth_code}
use Rattle.jh_operands.specs.declared.exprs.ObjectExpr.{ObjectExpr}
use Rattle.jh_operands.specs.declared.exprs.NumberExpr.{NumberExpr}
use Rattle.jh_operands.specs.declared.exprs.TruthExpr.{TruthExpr}
use Rattle.jh_operands.specs.declared.exprs.TruthExpr.TheVariants as x
use Rattle.jh_operands.specs.Exprs.{truth_in, TruthFits}
use Rattle.jh_machine_code.specs.numbering.Numbered.{IsText, IsObject, IsNumber, IsTruth}
use Rattle.jh_machine_code.proofs.numbering.Standing.{grows_twice, stands_still, boxed}

module _ (names : List Name) where
  literal : (b : Bool) → IsTruth names (o.Literal b) (x.Literal b)
  unfolding truth_in truth_code TruthFits
  literal b = record { same = λ later more. refl; fits = λ later more. tt }

  name : (f : Name) (k : ℕ) → IsText names f.text k → IsTruth names (o.Name f) (x.Name k)
  unfolding truth_in truth_code TruthFits
  name f k number = record { same = λ later more. λ i. c.truth (number.same later more i); fits = λ later more. number.fits later more }

  read : (f : Name) (k : ℕ) (u : ObjectCode) (l : ObjectExpr) (q : Place) → IsText names f.text k → IsObject names u l → IsTruth names (o.Read f u q) (x.Read k l q)
  unfolding truth_in truth_code TruthFits
  read f k u l q number first = record { same = λ later more. λ i. c.read_truth (number.same later more i) (first.same later more i) q; fits = λ later more. (number.fits later more, first.fits later more) }

  not_of : (u : Box TruthCode Global) (l : Box TruthExpr Global) → IsTruth names u.value l.value → IsTruth names (o.Not u) (x.Not l)
  unfolding truth_in truth_code TruthFits
  not_of u l first = record { same = λ later more. λ i. c.negation (first.same later more i); fits = λ later more. first.fits later more }

  both : (u : Box TruthCode Global) (l : Box TruthExpr Global) (v : Box TruthCode Global) (r : Box TruthExpr Global) → IsTruth names u.value l.value → IsTruth names v.value r.value → IsTruth names (o.And u v) (x.And l r)
  unfolding truth_in truth_code TruthFits
  both u l v r first second = record { same = λ later more. λ i. c.both (first.same later more i) (second.same later more i); fits = λ later more. (first.fits later more, second.fits later more) }

  either : (u : Box TruthCode Global) (l : Box TruthExpr Global) (v : Box TruthCode Global) (r : Box TruthExpr Global) → IsTruth names u.value l.value → IsTruth names v.value r.value → IsTruth names (o.Or u v) (x.Or l r)
  unfolding truth_in truth_code TruthFits
  either u l v r first second = record { same = λ later more. λ i. c.either (first.same later more i) (second.same later more i); fits = λ later more. (first.fits later more, second.fits later more) }

  same_object : (u : ObjectCode) (l : ObjectExpr) (v : ObjectCode) (r : ObjectExpr) → IsObject names u l → IsObject names v r → IsTruth names (o.SameObject u v) (x.SameObject l r)
  unfolding truth_in truth_code TruthFits
  same_object u l v r first second = record { same = λ later more. λ i. c.same_object (first.same later more i) (second.same later more i); fits = λ later more. (first.fits later more, second.fits later more) }

  same_number : (u : NumberCode) (l : NumberExpr) (v : NumberCode) (r : NumberExpr) → IsNumber names u l → IsNumber names v r → IsTruth names (o.SameNumber u v) (x.SameNumber l r)
  unfolding truth_in truth_code TruthFits
  same_number u l v r first second = record { same = λ later more. λ i. c.same_number (first.same later more i) (second.same later more i); fits = λ later more. (first.fits later more, second.fits later more) }

  same_truth : (u : Box TruthCode Global) (l : Box TruthExpr Global) (v : Box TruthCode Global) (r : Box TruthExpr Global) → IsTruth names u.value l.value → IsTruth names v.value r.value → IsTruth names (o.SameTruth u v) (x.SameTruth l r)
  unfolding truth_in truth_code TruthFits
  same_truth u l v r first second = record { same = λ later more. λ i. c.same_truth (first.same later more i) (second.same later more i); fits = λ later more. (first.fits later more, second.fits later more) }

  less : (u : NumberCode) (l : NumberExpr) (v : NumberCode) (r : NumberExpr) → IsNumber names u l → IsNumber names v r → IsTruth names (o.Less u v) (x.Less l r)
  unfolding truth_in truth_code TruthFits
  less u l v r first second = record { same = λ later more. λ i. c.less (first.same later more i) (second.same later more i); fits = λ later more. (first.fits later more, second.fits later more) }

  less_equal : (u : NumberCode) (l : NumberExpr) (v : NumberCode) (r : NumberExpr) → IsNumber names u l → IsNumber names v r → IsTruth names (o.LessEq u v) (x.LessEq l r)
  unfolding truth_in truth_code TruthFits
  less_equal u l v r first second = record { same = λ later more. λ i. c.less_equal (first.same later more i) (second.same later more i); fits = λ later more. (first.fits later more, second.fits later more) }

  greater : (u : NumberCode) (l : NumberExpr) (v : NumberCode) (r : NumberExpr) → IsNumber names u l → IsNumber names v r → IsTruth names (o.Greater u v) (x.Greater l r)
  unfolding truth_in truth_code TruthFits
  greater u l v r first second = record { same = λ later more. λ i. c.greater (first.same later more i) (second.same later more i); fits = λ later more. (first.fits later more, second.fits later more) }

  greater_equal : (u : NumberCode) (l : NumberExpr) (v : NumberCode) (r : NumberExpr) → IsNumber names u l → IsNumber names v r → IsTruth names (o.GreaterEq u v) (x.GreaterEq l r)
  unfolding truth_in truth_code TruthFits
  greater_equal u l v r first second = record { same = λ later more. λ i. c.greater_equal (first.same later more i) (second.same later more i); fits = λ later more. (first.fits later more, second.fits later more) }

pub truth_literal : {names : List Name} {code : TruthCode} {b : Bool} → code ≡ o.Literal b → IsTruth names code (x.Literal b)
truth_literal {names} {code} {b} is = subst (λ e. IsTruth names e (x.Literal b)) (sym is) (literal names b)

pub truth_name : {names : List Name} {code : TruthCode} {f : Name} {k : ℕ} → code ≡ o.Name f → IsText names f.text k → IsTruth names code (x.Name k)
truth_name {names} {code} {f} {k} is number = subst (λ e. IsTruth names e (x.Name k)) (sym is) (name names f k number)

pub truth_read : {names : List Name} {code : TruthCode} {f : Name} {k : ℕ} {u : ObjectCode} {l : ObjectExpr} {q : Place} → code ≡ o.Read f u q → IsText names f.text k → IsObject names u l → IsTruth names code (x.Read k l q)
truth_read {names} {code} {f} {k} {u} {l} {q} is number first = subst (λ e. IsTruth names e (x.Read k l q)) (sym is) (read names f k u l q number first)

pub truth_not_of : {names : List Name} {code : TruthCode} {u : Box TruthCode Global} {l : Box TruthExpr Global} {u0 : TruthCode} {l0 : TruthExpr} → code ≡ o.Not u → u0 ≡ u.value → l.value ≡ l0 → IsTruth names u0 l0 → IsTruth names code (x.Not l)
truth_not_of {names} {code} {u} {l} {u0} {l0} is at-u at-l first = subst (λ e. IsTruth names e (x.Not l)) (sym is) (not_of names u l (boxed truth_code u l at-u at-l first))

pub truth_both : {names : List Name} {code : TruthCode} {u : Box TruthCode Global} {l : Box TruthExpr Global} {v : Box TruthCode Global} {r : Box TruthExpr Global} {u0 : TruthCode} {l0 : TruthExpr} {v0 : TruthCode} {r0 : TruthExpr} → code ≡ o.And u v → u0 ≡ u.value → l.value ≡ l0 → IsTruth names u0 l0 → v0 ≡ v.value → r.value ≡ r0 → IsTruth names v0 r0 → IsTruth names code (x.And l r)
truth_both {names} {code} {u} {l} {v} {r} {u0} {l0} {v0} {r0} is at-u at-l first at-v at-r second = subst (λ e. IsTruth names e (x.And l r)) (sym is) (both names u l v r (boxed truth_code u l at-u at-l first) (boxed truth_code v r at-v at-r second))

pub truth_either : {names : List Name} {code : TruthCode} {u : Box TruthCode Global} {l : Box TruthExpr Global} {v : Box TruthCode Global} {r : Box TruthExpr Global} {u0 : TruthCode} {l0 : TruthExpr} {v0 : TruthCode} {r0 : TruthExpr} → code ≡ o.Or u v → u0 ≡ u.value → l.value ≡ l0 → IsTruth names u0 l0 → v0 ≡ v.value → r.value ≡ r0 → IsTruth names v0 r0 → IsTruth names code (x.Or l r)
truth_either {names} {code} {u} {l} {v} {r} {u0} {l0} {v0} {r0} is at-u at-l first at-v at-r second = subst (λ e. IsTruth names e (x.Or l r)) (sym is) (either names u l v r (boxed truth_code u l at-u at-l first) (boxed truth_code v r at-v at-r second))

pub truth_same_object : {names : List Name} {code : TruthCode} {u : ObjectCode} {l : ObjectExpr} {v : ObjectCode} {r : ObjectExpr} → code ≡ o.SameObject u v → IsObject names u l → IsObject names v r → IsTruth names code (x.SameObject l r)
truth_same_object {names} {code} {u} {l} {v} {r} is first second = subst (λ e. IsTruth names e (x.SameObject l r)) (sym is) (same_object names u l v r first second)

pub truth_same_number : {names : List Name} {code : TruthCode} {u : NumberCode} {l : NumberExpr} {v : NumberCode} {r : NumberExpr} → code ≡ o.SameNumber u v → IsNumber names u l → IsNumber names v r → IsTruth names code (x.SameNumber l r)
truth_same_number {names} {code} {u} {l} {v} {r} is first second = subst (λ e. IsTruth names e (x.SameNumber l r)) (sym is) (same_number names u l v r first second)

pub truth_same_truth : {names : List Name} {code : TruthCode} {u : Box TruthCode Global} {l : Box TruthExpr Global} {v : Box TruthCode Global} {r : Box TruthExpr Global} {u0 : TruthCode} {l0 : TruthExpr} {v0 : TruthCode} {r0 : TruthExpr} → code ≡ o.SameTruth u v → u0 ≡ u.value → l.value ≡ l0 → IsTruth names u0 l0 → v0 ≡ v.value → r.value ≡ r0 → IsTruth names v0 r0 → IsTruth names code (x.SameTruth l r)
truth_same_truth {names} {code} {u} {l} {v} {r} {u0} {l0} {v0} {r0} is at-u at-l first at-v at-r second = subst (λ e. IsTruth names e (x.SameTruth l r)) (sym is) (same_truth names u l v r (boxed truth_code u l at-u at-l first) (boxed truth_code v r at-v at-r second))

pub truth_less : {names : List Name} {code : TruthCode} {u : NumberCode} {l : NumberExpr} {v : NumberCode} {r : NumberExpr} → code ≡ o.Less u v → IsNumber names u l → IsNumber names v r → IsTruth names code (x.Less l r)
truth_less {names} {code} {u} {l} {v} {r} is first second = subst (λ e. IsTruth names e (x.Less l r)) (sym is) (less names u l v r first second)

pub truth_less_equal : {names : List Name} {code : TruthCode} {u : NumberCode} {l : NumberExpr} {v : NumberCode} {r : NumberExpr} → code ≡ o.LessEq u v → IsNumber names u l → IsNumber names v r → IsTruth names code (x.LessEq l r)
truth_less_equal {names} {code} {u} {l} {v} {r} is first second = subst (λ e. IsTruth names e (x.LessEq l r)) (sym is) (less_equal names u l v r first second)

pub truth_greater : {names : List Name} {code : TruthCode} {u : NumberCode} {l : NumberExpr} {v : NumberCode} {r : NumberExpr} → code ≡ o.Greater u v → IsNumber names u l → IsNumber names v r → IsTruth names code (x.Greater l r)
truth_greater {names} {code} {u} {l} {v} {r} is first second = subst (λ e. IsTruth names e (x.Greater l r)) (sym is) (greater names u l v r first second)

pub truth_greater_equal : {names : List Name} {code : TruthCode} {u : NumberCode} {l : NumberExpr} {v : NumberCode} {r : NumberExpr} → code ≡ o.GreaterEq u v → IsNumber names u l → IsNumber names v r → IsTruth names code (x.GreaterEq l r)
truth_greater_equal {names} {code} {u} {l} {v} {r} is first second = subst (λ e. IsTruth names e (x.GreaterEq l r)) (sym is) (greater_equal names u l v r first second)

pub ruleset truth_steps = (grows_twice, stands_still, truth_literal, truth_name, truth_read, truth_not_of, truth_both, truth_either, truth_same_object, truth_same_number, truth_same_truth, truth_less, truth_less_equal, truth_greater, truth_greater_equal)
