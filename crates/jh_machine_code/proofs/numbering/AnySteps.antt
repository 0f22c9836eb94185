-- What the arms of codes of any type cite.
use Rattle.std.proofs.Common.{◌≡◌, subst, sym, List}
use Rattle.jh_name.specs.declared.naming.Name.{Name}
use Rattle.jh_semantics.specs.Code as c
use Rattle.jh_semantics.specs.declared.typed_code.code.ObjectCode.{ObjectCode}
use Rattle.jh_semantics.specs.declared.typed_code.code.NumberCode.{NumberCode}
use Rattle.jh_semantics.specs.declared.typed_code.code.TruthCode.{TruthCode}
use Rattle.jh_semantics.specs.declared.typed_code.code.AnyCode.{AnyCode}
use Rattle.jh_semantics.specs.declared.typed_code.code.AnyCode.TheVariants as o
use Rattle.jh_semantics.specs.typed_code.Codes.{any_code}
use Rattle.jh_operands.specs.declared.exprs.ObjectExpr.{ObjectExpr}
use Rattle.jh_operands.specs.declared.exprs.NumberExpr.{NumberExpr}
use Rattle.jh_operands.specs.declared.exprs.TruthExpr.{TruthExpr}
use Rattle.jh_operands.specs.declared.exprs.AnyExpr.TheVariants as x
use Rattle.jh_operands.specs.Exprs.{any_in, AnyFits}
use Rattle.jh_machine_code.specs.numbering.Numbered.{IsObject, IsNumber, IsTruth, IsAny}
use Rattle.jh_machine_code.proofs.numbering.Standing.{grows_twice, stands_still}

module _ (names : List Name) where
  object : (u : ObjectCode) (l : ObjectExpr) → IsObject names u l → IsAny names (o.Object u) (x.Object l)
  unfolding any_in any_code AnyFits
  object u l first = record { same = λ later more. λ i. c.an_object (first.same later more i); fits = λ later more. first.fits later more }

  number : (u : NumberCode) (l : NumberExpr) → IsNumber names u l → IsAny names (o.Number u) (x.Number l)
  unfolding any_in any_code AnyFits
  number u l first = record { same = λ later more. λ i. c.a_number (first.same later more i); fits = λ later more. first.fits later more }

  truth : (u : TruthCode) (l : TruthExpr) → IsTruth names u l → IsAny names (o.Truth u) (x.Truth l)
  unfolding any_in any_code AnyFits
  truth u l first = record { same = λ later more. λ i. c.a_truth (first.same later more i); fits = λ later more. first.fits later more }

pub any_object : {names : List Name} {code : AnyCode} {u : ObjectCode} {l : ObjectExpr} → code ≡ o.Object u → IsObject names u l → IsAny names code (x.Object l)
any_object {names} {code} {u} {l} is first = subst (λ e. IsAny names e (x.Object l)) (sym is) (object names u l first)

pub any_number : {names : List Name} {code : AnyCode} {u : NumberCode} {l : NumberExpr} → code ≡ o.Number u → IsNumber names u l → IsAny names code (x.Number l)
any_number {names} {code} {u} {l} is first = subst (λ e. IsAny names e (x.Number l)) (sym is) (number names u l first)

pub any_truth : {names : List Name} {code : AnyCode} {u : TruthCode} {l : TruthExpr} → code ≡ o.Truth u → IsTruth names u l → IsAny names code (x.Truth l)
any_truth {names} {code} {u} {l} is first = subst (λ e. IsAny names e (x.Truth l)) (sym is) (truth names u l first)

pub ruleset any_steps = (grows_twice, stands_still, any_object, any_number, any_truth)
