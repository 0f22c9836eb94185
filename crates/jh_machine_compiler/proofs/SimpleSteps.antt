-- What simple statements cite.
use Rattle.std.proofs.Common.{◌≡◌, refl, sym, ap, subst, ℕ, Bool, List, Option, Some, None, option_map}
use Rattle.jh_name.specs.declared.naming.Name.{Name}
use Rattle.jh_name.specs.declared.place.Place.{Place}
use Rattle.jh_ast.specs.Programs.{ProgramTree}
use Rattle.jh_arena.specs.table.Entries.{Listing}
use Rattle.jh_vars.specs.Written.{Callee}
use Rattle.jh_semantics.specs.Code as c
use Rattle.jh_semantics.specs.declared.typed_code.code.AnyCode.{AnyCode}
use Rattle.jh_semantics.specs.declared.typed_code.stmts.Target.{Target}
use Rattle.jh_semantics.specs.typed_code.Codes.{any_code}
use Rattle.jh_semantics.specs.typed_code.Statements.{target_in, return_in}
use Rattle.jh_operands.specs.declared.exprs.AnyExpr.{AnyExpr}
use Rattle.jh_machine_code.specs.declared.code.destination.Destination.{Destination}
use Rattle.jh_machine_code.specs.declared.code.step.Step.TheVariants as x
use Rattle.jh_machine_code.specs.code.Steps.{IsStep, ReturnIs}
use Rattle.jh_machine_code.specs.numbering.Numbered.{IsText, IsAny}
use Rattle.jh_machine_code.proofs.numbering.Standing.{grows_twice, stands_still}
use Rattle.jh_machine_compiler.specs.Lasting.{IsDestination, Makes}
use Rattle.jh_machine_compiler.proofs.Growing.{destination_still}

pub assign_made : {numbered : Callee → Option ℕ} {keeps : Bool} {names : List Name} {t : Listing} {target : Target} {d : Destination} {e : AnyExpr} → (code : AnyCode) → IsDestination names target d → IsAny names code e → Makes numbered keeps names t (c.assign (target_in target) (any_code code)) (x.Assign d e)
unfolding IsStep
assign_made {target = target} code goes value = record { is = λ later u more much. (target_in target, goes.is later more, value.fits later more, ap (c.assign (target_in target)) (sym (value.same later more))) }

pub new_made : {numbered : Callee → Option ℕ} {keeps : Bool} {names : List Name} {t : Listing} {q : Place} {target : Target} {d : Destination} {k : ℕ} → (y : Name) → IsDestination names target d → IsText names y.text k → Makes numbered keeps names t (c.new_object q (target_in target) y.text) (x.New q d k)
unfolding IsStep
new_made {q = q} {target = target} y goes number = record { is = λ later u more much. (target_in target, goes.is later more, number.fits later more, ap (c.new_object q (target_in target)) (sym (number.same later more))) }

module _ (p : ProgramTree) (numbered : Callee → Option ℕ) (keeps : Bool) (names : List Name) (t : Listing) where
  nothing : Makes numbered keeps names t (return_in p (option_map any_code None)) (x.Return None)
  unfolding IsStep ReturnIs
  nothing = record { is = λ later u more much. refl }

  something : (code : AnyCode) (e : AnyExpr) → IsAny names code e → Makes numbered keeps names t (return_in p (option_map any_code (Some code))) (x.Return (Some e))
  unfolding IsStep ReturnIs
  something code e value = record { is = λ later u more much. (value.fits later more, ap c.return_value (sym (value.same later more))) }

pub return_none : {numbered : Callee → Option ℕ} {keeps : Bool} {names : List Name} {t : Listing} {value : Option AnyCode} → (p : ProgramTree) → value ≡ None → Makes numbered keeps names t (return_in p (option_map any_code value)) (x.Return None)
return_none {numbered} {keeps} {names} {t} p is = subst (λ e. Makes numbered keeps names t (return_in p (option_map any_code e)) (x.Return None)) (sym is) (nothing p numbered keeps names t)

pub return_some : {numbered : Callee → Option ℕ} {keeps : Bool} {names : List Name} {t : Listing} {value : Option AnyCode} {code : AnyCode} {e : AnyExpr} → (p : ProgramTree) → value ≡ Some code → IsAny names code e → Makes numbered keeps names t (return_in p (option_map any_code value)) (x.Return (Some e))
return_some {numbered} {keeps} {names} {t} {value} {code} {e} p is made = subst (λ o. Makes numbered keeps names t (return_in p (option_map any_code o)) (x.Return (Some e))) (sym is) (something p numbered keeps names t code e made)

pub ruleset simple_steps = (grows_twice, stands_still, destination_still, assign_made, new_made, return_none, return_some)
