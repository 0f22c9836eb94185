-- The value that a statement returns.
use Rattle.std.proofs.Common.{◌≡◌, sym, ap, subst, ◌∙◌, ℕ, Bool, List, Option, Some, None}
use Rattle.jh_name.specs.declared.naming.Name.{Name}
use Rattle.jh_form.specs.Meaning.{Datum}
use Rattle.jh_arena.specs.table.Entries.{Listing}
use Rattle.jh_vars.specs.Written.{Callee}
use Rattle.jh_semantics.specs.Code.{Stmt}
use Rattle.jh_semantics.specs.Code as c
use Rattle.jh_semantics.specs.Program.{Program}
use Rattle.jh_semantics.specs.State.{State}
use Rattle.jh_semantics.specs.Values.{Value, value, value_of}
use Rattle.jh_semantics.specs.Progress.{Configuration, returns, with_value}
use Rattle.jh_operands.specs.declared.exprs.AnyExpr.{AnyExpr}
use Rattle.jh_operands.specs.declared.fault.Fault.{Fault}
use Rattle.jh_operands.specs.declared.values.Scalar.{Scalar}
use Rattle.jh_operands.specs.Exprs.{any_in, AnyFits}
use Rattle.jh_operands.specs.Faults.{AnyFault, AnyOverflows}
use Rattle.jh_operands.specs.Scalars.{datum_of}
use Rattle.jh_machine_code.specs.code.Steps.{ReturnIs}
use Rattle.jh_machine.specs.continuation.Stops.{stop_of, StopsAs}
use Rattle.jh_machine.specs.continuation.Overflows.{OwnOverflows}
use Rattle.jh_machine.specs.continuation.Done.{done}
use Rattle.jh_machine.proofs.writes.TargetSteps.{fault_stops}

module _ (p : Program) (a : Stmt) (r : Configuration) (names : List Name) (t : Listing) (numbered : Callee → Option ℕ) (keeps : Bool) (o : Option AnyExpr) (is : ReturnIs names t numbered keeps o a) where
  -- with no value
  pub returns_nothing : o ≡ None → done p a r ≡ returns r None
  unfolding ReturnIs done
  returns_nothing e = ap (λ (z : Stmt). done p z r) (subst (λ (z : Option AnyExpr). ReturnIs names t numbered keeps z a) e is)

  module _ (e : AnyExpr) (some : o ≡ Some e) where
    pub return_value : AnyFits names e × (a ≡ c.return_value (any_in names e))
    unfolding ReturnIs
    return_value = subst (λ (z : Option AnyExpr). ReturnIs names t numbered keeps z a) some is

    -- with a value
    pub returns_value : (v : Scalar) → value_of (any_in names e) r.now ≡ value (datum_of v) → done p a r ≡ returns r (Some (datum_of v))
    unfolding done
    returns_value v h = ap (λ (z : Stmt). done p z r) return_value.1 ∙ ap (λ (w : Value Datum). with_value w (λ d. returns r (Some d))) h

    -- with one that there isn't
    pub return_stops : (why : Fault) → AnyFault (any_in names e) r.now why → StopsAs (done p a r) (λ q. OwnOverflows q a r) (stop_of why)
    unfolding done OwnOverflows
    return_stops why h =
        subst (λ (z : Stmt). StopsAs (done p z r) (λ q. OwnOverflows q z r) (stop_of why)) (sym return_value.1)
        (fault_stops (value_of (any_in names e) r.now) (λ d. returns r (Some d)) (λ q. AnyOverflows q (any_in names e) r.now) (λ q. AnyOverflows q (any_in names e) r.now) why h (λ q f. f))

    module _ (s : State) (now : r.now ≡ s) where
      pub value_of_return : (v : Scalar) → (AnyFits names e → value_of (any_in names e) s ≡ value (datum_of v)) → done p a r ≡ returns r (Some (datum_of v))
      value_of_return v h = returns_value v (ap (value_of (any_in names e)) now ∙ h return_value.0)

      pub fault_of_return : (why : Fault) → (AnyFits names e → AnyFault (any_in names e) s why) → StopsAs (done p a r) (λ q. OwnOverflows q a r) (stop_of why)
      fault_of_return why h = return_stops why (subst (λ (z : State). AnyFault (any_in names e) z why) (sym now) (h return_value.0))
