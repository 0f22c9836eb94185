-- Where runs stand and where they lead.
use Rattle.std.specs.Prelude.{ℕ, zero, suc, Bool, true, false, List, Option, None}
use Rattle.jh_name.specs.declared.place.Place.{Place}
use Rattle.jh_form.specs.Meaning.{Datum}
use Rattle.jh_semantics.specs.State.{State}
use Rattle.jh_semantics.specs.Values.{Value, value, null_at}

-- where a run stands: the state, the state at the method's entry, the objects that `new` is to take, and the steps that are left
pub record Configuration : Type 0 where
  pub now : State
  pub entry : State
  pub picks : List ℕ
  pub steps : ℕ

-- why a run stops before its end
pub data Stop : Type 0 where
  null_dereferenced : Place → Stop
  assert_failed : Place → Stop
  no_object : Place → Stop
  steps_out : Stop

-- where statements lead: on, to the method's return with or without a result, or to a stop
pub data Progress : Type 0 where
  goes_on : Configuration → Progress
  returns : Configuration → Option Datum → Progress
  stops : Stop → Progress

-- how the run of a method ends
pub data Outcome : Type 0 where
  returned : State → Option Datum → Outcome
  stopped : Stop → Outcome

-- the end of a body without `return` returns too
abbrev pub outcome_of : Progress → Outcome
outcome_of (goes_on r) = returned r.now None
outcome_of (returns r v) = returned r.now v
outcome_of (stops why) = stopped why

abbrev pub then_run : Progress → (Configuration → Progress) → Progress
then_run (goes_on r) next = next r
then_run (returns r v) next = returns r v
then_run (stops why) next = stops why

-- to pay is to go on with a step less, or to stop where none is left
abbrev pub pay_from : ℕ → Configuration → (Configuration → Progress) → Progress
pay_from zero r next = stops steps_out
pay_from (suc k) r next = next (record r { steps = k })

abbrev pub pay : Configuration → (Configuration → Progress) → Progress
pay r next = pay_from r.steps r next

-- what comes of a value, unless it is Null
abbrev pub with_value : {X : Type 0} → Value X → (X → Progress) → Progress
with_value (value x) next = next x
with_value (null_at p) next = stops (null_dereferenced p)

-- one of two ways on
abbrev pub choose : Bool → (Configuration → Progress) → (Configuration → Progress) → Configuration → Progress
choose true a b r = a r
choose false a b r = b r

abbrev pub goes_on_in : Configuration → State → Progress
goes_on_in r s = goes_on (record r { now = s })
