-- A call from its values.
use Rattle.std.specs.Prelude.{◌≡◌, ℕ, List, Option}
use Rattle.jh_name.specs.declared.place.Place.{Place}
use Rattle.jh_form.specs.Meaning.{Datum}
use Rattle.jh_vars.specs.Written.{Callee}
use Rattle.jh_semantics.specs.Code as c
use Rattle.jh_semantics.specs.Values.{value}
use Rattle.jh_semantics.specs.Objects.{target_of}
use Rattle.jh_semantics.specs.Progress.{Configuration}
use Rattle.jh_semantics.specs.Execution.{receiver_of, called_on}
use Rattle.jh_machine.specs.continuation.Overflows.{AreValues}

-- A statement is a call that asks a method of an object with these arguments; its result goes to a target, whose object is known.
pub record Calls (s : c.Stmt) (r : Configuration) (target : c.Target) (m : Callee) (object on : ℕ) (ds : List Datum) : Type 0 where
  pub place : Place
  pub receiver : Option c.ObjectCode
  pub receiver_place : Place
  pub args : List c.AnyCode
  pub is : s ≡ c.call place target receiver receiver_place m args
  pub asked : ℕ
  pub goes : target_of target r.now ≡ value object
  pub asks : receiver_of receiver r.now ≡ value asked
  pub values : AreValues args r.now ds
  pub called : called_on receiver receiver_place asked ≡ value on
