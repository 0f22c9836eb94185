-- A program as runs see it.
use Rattle.std.specs.Prelude.{ℕ, Bool, List, [], Option, slice_get}
use Rattle.std.specs.Option.{option_map_or}
use Rattle.jh_name.specs.declared.place.Kind.{Kind}
use Rattle.jh_name.specs.declared.place.Place.{Place}
use Rattle.jh_rules.specs.declared.types.Ty.{Ty}
use Rattle.jh_vars.specs.Written.{Callee}
use Rattle.jh_semantics.specs.Code.{Text, Local, Claim, Stmts}

-- A static, or a field of each object of its class. Those of code have a type, ghost variables have a kind alone.
pub record Member : Type 0 where
  pub text : Text
  pub class : Text
  pub kind : Kind
  pub is_static : Bool
  pub type : Option Ty

-- A method, with the place of its name and the number of the class of `this`, which a static one lacks. Its result is of type
-- void where it has none.
pub record Method : Type 0 where
  pub place : Place
  pub is_public : Bool
  pub this : Option ℕ
  pub params : List Local
  pub result : Ty
  pub requires : Option Claim
  pub ensures : Option Claim
  pub body : Stmts

-- The classes by their numbers; the statics, fields and ghost variables in the order of the state; the methods; the invariants
-- of the file.
pub record Program : Type 0 where
  pub classes : List Text
  pub members : List Member
  pub method : Callee → Option Method
  pub invariants : List Claim

-- the text of the class of a number
abbrev pub class_at : List Text → ℕ → Text
class_at classes n = option_map_or (λ x. x) (slice_get classes n) []
