-- Where values go, over numbers of names.
use Rattle.std.specs.Prelude.{◌≡◌, ℕ, List}
use Rattle.jh_name.specs.declared.naming.Name.{Name}
use Rattle.jh_semantics.specs.Code as c
use Rattle.jh_operands.specs.Exprs.{object_in, text_at, IsPlain, ObjectFits}
use Rattle.jh_machine_code.specs.declared.code.destination.Destination.{Destination}
use Rattle.jh_machine_code.specs.declared.code.destination.Destination.TheVariants as x

-- a target, where a local that is declared there is as any other name
unfoldable pub undeclared : c.Target → c.Target
undeclared c.nowhere = c.nowhere
undeclared (c.to_new l) = c.to_name l.text
undeclared (c.to_name x) = c.to_name x
undeclared (c.to_field f r q) = c.to_field f r q

module _ (names : List Name) where
  -- the target that a destination is
  unfoldable pub target_in : Destination → c.Target
  target_in x.Nowhere = c.nowhere
  target_in (x.Name k) = c.to_name (text_at names k)
  target_in (x.Field k r q) = c.to_field (text_at names k) (object_in names r) q

  -- all numbers in a destination are those of names
  unfoldable pub DestinationFits : Destination → Type 0
  DestinationFits x.Nowhere = Unit {0}
  DestinationFits (x.Name k) = IsPlain names k
  DestinationFits (x.Field k r q) = IsPlain names k × ObjectFits names r

  -- a destination is a target
  pub record IsTarget (d : Destination) (t : c.Target) : Type 0 where
    pub same : undeclared t ≡ target_in d
    pub fits : DestinationFits d
