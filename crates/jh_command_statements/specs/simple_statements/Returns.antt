-- The commands of a return, with a value or without.
use Rattle.std.specs.Prelude.{List, [], ◌∷◌, ◌++◌, Option, Some, None}
use Rattle.jh_wp.specs.Command.{CommandTree}
use Rattle.jh_wp.specs.Command as w
use Rattle.jh_semantics.specs.Code.{AnyCode}
use Rattle.jh_semantics.specs.State.{result_name}
use Rattle.jh_guard.specs.Terms.{value_checks, value_term}
use Rattle.jh_guard.specs.Steps.{assert_checks}

abbrev pub return_commands : Option AnyCode → List CommandTree
return_commands None = w.leave ∷ []
return_commands (Some e) = assert_checks (value_checks e) ++ w.assign result_name (value_term e) ∷ w.leave ∷ []
