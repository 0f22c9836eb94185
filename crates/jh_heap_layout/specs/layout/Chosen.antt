-- The statics of a program, or its fields.
use Rattle.std.specs.Prelude.{Bool, not, if◌then◌else◌}
use Rattle.jh_semantics.specs.Program.{Member}

abbrev pub is_chosen : Bool → Member → Bool
is_chosen statics x = if statics then x.is_static else not x.is_static
