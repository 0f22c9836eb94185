-- The keys of pieces of state.
use Rattle.std.specs.Prelude.{true, false, ◌++◌, Some, None, codes}
use Rattle.jh_ast.specs.Programs.{ProgramTree}
use Rattle.jh_vars.specs.declared.state_names.state.StateName.{StateName}
use Rattle.jh_vars.specs.Resolved.{own}
use Rattle.jh_vars.specs.States.{class_text}
use Rattle.jh_vars.specs.Written.{Written}
use Rattle.jh_vars.specs.Written as w
use Rattle.jh_effects.specs.declared.written_state.flow.Key.{Key}

-- The key of a piece of state: its class, where there is one, whether it is a member, and its name.
abbrev pub key_of : ProgramTree → Written → Key
key_of p w.allocated = record { class = None; is_member = false; name = own (codes "alloc") 0 }
key_of p (w.objects n) = record { class = Some n; is_member = false; name = own (class_text p n) 0 }
key_of p w.plain_objects = record { class = None; is_member = false; name = own (codes "Object") 0 }
key_of p (w.state n x) = record { class = Some n; is_member = true; name = own (class_text p n ++ codes "." ++ x) 0 }

-- the key of what stands in the list of the state names
abbrev pub key_of_state : StateName → Key
key_of_state s = record { class = s.class; is_member = s.is_member; name = s.name }
