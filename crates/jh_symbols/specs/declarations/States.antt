-- The states of a name in one class after another.
use Rattle.std.specs.Prelude.{ℕ, ◌≡◌, Bool, true, false, List, [], ◌∷◌, ◌++◌, map, Option, Some, None, if◌then◌else◌}
use Rattle.std.specs.List.{list_any}
use Rattle.indexmap.specs.IndexMap.{get_by_text}
use Rattle.jh_ast.specs.declared.program.Class.{Class}
use Rattle.jh_ast.specs.declared.program.Field.{Field}
use Rattle.jh_ast.specs.declared.program.SpecVar.{SpecVar}
use Rattle.jh_rules.specs.declared.entries.StateEntry.{StateEntry}
use Rattle.jh_rules.specs.Words.{same_text, text_of}
use Rattle.jh_rules.specs.Names.{◌then◌}
use Rattle.jh_symbols.specs.declared.scopes.looking.Members.{Members}
use Rattle.jh_symbols.specs.scopes.Lookings.{state_in}

-- a class's state stands before those of the classes behind it, where it is there
abbrev pub upper : Option StateEntry → Option StateEntry → Option StateEntry
upper None o = o
upper (Some s) o = Some s

-- a class's state is the last where the classes behind it have none
abbrev pub lower : Option StateEntry → Option StateEntry → Option StateEntry
lower None o = o
lower (Some s) None = Some s
lower (Some s) (Some t) = Some t

abbrev pub first_of : List StateEntry → Option StateEntry
first_of [] = None
first_of (s ∷ ss) = Some s

unfoldable pub last_of : List StateEntry → Option StateEntry
last_of [] = None
last_of (s ∷ ss) = lower (Some s) (last_of ss)

-- the state of a name in a class
abbrev pub state_at : Members → List ℕ → Option StateEntry
state_at t x = get_by_text t.names x then state_in

-- whether one of some names is the same
abbrev pub named : List (List ℕ) → List ℕ → Bool
named ws x = list_any (λ w. same_text w x) ws

-- at some names what is new stands over what was there
abbrev pub Over : (Option StateEntry → Option StateEntry → Option StateEntry) → (List ℕ → Option StateEntry) → (List ℕ → Option StateEntry) → (List ℕ → Option StateEntry) → List (List ℕ) → Type 0
Over over state old new ws = (x : List ℕ) → new x ≡ (if named ws x then over (state x) (old x) else old x)

abbrev pub field_text : Field → List ℕ
field_text f = text_of f.name

abbrev pub var_text : SpecVar → List ℕ
var_text v = text_of v.name

-- the names of the fields, statics and specification variables of a class
abbrev pub state_texts : Class → List (List ℕ)
state_texts c = map field_text c.fields ++ map var_text c.vars

abbrev pub is_absent : Option StateEntry → Bool
is_absent None = true
is_absent (Some s) = false
