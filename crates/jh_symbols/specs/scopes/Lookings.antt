-- What tables say that names are declared as, and what they stand for at a place.
use Rattle.std.specs.Prelude.{ℕ, List, ◌==◌, Option, Some, None, is_some, slice_get, if◌then◌else◌}
use Rattle.std.specs.Option.{option_map_or}
use Rattle.indexmap.specs.IndexMap.{get_by_text}
use Rattle.jh_rules.specs.Names.{Declared, ◌then◌}
use Rattle.jh_rules.specs.Scopes.{Scope, no_sorts}
use Rattle.jh_symbols.specs.declared.scopes.looking.Lookups.{Lookups}
use Rattle.jh_symbols.specs.declared.scopes.looking.Members.{Members}
use Rattle.jh_symbols.specs.declared.scopes.looking.Member.{Member}
use Rattle.jh_symbols.specs.declared.scopes.looking.MemberEntry.{MemberEntry}
use Rattle.jh_symbols.specs.declared.scopes.looking.MemberEntry.TheVariants as entry
use Rattle.jh_rules.specs.declared.entries.FieldEntry.{FieldEntry}
use Rattle.jh_rules.specs.declared.entries.MethodEntry.{MethodEntry}
use Rattle.jh_rules.specs.declared.entries.StateEntry.{StateEntry}
use Rattle.jh_symbols.specs.declared.scopes.scope.ScopeTable.{ScopeTable}

abbrev pub flat : {T : Type 0} → Option (Option T) → Option T
flat None = None
flat (Some x) = x

-- what a member is as a field or static of code, as a method, and as a field, static or specification variable of formulas
abbrev pub field_entry : MemberEntry → Option FieldEntry
field_entry (entry.Field x s) = Some x
field_entry _ = None

abbrev pub field_in : Member → Option FieldEntry
field_in m = field_entry m.entry

abbrev pub method_entry : MemberEntry → Option MethodEntry
method_entry (entry.Method x) = Some x
method_entry _ = None

abbrev pub method_in : Member → Option MethodEntry
method_in m = method_entry m.entry

abbrev pub state_entry : MemberEntry → Option StateEntry
state_entry (entry.Field x s) = Some s
state_entry (entry.Variable s) = Some s
state_entry _ = None

abbrev pub state_in : Member → Option StateEntry
state_in m = state_entry m.entry

abbrev pub member_by : Lookups → ℕ → List ℕ → Option Member
member_by t c x = slice_get t.members.items c then λ (m : Members). get_by_text m.names x

-- the state of a name whose first class is its last
abbrev pub only_of : Option StateEntry → Option StateEntry → Option StateEntry
only_of None y = None
only_of (Some x) None = None
only_of (Some x) (Some y) = if x.class == y.class then Some x else None

-- what the tables of a program declare
abbrev pub declared_by : Lookups → Declared
declared_by t = record {
  class_named = λ x. get_by_text t.classes x;
  field_of = λ c x. member_by t c x then field_in;
  method_of = λ c x. member_by t c x then method_in;
  state_of = λ c x. member_by t c x then state_in;
  only_state = λ x. only_of (get_by_text t.first_states x) (get_by_text t.last_states x);
  is_invariant = λ x. is_some (get_by_text t.invariants x);
}

-- the scope that a table holds
abbrev pub scope_by : ScopeTable → Scope
scope_by t = record {
  class = t.class;
  fixed = t.fixed;
  local = λ x. flat (get_by_text t.locals x);
  earlier = λ x. option_map_or (λ s. s) (get_by_text t.earlier x) no_sorts;
  labels = λ x. is_some (get_by_text t.labels x);
}
