-- Frame facts: that a piece of state is what its copy at a turn is.
use Rattle.std.specs.Prelude.{ℕ, ◌&&◌, not, if◌then◌else◌, List, map, filter}
use Rattle.jh_name.specs.declared.naming.Name.{Name}
use Rattle.jh_name.specs.declared.place.Kind.{Kind}
use Rattle.jh_name.specs.declared.place.Kind.TheVariants as k
use Rattle.jh_form.specs.Tree.{FormulaTree, SetTree}
use Rattle.jh_form.specs.Tree as t
use Rattle.jh_semantics.specs.jh_vars.Written.{Callee}
use Rattle.jh_semantics.specs.Program.{Program, Member}
use Rattle.jh_semantics.specs.State.{named}
use Rattle.jh_semantics.specs.WellFormed.{each_in}
use Rattle.jh_guard.specs.Steps.{fresh}
use Rattle.jh_guard.specs.Writes.{Writes}

-- two names have one value of a kind
abbrev pub same_static : Kind → Name → Name → FormulaTree
same_static k.Obj x y = t.eq_object (t.free_object x) (t.free_object y)
same_static k.Int x y = t.eq_number (t.free_number x) (t.free_number y)
same_static k.Bool x y = t.iff (t.free_truth x) (t.free_truth y)
same_static k.Set x y = t.eq_set (t.free_set x) (t.free_set y)

-- two fields have one value of a kind at the object of the innermost binder
abbrev pub same_read : Kind → Name → Name → FormulaTree
same_read k.Obj f g = t.eq_object (t.read_object (t.free_field f) (t.bound 0)) (t.read_object (t.free_field g) (t.bound 0))
same_read k.Int f g = t.eq_number (t.read_number (t.free_field f) (t.bound 0)) (t.read_number (t.free_field g) (t.bound 0))
same_read k.Bool f g = t.iff (t.read_truth (t.free_field f) (t.bound 0)) (t.read_truth (t.free_field g) (t.bound 0))
same_read k.Set f g = t.eq_set (t.read_set (t.free_field f) (t.bound 0)) (t.read_set (t.free_field g) (t.bound 0))

-- A static is its copy, and a field is its copy at each object that there was.
abbrev pub frame_fact : SetTree → ℕ → Member → FormulaTree
frame_fact old_alloc k x = if x.is_static then same_static x.kind (named x.text) (fresh x.text k) else each_in old_alloc (same_read x.kind (named x.text) (fresh x.text k))

-- the members that a method may write and that its `modifies` doesn't name
abbrev pub framed : Program → Writes → Callee → List Member
framed p w m = filter (λ (x : Member). w.written m x.text && not (w.modified m x.text)) p.members

-- their frame facts
abbrev pub frame_facts : Program → Writes → Callee → SetTree → ℕ → List FormulaTree
frame_facts p w m old_alloc k = map (frame_fact old_alloc k) (framed p w m)
