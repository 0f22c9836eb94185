-- The commands of a ghost assignment, by its left side, and left sides as the code holds them.
use Rattle.std.specs.Prelude.{◌≡◌, Bool, true, List, [], ◌∷◌, slice_get}
use Rattle.jh_name.specs.declared.place.Place.{Place}
use Rattle.jh_name.specs.declared.place.Kind.{Kind}
use Rattle.jh_form.specs.declared.mark.MarkKind.TheVariants as kind
use Rattle.jh_form.specs.Tree.{TermTree, FieldTree, ValueTree}
use Rattle.jh_form.specs.Tree as t
use Rattle.jh_arena.specs.table.Entries.{Listing, is_object, the_object}
use Rattle.jh_arena.specs.table.Nodes.{nodes}
use Rattle.jh_wp.specs.Command.{CommandTree}
use Rattle.jh_wp.specs.Command as w
use Rattle.jh_semantics.specs.State.{named}
use Rattle.jh_semantics.specs.LoweredStmts.{GhostTarget, a_name, a_read, no_target, of_kind, class_before_dot}
use Rattle.jh_guard.specs.Steps.{mark_without_name, put_field}
use Rattle.jh_command_statements.specs.declared.simple_statements.ghosts.Left.{Left}
use Rattle.jh_command_statements.specs.declared.simple_statements.ghosts.Left.TheVariants as l

-- A name gets the value. A field takes it at an object, which has to be one of the class of the field.
abbrev pub ghost_commands : Place → GhostTarget → ValueTree → List CommandTree
ghost_commands q (a_name kind x) v = w.assign (named x.text) (of_kind kind v) ∷ []
ghost_commands q (a_read k x a) v = w.assert (t.mark (mark_without_name kind.Assert q) (t.member a (t.free_set (named (class_before_dot x.text))))) ∷ put_field x.text a (of_kind k v) ∷ []
ghost_commands q no_target v = []

-- a read of a field that is a name
abbrev pub read_target : Kind → FieldTree → TermTree → GhostTarget
read_target k (t.free_field x) a = a_read k x a
read_target k _ a = no_target

-- the left side that the code holds
abbrev pub left_in : Listing → Left → GhostTarget
left_in t (l.Name k x) = a_name k x
left_in t (l.Read k x n) = a_read k x (the_object (slice_get (nodes t) n))
left_in t l.Nothing = no_target

-- the object of its field stands in the table
abbrev pub object_stands : Listing → Left → Bool
object_stands t (l.Read k x n) = is_object (slice_get (nodes t) n)
object_stands t _ = true
