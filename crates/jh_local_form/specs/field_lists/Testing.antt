-- Lists of fields as the nodes of their members say them.
use Rattle.std.specs.Prelude.{ℕ, Bool, true, false, not, ◌&&◌, List, [], ◌∷◌, nat_eq, slice_get}
use Rattle.std.specs.List.{list_any}
use Rattle.jh_form.specs.Tree.{FieldTree, ValueTree}
use Rattle.jh_form.specs.Tree as t
use Rattle.jh_arena.specs.table.Entries.{the_field}

-- a field that is a name
unfoldable pub is_free_field : FieldTree → Bool
is_free_field (t.free_field x) = true
is_free_field (t.update f a v) = false

-- each of these nodes is a name, and none is another
abbrev pub all_apart : List ValueTree → List ℕ → Bool
all_apart ts [] = true
all_apart ts (n ∷ ns) = (is_free_field (the_field (slice_get ts n)) && not (list_any (nat_eq n) ns)) && all_apart ts ns
