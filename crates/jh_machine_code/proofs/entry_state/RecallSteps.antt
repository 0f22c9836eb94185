-- What the question whether steps recall cites.
use Rattle.std.proofs.Common.{◌≡◌, refl, sym, ap, subst, ◌∙◌, ◌+◌, ◌<◌, ℕ, List, ◌∷◌, drop, Option, Some, slice_get, get_or, length}
use Rattle.std.proofs.lemmas.List.{drop_more}
use Rattle.std.proofs.lemmas.Option.{slice_get-get_or}
use Rattle.jh_form.specs.Tree.{ValueTree, of_object}
use Rattle.jh_form.specs.Tree as t
use Rattle.jh_form.specs.Passing.{value_passes}
use Rattle.jh_arena.specs.table.Entries.{Listing, the_value}
use Rattle.jh_arena.specs.table.Nodes.{nodes}
use Rattle.jh_machine_code.specs.entry_state.Now.{is_now, says_now, reads_now}

-- a node that stands in the table reads now exactly where its value passes
pub reads_there : (table : Listing) (n : ℕ) → n < length (nodes table) → reads_now table n ≡ value_passes (the_value (slice_get (nodes table) n)) is_now
unfolding the_value
reads_there table n lt = subst (λ (o : Option ValueTree). says_now o ≡ value_passes (the_value o) is_now) (sym (slice_get-get_or (nodes table) n (of_object t.null) lt)) refl

-- lists, an item at a time
pub left-at : {X : Type 0} (xs : List X) (i : ℕ) (x : X) → i < length xs → x ≡ get_or xs i x → drop i xs ≡ x ∷ drop (i + 1) xs
left-at xs i x lt is = drop_more xs i x lt ∙ ap (λ z. z ∷ drop (i + 1) xs) (sym is)

pub ruleset recall_steps = (reads_there)
