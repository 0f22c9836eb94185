-- What defined variables stand for, while the table grows.
use Rattle.std.proofs.Common.{◌≡◌, refl, sym, ap, ◌∙◌, ℕ, ◌<◌, List, length, slice_get, Option, Some, None}
use Rattle.jh_form.specs.Tree.{ValueTree, of_object, null}
use Rattle.jh_arena.specs.table.Entries.{Listing}
use Rattle.jh_arena.specs.table.Growth.{Extends}
use Rattle.jh_arena.specs.table.Nodes.{nodes}
use Rattle.jh_symbols.specs.declared.member_numbers.numbers.Numbers.{Numbers}
use Rattle.jh_symbols.specs.member_numbers.Numbering.{number_in}
use Rattle.jh_resolution.specs.Meant.{tree_at, meaning_in, AreHeld}
use Rattle.jh_resolution.proofs.Coercions.{there, value-on, inside-grows}

-- what is held stays held
pub held-grows : (l m : Listing) (x : Numbers) → Extends l m → AreHeld (nodes l) x → AreHeld (nodes m) x
held-grows l m x g h = record { inside = λ c y n e. inside-grows l m n (h.inside c y n e) g }

tree-grows : (l m : Listing) (o : Option ℕ) → Extends l m → ((n : ℕ) → o ≡ Some n → n < length (nodes l)) → tree_at (nodes m) o ≡ tree_at (nodes l) o
unfolding tree_at
tree-grows l m None g h = refl
tree-grows l m (Some n) g h = value-on l m n (h n refl) g

-- and means the same
pub meaning-grows : (l m : Listing) (x : Numbers) → Extends l m → AreHeld (nodes l) x → meaning_in (nodes m) x ≡ meaning_in (nodes l) x
meaning-grows l m x g h = λ i c y. tree-grows l m (number_in x c y) g (h.inside c y) i

pub none-meant : (ts : List ValueTree) (x : Numbers) (c : ℕ) (y : List ℕ) → None ≡ number_in x c y → of_object null ≡ meaning_in ts x c y
unfolding tree_at
none-meant ts x c y e = ap (tree_at ts) e

pub some-meant : (ts : List ValueTree) (x : Numbers) (c : ℕ) (y : List ℕ) (n : ℕ) → AreHeld ts x → Some n ≡ number_in x c y → slice_get ts n ≡ Some (meaning_in ts x c y)
unfolding tree_at
some-meant ts x c y n h e = there ts n (h.inside c y n (sym e)) ∙ ap (λ o. Some (tree_at ts o)) e
