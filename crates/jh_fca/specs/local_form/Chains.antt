-- The lists of fields along which formulas reach, and the lists that they lead to: where a name of a list stands for an
-- update, the ways along the list come from those along the list before that update.
use Rattle.std.specs.Prelude.{ℕ, zero, suc, nat_lt, nat_le, Bool, true, false, not, ◌&&◌, if◌then◌else◌, List, [], ◌∷◌, ◌++◌, length, filter, slice_set, Option, None, Some}
use Rattle.std.specs.List.{list_any, flat_map}
use Rattle.jh_name.specs.declared.naming.Name.{Name}
use Rattle.jh_form.specs.Tree.{TermTree, FieldTree, FieldTrees, ValueTree, FormulaTree}
use Rattle.jh_form.specs.Tree as t
use Rattle.jh_form.specs.Passing.{name_equal}
use Rattle.jh_substitution.specs.rewriting.Rewritten.{rewritten_term, rewritten_field}
use Rattle.jh_approx.specs.jh_reach.Axioms.{BaseTree, BackboneTree, axioms_of}
use Rattle.jh_fca.specs.local_form.Named.{all_parts, name_of, naming}

-- ---- lists of names

-- whether a field is this name
unfoldable pub is_name : Name → FieldTree → Bool
is_name x (t.free_field y) = name_equal y x
is_name x (t.update f a v) = false

-- whether two fields are one name
unfoldable pub are_one_name : FieldTree → FieldTree → Bool
are_one_name (t.free_field x) f = is_name x f
are_one_name (t.update f a v) g = false

-- each field is a name, and none is another's
unfoldable pub are_different_names : List FieldTree → Bool
are_different_names [] = true
are_different_names (t.free_field x ∷ fs) = not (list_any (is_name x) fs) && are_different_names fs
are_different_names (t.update f a v ∷ fs) = false

-- axioms are given for lists of one to four different names
unfoldable pub has_axioms : List FieldTree → Bool
has_axioms fs = nat_le 1 (length fs) && nat_le (length fs) 4 && are_different_names fs

-- the place of a name in a list; how many there are, where it isn't there
unfoldable pub place_of : Name → List FieldTree → ℕ
place_of x [] = zero
place_of x (f ∷ fs) = if is_name x f then zero else suc (place_of x fs)

unfoldable pub same_list : List FieldTree → List FieldTree → Bool
same_list [] [] = true
same_list (f ∷ fs) (g ∷ gs) = are_one_name f g && same_list fs gs
same_list fs gs = false

-- ---- names that stand for updates

-- A name that stands for the update of a field at an object with an object.
pub record ChangeTree : Type 0 where
  pub name : Name
  pub field : FieldTree
  pub at : TermTree
  pub value : TermTree

-- an update of the list whose value is an object; inner updates have their names
unfoldable pub change : List ValueTree → ℕ → ValueTree → List ChangeTree
change us k (t.of_field (t.update f a (t.of_object v))) = record {
  name = name_of us k (t.of_field (t.update f a (t.of_object v)));
  field = rewritten_field f (naming us k) 0;
  at = rewritten_term a (naming us k) 0;
  value = rewritten_term v (naming us k) 0;
} ∷ []
change us k v = []

-- those of some updates of the list, the last first: its name has the greatest turn
abbrev pub changes_of : List ValueTree → ℕ → List ValueTree → List ChangeTree
changes_of us k [] = []
changes_of us k (v ∷ vs) = changes_of us k vs ++ change us k v

abbrev pub changes : List ValueTree → ℕ → List ChangeTree
changes us k = changes_of us k us

-- ---- where a list leads to

abbrev pub backbone : List FieldTree → Option BaseTree → BackboneTree
backbone fs base = record { fields = fs; base = base }

abbrev pub base_at : ChangeTree → ℕ → BaseTree
base_at c place = record { place = place; field = c.field; at = c.at; value = c.value }

-- A list and those that it leads to: of its names that stand for updates, the one with the greatest turn is exchanged for
-- the field of that update, and so on. For example, where `g` stands for `f[a := v]`, the list `[g]` has that base, and leads to `[f]`.
unfoldable pub led_from : List FieldTree → List ChangeTree → List BackboneTree
led_from fs [] = if has_axioms fs then backbone fs None ∷ [] else []
led_from fs (c ∷ cs) =
    if nat_lt (place_of c.name fs) (length fs)
    then (if has_axioms fs then backbone fs (Some (base_at c (place_of c.name fs))) ∷ led_from (slice_set fs (place_of c.name fs) c.field) cs else [])
    else led_from fs cs

-- each list once, where it stands first
unfoldable pub lists_once : List BackboneTree → List BackboneTree
lists_once [] = []
lists_once (b ∷ bs) = b ∷ filter (λ c. not (same_list b.fields c.fields)) (lists_once bs)

unfoldable pub fields_of : FieldTrees → List FieldTree
fields_of t.none = []
fields_of (t.more f fs) = f ∷ fields_of fs

-- the list of a `reach` or a `tree`
unfoldable pub list_of : ValueTree → List (List FieldTree)
list_of (t.of_truth (t.reach fs a b)) = fields_of fs ∷ []
list_of (t.of_truth (t.tree fs)) = fields_of fs ∷ []
list_of v = []

-- all lists of some formulas, in the order in which they stand
abbrev pub lists_in : List FormulaTree → List (List FieldTree)
lists_in facts = flat_map list_of (all_parts facts)

abbrev pub backbones : List FormulaTree → List ChangeTree → List BackboneTree
backbones facts cs = lists_once (flat_map (λ fs. led_from fs cs) (lists_in facts))

-- the axioms of reachability of all of them
abbrev pub reach_axioms : List FormulaTree → List ChangeTree → List FormulaTree
reach_axioms facts cs = flat_map axioms_of (backbones facts cs)
