-- Updates get names. Each update without loose bound variables is a field by itself, and gets a fresh name that stands for
-- it everywhere; what it gives at each object is said by a hypothesis.
use Rattle.std.specs.Prelude.{ℕ, suc, ◌+◌, max, nat_lt, Bool, false, if◌then◌else◌, List, [], ◌∷◌, length, filter, Option, None, Some}
use Rattle.std.specs.List.{flat_map}
use Rattle.jh_name.specs.declared.naming.Name.{Name}
use Rattle.jh_form.specs.Tree.{FieldTree, ValueTree, FormulaTree}
use Rattle.jh_form.specs.Tree as t
use Rattle.jh_form.specs.Closed.{is_closed_field}
use Rattle.jh_boxed.specs.Mapped.{unchanged}
use Rattle.jh_normal_forms.specs.declared.parts.order.Order.TheVariants as order
use Rattle.jh_normal_forms.specs.parts.Standing.{formula_parts}
use Rattle.jh_substitution.specs.rewriting.Rewritten.{Rewriting, rewritten_term, rewritten_field, rewritten_value, rewritten_formula}
use Rattle.jh_approx.specs.jh_derivation_rules.Rules.{described}
use Rattle.jh_approx.specs.definition.Names.{without_repeats, place_in}

-- ---- the turns of names

-- one more than the turn of a free name; 0 for what is none
unfoldable pub turn_after : ValueTree → ℕ
turn_after (t.of_object (t.free_object x)) = suc x.turn
turn_after (t.of_number (t.free_number x)) = suc x.turn
turn_after (t.of_truth (t.free_truth x)) = suc x.turn
turn_after (t.of_set (t.free_set x)) = suc x.turn
turn_after (t.of_field (t.free_field x)) = suc x.turn
turn_after v = 0

unfoldable pub turn_behind : List ValueTree → ℕ
turn_behind [] = 0
turn_behind (v ∷ vs) = max (turn_after v) (turn_behind vs)

-- all parts of some formulas, inner ones before those that hold them
abbrev pub all_parts : List FormulaTree → List ValueTree
all_parts facts = flat_map (λ a. formula_parts a order.InnerFirst) facts

-- the first turn beyond those of all free names of some formulas
abbrev pub first_turn : List FormulaTree → ℕ
first_turn facts = turn_behind (all_parts facts)

-- ---- the updates and their names

-- an update that holds no variable bound outside it
unfoldable pub is_whole_update : ValueTree → Bool
is_whole_update (t.of_field (t.update f a v)) = is_closed_field (t.update f a v) 0
is_whole_update v = false

-- The updates of some formulas, each once, in the order in which they first stand, an inner one before those that hold it.
abbrev pub updates : List FormulaTree → List ValueTree
updates facts = without_repeats (filter is_whole_update (all_parts facts))

-- the text of the name under all updates
unfoldable pub text_under : FieldTree → List ℕ
text_under (t.free_field x) = x.text
text_under (t.update f a v) = text_under f

unfoldable pub text_of : ValueTree → List ℕ
text_of (t.of_field f) = text_under f
text_of v = []

-- The name of the update at its place in a list, whose first has the turn k.
abbrev pub name_of : List ValueTree → ℕ → ValueTree → Name
name_of us k v = record { text = text_of v; turn = k + place_in us v }

-- what stands for an update of the list: its name; nothing stands for any other value
abbrev pub name_for : List ValueTree → ℕ → ValueTree → Option ValueTree
name_for us k v = if nat_lt (place_in us v) (length us) then Some (t.of_field (t.free_field (name_of us k v))) else None

-- Each update of the list is exchanged whole, with all that it holds.
abbrev pub naming : List ValueTree → ℕ → Rewriting
naming us k = record { leaves = unchanged; whole_at = λ v d. name_for us k v }

-- For example, where `f[a := x]` is the first of the list and k is 1, `b..f[a := x] = y` becomes `b..f@1 = y`.
unfoldable pub named : List ValueTree → ℕ → FormulaTree → FormulaTree
named us k a = rewritten_formula a (naming us k) 0

-- ---- what their names stand for

abbrev pub if_any : Option FormulaTree → List FormulaTree
if_any None = []
if_any (Some a) = a ∷ []

-- What an update's name says of each object x: `(x = a --> g x = v) & (x ~= a --> g x = f x)`, where inner updates have their names.
unfoldable pub update_fact : List ValueTree → ℕ → ValueTree → List FormulaTree
update_fact us k (t.of_field (t.update f a v)) =
    if_any (described (t.free_field (name_of us k (t.of_field (t.update f a v)))) (rewritten_field f (naming us k) 0) (rewritten_term a (naming us k) 0) (rewritten_value v (naming us k) 0))
update_fact us k v = []

abbrev pub update_facts : List ValueTree → ℕ → List FormulaTree
update_facts us k = flat_map (update_fact us k) us
