-- How many sequents a goal is split into.
use Rattle.std.specs.Prelude.{ℕ, zero, suc, ◌+◌, ◌-◌, ◌^◌, Bool, true, if◌then◌else◌, min}
use Rattle.jh_name.specs.declared.naming.Name.{Name}
use Rattle.jh_form.specs.Tree.{FormulaTree, FieldTrees}
use Rattle.jh_form.specs.Tree as t

-- a count that would pass the greatest u128 stays at it
abbrev pub count_max : ℕ
count_max = 2 ^ 128 - 1

abbrev pub capped : ℕ → ℕ
capped n = min n count_max

-- how many sequents a truth name gives as a whole goal, under a label or not: what is put for it may give several
abbrev pub Weights : Type 0
Weights = Name → Bool → ℕ

abbrev pub field_count : FieldTrees → ℕ
field_count t.none = 0
field_count (t.more f fs) = suc (field_count fs)

-- for each field two goals, and one for each two fields
abbrev pub forest_count : ℕ → ℕ
forest_count zero = 0
forest_count (suc n) = 2 + n + forest_count n

unfoldable pub goals : FormulaTree → Weights → Bool → ℕ
goals (t.mark m a) w marked = goals a w true
goals (t.and a b) w marked = goals a w marked + goals b w marked
goals (t.implies a b) w marked = goals b w marked
goals (t.iff a b) w marked = goals b w marked + goals a w marked
goals (t.all a) w marked = goals a w marked
goals (t.tree fs) w marked = forest_count (field_count fs)
goals t.true_formula w marked = if marked then 1 else 0
goals (t.free_truth x) w marked = w x marked
goals _ w marked = 1

-- each truth name is one goal
abbrev pub ones : Weights
ones x marked = 1
