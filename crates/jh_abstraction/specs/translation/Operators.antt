-- Operators with two operands: the shapes that they have in a table, and what they make of conditions, numbers and sets of a query.
use Rattle.std.specs.Prelude.{ℕ}
use Rattle.jh_arena.specs.declared.table.shapes.Shape.{Shape}
use Rattle.jh_arena.specs.declared.table.shapes.Shape.TheVariants as s
use Rattle.jh_query.specs.queries.Tree.{SetExprTree, NumTree, CondTree}
use Rattle.jh_query.specs.queries.Tree as q
use Rattle.jh_abstraction.specs.declared.translation.sets.Operator.{Operator}
use Rattle.jh_abstraction.specs.declared.translation.sets.Operator.TheVariants as o
use Rattle.jh_abstraction.specs.declared.translation.numbers.Sign.{Sign}
use Rattle.jh_abstraction.specs.declared.translation.numbers.Sign.TheVariants as g
use Rattle.jh_abstraction.specs.declared.translation.atoms.Comparison.{Comparison}
use Rattle.jh_abstraction.specs.declared.translation.atoms.Comparison.TheVariants as c
use Rattle.jh_abstraction.specs.declared.translation.atoms.Relation.{Relation}
use Rattle.jh_abstraction.specs.declared.translation.atoms.Relation.TheVariants as r
use Rattle.jh_abstraction.specs.declared.translation.conds.Connective.{Connective}
use Rattle.jh_abstraction.specs.declared.translation.conds.Connective.TheVariants as k

abbrev pub set_shape : Operator → ℕ → ℕ → Shape
set_shape o.Union a b = s.Union a b
set_shape o.Inter a b = s.Inter a b
set_shape o.Diff a b = s.Diff a b

abbrev pub joined_sets : Operator → SetExprTree → SetExprTree → SetExprTree
joined_sets o.Union a b = q.union a b
joined_sets o.Inter a b = q.inter a b
joined_sets o.Diff a b = q.diff a b

abbrev pub number_shape : Sign → ℕ → ℕ → Shape
number_shape g.Plus a b = s.Add a b
number_shape g.Minus a b = s.Sub a b

abbrev pub joined_numbers : Sign → NumTree → NumTree → NumTree
joined_numbers g.Plus a b = q.add a b
joined_numbers g.Minus a b = q.sub a b

abbrev pub comparison_shape : Comparison → ℕ → ℕ → Shape
comparison_shape c.Equal a b = s.EqNumber a b
comparison_shape c.Less a b = s.Less a b

abbrev pub compared_numbers : Comparison → NumTree → NumTree → CondTree
compared_numbers c.Equal a b = q.equal_num a b
compared_numbers c.Less a b = q.less_num a b

abbrev pub relation_shape : Relation → ℕ → ℕ → Shape
relation_shape r.Equal a b = s.EqSet a b
relation_shape r.Within a b = s.Subset a b

abbrev pub related_sets : Relation → SetExprTree → SetExprTree → CondTree
related_sets r.Equal a b = q.equal_set a b
related_sets r.Within a b = q.within a b

abbrev pub connective_shape : Connective → ℕ → ℕ → Shape
connective_shape k.And a b = s.And a b
connective_shape k.Or a b = s.Or a b
connective_shape k.Implies a b = s.Implies a b
connective_shape k.Iff a b = s.Iff a b

abbrev pub joined_conds : Connective → CondTree → CondTree → CondTree
joined_conds k.And a b = q.and a b
joined_conds k.Or a b = q.or a b
joined_conds k.Implies a b = q.implies a b
joined_conds k.Iff a b = q.iff a b
