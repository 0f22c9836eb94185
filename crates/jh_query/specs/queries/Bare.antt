-- The tree of each query of the program.
use Rattle.std.specs.Prelude.{map}
use Rattle.jh_query.specs.declared.queries.query.SetExpr.{SetExpr}
use Rattle.jh_query.specs.declared.queries.query.SetExpr.TheVariants as set
use Rattle.jh_query.specs.declared.queries.query.Num.{Num}
use Rattle.jh_query.specs.declared.queries.query.Num.TheVariants as num
use Rattle.jh_query.specs.declared.queries.query.Cond.{Cond}
use Rattle.jh_query.specs.declared.queries.query.Cond.TheVariants as cond
use Rattle.jh_query.specs.declared.queries.query.Query.{Query}
use Rattle.jh_query.specs.queries.Tree.{SetExprTree, NumTree, CondTree, QueryTree}
use Rattle.jh_query.specs.queries.Tree as t

unfoldable pub set_tree : SetExpr → SetExprTree
set_tree (set.Var k) = t.var k
set_tree set.Empty = t.empty
set_tree set.All = t.all
set_tree (set.One i) = t.one i
set_tree (set.Union' i a j b) = t.union (set_tree a) (set_tree b)
set_tree (set.Inter' i a j b) = t.inter (set_tree a) (set_tree b)
set_tree (set.Diff' i a j b) = t.diff (set_tree a) (set_tree b)
set_tree (set.Compl' i a) = t.compl (set_tree a)

unfoldable pub num_tree : Num → NumTree
num_tree (num.Const c) = t.const c
num_tree (num.Var l) = t.number l
num_tree (num.Add' i a j b) = t.add (num_tree a) (num_tree b)
num_tree (num.Sub' i a j b) = t.sub (num_tree a) (num_tree b)
num_tree (num.Neg' i a) = t.neg (num_tree a)
num_tree (num.Scale' k i a) = t.scale k (num_tree a)
num_tree (num.Card s) = t.card (set_tree s.value)

unfoldable pub cond_tree : Cond → CondTree
cond_tree cond.True = t.yes
cond_tree cond.False = t.no
cond_tree (cond.Flag f) = t.flag f
cond_tree (cond.SameElement i j) = t.same_element i j
cond_tree (cond.In i s) = t.member i (set_tree s)
cond_tree (cond.EqualSet a b) = t.equal_set (set_tree a) (set_tree b)
cond_tree (cond.Within a b) = t.within (set_tree a) (set_tree b)
cond_tree (cond.EqualNum a b) = t.equal_num (num_tree a) (num_tree b)
cond_tree (cond.LessNum a b) = t.less_num (num_tree a) (num_tree b)
cond_tree (cond.Divides k a) = t.divides k (num_tree a)
cond_tree (cond.Not' i a) = t.negation (cond_tree a)
cond_tree (cond.And' i a j b) = t.and (cond_tree a) (cond_tree b)
cond_tree (cond.Or' i a j b) = t.or (cond_tree a) (cond_tree b)
cond_tree (cond.Implies' i a j b) = t.implies (cond_tree a) (cond_tree b)
cond_tree (cond.Iff' i a j b) = t.iff (cond_tree a) (cond_tree b)

abbrev pub query_tree : Query → QueryTree
query_tree q = record { sets = q.sets; elements = q.elements; numbers = q.numbers; flags = q.flags; hyps = map cond_tree q.hyps; goal = cond_tree q.goal }
