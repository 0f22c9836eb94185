-- The tree of each query, an equation for each variant.
use Rattle.std.proofs.Common.{◌≡◌, refl, ℕ, ℤ}
use Rattle.std.specs.declared.alloc.Global.{Global}
use Rattle.std.specs.declared.boxed.Box.{Box}
use Rattle.jh_query.specs.declared.queries.query.SetExpr.{SetExpr}
use Rattle.jh_query.specs.declared.queries.query.SetExpr.TheVariants as set
use Rattle.jh_query.specs.declared.queries.query.Num.{Num}
use Rattle.jh_query.specs.declared.queries.query.Num.TheVariants as num
use Rattle.jh_query.specs.declared.queries.query.Cond.{Cond}
use Rattle.jh_query.specs.declared.queries.query.Cond.TheVariants as cond
use Rattle.jh_query.specs.queries.Bare.{set_tree, num_tree, cond_tree}
use Rattle.jh_query.specs.queries.Tree as t

pub set_tree-Var : (k : ℕ) → set_tree (set.Var k) ≡ t.var k
unfolding set_tree
set_tree-Var k = refl

pub set_tree-Empty : set_tree set.Empty ≡ t.empty
unfolding set_tree
set_tree-Empty = refl

pub set_tree-All : set_tree set.All ≡ t.all
unfolding set_tree
set_tree-All = refl

pub set_tree-One : (k : ℕ) → set_tree (set.One k) ≡ t.one k
unfolding set_tree
set_tree-One k = refl

pub set_tree-Union : (i : _) (a : SetExpr) (j : _) (b : SetExpr) → set_tree (set.Union' i a j b) ≡ t.union (set_tree a) (set_tree b)
unfolding set_tree
set_tree-Union i a j b = refl

pub set_tree-Inter : (i : _) (a : SetExpr) (j : _) (b : SetExpr) → set_tree (set.Inter' i a j b) ≡ t.inter (set_tree a) (set_tree b)
unfolding set_tree
set_tree-Inter i a j b = refl

pub set_tree-Diff : (i : _) (a : SetExpr) (j : _) (b : SetExpr) → set_tree (set.Diff' i a j b) ≡ t.diff (set_tree a) (set_tree b)
unfolding set_tree
set_tree-Diff i a j b = refl

pub set_tree-Compl : (i : _) (a : SetExpr) → set_tree (set.Compl' i a) ≡ t.compl (set_tree a)
unfolding set_tree
set_tree-Compl i a = refl

pub num_tree-Const : (c : ℤ) → num_tree (num.Const c) ≡ t.const c
unfolding num_tree
num_tree-Const c = refl

pub num_tree-Var : (l : ℕ) → num_tree (num.Var l) ≡ t.number l
unfolding num_tree
num_tree-Var l = refl

pub num_tree-Add : (i : _) (a : Num) (j : _) (b : Num) → num_tree (num.Add' i a j b) ≡ t.add (num_tree a) (num_tree b)
unfolding num_tree
num_tree-Add i a j b = refl

pub num_tree-Sub : (i : _) (a : Num) (j : _) (b : Num) → num_tree (num.Sub' i a j b) ≡ t.sub (num_tree a) (num_tree b)
unfolding num_tree
num_tree-Sub i a j b = refl

pub num_tree-Neg : (i : _) (a : Num) → num_tree (num.Neg' i a) ≡ t.neg (num_tree a)
unfolding num_tree
num_tree-Neg i a = refl

pub num_tree-Scale : (k : ℤ) (i : _) (a : Num) → num_tree (num.Scale' k i a) ≡ t.scale k (num_tree a)
unfolding num_tree
num_tree-Scale k i a = refl

pub num_tree-Card : (s : Box SetExpr Global) → num_tree (num.Card s) ≡ t.card (set_tree s.value)
unfolding num_tree
num_tree-Card s = refl

pub cond_tree-True : cond_tree cond.True ≡ t.yes
unfolding cond_tree
cond_tree-True = refl

pub cond_tree-False : cond_tree cond.False ≡ t.no
unfolding cond_tree
cond_tree-False = refl

pub cond_tree-Flag : (f : ℕ) → cond_tree (cond.Flag f) ≡ t.flag f
unfolding cond_tree
cond_tree-Flag f = refl

pub cond_tree-SameElement : (i j : ℕ) → cond_tree (cond.SameElement i j) ≡ t.same_element i j
unfolding cond_tree
cond_tree-SameElement i j = refl

pub cond_tree-In : (i : ℕ) (s : SetExpr) → cond_tree (cond.In i s) ≡ t.member i (set_tree s)
unfolding cond_tree
cond_tree-In i s = refl

pub cond_tree-EqualSet : (a b : SetExpr) → cond_tree (cond.EqualSet a b) ≡ t.equal_set (set_tree a) (set_tree b)
unfolding cond_tree
cond_tree-EqualSet a b = refl

pub cond_tree-Within : (a b : SetExpr) → cond_tree (cond.Within a b) ≡ t.within (set_tree a) (set_tree b)
unfolding cond_tree
cond_tree-Within a b = refl

pub cond_tree-EqualNum : (a b : Num) → cond_tree (cond.EqualNum a b) ≡ t.equal_num (num_tree a) (num_tree b)
unfolding cond_tree
cond_tree-EqualNum a b = refl

pub cond_tree-LessNum : (a b : Num) → cond_tree (cond.LessNum a b) ≡ t.less_num (num_tree a) (num_tree b)
unfolding cond_tree
cond_tree-LessNum a b = refl

pub cond_tree-Divides : (k : ℤ) (a : Num) → cond_tree (cond.Divides k a) ≡ t.divides k (num_tree a)
unfolding cond_tree
cond_tree-Divides k a = refl

pub cond_tree-Not : (i : _) (a : Cond) → cond_tree (cond.Not' i a) ≡ t.negation (cond_tree a)
unfolding cond_tree
cond_tree-Not i a = refl

pub cond_tree-And : (i : _) (a : Cond) (j : _) (b : Cond) → cond_tree (cond.And' i a j b) ≡ t.and (cond_tree a) (cond_tree b)
unfolding cond_tree
cond_tree-And i a j b = refl

pub cond_tree-Or : (i : _) (a : Cond) (j : _) (b : Cond) → cond_tree (cond.Or' i a j b) ≡ t.or (cond_tree a) (cond_tree b)
unfolding cond_tree
cond_tree-Or i a j b = refl

pub cond_tree-Implies : (i : _) (a : Cond) (j : _) (b : Cond) → cond_tree (cond.Implies' i a j b) ≡ t.implies (cond_tree a) (cond_tree b)
unfolding cond_tree
cond_tree-Implies i a j b = refl

pub cond_tree-Iff : (i : _) (a : Cond) (j : _) (b : Cond) → cond_tree (cond.Iff' i a j b) ≡ t.iff (cond_tree a) (cond_tree b)
unfolding cond_tree
cond_tree-Iff i a j b = refl

pub ruleset tree_steps = (set_tree-Var, set_tree-Empty, set_tree-All, set_tree-One, set_tree-Union, set_tree-Inter, set_tree-Diff, set_tree-Compl, num_tree-Const, num_tree-Var, num_tree-Add, num_tree-Sub, num_tree-Neg, num_tree-Scale, num_tree-Card, cond_tree-True, cond_tree-False, cond_tree-Flag, cond_tree-SameElement, cond_tree-In, cond_tree-EqualSet, cond_tree-Within, cond_tree-EqualNum, cond_tree-LessNum, cond_tree-Divides, cond_tree-Not, cond_tree-And, cond_tree-Or, cond_tree-Implies, cond_tree-Iff)
