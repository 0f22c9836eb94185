-- What is not of a variant is like nothing of that variant.
use Rattle.std.proofs.Common.{◌≡◌, refl, ℕ, ℤ, Bool, false}
use Rattle.std.specs.declared.alloc.Global.{Global}
use Rattle.std.specs.declared.boxed.Box.{Box}
use Rattle.jh_query.specs.declared.queries.query.SetExpr.{SetExpr}
use Rattle.jh_query.specs.declared.queries.query.SetExpr as set_whole
use Rattle.jh_query.specs.declared.queries.query.SetExpr.TheVariants as set
use Rattle.jh_query.specs.declared.queries.query.Num.{Num}
use Rattle.jh_query.specs.declared.queries.query.Num as num_whole
use Rattle.jh_query.specs.declared.queries.query.Num.TheVariants as num
use Rattle.jh_query.specs.declared.queries.query.Cond.{Cond}
use Rattle.jh_query.specs.declared.queries.query.Cond as cond_whole
use Rattle.jh_query.specs.declared.queries.query.Cond.TheVariants as cond
use Rattle.jh_query.specs.queries.Bare.{set_tree, num_tree, cond_tree}
use Rattle.jh_query.specs.queries.Same.{same_set, same_num, same_atom}
use Rattle.jh_query.specs.queries.Size.{says, asserts}
use Rattle.jh_query.specs.queries.Tree.{SetExprTree, NumTree, CondTree}
use Rattle.jh_query.specs.queries.Tree as t

-- a box of a value, with the place of another
boxed_set : Box Unit Global → SetExpr → Box SetExpr Global
boxed_set i a = record { ptr = i.ptr; alloc = i.alloc; value = a }

boxed_num : Box Unit Global → Num → Box Num Global
boxed_num i a = record { ptr = i.ptr; alloc = i.alloc; value = a }

boxed_cond : Box Unit Global → Cond → Box Cond Global
boxed_cond i a = record { ptr = i.ptr; alloc = i.alloc; value = a }

pub same_set-Var : (q : ℕ) (r : SetExpr) → ((k : ℕ) → r ≡ set_whole.Var k → ⊥) → same_set (t.var q) (set_tree r) ≡ false
unfolding set_tree boxed_set boxed_num boxed_cond
same_set-Var q (set.Var k) h = absurd (h k refl)
same_set-Var q set.Empty h = refl
same_set-Var q set.All h = refl
same_set-Var q (set.One k) h = refl
same_set-Var q (set.Union' i a j b) h = refl
same_set-Var q (set.Inter' i a j b) h = refl
same_set-Var q (set.Diff' i a j b) h = refl
same_set-Var q (set.Compl' i a) h = refl

pub same_set-Empty : (r : SetExpr) → (r ≡ set_whole.Empty → ⊥) → same_set t.empty (set_tree r) ≡ false
unfolding set_tree boxed_set boxed_num boxed_cond
same_set-Empty (set.Var k) h = refl
same_set-Empty set.Empty h = absurd (h refl)
same_set-Empty set.All h = refl
same_set-Empty (set.One k) h = refl
same_set-Empty (set.Union' i a j b) h = refl
same_set-Empty (set.Inter' i a j b) h = refl
same_set-Empty (set.Diff' i a j b) h = refl
same_set-Empty (set.Compl' i a) h = refl

pub same_set-All : (r : SetExpr) → (r ≡ set_whole.All → ⊥) → same_set t.all (set_tree r) ≡ false
unfolding set_tree boxed_set boxed_num boxed_cond
same_set-All (set.Var k) h = refl
same_set-All set.Empty h = refl
same_set-All set.All h = absurd (h refl)
same_set-All (set.One k) h = refl
same_set-All (set.Union' i a j b) h = refl
same_set-All (set.Inter' i a j b) h = refl
same_set-All (set.Diff' i a j b) h = refl
same_set-All (set.Compl' i a) h = refl

pub same_set-One : (q : ℕ) (r : SetExpr) → ((k : ℕ) → r ≡ set_whole.One k → ⊥) → same_set (t.one q) (set_tree r) ≡ false
unfolding set_tree boxed_set boxed_num boxed_cond
same_set-One q (set.Var k) h = refl
same_set-One q set.Empty h = refl
same_set-One q set.All h = refl
same_set-One q (set.One k) h = absurd (h k refl)
same_set-One q (set.Union' i a j b) h = refl
same_set-One q (set.Inter' i a j b) h = refl
same_set-One q (set.Diff' i a j b) h = refl
same_set-One q (set.Compl' i a) h = refl

pub same_set-Union : (p q : SetExprTree) (r : SetExpr) → ((x y : Box SetExpr Global) → r ≡ set_whole.Union x y → ⊥) → same_set (t.union p q) (set_tree r) ≡ false
unfolding set_tree boxed_set boxed_num boxed_cond
same_set-Union p q (set.Var k) h = refl
same_set-Union p q set.Empty h = refl
same_set-Union p q set.All h = refl
same_set-Union p q (set.One k) h = refl
same_set-Union p q (set.Union' i a j b) h = absurd (h (boxed_set i a) (boxed_set j b) refl)
same_set-Union p q (set.Inter' i a j b) h = refl
same_set-Union p q (set.Diff' i a j b) h = refl
same_set-Union p q (set.Compl' i a) h = refl

pub same_set-Inter : (p q : SetExprTree) (r : SetExpr) → ((x y : Box SetExpr Global) → r ≡ set_whole.Inter x y → ⊥) → same_set (t.inter p q) (set_tree r) ≡ false
unfolding set_tree boxed_set boxed_num boxed_cond
same_set-Inter p q (set.Var k) h = refl
same_set-Inter p q set.Empty h = refl
same_set-Inter p q set.All h = refl
same_set-Inter p q (set.One k) h = refl
same_set-Inter p q (set.Union' i a j b) h = refl
same_set-Inter p q (set.Inter' i a j b) h = absurd (h (boxed_set i a) (boxed_set j b) refl)
same_set-Inter p q (set.Diff' i a j b) h = refl
same_set-Inter p q (set.Compl' i a) h = refl

pub same_set-Diff : (p q : SetExprTree) (r : SetExpr) → ((x y : Box SetExpr Global) → r ≡ set_whole.Diff x y → ⊥) → same_set (t.diff p q) (set_tree r) ≡ false
unfolding set_tree boxed_set boxed_num boxed_cond
same_set-Diff p q (set.Var k) h = refl
same_set-Diff p q set.Empty h = refl
same_set-Diff p q set.All h = refl
same_set-Diff p q (set.One k) h = refl
same_set-Diff p q (set.Union' i a j b) h = refl
same_set-Diff p q (set.Inter' i a j b) h = refl
same_set-Diff p q (set.Diff' i a j b) h = absurd (h (boxed_set i a) (boxed_set j b) refl)
same_set-Diff p q (set.Compl' i a) h = refl

pub same_set-Compl : (q : SetExprTree) (r : SetExpr) → ((x : Box SetExpr Global) → r ≡ set_whole.Compl x → ⊥) → same_set (t.compl q) (set_tree r) ≡ false
unfolding set_tree boxed_set boxed_num boxed_cond
same_set-Compl q (set.Var k) h = refl
same_set-Compl q set.Empty h = refl
same_set-Compl q set.All h = refl
same_set-Compl q (set.One k) h = refl
same_set-Compl q (set.Union' i a j b) h = refl
same_set-Compl q (set.Inter' i a j b) h = refl
same_set-Compl q (set.Diff' i a j b) h = refl
same_set-Compl q (set.Compl' i a) h = absurd (h (boxed_set i a) refl)

pub same_num-Const : (q : ℤ) (r : Num) → ((c : ℤ) → r ≡ num_whole.Const c → ⊥) → same_num (t.const q) (num_tree r) ≡ false
unfolding num_tree boxed_set boxed_num boxed_cond
same_num-Const q (num.Const c) h = absurd (h c refl)
same_num-Const q (num.Var l) h = refl
same_num-Const q (num.Add' i a j b) h = refl
same_num-Const q (num.Sub' i a j b) h = refl
same_num-Const q (num.Neg' i a) h = refl
same_num-Const q (num.Scale' k i a) h = refl
same_num-Const q (num.Card s) h = refl

pub same_num-Var : (q : ℕ) (r : Num) → ((l : ℕ) → r ≡ num_whole.Var l → ⊥) → same_num (t.number q) (num_tree r) ≡ false
unfolding num_tree boxed_set boxed_num boxed_cond
same_num-Var q (num.Const c) h = refl
same_num-Var q (num.Var l) h = absurd (h l refl)
same_num-Var q (num.Add' i a j b) h = refl
same_num-Var q (num.Sub' i a j b) h = refl
same_num-Var q (num.Neg' i a) h = refl
same_num-Var q (num.Scale' k i a) h = refl
same_num-Var q (num.Card s) h = refl

pub same_num-Add : (p q : NumTree) (r : Num) → ((x y : Box Num Global) → r ≡ num_whole.Add x y → ⊥) → same_num (t.add p q) (num_tree r) ≡ false
unfolding num_tree boxed_set boxed_num boxed_cond
same_num-Add p q (num.Const c) h = refl
same_num-Add p q (num.Var l) h = refl
same_num-Add p q (num.Add' i a j b) h = absurd (h (boxed_num i a) (boxed_num j b) refl)
same_num-Add p q (num.Sub' i a j b) h = refl
same_num-Add p q (num.Neg' i a) h = refl
same_num-Add p q (num.Scale' k i a) h = refl
same_num-Add p q (num.Card s) h = refl

pub same_num-Sub : (p q : NumTree) (r : Num) → ((x y : Box Num Global) → r ≡ num_whole.Sub x y → ⊥) → same_num (t.sub p q) (num_tree r) ≡ false
unfolding num_tree boxed_set boxed_num boxed_cond
same_num-Sub p q (num.Const c) h = refl
same_num-Sub p q (num.Var l) h = refl
same_num-Sub p q (num.Add' i a j b) h = refl
same_num-Sub p q (num.Sub' i a j b) h = absurd (h (boxed_num i a) (boxed_num j b) refl)
same_num-Sub p q (num.Neg' i a) h = refl
same_num-Sub p q (num.Scale' k i a) h = refl
same_num-Sub p q (num.Card s) h = refl

pub same_num-Neg : (q : NumTree) (r : Num) → ((x : Box Num Global) → r ≡ num_whole.Neg x → ⊥) → same_num (t.neg q) (num_tree r) ≡ false
unfolding num_tree boxed_set boxed_num boxed_cond
same_num-Neg q (num.Const c) h = refl
same_num-Neg q (num.Var l) h = refl
same_num-Neg q (num.Add' i a j b) h = refl
same_num-Neg q (num.Sub' i a j b) h = refl
same_num-Neg q (num.Neg' i a) h = absurd (h (boxed_num i a) refl)
same_num-Neg q (num.Scale' k i a) h = refl
same_num-Neg q (num.Card s) h = refl

pub same_num-Scale : (p : ℤ) (q : NumTree) (r : Num) → ((k : ℤ) (x : Box Num Global) → r ≡ num_whole.Scale k x → ⊥) → same_num (t.scale p q) (num_tree r) ≡ false
unfolding num_tree boxed_set boxed_num boxed_cond
same_num-Scale p q (num.Const c) h = refl
same_num-Scale p q (num.Var l) h = refl
same_num-Scale p q (num.Add' i a j b) h = refl
same_num-Scale p q (num.Sub' i a j b) h = refl
same_num-Scale p q (num.Neg' i a) h = refl
same_num-Scale p q (num.Scale' k i a) h = absurd (h k (boxed_num i a) refl)
same_num-Scale p q (num.Card s) h = refl

pub same_num-Card : (q : SetExprTree) (r : Num) → ((s : Box SetExpr Global) → r ≡ num_whole.Card s → ⊥) → same_num (t.card q) (num_tree r) ≡ false
unfolding num_tree boxed_set boxed_num boxed_cond
same_num-Card q (num.Const c) h = refl
same_num-Card q (num.Var l) h = refl
same_num-Card q (num.Add' i a j b) h = refl
same_num-Card q (num.Sub' i a j b) h = refl
same_num-Card q (num.Neg' i a) h = refl
same_num-Card q (num.Scale' k i a) h = refl
same_num-Card q (num.Card s) h = absurd (h s refl)

pub same_atom-Flag : (q : ℕ) (r : Cond) → ((f : ℕ) → r ≡ cond_whole.Flag f → ⊥) → same_atom (t.flag q) (cond_tree r) ≡ false
unfolding cond_tree boxed_set boxed_num boxed_cond
same_atom-Flag q cond.True h = refl
same_atom-Flag q cond.False h = refl
same_atom-Flag q (cond.Flag f) h = absurd (h f refl)
same_atom-Flag q (cond.SameElement i j) h = refl
same_atom-Flag q (cond.In i s) h = refl
same_atom-Flag q (cond.EqualSet a b) h = refl
same_atom-Flag q (cond.Within a b) h = refl
same_atom-Flag q (cond.EqualNum a b) h = refl
same_atom-Flag q (cond.LessNum a b) h = refl
same_atom-Flag q (cond.Divides k a) h = refl
same_atom-Flag q (cond.Not' i a) h = refl
same_atom-Flag q (cond.And' i a j b) h = refl
same_atom-Flag q (cond.Or' i a j b) h = refl
same_atom-Flag q (cond.Implies' i a j b) h = refl
same_atom-Flag q (cond.Iff' i a j b) h = refl

pub same_atom-SameElement : (p q : ℕ) (r : Cond) → ((i j : ℕ) → r ≡ cond_whole.SameElement i j → ⊥) → same_atom (t.same_element p q) (cond_tree r) ≡ false
unfolding cond_tree boxed_set boxed_num boxed_cond
same_atom-SameElement p q cond.True h = refl
same_atom-SameElement p q cond.False h = refl
same_atom-SameElement p q (cond.Flag f) h = refl
same_atom-SameElement p q (cond.SameElement i j) h = absurd (h i j refl)
same_atom-SameElement p q (cond.In i s) h = refl
same_atom-SameElement p q (cond.EqualSet a b) h = refl
same_atom-SameElement p q (cond.Within a b) h = refl
same_atom-SameElement p q (cond.EqualNum a b) h = refl
same_atom-SameElement p q (cond.LessNum a b) h = refl
same_atom-SameElement p q (cond.Divides k a) h = refl
same_atom-SameElement p q (cond.Not' i a) h = refl
same_atom-SameElement p q (cond.And' i a j b) h = refl
same_atom-SameElement p q (cond.Or' i a j b) h = refl
same_atom-SameElement p q (cond.Implies' i a j b) h = refl
same_atom-SameElement p q (cond.Iff' i a j b) h = refl

pub same_atom-In : (p : ℕ) (q : SetExprTree) (r : Cond) → ((i : ℕ) (s : SetExpr) → r ≡ cond_whole.In i s → ⊥) → same_atom (t.member p q) (cond_tree r) ≡ false
unfolding cond_tree boxed_set boxed_num boxed_cond
same_atom-In p q cond.True h = refl
same_atom-In p q cond.False h = refl
same_atom-In p q (cond.Flag f) h = refl
same_atom-In p q (cond.SameElement i j) h = refl
same_atom-In p q (cond.In i s) h = absurd (h i s refl)
same_atom-In p q (cond.EqualSet a b) h = refl
same_atom-In p q (cond.Within a b) h = refl
same_atom-In p q (cond.EqualNum a b) h = refl
same_atom-In p q (cond.LessNum a b) h = refl
same_atom-In p q (cond.Divides k a) h = refl
same_atom-In p q (cond.Not' i a) h = refl
same_atom-In p q (cond.And' i a j b) h = refl
same_atom-In p q (cond.Or' i a j b) h = refl
same_atom-In p q (cond.Implies' i a j b) h = refl
same_atom-In p q (cond.Iff' i a j b) h = refl

pub same_atom-EqualSet : (p q : SetExprTree) (r : Cond) → ((a b : SetExpr) → r ≡ cond_whole.EqualSet a b → ⊥) → same_atom (t.equal_set p q) (cond_tree r) ≡ false
unfolding cond_tree boxed_set boxed_num boxed_cond
same_atom-EqualSet p q cond.True h = refl
same_atom-EqualSet p q cond.False h = refl
same_atom-EqualSet p q (cond.Flag f) h = refl
same_atom-EqualSet p q (cond.SameElement i j) h = refl
same_atom-EqualSet p q (cond.In i s) h = refl
same_atom-EqualSet p q (cond.EqualSet a b) h = absurd (h a b refl)
same_atom-EqualSet p q (cond.Within a b) h = refl
same_atom-EqualSet p q (cond.EqualNum a b) h = refl
same_atom-EqualSet p q (cond.LessNum a b) h = refl
same_atom-EqualSet p q (cond.Divides k a) h = refl
same_atom-EqualSet p q (cond.Not' i a) h = refl
same_atom-EqualSet p q (cond.And' i a j b) h = refl
same_atom-EqualSet p q (cond.Or' i a j b) h = refl
same_atom-EqualSet p q (cond.Implies' i a j b) h = refl
same_atom-EqualSet p q (cond.Iff' i a j b) h = refl

pub same_atom-Within : (p q : SetExprTree) (r : Cond) → ((a b : SetExpr) → r ≡ cond_whole.Within a b → ⊥) → same_atom (t.within p q) (cond_tree r) ≡ false
unfolding cond_tree boxed_set boxed_num boxed_cond
same_atom-Within p q cond.True h = refl
same_atom-Within p q cond.False h = refl
same_atom-Within p q (cond.Flag f) h = refl
same_atom-Within p q (cond.SameElement i j) h = refl
same_atom-Within p q (cond.In i s) h = refl
same_atom-Within p q (cond.EqualSet a b) h = refl
same_atom-Within p q (cond.Within a b) h = absurd (h a b refl)
same_atom-Within p q (cond.EqualNum a b) h = refl
same_atom-Within p q (cond.LessNum a b) h = refl
same_atom-Within p q (cond.Divides k a) h = refl
same_atom-Within p q (cond.Not' i a) h = refl
same_atom-Within p q (cond.And' i a j b) h = refl
same_atom-Within p q (cond.Or' i a j b) h = refl
same_atom-Within p q (cond.Implies' i a j b) h = refl
same_atom-Within p q (cond.Iff' i a j b) h = refl

pub same_atom-EqualNum : (p q : NumTree) (r : Cond) → ((a b : Num) → r ≡ cond_whole.EqualNum a b → ⊥) → same_atom (t.equal_num p q) (cond_tree r) ≡ false
unfolding cond_tree boxed_set boxed_num boxed_cond
same_atom-EqualNum p q cond.True h = refl
same_atom-EqualNum p q cond.False h = refl
same_atom-EqualNum p q (cond.Flag f) h = refl
same_atom-EqualNum p q (cond.SameElement i j) h = refl
same_atom-EqualNum p q (cond.In i s) h = refl
same_atom-EqualNum p q (cond.EqualSet a b) h = refl
same_atom-EqualNum p q (cond.Within a b) h = refl
same_atom-EqualNum p q (cond.EqualNum a b) h = absurd (h a b refl)
same_atom-EqualNum p q (cond.LessNum a b) h = refl
same_atom-EqualNum p q (cond.Divides k a) h = refl
same_atom-EqualNum p q (cond.Not' i a) h = refl
same_atom-EqualNum p q (cond.And' i a j b) h = refl
same_atom-EqualNum p q (cond.Or' i a j b) h = refl
same_atom-EqualNum p q (cond.Implies' i a j b) h = refl
same_atom-EqualNum p q (cond.Iff' i a j b) h = refl

pub same_atom-LessNum : (p q : NumTree) (r : Cond) → ((a b : Num) → r ≡ cond_whole.LessNum a b → ⊥) → same_atom (t.less_num p q) (cond_tree r) ≡ false
unfolding cond_tree boxed_set boxed_num boxed_cond
same_atom-LessNum p q cond.True h = refl
same_atom-LessNum p q cond.False h = refl
same_atom-LessNum p q (cond.Flag f) h = refl
same_atom-LessNum p q (cond.SameElement i j) h = refl
same_atom-LessNum p q (cond.In i s) h = refl
same_atom-LessNum p q (cond.EqualSet a b) h = refl
same_atom-LessNum p q (cond.Within a b) h = refl
same_atom-LessNum p q (cond.EqualNum a b) h = refl
same_atom-LessNum p q (cond.LessNum a b) h = absurd (h a b refl)
same_atom-LessNum p q (cond.Divides k a) h = refl
same_atom-LessNum p q (cond.Not' i a) h = refl
same_atom-LessNum p q (cond.And' i a j b) h = refl
same_atom-LessNum p q (cond.Or' i a j b) h = refl
same_atom-LessNum p q (cond.Implies' i a j b) h = refl
same_atom-LessNum p q (cond.Iff' i a j b) h = refl

pub same_atom-Divides : (p : ℤ) (q : NumTree) (r : Cond) → ((k : ℤ) (a : Num) → r ≡ cond_whole.Divides k a → ⊥) → same_atom (t.divides p q) (cond_tree r) ≡ false
unfolding cond_tree boxed_set boxed_num boxed_cond
same_atom-Divides p q cond.True h = refl
same_atom-Divides p q cond.False h = refl
same_atom-Divides p q (cond.Flag f) h = refl
same_atom-Divides p q (cond.SameElement i j) h = refl
same_atom-Divides p q (cond.In i s) h = refl
same_atom-Divides p q (cond.EqualSet a b) h = refl
same_atom-Divides p q (cond.Within a b) h = refl
same_atom-Divides p q (cond.EqualNum a b) h = refl
same_atom-Divides p q (cond.LessNum a b) h = refl
same_atom-Divides p q (cond.Divides k a) h = absurd (h k a refl)
same_atom-Divides p q (cond.Not' i a) h = refl
same_atom-Divides p q (cond.And' i a j b) h = refl
same_atom-Divides p q (cond.Or' i a j b) h = refl
same_atom-Divides p q (cond.Implies' i a j b) h = refl
same_atom-Divides p q (cond.Iff' i a j b) h = refl

pub says-Not : (q : CondTree) (r : Cond) → ((x : Box Cond Global) → r ≡ cond_whole.Not x → ⊥) → says false q (cond_tree r) ≡ false
unfolding cond_tree boxed_set boxed_num boxed_cond
says-Not q cond.True h = refl
says-Not q cond.False h = refl
says-Not q (cond.Flag f) h = refl
says-Not q (cond.SameElement i j) h = refl
says-Not q (cond.In i s) h = refl
says-Not q (cond.EqualSet a b) h = refl
says-Not q (cond.Within a b) h = refl
says-Not q (cond.EqualNum a b) h = refl
says-Not q (cond.LessNum a b) h = refl
says-Not q (cond.Divides k a) h = refl
says-Not q (cond.Not' i a) h = absurd (h (boxed_cond i a) refl)
says-Not q (cond.And' i a j b) h = refl
says-Not q (cond.Or' i a j b) h = refl
says-Not q (cond.Implies' i a j b) h = refl
says-Not q (cond.Iff' i a j b) h = refl

pub asserts-And : (truth : Bool) (q : CondTree) (r : Cond) → ((x y : Box Cond Global) → r ≡ cond_whole.And x y → ⊥) → asserts truth q (cond_tree r) ≡ says truth q (cond_tree r)
unfolding cond_tree boxed_set boxed_num boxed_cond
asserts-And truth q cond.True h = refl
asserts-And truth q cond.False h = refl
asserts-And truth q (cond.Flag f) h = refl
asserts-And truth q (cond.SameElement i j) h = refl
asserts-And truth q (cond.In i s) h = refl
asserts-And truth q (cond.EqualSet a b) h = refl
asserts-And truth q (cond.Within a b) h = refl
asserts-And truth q (cond.EqualNum a b) h = refl
asserts-And truth q (cond.LessNum a b) h = refl
asserts-And truth q (cond.Divides k a) h = refl
asserts-And truth q (cond.Not' i a) h = refl
asserts-And truth q (cond.And' i a j b) h = absurd (h (boxed_cond i a) (boxed_cond j b) refl)
asserts-And truth q (cond.Or' i a j b) h = refl
asserts-And truth q (cond.Implies' i a j b) h = refl
asserts-And truth q (cond.Iff' i a j b) h = refl

pub ruleset other_steps = (same_set-Var, same_set-Empty, same_set-All, same_set-One, same_set-Union, same_set-Inter, same_set-Diff, same_set-Compl, same_num-Const, same_num-Var, same_num-Add, same_num-Sub, same_num-Neg, same_num-Scale, same_num-Card, same_atom-Flag, same_atom-SameElement, same_atom-In, same_atom-EqualSet, same_atom-Within, same_atom-EqualNum, same_atom-LessNum, same_atom-Divides, says-Not, asserts-And)
