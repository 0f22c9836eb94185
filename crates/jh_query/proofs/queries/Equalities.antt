-- Atoms that are written in the same way are the same.
use Rattle.std.proofs.Common.{◌≡◌, ◌==◌, refl, Bool, true, false, ◌&&◌, ℤ, ap}
use Rattle.std.specs.Ordering.{int_eq}
use Rattle.std.proofs.lemmas.Bool.{eqb-true}
use Rattle.std.proofs.lemmas.Bool.Decides.{Decides-int_eq}
use Rattle.jh_query.specs.queries.Tree.{SetExprTree, NumTree, CondTree}
use Rattle.jh_query.specs.queries.Tree as t
use Rattle.jh_query.specs.queries.Same.{same_set, same_num, same_atom}

pub first : (p q : Bool) → (p && q) ≡ true → p ≡ true
first true q e = refl
first false q e = e

pub second : (p q : Bool) → (p && q) ≡ true → q ≡ true
second true q e = e
second false q e = cc

constants : (i j : ℤ) → int_eq i j ≡ true → i ≡ j
constants i j e = (Decides-int_eq i j).0 e

pub same_set-is : (a b : SetExprTree) → same_set a b ≡ true → a ≡ b
same_set-is (t.var i) (t.var j) e = ap t.var (eqb-true i j e)
same_set-is t.empty t.empty e = refl
same_set-is t.all t.all e = refl
same_set-is (t.one i) (t.one j) e = ap t.one (eqb-true i j e)
same_set-is (t.union a b) (t.union c d) e = let x : a ≡ c = same_set-is a c (first (same_set a c) (same_set b d) e) in let y : b ≡ d = same_set-is b d (second (same_set a c) (same_set b d) e) in cc
same_set-is (t.inter a b) (t.inter c d) e = let x : a ≡ c = same_set-is a c (first (same_set a c) (same_set b d) e) in let y : b ≡ d = same_set-is b d (second (same_set a c) (same_set b d) e) in cc
same_set-is (t.diff a b) (t.diff c d) e = let x : a ≡ c = same_set-is a c (first (same_set a c) (same_set b d) e) in let y : b ≡ d = same_set-is b d (second (same_set a c) (same_set b d) e) in cc
same_set-is (t.compl a) (t.compl c) e = ap t.compl (same_set-is a c e)
same_set-is _ _ e = cc

pub same_num-is : (a b : NumTree) → same_num a b ≡ true → a ≡ b
same_num-is (t.const i) (t.const j) e = ap t.const (constants i j e)
same_num-is (t.number i) (t.number j) e = ap t.number (eqb-true i j e)
same_num-is (t.add a b) (t.add c d) e = let x : a ≡ c = same_num-is a c (first (same_num a c) (same_num b d) e) in let y : b ≡ d = same_num-is b d (second (same_num a c) (same_num b d) e) in cc
same_num-is (t.sub a b) (t.sub c d) e = let x : a ≡ c = same_num-is a c (first (same_num a c) (same_num b d) e) in let y : b ≡ d = same_num-is b d (second (same_num a c) (same_num b d) e) in cc
same_num-is (t.neg a) (t.neg c) e = ap t.neg (same_num-is a c e)
same_num-is (t.scale i a) (t.scale j c) e = let x : i ≡ j = constants i j (first (int_eq i j) (same_num a c) e) in let y : a ≡ c = same_num-is a c (second (int_eq i j) (same_num a c) e) in cc
same_num-is (t.card a) (t.card c) e = ap t.card (same_set-is a c e)
same_num-is _ _ e = cc

pub same_atom-is : (a b : CondTree) → same_atom a b ≡ true → a ≡ b
same_atom-is (t.flag i) (t.flag j) e = ap t.flag (eqb-true i j e)
same_atom-is (t.same_element i j) (t.same_element k l) e = let x : i ≡ k = eqb-true i k (first (i == k) (j == l) e) in let y : j ≡ l = eqb-true j l (second (i == k) (j == l) e) in cc
same_atom-is (t.member i a) (t.member k c) e = let x : i ≡ k = eqb-true i k (first (i == k) (same_set a c) e) in let y : a ≡ c = same_set-is a c (second (i == k) (same_set a c) e) in cc
same_atom-is (t.equal_set a b) (t.equal_set c d) e = let x : a ≡ c = same_set-is a c (first (same_set a c) (same_set b d) e) in let y : b ≡ d = same_set-is b d (second (same_set a c) (same_set b d) e) in cc
same_atom-is (t.within a b) (t.within c d) e = let x : a ≡ c = same_set-is a c (first (same_set a c) (same_set b d) e) in let y : b ≡ d = same_set-is b d (second (same_set a c) (same_set b d) e) in cc
same_atom-is (t.equal_num a b) (t.equal_num c d) e = let x : a ≡ c = same_num-is a c (first (same_num a c) (same_num b d) e) in let y : b ≡ d = same_num-is b d (second (same_num a c) (same_num b d) e) in cc
same_atom-is (t.less_num a b) (t.less_num c d) e = let x : a ≡ c = same_num-is a c (first (same_num a c) (same_num b d) e) in let y : b ≡ d = same_num-is b d (second (same_num a c) (same_num b d) e) in cc
same_atom-is (t.divides i a) (t.divides j c) e = let x : i ≡ j = constants i j (first (int_eq i j) (same_num a c) e) in let y : a ≡ c = same_num-is a c (second (int_eq i j) (same_num a c) e) in cc
same_atom-is _ _ e = cc
