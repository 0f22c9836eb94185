-- What a formula is at a node of a known shape, and its parts.
use Rattle.std.proofs.Common.{◌≡◌, refl, ap, subst, ◌∙◌, ℕ, ◌<◌, true, List, length, slice_get, Option, Some, Result, IfOk}
use Rattle.std.proofs.lemmas.Option.{slice_get_within}
use Rattle.jh_name.specs.declared.memory.NoMemory.{NoMemory}
use Rattle.jh_form.specs.Tree.{ValueTree, FormulaTree, TermTree, of_truth, of_object}
use Rattle.jh_form.specs.Tree as t
use Rattle.jh_arena.specs.table.Entries.{Pools, Listing, is_truth, the_truth, the_object, the_mark}
use Rattle.jh_arena.specs.table.Growth.{Extends}
use Rattle.jh_arena.specs.table.Nodes.{nodes, tree_in, fits_in, shape_tree}
use Rattle.jh_arena.specs.table.Parts.{own_parts, list_parts, ArePartsBelow}
use Rattle.jh_arena.specs.declared.table.shapes.Shape.{Shape}
use Rattle.jh_arena.specs.declared.table.shapes.Shape.TheVariants as s
use Rattle.jh_arena.proofs.table.Children.{it-is-truth}
use Rattle.jh_arena.proofs.table.PartSteps.{part-Negation-a, part-And-a, part-And-b, part-Or-a, part-Or-b, part-Implies-a, part-Implies-b, part-Iff-a, part-Iff-b, part-All-a, part-Ex-a, part-Mark-a}
use Rattle.jh_inst.specs.instances.Prenex.{Matrix}
use Rattle.jh_instantiation.specs.skolem_constants.Standing.{IsFormula, IsMatrix}
use Rattle.jh_instantiation.proofs.skolem_constants.Elses.{NoAnd, NoOr, NoAll, NoEx}

pub formula-same : (o : Option ValueTree) (a b : FormulaTree) → o ≡ Some (of_truth a) → o ≡ Some (of_truth b) → a ≡ b
formula-same o a b e f = cc

pub formula-there : (ts : List ValueTree) (n : ℕ) (a : FormulaTree) → slice_get ts n ≡ Some (of_truth a) → is_truth (slice_get ts n) ≡ true
unfolding is_truth
formula-there ts n a e = ap is_truth e

pub formula-at : (ts : List ValueTree) (n : ℕ) → is_truth (slice_get ts n) ≡ true → slice_get ts n ≡ Some (of_truth (the_truth (slice_get ts n)))
formula-at ts n h = it-is-truth (slice_get ts n) h

pub truth-inside : (ts : List ValueTree) (n : ℕ) → is_truth (slice_get ts n) ≡ true → n < length ts
truth-inside ts n h = slice_get_within ts n (of_truth (the_truth (slice_get ts n))) (formula-at ts n h)

pub formula-grows : (t u : Listing) (n : ℕ) (a : FormulaTree) → Extends t u → IsFormula t n a → IsFormula u n a
formula-grows t u n a g h = g.nodes.keeps n (of_truth a) h

pub truth-grows : (t u : Listing) (n : ℕ) → Extends t u → is_truth (slice_get (nodes t) n) ≡ true → is_truth (slice_get (nodes u) n) ≡ true
truth-grows t u n g h = formula-there (nodes u) n (the_truth (slice_get (nodes t) n)) (g.nodes.keeps n (of_truth (the_truth (slice_get (nodes t) n))) (formula-at (nodes t) n h))

-- the formula at a node whose shape is x
pub record Shaped (u : Listing) (n : ℕ) (x : Shape) : Type 0 where
  pub tree : slice_get (nodes u) n ≡ Some (tree_in u x)
  pub fits : fits_in u x ≡ true
  pub below : ArePartsBelow n u.pools.lists x

pub shaped : (u : Listing) (n : ℕ) (x y : Shape) → slice_get (nodes u) n ≡ Some (tree_in u x) → fits_in u x ≡ true → ArePartsBelow n u.pools.lists x → x ≡ y → Shaped u n y
shaped u n x y e h b is = subst (λ (z : Shape). Shaped u n z) is (record { tree = e; fits = h; below = b })

module _ (u : Listing) (n : ℕ) where
  pub record Two (make : FormulaTree → FormulaTree → FormulaTree) (l r : ℕ) : Type 0 where
    pub a : FormulaTree
    pub b : FormulaTree
    pub left : IsFormula u l a
    pub right : IsFormula u r b
    pub whole : IsFormula u n (make a b)
    pub first : l < n
    pub second : r < n

  pub record One (make : FormulaTree → FormulaTree) (l : ℕ) : Type 0 where
    pub a : FormulaTree
    pub left : IsFormula u l a
    pub whole : IsFormula u n (make a)
    pub first : l < n

  module _ (l r : ℕ) where
    pub and-parts : Shaped u n (s.And l r) → Two t.and l r
    unfolding shape_tree own_parts list_parts
    and-parts h = record {
      a = the_truth (slice_get (nodes u) l);
      b = the_truth (slice_get (nodes u) r);
      left = formula-at (nodes u) l (part-And-a u.pools (nodes u) l r h.fits);
      right = formula-at (nodes u) r (part-And-b u.pools (nodes u) l r h.fits);
      whole = h.tree;
      first = h.below.below 0 l refl;
      second = h.below.below 1 r refl;
    }

    pub or-parts : Shaped u n (s.Or l r) → Two t.or l r
    unfolding shape_tree own_parts list_parts
    or-parts h = record {
      a = the_truth (slice_get (nodes u) l);
      b = the_truth (slice_get (nodes u) r);
      left = formula-at (nodes u) l (part-Or-a u.pools (nodes u) l r h.fits);
      right = formula-at (nodes u) r (part-Or-b u.pools (nodes u) l r h.fits);
      whole = h.tree;
      first = h.below.below 0 l refl;
      second = h.below.below 1 r refl;
    }

    pub implies-parts : Shaped u n (s.Implies l r) → Two t.implies l r
    unfolding shape_tree own_parts list_parts
    implies-parts h = record {
      a = the_truth (slice_get (nodes u) l);
      b = the_truth (slice_get (nodes u) r);
      left = formula-at (nodes u) l (part-Implies-a u.pools (nodes u) l r h.fits);
      right = formula-at (nodes u) r (part-Implies-b u.pools (nodes u) l r h.fits);
      whole = h.tree;
      first = h.below.below 0 l refl;
      second = h.below.below 1 r refl;
    }

    pub iff-parts : Shaped u n (s.Iff l r) → Two t.iff l r
    unfolding shape_tree own_parts list_parts
    iff-parts h = record {
      a = the_truth (slice_get (nodes u) l);
      b = the_truth (slice_get (nodes u) r);
      left = formula-at (nodes u) l (part-Iff-a u.pools (nodes u) l r h.fits);
      right = formula-at (nodes u) r (part-Iff-b u.pools (nodes u) l r h.fits);
      whole = h.tree;
      first = h.below.below 0 l refl;
      second = h.below.below 1 r refl;
    }

  module _ (l : ℕ) where
    pub negation-part : Shaped u n (s.Negation l) → One t.negation l
    unfolding shape_tree own_parts list_parts
    negation-part h = record {
      a = the_truth (slice_get (nodes u) l);
      left = formula-at (nodes u) l (part-Negation-a u.pools (nodes u) l h.fits);
      whole = h.tree;
      first = h.below.below 0 l refl;
    }

    pub all-part : Shaped u n (s.All l) → One t.all l
    unfolding shape_tree own_parts list_parts
    all-part h = record {
      a = the_truth (slice_get (nodes u) l);
      left = formula-at (nodes u) l (part-All-a u.pools (nodes u) l h.fits);
      whole = h.tree;
      first = h.below.below 0 l refl;
    }

    pub ex-part : Shaped u n (s.Ex l) → One t.ex l
    unfolding shape_tree own_parts list_parts
    ex-part h = record {
      a = the_truth (slice_get (nodes u) l);
      left = formula-at (nodes u) l (part-Ex-a u.pools (nodes u) l h.fits);
      whole = h.tree;
      first = h.below.below 0 l refl;
    }

    pub mark-part : (m : ℕ) → Shaped u n (s.Mark m l) → One (t.mark (the_mark (slice_get u.pools.marks m))) l
    unfolding shape_tree own_parts list_parts
    mark-part m h = record {
      a = the_truth (slice_get (nodes u) l);
      left = formula-at (nodes u) l (part-Mark-a u.pools (nodes u) m l h.fits);
      whole = h.tree;
      first = h.below.below 0 l refl;
    }

pub truth-at : (o : Option ValueTree) (a : FormulaTree) → o ≡ Some (of_truth a) → the_truth o ≡ a
unfolding the_truth
truth-at o a e = ap the_truth e

pub object-at : (o : Option ValueTree) (a : TermTree) → o ≡ Some (of_object a) → the_object o ≡ a
unfolding the_object
object-at o a e = ap the_object e

pub matrix-grows : (t u : Listing) (n b : ℕ) (m : Matrix) → Extends t u → IsMatrix t n b m → IsMatrix u n b m
matrix-grows t u n b m g h = record { variables = h.variables; body = g.nodes.keeps b (of_truth m.body) h.body }

-- what is said of the formula at a node holds of each formula that it is
pub at-formula : {R : Type 0} (P : FormulaTree → R → Type 0) (r : Result R NoMemory) (o : Option ValueTree) (a b : FormulaTree) → o ≡ Some (of_truth a) → o ≡ Some (of_truth b) → IfOk r (P b) → IfOk r (P a)
at-formula P r o a b e f h = subst (λ (z : FormulaTree). IfOk r (P z)) (formula-same o b a f e) h

-- what is said of an answer with one thing holds with an equal one
pub as-ok : {R X : Type 0} {x y : X} (P : X → R → Type 0) (r : Result R NoMemory) → x ≡ y → IfOk r (P x) → IfOk r (P y)
as-ok P r e h = subst (λ z. IfOk r (P z)) e h

-- a formula whose node has another shape
module _ (p : Pools) (ts : List ValueTree) where
  pub no-and : (x : Shape) (a b : FormulaTree) → ((l r : ℕ) → x ≡ s.And l r → ⊥) → shape_tree p ts x ≡ of_truth (t.and a b) → ⊥
  unfolding shape_tree
  no-and (s.And l r) a b h e = h l r refl
  no-and _ a b h e = cc

  pub no-or : (x : Shape) (a b : FormulaTree) → ((l r : ℕ) → x ≡ s.Or l r → ⊥) → shape_tree p ts x ≡ of_truth (t.or a b) → ⊥
  unfolding shape_tree
  no-or (s.Or l r) a b h e = h l r refl
  no-or _ a b h e = cc

  pub no-all : (x : Shape) (a : FormulaTree) → ((l : ℕ) → x ≡ s.All l → ⊥) → shape_tree p ts x ≡ of_truth (t.all a) → ⊥
  unfolding shape_tree
  no-all (s.All l) a h e = h l refl
  no-all _ a h e = cc

  pub no-ex : (x : Shape) (a : FormulaTree) → ((l : ℕ) → x ≡ s.Ex l → ⊥) → shape_tree p ts x ≡ of_truth (t.ex a) → ⊥
  unfolding shape_tree
  no-ex (s.Ex l) a h e = h l refl
  no-ex _ a h e = cc

  pub no-negation : (x : Shape) (a : FormulaTree) → ((l : ℕ) → x ≡ s.Negation l → ⊥) → shape_tree p ts x ≡ of_truth (t.negation a) → ⊥
  unfolding shape_tree
  no-negation (s.Negation l) a h e = h l refl
  no-negation _ a h e = cc

-- a node of another shape is no such formula
module _ (u : Listing) (n : ℕ) (x : Shape) (a : FormulaTree) (e : slice_get (nodes u) n ≡ Some (tree_in u x)) (f : IsFormula u n a) where
  pub tree-is : tree_in u x ≡ of_truth a
  tree-is = value-same (slice_get (nodes u) n) (tree_in u x) (of_truth a) e f
    where
      value-same : (o : Option ValueTree) (v w : ValueTree) → o ≡ Some v → o ≡ Some w → v ≡ w
      value-same o v w g h = cc

  pub not-and : ((l r : ℕ) → x ≡ s.And l r → ⊥) → NoAnd a
  not-and h = λ b c is. no-and u.pools (nodes u) x b c h (tree-is ∙ ap of_truth is)

  pub not-or : ((l r : ℕ) → x ≡ s.Or l r → ⊥) → NoOr a
  not-or h = λ b c is. no-or u.pools (nodes u) x b c h (tree-is ∙ ap of_truth is)

  pub not-all : ((l : ℕ) → x ≡ s.All l → ⊥) → NoAll a
  not-all h = λ b is. no-all u.pools (nodes u) x b h (tree-is ∙ ap of_truth is)

  pub not-ex : ((l : ℕ) → x ≡ s.Ex l → ⊥) → NoEx a
  not-ex h = λ b is. no-ex u.pools (nodes u) x b h (tree-is ∙ ap of_truth is)
