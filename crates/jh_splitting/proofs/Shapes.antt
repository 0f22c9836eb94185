-- What a formula is at a node of a known shape, and its parts.
use Rattle.std.proofs.Common.{◌≡◌, refl, sym, ap, subst, ℕ, ◌<◌, true, List, length, slice_get, Option, Some, None, is_some}
use Rattle.std.proofs.lemmas.Bool.{true≢false}
use Rattle.std.proofs.lemmas.Option.{slice_get_within}
use Rattle.jh_form.specs.declared.mark.Mark.{Mark}
use Rattle.jh_form.specs.Tree.{ValueTree, FormulaTree, of_truth}
use Rattle.jh_form.specs.Tree as t
use Rattle.jh_arena.specs.table.Entries.{Listing, is_truth, the_truth, the_mark, the_list, fields_at}
use Rattle.jh_arena.specs.table.Nodes.{nodes, tree_in, fits_in, shape_tree}
use Rattle.jh_arena.specs.declared.table.shapes.Shape.{Shape}
use Rattle.jh_arena.specs.declared.table.shapes.Shape.TheVariants as s
use Rattle.jh_arena.proofs.table.Children.{it-is-truth}
use Rattle.jh_arena.proofs.table.PartSteps.{part-And-a, part-And-b, part-Implies-a, part-Implies-b, part-Iff-a, part-Iff-b, part-All-a, part-Ex-a, part-Mark-m, part-Mark-a}
use Rattle.jh_splitting.specs.Standing.{IsFormula, IsLabel}

pub formula-same : (o : Option ValueTree) (a b : FormulaTree) → o ≡ Some (of_truth a) → o ≡ Some (of_truth b) → a ≡ b
formula-same o a b e f = cc

pub formula-there : (ts : List ValueTree) (n : ℕ) (a : FormulaTree) → slice_get ts n ≡ Some (of_truth a) → is_truth (slice_get ts n) ≡ true
unfolding is_truth
formula-there ts n a e = ap is_truth e

truth-some : (o : Option ValueTree) → is_truth o ≡ true → (v : ValueTree) × (o ≡ Some v)
unfolding is_truth
truth-some (Some v) h = (v, refl)
truth-some None h = absurd (true≢false (sym h))

pub truth-inside : (ts : List ValueTree) (n : ℕ) → is_truth (slice_get ts n) ≡ true → n < length ts
truth-inside ts n h = let v = truth-some (slice_get ts n) h in slice_get_within ts n v.0 v.1

mark-some : (o : Option Mark) → is_some o ≡ true → o ≡ Some (the_mark o)
unfolding the_mark
mark-some (Some m) h = refl
mark-some None h = absurd (true≢false (sym h))

-- the formula at a node whose shape is x
abbrev pub Shaped : Listing → ℕ → Shape → Type 0
Shaped u n x = (slice_get (nodes u) n ≡ Some (tree_in u x)) × (fits_in u x ≡ true)

pub shaped : (u : Listing) (n : ℕ) (x y : Shape) → slice_get (nodes u) n ≡ Some (tree_in u x) → fits_in u x ≡ true → x ≡ y → Shaped u n y
shaped u n x y e h is = subst (λ (z : Shape). Shaped u n z) is (e, h)

module _ (u : Listing) (n : ℕ) where
  abbrev Two : (FormulaTree → FormulaTree → FormulaTree) → ℕ → ℕ → Type 0
  Two make l r = (a : FormulaTree) × (b : FormulaTree) × IsFormula u l a × IsFormula u r b × IsFormula u n (make a b)

  abbrev One : (FormulaTree → FormulaTree) → ℕ → Type 0
  One make l = (a : FormulaTree) × IsFormula u l a × IsFormula u n (make a)

  pub and-parts : (l r : ℕ) → Shaped u n (s.And l r) → Two t.and l r
  unfolding shape_tree
  and-parts l r h = (the_truth (slice_get (nodes u) l), the_truth (slice_get (nodes u) r), it-is-truth (slice_get (nodes u) l) (part-And-a u.pools (nodes u) l r h.1), it-is-truth (slice_get (nodes u) r) (part-And-b u.pools (nodes u) l r h.1), h.0)

  pub implies-parts : (l r : ℕ) → Shaped u n (s.Implies l r) → Two t.implies l r
  unfolding shape_tree
  implies-parts l r h = (the_truth (slice_get (nodes u) l), the_truth (slice_get (nodes u) r), it-is-truth (slice_get (nodes u) l) (part-Implies-a u.pools (nodes u) l r h.1), it-is-truth (slice_get (nodes u) r) (part-Implies-b u.pools (nodes u) l r h.1), h.0)

  pub iff-parts : (l r : ℕ) → Shaped u n (s.Iff l r) → Two t.iff l r
  unfolding shape_tree
  iff-parts l r h = (the_truth (slice_get (nodes u) l), the_truth (slice_get (nodes u) r), it-is-truth (slice_get (nodes u) l) (part-Iff-a u.pools (nodes u) l r h.1), it-is-truth (slice_get (nodes u) r) (part-Iff-b u.pools (nodes u) l r h.1), h.0)

  pub all-part : (l : ℕ) → Shaped u n (s.All l) → One t.all l
  unfolding shape_tree
  all-part l h = (the_truth (slice_get (nodes u) l), it-is-truth (slice_get (nodes u) l) (part-All-a u.pools (nodes u) l h.1), h.0)

  pub ex-part : (l : ℕ) → Shaped u n (s.Ex l) → One t.ex l
  unfolding shape_tree
  ex-part l h = (the_truth (slice_get (nodes u) l), it-is-truth (slice_get (nodes u) l) (part-Ex-a u.pools (nodes u) l h.1), h.0)

  pub mark-part : (m l : ℕ) → Shaped u n (s.Mark m l) → (k : Mark) × (a : FormulaTree) × IsLabel u (Some m) (Some k) × IsFormula u l a × IsFormula u n (t.mark k a)
  unfolding shape_tree
  mark-part m l h = (the_mark (slice_get u.pools.marks m), the_truth (slice_get (nodes u) l), mark-some (slice_get u.pools.marks m) (part-Mark-m u.pools (nodes u) m l h.1), it-is-truth (slice_get (nodes u) l) (part-Mark-a u.pools (nodes u) m l h.1), h.0)

  pub true-is : Shaped u n s.True → IsFormula u n t.true_formula
  unfolding shape_tree
  true-is h = h.0

  pub tree-is : (l : ℕ) → Shaped u n (s.Tree l) → IsFormula u n (t.tree (fields_at (nodes u) (the_list (slice_get u.pools.lists l))))
  unfolding shape_tree
  tree-is l h = h.0
