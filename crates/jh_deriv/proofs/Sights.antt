-- What is refuted at sight, at nodes.
use Rattle.std.proofs.Common.{◌≡◌, refl, sym, ap, subst, ◌∙◌, ◌↔◌, ℕ, ℤ, true, false, ◌&&◌, IsTrue, nat_eq, List, slice_get, Option, Some}
use Rattle.std.proofs.lemmas.Bool.{true≢false, eqb-true, eq-eqb}
use Rattle.jh_form.specs.Tree.{ValueTree, IntTree, FormulaTree, of_object, of_number, of_truth, of_set}
use Rattle.jh_form.specs.Tree as t
use Rattle.jh_arena.specs.table.Entries.{Pools, Listing, is_number, the_object, the_number, the_truth, the_set}
use Rattle.jh_arena.specs.table.Growth.{AreDifferent}
use Rattle.jh_arena.specs.table.Nodes.{nodes, fits_in, tree_in, shape_tree}
use Rattle.jh_arena.specs.declared.table.shapes.Shape.{Shape}
use Rattle.jh_arena.specs.declared.table.shapes.Shape.TheVariants as s
use Rattle.jh_arena.proofs.table.Children.{it-is-object, it-is-number, it-is-truth, it-is-set}
use Rattle.jh_arena.proofs.table.PartSteps.{part-EqObject-a, part-EqObject-b, part-EqNumber-a, part-EqNumber-b, part-Iff-a, part-Iff-b, part-EqSet-a, part-EqSet-b}
use Rattle.jh_derivation_rules.specs.Rules.{IsRefuted}
use Rattle.jh_derivation_steps.specs.premises.Nodes.{formula_at, number_at, IsNumber}
use Rattle.jh_deriv.specs.Replays.{IsItself, AreApart, is_const}

-- Two nodes of one sort are one exactly where what stands at them is.
one-node : {V : Type 0} (wrap : V → ValueTree) (the : Option ValueTree → V) (ts : List ValueTree) → AreDifferent ts → (a b : ℕ) → slice_get ts a ≡ Some (wrap (the (slice_get ts a))) → slice_get ts b ≡ Some (wrap (the (slice_get ts b))) → IsTrue (nat_eq a b) ↔ (the (slice_get ts a) ≡ the (slice_get ts b))
one-node wrap the ts different a b h k =
    ((λ one. ap (λ n. the (slice_get ts n)) (eqb-true a b one)), (λ e. eq-eqb a b (different a b (wrap (the (slice_get ts b))) (h ∙ ap (λ v. Some (wrap v)) e) k)))

-- The sides of an equation are one exactly where their nodes are.
module _ (u : Listing) (different : AreDifferent (nodes u)) (node a b : ℕ) where
  pub itself-object : slice_get (nodes u) node ≡ Some (tree_in u (s.EqObject a b)) → fits_in u (s.EqObject a b) ≡ true → IsTrue (nat_eq a b) ↔ IsItself (formula_at (nodes u) node)
  unfolding shape_tree the_truth
  itself-object tree fits =
      let ts = nodes u in
      let one = one-node of_object the_object ts different a b (it-is-object (slice_get ts a) (part-EqObject-a u.pools ts a b fits)) (it-is-object (slice_get ts b) (part-EqObject-b u.pools ts a b fits)) in
      subst (λ (z : FormulaTree). IsTrue (nat_eq a b) ↔ IsItself z) (sym (ap the_truth tree)) one

  pub itself-number : slice_get (nodes u) node ≡ Some (tree_in u (s.EqNumber a b)) → fits_in u (s.EqNumber a b) ≡ true → IsTrue (nat_eq a b) ↔ IsItself (formula_at (nodes u) node)
  unfolding shape_tree the_truth
  itself-number tree fits =
      let ts = nodes u in
      let one = one-node of_number the_number ts different a b (it-is-number (slice_get ts a) (part-EqNumber-a u.pools ts a b fits)) (it-is-number (slice_get ts b) (part-EqNumber-b u.pools ts a b fits)) in
      subst (λ (z : FormulaTree). IsTrue (nat_eq a b) ↔ IsItself z) (sym (ap the_truth tree)) one

  pub itself-truth : slice_get (nodes u) node ≡ Some (tree_in u (s.Iff a b)) → fits_in u (s.Iff a b) ≡ true → IsTrue (nat_eq a b) ↔ IsItself (formula_at (nodes u) node)
  unfolding shape_tree the_truth
  itself-truth tree fits =
      let ts = nodes u in
      let one = one-node of_truth the_truth ts different a b (it-is-truth (slice_get ts a) (part-Iff-a u.pools ts a b fits)) (it-is-truth (slice_get ts b) (part-Iff-b u.pools ts a b fits)) in
      subst (λ (z : FormulaTree). IsTrue (nat_eq a b) ↔ IsItself z) (sym (ap the_truth tree)) one

  pub itself-set : slice_get (nodes u) node ≡ Some (tree_in u (s.EqSet a b)) → fits_in u (s.EqSet a b) ≡ true → IsTrue (nat_eq a b) ↔ IsItself (formula_at (nodes u) node)
  unfolding shape_tree the_truth
  itself-set tree fits =
      let ts = nodes u in
      let one = one-node of_set the_set ts different a b (it-is-set (slice_get ts a) (part-EqSet-a u.pools ts a b fits)) (it-is-set (slice_get ts b) (part-EqSet-b u.pools ts a b fits)) in
      subst (λ (z : FormulaTree). IsTrue (nat_eq a b) ↔ IsItself z) (sym (ap the_truth tree)) one

pub itself-none : (p : Pools) (ts : List ValueTree) (x : Shape) → ((a b : ℕ) → x ≡ s.EqObject a b → ⊥) → ((a b : ℕ) → x ≡ s.EqNumber a b → ⊥) → ((a b : ℕ) → x ≡ s.Iff a b → ⊥) → ((a b : ℕ) → x ≡ s.EqSet a b → ⊥) → IsItself (the_truth (Some (shape_tree p ts x))) → ⊥
unfolding shape_tree the_truth
itself-none p ts (s.EqObject a b) h0 h1 h2 h3 h = h0 a b refl
itself-none p ts (s.EqNumber a b) h0 h1 h2 h3 h = h1 a b refl
itself-none p ts (s.Iff a b) h0 h1 h2 h3 h = h2 a b refl
itself-none p ts (s.EqSet a b) h0 h1 h2 h3 h = h3 a b refl
itself-none p ts _ h0 h1 h2 h3 h = h

pub refuted-none : (p : Pools) (ts : List ValueTree) (x : Shape) → ((a : ℕ) → x ≡ s.Negation a → ⊥) → ((a b : ℕ) → x ≡ s.EqNumber a b → ⊥) → IsRefuted (the_truth (Some (shape_tree p ts x))) → ⊥
unfolding shape_tree the_truth
refuted-none p ts (s.Negation a) h0 h1 h = h0 a refl
refuted-none p ts (s.EqNumber a b) h0 h1 h = h1 a b refl
refuted-none p ts _ h0 h1 h = h

-- the negation of what is itself
pub refuted-itself : (a : FormulaTree) → IsItself a → IsRefuted (t.negation a)
refuted-itself (t.eq_object a b) h = h
refuted-itself (t.eq_number a b) h = h
refuted-itself (t.iff a b) h = h
refuted-itself (t.eq_set a b) h = h
refuted-itself _ h = h

pub itself-refuted : (a : FormulaTree) → IsRefuted (t.negation a) → IsItself a
itself-refuted (t.eq_object a b) h = h
itself-refuted (t.eq_number a b) h = h
itself-refuted (t.iff a b) h = h
itself-refuted (t.eq_set a b) h = h
itself-refuted _ h = h

-- two constants
pub refuted-apart : (a b : IntTree) → AreApart a b → IsRefuted (t.eq_number a b)
refuted-apart (t.const y) (t.const z) h = h
refuted-apart (t.const y) _ h = absurd h
refuted-apart _ b h = absurd h

pub apart-refuted : (a b : IntTree) → IsRefuted (t.eq_number a b) → AreApart a b
apart-refuted (t.const y) (t.const z) h = h
apart-refuted (t.const y) _ h = absurd h
apart-refuted _ b h = absurd h

pub const-none : (p : Pools) (ts : List ValueTree) (x : Shape) → is_number (Some (shape_tree p ts x)) ≡ true → ((z : ℤ) → x ≡ s.Const z → ⊥) → is_const (the_number (Some (shape_tree p ts x))) ≡ false
unfolding shape_tree the_number is_number is_const
const-none p ts (s.Const z) k h = absurd (h z refl)
const-none p ts (s.FreeNumber n) k h = refl
const-none p ts (s.ReadNumber a b) k h = refl
const-none p ts (s.Add a b) k h = refl
const-none p ts (s.Sub a b) k h = refl
const-none p ts (s.Neg a) k h = refl
const-none p ts (s.Scale z a) k h = refl
const-none p ts (s.Card a) k h = refl
const-none p ts _ k h = absurd (true≢false (sym k))

both-const : (a b : IntTree) → (is_const a && is_const b) ≡ true → (a ≡ b → ⊥) → AreApart a b
unfolding is_const
both-const (t.const y) (t.const z) both ne = λ e. ne (ap t.const e)
both-const (t.const y) _ both ne = absurd (true≢false (sym both))
both-const _ b both ne = absurd (true≢false (sym both))

const-both : (a b : IntTree) → AreApart a b → (is_const a && is_const b) ≡ true
unfolding is_const
const-both (t.const y) (t.const z) h = refl
const-both (t.const y) _ h = absurd h
const-both _ b h = absurd h

not-apart : (a : IntTree) → AreApart a a → ⊥
not-apart (t.const y) h = h refl
not-apart _ h = h

-- two constants at one node, and at two
pub apart-one : (ts : List ValueTree) (a b : ℕ) → a ≡ b → AreApart (number_at ts a) (number_at ts b) → ⊥
apart-one ts a b one h = not-apart (number_at ts b) (subst (λ (n : ℕ). AreApart (number_at ts n) (number_at ts b)) one h)

pub apart-two : (ts : List ValueTree) → AreDifferent ts → (a b : ℕ) → IsNumber ts a → IsNumber ts b → (a ≡ b → ⊥) → ((is_const (number_at ts a) && is_const (number_at ts b)) ≡ true) ↔ AreApart (number_at ts a) (number_at ts b)
apart-two ts different a b ha hb two = (
  (λ both. both-const (number_at ts a) (number_at ts b) both (λ e. two (different a b (of_number (number_at ts b)) (ha ∙ ap (λ v. Some (of_number v)) e) hb))),
  const-both (number_at ts a) (number_at ts b),
)

-- what is refuted, at a node of a known shape
module _ (u : Listing) (node : ℕ) where
  pub refuted-negation : (a : ℕ) → slice_get (nodes u) node ≡ Some (tree_in u (s.Negation a)) → (IsItself (formula_at (nodes u) a) → IsRefuted (formula_at (nodes u) node)) × (IsRefuted (formula_at (nodes u) node) → IsItself (formula_at (nodes u) a))
  unfolding shape_tree the_truth
  refuted-negation a tree = (
    λ h. subst (λ (z : FormulaTree). IsRefuted z) (sym (ap the_truth tree)) (refuted-itself (formula_at (nodes u) a) h),
    λ h. itself-refuted (formula_at (nodes u) a) (subst (λ (z : FormulaTree). IsRefuted z) (ap the_truth tree) h),
  )

  pub refuted-numbers : (a b : ℕ) → slice_get (nodes u) node ≡ Some (tree_in u (s.EqNumber a b)) → (AreApart (number_at (nodes u) a) (number_at (nodes u) b) → IsRefuted (formula_at (nodes u) node)) × (IsRefuted (formula_at (nodes u) node) → AreApart (number_at (nodes u) a) (number_at (nodes u) b))
  unfolding shape_tree the_truth
  refuted-numbers a b tree = (
    λ h. subst (λ (z : FormulaTree). IsRefuted z) (sym (ap the_truth tree)) (refuted-apart (number_at (nodes u) a) (number_at (nodes u) b) h),
    λ h. apart-refuted (number_at (nodes u) a) (number_at (nodes u) b) (subst (λ (z : FormulaTree). IsRefuted z) (ap the_truth tree) h),
  )
