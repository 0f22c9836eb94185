-- What terms weigh, up to the greatest count.
use Rattle.std.proofs.Common.{◌≡◌, refl, sym, ap, ◌∙◌, ℕ, ◌+◌, arith, List, [], ◌∷◌, ◌++◌, slice_get, Some}
use Rattle.jh_form.specs.Tree.{ValueTree, TermTree, IntTree, SetTree, FieldTree, FormulaTree, of_object, of_truth}
use Rattle.jh_form.specs.Tree as t
use Rattle.jh_arena.specs.table.Entries.{Listing, Pools}
use Rattle.jh_arena.specs.table.Nodes.{nodes, shape_tree, tree_in}
use Rattle.jh_arena.specs.declared.table.shapes.Shape.{Shape}
use Rattle.jh_arena.specs.declared.table.shapes.Shape.TheVariants as s
use Rattle.jh_query.specs.queries.Size.{capped}
use Rattle.jh_query.proofs.queries.Ceilings.{plus-capped, fits-capped}
use Rattle.jh_inst.specs.instances.Count.{total, term_weight, weight}
use Rattle.jh_inst.specs.instances.Terms.{terms_in}
use Rattle.jh_instantiation.specs.skolem_constants.Standing.{IsFormula, IsTerm}
use Rattle.jh_instantiation.proofs.skolem_constants.Elses.{NoAnd, NoOr, NoAll, NoEx}
use Rattle.jh_instantiation.proofs.skolem_constants.Shapes.{Shaped, no-negation}
use Rattle.jh_instantiation.proofs.closed_terms.Shapes.{object-of, value-same}
use Rattle.jh_instantiation.specs.instance_count.Atoms.{atom_terms}

-- the numbers of two lists
pub total-both : {X : Type 0} (f : X → ℕ) (xs ys : List X) → total f (xs ++ ys) ≡ total f xs + total f ys
total-both f [] ys = omega arith
total-both f (x ∷ xs) ys = let more : total f (xs ++ ys) ≡ total f xs + total f ys = total-both f xs ys in omega (arith, more)

pub nothing-weighs : 0 ≡ capped 0
nothing-weighs = fits-capped 0 (omega arith)

pub bound-at : (u : Listing) (n k : ℕ) (a : TermTree) → Shaped u n (s.Bound k) → IsTerm u n a → a ≡ t.bound k
unfolding shape_tree
bound-at u n k a h e = object-of (slice_get (nodes u) n) a (t.bound k) e h.tree

pub no-bound : (p : Pools) (ts : List ValueTree) (x : Shape) (k : ℕ) → ((n : ℕ) → x ≡ s.Bound n → ⊥) → shape_tree p ts x ≡ of_object (t.bound k) → ⊥
unfolding shape_tree
no-bound p ts (s.Bound n) k h e = h n refl
no-bound p ts _ k h e = cc

-- the terms of a tree, where it is an atom
abbrev pub terms_of_atom : ValueTree → List TermTree
terms_of_atom (of_truth a) = atom_terms a
terms_of_atom _ = []

-- the shape is none of an atom that has terms for objects
pub record IsOther (x : Shape) : Type 0 where
  pub read : (f a : ℕ) → x ≡ s.ReadTruth f a → ⊥
  pub objects : (a b : ℕ) → x ≡ s.EqObject a b → ⊥
  pub numbers : (a b : ℕ) → x ≡ s.EqNumber a b → ⊥
  pub member : (a b : ℕ) → x ≡ s.Member a b → ⊥
  pub reach : (l a b : ℕ) → x ≡ s.Reach l a b → ⊥

pub other-terms : (p : Pools) (ts : List ValueTree) (x : Shape) → IsOther x → terms_of_atom (shape_tree p ts x) ≡ []
unfolding shape_tree
other-terms p ts (s.ReadTruth f a) h = absurd (h.read f a refl)
other-terms p ts (s.EqObject a b) h = absurd (h.objects a b refl)
other-terms p ts (s.EqNumber a b) h = absurd (h.numbers a b refl)
other-terms p ts (s.Member a b) h = absurd (h.member a b refl)
other-terms p ts (s.Reach l a b) h = absurd (h.reach l a b refl)
other-terms p ts _ h = refl

abbrev pub NoNegation : FormulaTree → Type 0
NoNegation a = (x : FormulaTree) → a ≡ t.negation x → ⊥

pub not-negation : (u : Listing) (n : ℕ) (x : Shape) (a : FormulaTree) → slice_get (nodes u) n ≡ Some (tree_in u x) → IsFormula u n a → ((l : ℕ) → x ≡ s.Negation l → ⊥) → NoNegation a
not-negation u n x a e f h = λ b is. no-negation u.pools (nodes u) x b h (value-same (slice_get (nodes u) n) (tree_in u x) (of_truth a) e f ∙ ap of_truth is)

module _ (n : ℕ) (powers : List ℕ) where
  -- a read weighs what the term inside it weighs, once more
  pub read-weighs : (r x y : ℕ) (a b : TermTree) (f : FieldTree) → a ≡ t.read_object f b → r ≡ capped (x + y) → x ≡ capped (term_weight n powers b) → y ≡ capped (total (term_weight n powers) (terms_in b)) → r ≡ capped (total (term_weight n powers) (terms_in a))
  read-weighs r x y a b f is e g h = plus-capped r x y (term_weight n powers b) (total (term_weight n powers) (terms_in b)) e g h ∙ ap (λ z. capped (total (term_weight n powers) (terms_in z))) (sym is)

  -- a term that is no read weighs what it weighs alone
  alone-weighs : (a : TermTree) → ((f : FieldTree) (b : TermTree) → a ≡ t.read_object f b → ⊥) → total (term_weight n powers) (terms_in a) ≡ term_weight n powers a
  alone-weighs (t.read_object f b) h = absurd (h f b refl)
  alone-weighs (t.bound k) h = omega arith
  alone-weighs (t.free_object x) h = refl
  alone-weighs t.null h = refl

  pub no-weight : (a : TermTree) → ((f : FieldTree) (b : TermTree) → a ≡ t.read_object f b → ⊥) → ((k : ℕ) → a ≡ t.bound k → ⊥) → term_weight n powers a ≡ 0
  no-weight (t.read_object f b) h g = absurd (h f b refl)
  no-weight (t.bound k) h g = absurd (g k refl)
  no-weight _ h g = refl

  pub no-weights : (a : TermTree) → ((f : FieldTree) (b : TermTree) → a ≡ t.read_object f b → ⊥) → ((k : ℕ) → a ≡ t.bound k → ⊥) → total (term_weight n powers) (terms_in a) ≡ 0
  no-weights a h g = alone-weighs a h ∙ no-weight a h g

  one-bound : (k : ℕ) → term_weight n powers (t.bound k) ≡ total (term_weight n powers) (terms_in (t.bound k))
  one-bound k = omega arith

  pub bound-weighs : (r k : ℕ) (a : TermTree) → a ≡ t.bound k → r ≡ capped (term_weight n powers (t.bound k)) → r ≡ capped (total (term_weight n powers) (terms_in a))
  bound-weighs r k a is e = e ∙ ap capped (one-bound k) ∙ ap (λ z. capped (total (term_weight n powers) (terms_in z))) (sym is)

  pub two-weigh : (r x y : ℕ) (xs ys : List TermTree) → r ≡ capped (x + y) → x ≡ capped (total (term_weight n powers) xs) → y ≡ capped (total (term_weight n powers) ys) → r ≡ capped (total (term_weight n powers) (xs ++ ys))
  two-weigh r x y xs ys e f g = plus-capped r x y (total (term_weight n powers) xs) (total (term_weight n powers) ys) e f g ∙ ap capped (sym (total-both (term_weight n powers) xs ys))

  -- a formula without a connective and without a quantifier in front weighs what its terms weigh
  pub weight-else : (a : FormulaTree) (m : ℕ) → NoNegation a → NoAnd a → NoOr a → NoAll a → NoEx a → weight n a powers m ≡ total (term_weight n powers) (atom_terms a)
  weight-else (t.negation x) m d e f g h = absurd (d x refl)
  weight-else (t.and x y) m d e f g h = absurd (e x y refl)
  weight-else (t.or x y) m d e f g h = absurd (f x y refl)
  weight-else (t.all x) m d e f g h = absurd (g x refl)
  weight-else (t.ex x) m d e f g h = absurd (h x refl)
  weight-else _ m d e f g h = refl
