-- Terms at nodes of a known shape, and those that formulas have.
use Rattle.std.proofs.Common.{◌≡◌, refl, sym, ap, ◌∙◌, ℕ, ◌<◌, true, List, [], ◌∷◌, length, slice_get, Option, Some}
use Rattle.std.proofs.lemmas.Option.{slice_get_within}
use Rattle.jh_form.specs.Tree.{TermTree, IntTree, SetTree, FieldTree, FormulaTree, ValueTree, of_object, of_number, of_set, of_truth}
use Rattle.jh_form.specs.Tree as t
use Rattle.jh_form.specs.Closed.{is_closed_value, is_closed_term}
use Rattle.jh_arena.specs.table.Entries.{Listing, Pools, is_object, is_number, is_set, the_object, the_number, the_set, the_field, the_value, the_list, fields_at}
use Rattle.jh_arena.specs.table.Nodes.{nodes, shape_tree}
use Rattle.jh_arena.specs.table.Parts.{own_parts, list_parts}
use Rattle.jh_arena.specs.declared.table.shapes.Shape.{Shape}
use Rattle.jh_arena.specs.declared.table.shapes.Shape.TheVariants as s
use Rattle.jh_arena.proofs.table.Children.{it-is-object, it-is-number, it-is-set}
use Rattle.jh_arena.proofs.table.PartSteps.{part-ReadObject-b, part-ReadNumber-b, part-ReadSet-b, part-ReadTruth-b, part-EqObject-a, part-EqObject-b, part-EqNumber-a, part-EqNumber-b, part-Member-a, part-Member-b, part-Reach-a, part-Reach-b}
use Rattle.jh_inst.specs.instances.Terms.{terms_in, number_terms, set_terms, object_terms}
use Rattle.jh_instantiation.proofs.skolem_constants.Shapes.{Shaped}

pub object-inside : (ts : List ValueTree) (n : ℕ) → is_object (slice_get ts n) ≡ true → n < length ts
object-inside ts n h = slice_get_within ts n (of_object (the_object (slice_get ts n))) (it-is-object (slice_get ts n) h)

pub number-inside : (ts : List ValueTree) (n : ℕ) → is_number (slice_get ts n) ≡ true → n < length ts
number-inside ts n h = slice_get_within ts n (of_number (the_number (slice_get ts n))) (it-is-number (slice_get ts n) h)

pub set-inside : (ts : List ValueTree) (n : ℕ) → is_set (slice_get ts n) ≡ true → n < length ts
set-inside ts n h = slice_get_within ts n (of_set (the_set (slice_get ts n))) (it-is-set (slice_get ts n) h)

pub object-there : (ts : List ValueTree) (n : ℕ) (a : TermTree) → slice_get ts n ≡ Some (of_object a) → is_object (slice_get ts n) ≡ true
unfolding is_object
object-there ts n a e = ap is_object e

pub number-there : (ts : List ValueTree) (n : ℕ) (a : IntTree) → slice_get ts n ≡ Some (of_number a) → is_number (slice_get ts n) ≡ true
unfolding is_number
number-there ts n a e = ap is_number e

pub set-there : (ts : List ValueTree) (n : ℕ) (a : SetTree) → slice_get ts n ≡ Some (of_set a) → is_set (slice_get ts n) ≡ true
unfolding is_set
set-there ts n a e = ap is_set e

pub closed-object : (o : Option ValueTree) (a : TermTree) → o ≡ Some (of_object a) → is_closed_value (the_value o) 0 ≡ is_closed_term a 0
unfolding the_value is_closed_value
closed-object o a e = ap (λ z. is_closed_value (the_value z) 0) e

-- terms that aren't reads
pub alone-term : (a : TermTree) → ((f : FieldTree) (b : TermTree) → a ≡ t.read_object f b → ⊥) → terms_in a ≡ a ∷ []
alone-term (t.read_object f b) h = absurd (h f b refl)
alone-term _ h = refl

pub no-number : (a : IntTree) → ((f : FieldTree) (b : TermTree) → a ≡ t.read_number f b → ⊥) → number_terms a ≡ []
no-number (t.read_number f b) h = absurd (h f b refl)
no-number _ h = refl

pub no-set : (a : SetTree) → ((f : FieldTree) (b : TermTree) → a ≡ t.read_set f b → ⊥) → set_terms a ≡ []
no-set (t.read_set f b) h = absurd (h f b refl)
no-set _ h = refl

-- the terms of a tree, where it is a formula
abbrev pub formula_terms : ValueTree → List TermTree
formula_terms (of_truth a) = object_terms a
formula_terms _ = []

-- the shape has no terms for objects
pub record IsPlain (x : Shape) : Type 0 where
  pub negation : (a : ℕ) → x ≡ s.Negation a → ⊥
  pub both : (a b : ℕ) → x ≡ s.And a b → ⊥
  pub either : (a b : ℕ) → x ≡ s.Or a b → ⊥
  pub each : (a : ℕ) → x ≡ s.All a → ⊥
  pub some : (a : ℕ) → x ≡ s.Ex a → ⊥
  pub read : (f a : ℕ) → x ≡ s.ReadTruth f a → ⊥
  pub objects : (a b : ℕ) → x ≡ s.EqObject a b → ⊥
  pub numbers : (a b : ℕ) → x ≡ s.EqNumber a b → ⊥
  pub member : (a b : ℕ) → x ≡ s.Member a b → ⊥
  pub reach : (l a b : ℕ) → x ≡ s.Reach l a b → ⊥

module _ (p : Pools) (ts : List ValueTree) where
  pub no-read : (x : Shape) (f : FieldTree) (b : TermTree) → ((g n : ℕ) → x ≡ s.ReadObject g n → ⊥) → shape_tree p ts x ≡ of_object (t.read_object f b) → ⊥
  unfolding shape_tree
  no-read (s.ReadObject g n) f b h e = h g n refl
  no-read _ f b h e = cc

  pub no-read_number : (x : Shape) (f : FieldTree) (b : TermTree) → ((g n : ℕ) → x ≡ s.ReadNumber g n → ⊥) → shape_tree p ts x ≡ of_number (t.read_number f b) → ⊥
  unfolding shape_tree
  no-read_number (s.ReadNumber g n) f b h e = h g n refl
  no-read_number _ f b h e = cc

  pub no-read_set : (x : Shape) (f : FieldTree) (b : TermTree) → ((g n : ℕ) → x ≡ s.ReadSet g n → ⊥) → shape_tree p ts x ≡ of_set (t.read_set f b) → ⊥
  unfolding shape_tree
  no-read_set (s.ReadSet g n) f b h e = h g n refl
  no-read_set _ f b h e = cc

  pub plain-terms : (x : Shape) → IsPlain x → formula_terms (shape_tree p ts x) ≡ []
  unfolding shape_tree
  plain-terms (s.Negation a) h = absurd (h.negation a refl)
  plain-terms (s.And a b) h = absurd (h.both a b refl)
  plain-terms (s.Or a b) h = absurd (h.either a b refl)
  plain-terms (s.All a) h = absurd (h.each a refl)
  plain-terms (s.Ex a) h = absurd (h.some a refl)
  plain-terms (s.ReadTruth f a) h = absurd (h.read f a refl)
  plain-terms (s.EqObject a b) h = absurd (h.objects a b refl)
  plain-terms (s.EqNumber a b) h = absurd (h.numbers a b refl)
  plain-terms (s.Member a b) h = absurd (h.member a b refl)
  plain-terms (s.Reach l a b) h = absurd (h.reach l a b refl)
  plain-terms _ h = refl

pub value-same : (o : Option ValueTree) (v w : ValueTree) → o ≡ Some v → o ≡ Some w → v ≡ w
value-same o v w e f = cc

-- the parts of terms and of atoms
module _ (u : Listing) (n : ℕ) where
  pub record Read (make : TermTree → ValueTree) (b : ℕ) : Type 0 where
    pub inner : TermTree
    pub part : slice_get (nodes u) b ≡ Some (of_object inner)
    pub whole : slice_get (nodes u) n ≡ Some (make inner)
    pub there : is_object (slice_get (nodes u) b) ≡ true
    pub below : b < n

  pub read-part : (f b : ℕ) → Shaped u n (s.ReadObject f b) → Read (λ a. of_object (t.read_object (the_field (slice_get (nodes u) f)) a)) b
  unfolding shape_tree own_parts list_parts
  read-part f b h = let there = part-ReadObject-b u.pools (nodes u) f b h.fits in
      record { inner = the_object (slice_get (nodes u) b); part = it-is-object (slice_get (nodes u) b) there; whole = h.tree; there = there; below = h.below.below 1 b refl }

  pub number-part : (f b : ℕ) → Shaped u n (s.ReadNumber f b) → Read (λ a. of_number (t.read_number (the_field (slice_get (nodes u) f)) a)) b
  unfolding shape_tree own_parts list_parts
  number-part f b h = let there = part-ReadNumber-b u.pools (nodes u) f b h.fits in
      record { inner = the_object (slice_get (nodes u) b); part = it-is-object (slice_get (nodes u) b) there; whole = h.tree; there = there; below = h.below.below 1 b refl }

  pub set-part : (f b : ℕ) → Shaped u n (s.ReadSet f b) → Read (λ a. of_set (t.read_set (the_field (slice_get (nodes u) f)) a)) b
  unfolding shape_tree own_parts list_parts
  set-part f b h = let there = part-ReadSet-b u.pools (nodes u) f b h.fits in
      record { inner = the_object (slice_get (nodes u) b); part = it-is-object (slice_get (nodes u) b) there; whole = h.tree; there = there; below = h.below.below 1 b refl }

  pub truth-part : (f b : ℕ) → Shaped u n (s.ReadTruth f b) → Read (λ a. of_truth (t.read_truth (the_field (slice_get (nodes u) f)) a)) b
  unfolding shape_tree own_parts list_parts
  truth-part f b h = let there = part-ReadTruth-b u.pools (nodes u) f b h.fits in
      record { inner = the_object (slice_get (nodes u) b); part = it-is-object (slice_get (nodes u) b) there; whole = h.tree; there = there; below = h.below.below 1 b refl }

  -- two terms that an atom speaks of
  pub record Pair {X Y : Type 0} (left_value : X → ValueTree) (right_value : Y → ValueTree) (make : X → Y → FormulaTree) (l r : ℕ) : Type 0 where
    pub a : X
    pub b : Y
    pub left : slice_get (nodes u) l ≡ Some (left_value a)
    pub right : slice_get (nodes u) r ≡ Some (right_value b)
    pub whole : slice_get (nodes u) n ≡ Some (of_truth (make a b))

  pub objects-parts : (l r : ℕ) → Shaped u n (s.EqObject l r) → Pair of_object of_object (λ a b. t.eq_object a b) l r
  unfolding shape_tree
  objects-parts l r h = record {
    a = the_object (slice_get (nodes u) l);
    b = the_object (slice_get (nodes u) r);
    left = it-is-object (slice_get (nodes u) l) (part-EqObject-a u.pools (nodes u) l r h.fits);
    right = it-is-object (slice_get (nodes u) r) (part-EqObject-b u.pools (nodes u) l r h.fits);
    whole = h.tree;
  }

  pub numbers-parts : (l r : ℕ) → Shaped u n (s.EqNumber l r) → Pair of_number of_number (λ a b. t.eq_number a b) l r
  unfolding shape_tree
  numbers-parts l r h = record {
    a = the_number (slice_get (nodes u) l);
    b = the_number (slice_get (nodes u) r);
    left = it-is-number (slice_get (nodes u) l) (part-EqNumber-a u.pools (nodes u) l r h.fits);
    right = it-is-number (slice_get (nodes u) r) (part-EqNumber-b u.pools (nodes u) l r h.fits);
    whole = h.tree;
  }

  pub member-parts : (l r : ℕ) → Shaped u n (s.Member l r) → Pair of_object of_set (λ a b. t.member a b) l r
  unfolding shape_tree
  member-parts l r h = record {
    a = the_object (slice_get (nodes u) l);
    b = the_set (slice_get (nodes u) r);
    left = it-is-object (slice_get (nodes u) l) (part-Member-a u.pools (nodes u) l r h.fits);
    right = it-is-set (slice_get (nodes u) r) (part-Member-b u.pools (nodes u) l r h.fits);
    whole = h.tree;
  }

  pub reach-parts : (m l r : ℕ) → Shaped u n (s.Reach m l r) → Pair of_object of_object (λ a b. t.reach (fields_at (nodes u) (the_list (slice_get u.pools.lists m))) a b) l r
  unfolding shape_tree
  reach-parts m l r h = record {
    a = the_object (slice_get (nodes u) l);
    b = the_object (slice_get (nodes u) r);
    left = it-is-object (slice_get (nodes u) l) (part-Reach-a u.pools (nodes u) m l r h.fits);
    right = it-is-object (slice_get (nodes u) r) (part-Reach-b u.pools (nodes u) m l r h.fits);
    whole = h.tree;
  }

-- the terms of a term, of a number and of a set that is a read
pub read-terms : (a : TermTree) (f : FieldTree) (b : TermTree) → a ≡ t.read_object f b → terms_in a ≡ a ∷ terms_in b
read-terms a f b e = ap terms_in e ∙ ap (λ z. z ∷ terms_in b) (sym e)

pub object-of : (o : Option ValueTree) (a b : TermTree) → o ≡ Some (of_object a) → o ≡ Some (of_object b) → a ≡ b
object-of o a b e f = cc

pub number-of : (o : Option ValueTree) (a b : IntTree) → o ≡ Some (of_number a) → o ≡ Some (of_number b) → a ≡ b
number-of o a b e f = cc

pub set-of : (o : Option ValueTree) (a b : SetTree) → o ≡ Some (of_set a) → o ≡ Some (of_set b) → a ≡ b
set-of o a b e f = cc
