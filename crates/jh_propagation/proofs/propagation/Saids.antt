-- What the classes are told of literals, and what follows from it.
use Rattle.std.proofs.Common.{◌≡◌, ◌↔◌, refl, sym, ap, ◌∙◌, subst, ℕ, suc, zero, Bool, true, false, List, [], ◌∷◌, ◌++◌, length, Some, None, slice_get, inl, inr}
use Rattle.std.proofs.lemmas.Bool.{true≢false}
use Rattle.std.proofs.lemmas.Option.{slice_get_within, same_Some}
use Rattle.jh_form.specs.Tree.{TermTree, FormulaTree, ValueTree, of_object, of_number, of_set, of_truth}
use Rattle.jh_form.specs.Tree as t
use Rattle.jh_arena.specs.table.Entries.{Listing, Pools, the_object, the_number, the_set, the_truth, the_value}
use Rattle.jh_arena.specs.table.Nodes.{nodes, shape_tree, tree_in, fits_in}
use Rattle.jh_arena.specs.declared.table.shapes.Shape.{Shape}
use Rattle.jh_arena.specs.declared.table.shapes.Shape.TheVariants as s
use Rattle.jh_arena.proofs.table.Children.{it-is-object, it-is-number, it-is-set, it-is-truth}
use Rattle.jh_arena.proofs.table.PartSteps.{part-EqObject-a, part-EqObject-b, part-EqNumber-a, part-EqNumber-b, part-EqSet-a, part-EqSet-b, part-Iff-a, part-Iff-b}
use Rattle.jh_closure.specs.structures.Structures.{truth_in}
use Rattle.jh_closure.specs.structures.Literals.{Says, Denies, MeetsOne, Meets}
use Rattle.jh_closure.specs.congruence_closure.Nodes.{Has}
use Rattle.jh_models.specs.ground_models.Atoms.{is_equality}
use Rattle.jh_cong.specs.flattening.TreeValues.{NumberStructure}
use Rattle.jh_cong.specs.classes.Saying.{AreEquatable, CanBeSaid, equation_of, literal_of, literals, tree_at}
use Rattle.jh_cong.specs.classes.Saying as cong
use Rattle.jh_cong.specs.declared.classes.literal.Said.{Said}
use Rattle.jh_propagation.specs.declared.trail.decided.Decided.{Decided}
use Rattle.jh_propagation.specs.trail.Listing.{decided, picked, one_more}
use Rattle.jh_propagation.specs.trail.Saying.{IsTruth, truth_at, literals_at}
use Rattle.jh_propagation.specs.propagation.Problems.{is_label}
use Rattle.jh_propagation.specs.propagation.Speaking.{Speaks, AreSpoken, sides_of}

abbrev said : ℕ → ℕ → Bool → Said
said l r h = record { left = l; right = r; holds = h }

both : {A B : Type 0} → A ≡ B → (A → B) × (B → A)
both e = (subst (λ X. X) e, subst (λ X. X) (sym e))

-- two nodes of these trees
tree-is : (ts : List ValueTree) (k : ℕ) (v : ValueTree) → slice_get ts k ≡ Some v → tree_at ts k ≡ v
unfolding the_value
tree-is ts k v e = ap the_value e

-- an equation whose tree is that of the atom
equal-speaks : (ts : List ValueTree) (d : Decided) (l r : ℕ) (v w : ValueTree) → slice_get ts l ≡ Some v → slice_get ts r ≡ Some w → AreEquatable v w → truth_at ts d.atom ≡ equation_of v w → (h : Bool) → h ≡ d.holds → Speaks ts ts (said l r h) d
equal-speaks ts d l r v w e f can same h g = record {
  can = record {
    left = slice_get_within ts l v e;
    right = slice_get_within ts r w f;
    sorts = subst (λ x. AreEquatable x (tree_at ts r)) (sym (tree-is ts l v e)) (subst (AreEquatable v) (sym (tree-is ts r w f)) can);
  };
  same = λ s. both (λ i. MeetsOne s (g i) ((ap2 ∙ sym same) i));
}
  where
    ap2 : equation_of (tree_at ts l) (tree_at ts r) ≡ equation_of v w
    ap2 = λ i. equation_of (tree-is ts l v e i) (tree-is ts r w f i)

pair-left : (p q : ℕ × ℕ) → Some p ≡ Some q → p.0 ≡ q.0
pair-left p q e = ap (λ (z : ℕ × ℕ). z.0) (same_Some p q e)

pair-right : (p q : ℕ × ℕ) → Some p ≡ Some q → p.1 ≡ q.1
pair-right p q e = ap (λ (z : ℕ × ℕ). z.1) (same_Some p q e)

none-some : {X : Type 0} {x : X} → None ≡ Some x → ⊥
none-some e = absurd cc

-- the formula of a shape without sides
no-sides : (p : Pools) (ts : List ValueTree) (x : Shape) → sides_of x ≡ None → is_equality (the_truth (Some (shape_tree p ts x))) ≡ false
unfolding sides_of shape_tree the_truth
no-sides p ts (s.EqObject a b) e = absurd (none-some (sym e))
no-sides p ts (s.EqNumber a b) e = absurd (none-some (sym e))
no-sides p ts (s.EqSet a b) e = absurd (none-some (sym e))
no-sides p ts (s.Iff a b) e = absurd (none-some (sym e))
no-sides p ts _ e = refl

-- and of one with sides
some-sides : (p : Pools) (ts : List ValueTree) (x : Shape) (q : ℕ × ℕ) → sides_of x ≡ Some q → is_equality (the_truth (Some (shape_tree p ts x))) ≡ true
unfolding sides_of shape_tree the_truth
some-sides p ts (s.EqObject a b) q e = refl
some-sides p ts (s.EqNumber a b) q e = refl
some-sides p ts (s.EqSet a b) q e = refl
some-sides p ts (s.Iff a b) q e = refl
some-sides p ts _ q e = absurd (none-some e)

module _ (u : Listing) (d : Decided) where
  abbrev here_in : List ValueTree
  here_in = nodes u

  -- the sides of an equation
  pub speaks-sides : (x : Shape) (l r : ℕ) → slice_get here_in d.atom ≡ Some (tree_in u x) → fits_in u x ≡ true → sides_of x ≡ Some (l, r) → Speaks here_in here_in (said l r d.holds) d
  unfolding sides_of shape_tree the_truth
  speaks-sides (s.EqObject a b) l r tree fits e =
      subst (λ k. Speaks here_in here_in (said k r d.holds) d) (pair-left (a, b) (l, r) e) (subst (λ k. Speaks here_in here_in (said a k d.holds) d) (pair-right (a, b) (l, r) e)
      (equal-speaks here_in d a b (of_object (the_object (slice_get here_in a))) (of_object (the_object (slice_get here_in b))) (it-is-object (slice_get here_in a) (part-EqObject-a u.pools here_in a b fits)) (it-is-object (slice_get here_in b) (part-EqObject-b u.pools here_in a b fits)) tt (ap the_truth tree) d.holds refl))
  speaks-sides (s.EqNumber a b) l r tree fits e =
      subst (λ k. Speaks here_in here_in (said k r d.holds) d) (pair-left (a, b) (l, r) e) (subst (λ k. Speaks here_in here_in (said a k d.holds) d) (pair-right (a, b) (l, r) e)
      (equal-speaks here_in d a b (of_number (the_number (slice_get here_in a))) (of_number (the_number (slice_get here_in b))) (it-is-number (slice_get here_in a) (part-EqNumber-a u.pools here_in a b fits)) (it-is-number (slice_get here_in b) (part-EqNumber-b u.pools here_in a b fits)) tt (ap the_truth tree) d.holds refl))
  speaks-sides (s.EqSet a b) l r tree fits e =
      subst (λ k. Speaks here_in here_in (said k r d.holds) d) (pair-left (a, b) (l, r) e) (subst (λ k. Speaks here_in here_in (said a k d.holds) d) (pair-right (a, b) (l, r) e)
      (equal-speaks here_in d a b (of_set (the_set (slice_get here_in a))) (of_set (the_set (slice_get here_in b))) (it-is-set (slice_get here_in a) (part-EqSet-a u.pools here_in a b fits)) (it-is-set (slice_get here_in b) (part-EqSet-b u.pools here_in a b fits)) tt (ap the_truth tree) d.holds refl))
  speaks-sides (s.Iff a b) l r tree fits e =
      subst (λ k. Speaks here_in here_in (said k r d.holds) d) (pair-left (a, b) (l, r) e) (subst (λ k. Speaks here_in here_in (said a k d.holds) d) (pair-right (a, b) (l, r) e)
      (equal-speaks here_in d a b (of_truth (the_truth (slice_get here_in a))) (of_truth (the_truth (slice_get here_in b))) (it-is-truth (slice_get here_in a) (part-Iff-a u.pools here_in a b fits)) (it-is-truth (slice_get here_in b) (part-Iff-b u.pools here_in a b fits)) tt (ap the_truth tree) d.holds refl))
  speaks-sides _ l r tree fits e = absurd (none-some e)

  -- an atom that has no sides is no equation
  pub no-equation : (x : Shape) → slice_get here_in d.atom ≡ Some (tree_in u x) → sides_of x ≡ None → is_equality (truth_at here_in d.atom) ≡ false
  no-equation x tree e = ap (λ o. is_equality (the_truth o)) tree ∙ no-sides u.pools here_in x e

  pub an-equation : (x : Shape) (q : ℕ × ℕ) → slice_get here_in d.atom ≡ Some (tree_in u x) → sides_of x ≡ Some q → is_equality (truth_at here_in d.atom) ≡ true
  an-equation x q tree e = ap (λ o. is_equality (the_truth o)) tree ∙ some-sides u.pools here_in x q e

-- What a structure says of an atom that is no equation and has no label.
plain-says : (m : NumberStructure) (a : FormulaTree) → is_equality a ≡ false → is_label a ≡ false → Says m a ≡ (truth_in m a ≡ m.true_value)
plain-says m (t.eq_object a b) e f = absurd (true≢false e)
plain-says m (t.eq_number a b) e f = absurd (true≢false e)
plain-says m (t.eq_set a b) e f = absurd (true≢false e)
plain-says m (t.iff a b) e f = absurd (true≢false e)
plain-says m (t.mark k a) e f = absurd (true≢false f)
plain-says m _ e f = refl

plain-denies : (m : NumberStructure) (a : FormulaTree) → is_equality a ≡ false → is_label a ≡ false → Denies m a ≡ (truth_in m a ≡ m.false_value)
plain-denies m (t.eq_object a b) e f = absurd (true≢false e)
plain-denies m (t.eq_number a b) e f = absurd (true≢false e)
plain-denies m (t.eq_set a b) e f = absurd (true≢false e)
plain-denies m (t.iff a b) e f = absurd (true≢false e)
plain-denies m (t.mark k a) e f = absurd (true≢false f)
plain-denies m _ e f = refl

module _ (ts : List ValueTree) (k other : ℕ) (truth : IsTruth ts k) (no_equation : is_equality (truth_at ts k) ≡ false) (no_label : is_label (truth_at ts k) ≡ false) where
  here : slice_get ts k ≡ Some (of_truth (truth_at ts k))
  here = it-is-truth (slice_get ts k) truth

  sayable : (a : FormulaTree) → slice_get ts other ≡ Some (of_truth a) → CanBeSaid ts k other
  sayable a e = record {
    left = slice_get_within ts k (of_truth (truth_at ts k)) here;
    right = slice_get_within ts other (of_truth a) e;
    sorts = subst (λ x. AreEquatable x (tree_at ts other)) (sym (tree-is ts k (of_truth (truth_at ts k)) here)) (subst (AreEquatable (of_truth (truth_at ts k))) (sym (tree-is ts other (of_truth a) e)) tt);
  }

  equation : (a : FormulaTree) → slice_get ts other ≡ Some (of_truth a) → equation_of (tree_at ts k) (tree_at ts other) ≡ t.iff (truth_at ts k) a
  equation a e = λ i. equation_of (tree-is ts k (of_truth (truth_at ts k)) here i) (tree-is ts other (of_truth a) e i)

  -- an atom that holds is True, and one that doesn't is False
  pub speaks-yes : slice_get ts other ≡ Some (of_truth t.true_formula) → Speaks ts ts (said k other true) (decided k true)
  speaks-yes e = record {
    can = sayable t.true_formula e;
    same = λ m. both (ap (λ a. MeetsOne m true a) (equation t.true_formula e) ∙ sym (plain-says m (truth_at ts k) no_equation no_label));
  }

  pub speaks-no : slice_get ts other ≡ Some (of_truth t.false_formula) → Speaks ts ts (said k other true) (decided k false)
  speaks-no e = record {
    can = sayable t.false_formula e;
    same = λ m. both (ap (λ a. MeetsOne m true a) (equation t.false_formula e) ∙ sym (plain-denies m (truth_at ts k) no_equation no_label));
  }

-- What is told of a node of one table is told of a node of another that is the same formula.
pub renamed : (us ts : List ValueTree) (e : Said) (name : ℕ) (d : Decided) → slice_get us name ≡ slice_get ts d.atom → Speaks us us e (decided name d.holds) → Speaks us ts e d
renamed us ts e name d same h = record {
  can = h.can;
  same = λ m. subst (λ (a : FormulaTree). MeetsOne m (literal_of us e).holds (literal_of us e).atom ↔ MeetsOne m d.holds a) (ap the_truth same) (h.same m);
}

-- lists of literals and of what is told of them
pub spoken-more : (us ts : List ValueTree) (ds : List Decided) (es : List Said) (d : Decided) (e : Said) → AreSpoken us ts ds es → Speaks us ts e d → AreSpoken us ts (ds ++ d ∷ []) (es ++ e ∷ [])
spoken-more us ts [] [] d e h k = (k, tt)
spoken-more us ts [] (f ∷ es) d e h k = absurd h
spoken-more us ts (c ∷ ds) [] d e h k = absurd h
spoken-more us ts (c ∷ ds) (f ∷ es) d e h k = (h.0, spoken-more us ts ds es d e h.1 k)

pub spoken-both : (us ts : List ValueTree) (ds cs : List Decided) (es fs : List Said) → AreSpoken us ts ds es → AreSpoken us ts cs fs → AreSpoken us ts (ds ++ cs) (es ++ fs)
spoken-both us ts [] cs [] fs h k = k
spoken-both us ts [] cs (f ∷ es) fs h k = absurd h
spoken-both us ts (c ∷ ds) cs [] fs h k = absurd h
spoken-both us ts (c ∷ ds) cs (f ∷ es) fs h k = (h.0, spoken-both us ts ds cs es fs h.1 k)

pub spoken-long : (us ts : List ValueTree) (ds : List Decided) (es : List Said) → AreSpoken us ts ds es → length es ≡ length ds
spoken-long us ts [] [] h = refl
spoken-long us ts [] (f ∷ es) h = absurd h
spoken-long us ts (c ∷ ds) [] h = absurd h
spoken-long us ts (c ∷ ds) (f ∷ es) h = ap suc (spoken-long us ts ds es h.1)

pub spoken-can : (us ts : List ValueTree) (ds : List Decided) (es : List Said) → AreSpoken us ts ds es → (e : Said) → Has es e → CanBeSaid us e.left e.right
spoken-can us ts [] [] h e g = absurd g
spoken-can us ts [] (f ∷ es) h e g = absurd h
spoken-can us ts (c ∷ ds) [] h e g = absurd h
spoken-can us ts (c ∷ ds) (f ∷ es) h e (inl k) = subst (λ (z : Said). CanBeSaid us z.left z.right) k h.0.can
spoken-can us ts (c ∷ ds) (f ∷ es) h e (inr k) = spoken-can us ts ds es h.1 e k

pub meets-told : (m : NumberStructure) (us ts : List ValueTree) (ds : List Decided) (es : List Said) → AreSpoken us ts ds es → Meets m (literals_at ts ds) → Meets m (literals us es)
meets-told m us ts [] [] h k = tt
meets-told m us ts [] (f ∷ es) h k = absurd h
meets-told m us ts (c ∷ ds) [] h k = absurd h
meets-told m us ts (c ∷ ds) (f ∷ es) h k = ((h.0.same m).1 k.0, meets-told m us ts ds es h.1 k.1)

pub told-meets : (m : NumberStructure) (us ts : List ValueTree) (ds : List Decided) (es : List Said) → AreSpoken us ts ds es → Meets m (literals us es) → Meets m (literals_at ts ds)
told-meets m us ts [] [] h k = tt
told-meets m us ts [] (f ∷ es) h k = absurd h
told-meets m us ts (c ∷ ds) [] h k = absurd h
told-meets m us ts (c ∷ ds) (f ∷ es) h k = ((h.0.same m).0 k.0, told-meets m us ts ds es h.1 k.1)

-- what stands at a place of both
spoken-one : (us ts : List ValueTree) (ds : List Decided) (es : List Said) → AreSpoken us ts ds es → (n : ℕ) (xs : List Decided) (ys : List Said) → AreSpoken us ts xs ys → AreSpoken us ts (one_more (slice_get ds n) xs) (cong.one_more (slice_get es n) ys)
spoken-one us ts [] [] h n xs ys k = k
spoken-one us ts [] (f ∷ es) h n xs ys k = absurd h
spoken-one us ts (c ∷ ds) [] h n xs ys k = absurd h
spoken-one us ts (c ∷ ds) (f ∷ es) h zero xs ys k = (h.0, k)
spoken-one us ts (c ∷ ds) (f ∷ es) h (suc n) xs ys k = spoken-one us ts ds es h.1 n xs ys k

pub spoken-picked : (us ts : List ValueTree) (ds : List Decided) (es : List Said) → AreSpoken us ts ds es → (ns : List ℕ) → AreSpoken us ts (picked ds ns) (cong.picked es ns)
spoken-picked us ts ds es h [] = tt
spoken-picked us ts ds es h (n ∷ ns) = spoken-one us ts ds es h n (picked ds ns) (cong.picked es ns) (spoken-picked us ts ds es h ns)
