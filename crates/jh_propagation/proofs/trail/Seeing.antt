-- What is found of an instance by what is found of its parts.
use Rattle.std.proofs.Common.{◌≡◌, refl, sym, ap, ◌∙◌, subst, Bool, true, false, not, List, [], ◌∷◌, ◌++◌, inl, inr, Option, Some, None, Result, Ok, Err, IfOk}
use mathlib.Core.Bool.{beq}
use Rattle.std.proofs.lemmas.Bool.{true≢false}
use Rattle.jh_form.specs.Tree.{FormulaTree, ValueTree}
use Rattle.jh_form.specs.Tree as t
use Rattle.jh_closure.specs.congruence_closure.Nodes.{Has}
use Rattle.jh_closure.proofs.congruence_closure.Having.{has-left, has-right, has-either}
use Rattle.jh_arena.specs.table.Growth.{AreDifferent}
use Rattle.jh_models.specs.ground_models.Truths.{IsFalse, IsTrue}
use Rattle.jh_propagation.specs.declared.trail.decided.Decided.{Decided}
use Rattle.jh_propagation.specs.declared.trail.found.Found.{Found}
use Rattle.jh_propagation.specs.declared.trail.found.Found.TheVariants as found
use Rattle.jh_propagation.specs.trail.Saying.{literal_tree_at, literals_at, opposite_of}
use Rattle.jh_propagation.specs.trail.Forms.{known_of, literal_of}
use Rattle.jh_propagation.specs.trail.Looks.{AreForced, IsSeen, AreCommon, list_in, items_in}
use Rattle.jh_propagation.proofs.trail.Connectives.{kept-false}
use Rattle.jh_propagation.proofs.trail.Formed.{known-says, literal-says}
use Rattle.jh_propagation.proofs.trail.Listed.{has-listed, listed-has, opposite-is}

-- two truths that are compared
pub same-bool : (a b : Bool) → beq a b ≡ true → a ≡ b
same-bool true true e = refl
same-bool true false e = sym e
same-bool false true e = e
same-bool false false e = refl

pub other-bool : (a b : Bool) → beq a b ≡ false → a ≡ not b
other-bool true true e = e
other-bool true false e = refl
other-bool false true e = refl
other-bool false false e = sym e

beq-itself : (a : Bool) → beq a a ≡ true
beq-itself true = refl
beq-itself false = refl

pub bool-same : (a b : Bool) → a ≡ b → beq a b ≡ true
bool-same a b e = subst (λ z. beq a z ≡ true) e (beq-itself a)

pub never-not : (a : Bool) → a ≡ not a → ⊥
never-not true e = true≢false e
never-not false e = true≢false (sym e)

-- what follows from two facts on an answer
pub if-ok-both : {T E : Type 0} (r : Result T E) (P Q R : T → Type 0) → ((x : T) → P x → Q x → R x) → IfOk r P → IfOk r Q → IfOk r R
if-ok-both (Ok x) P Q R f p q = f x p q
if-ok-both (Err e) P Q R f p q = p

-- a list, unless the instance is false
pub has-items : (f : Found) → (list_in f ≡ None → ⊥) → list_in f ≡ Some (items_in f)
has-items found.False h = absurd (h refl)
has-items found.Nothing h = refl
has-items (found.One l) h = refl
has-items (found.Many v) h = refl

module _ (ts : List ValueTree) (ds : List Decided) where
  pub seen-false : (i : FormulaTree) (r : Option (List Decided)) → r ≡ None → IsSeen ts ds i r → IsFalse (literals_at ts ds) i
  seen-false i r e h = subst (IsSeen ts ds i) e h

  pub seen-list : (i : FormulaTree) (r : Option (List Decided)) (xs : List Decided) → r ≡ Some xs → IsSeen ts ds i r → AreForced ts ds i xs
  seen-list i r xs e h = subst (IsSeen ts ds i) e h

  pub seen-items : (i : FormulaTree) (f : Found) → (list_in f ≡ None → ⊥) → IsSeen ts ds i (list_in f) → AreForced ts ds i (items_in f)
  seen-items i f some h = seen-list i (list_in f) (items_in f) (has-items f some) h

  pub as-seen : (i : FormulaTree) (r : Option (List Decided)) (xs : List Decided) → r ≡ Some xs → AreForced ts ds i xs → IsSeen ts ds i r
  as-seen i r xs e h = subst (IsSeen ts ds i) (sym e) h

  pub known-nothing : (i : FormulaTree) → known_of i ≡ Some true → AreForced ts ds i []
  known-nothing i e = let says = known-says i true e in record {
    not_false = λ h. true≢false (says.refutes (literals_at ts ds) h);
    all = λ l h. true≢false (says.refutes (literals_at ts (opposite_of l ∷ ds)) h);
    only = λ l h. absurd h;
  }

  pub known-false : (i : FormulaTree) → known_of i ≡ Some false → IsFalse (literals_at ts ds) i
  known-false i e = (known-says i false e).refuted (literals_at ts ds) refl

  pub literal-false : (i : FormulaTree) (l : Decided) → literal_of i ≡ Some (literal_tree_at ts l) → Has ds (opposite_of l) → IsFalse (literals_at ts ds) i
  literal-false i l e h = (literal-says i (literal_tree_at ts l) e).refuted (literals_at ts ds) (has-listed ts ds (opposite_of l) h)

  pub literal-forces : AreDifferent ts → (i : FormulaTree) (l : Decided) → literal_of i ≡ Some (literal_tree_at ts l) → (Has ds (opposite_of l) → ⊥) → AreForced ts ds i (l ∷ [])
  literal-forces different i l e never = let says = literal-says i (literal_tree_at ts l) e in record {
    not_false = λ h. never (listed-has ts different ds (opposite_of l) says.unknown (says.refutes (literals_at ts ds) h));
    all = λ k h. elim (listed-has ts different (opposite_of k ∷ ds) (opposite_of l) says.unknown (says.refutes (literals_at ts (opposite_of k ∷ ds)) h)) [
      | inl same ↦ inl (sym (opposite-is k l same))
      | inr later ↦ absurd (never later)
    ];
    only = λ k h. elim h [
      | inl same ↦ says.refuted (literals_at ts (opposite_of k ∷ ds)) (inl (ap (λ z. literal_tree_at ts (opposite_of z)) (sym same)))
      | inr none ↦ absurd none
    ];
  }

  -- what the list says of the atom decides whether the literal is true
  pub literal-true : AreDifferent ts → (i : FormulaTree) (l : Decided) → literal_of i ≡ Some (literal_tree_at ts l) → (Has ds l → IsTrue (literals_at ts ds) i) × (IsTrue (literals_at ts ds) i → Has ds l)
  literal-true different i l e = let says = literal-says i (literal_tree_at ts l) e in (
    λ h. says.proved (literals_at ts ds) (has-listed ts ds l h),
    λ h. listed-has ts different ds l says.unknown (says.proves (literals_at ts ds) h),
  )

  -- more literals make false what fewer do
  more-false : (i : FormulaTree) (l : Decided) → IsFalse (literals_at ts ds) i → IsFalse (literals_at ts (opposite_of l ∷ ds)) i
  more-false i l h = kept-false (literals_at ts ds) (literals_at ts (opposite_of l ∷ ds)) i (λ k s g. inr g) h

  module _ (a b : FormulaTree) where
    pub and-forced : (xs ys : List Decided) → AreForced ts ds a xs → AreForced ts ds b ys → AreForced ts ds (t.and a b) (xs ++ ys)
    and-forced xs ys f g = record {
      not_false = λ h. elim h [ inl x ↦ f.not_false x | inr y ↦ g.not_false y ];
      all = λ l h. elim h [ inl x ↦ has-left xs ys l (f.all l x) | inr y ↦ has-right xs ys l (g.all l y) ];
      only = λ l h. elim (has-either xs ys l h) [ inl x ↦ inl (f.only l x) | inr y ↦ inr (g.only l y) ];
    }

    pub and-made : (f g : Found) (xs ys zs : List Decided) (r : Option (List Decided)) → r ≡ Some zs → zs ≡ xs ++ ys → xs ≡ items_in f → ys ≡ items_in g → (list_in f ≡ None → ⊥) → (list_in g ≡ None → ⊥) → IsSeen ts ds a (list_in f) → IsSeen ts ds b (list_in g) → IsSeen ts ds (t.and a b) r
    and-made f g xs ys zs r made joined first second some_f some_g seen_f seen_g =
        as-seen (t.and a b) r (items_in f ++ items_in g) (made ∙ ap Some (joined ∙ (λ i. first i ++ second i))) (and-forced (items_in f) (items_in g) (seen-items a f some_f seen_f) (seen-items b g some_g seen_g))

    pub or-forced : (xs ys zs : List Decided) → AreForced ts ds a xs → AreForced ts ds b ys → AreCommon xs ys zs → AreForced ts ds (t.or a b) zs
    or-forced xs ys zs f g both = record {
      not_false = λ h. f.not_false h.0;
      all = λ l h. both.all l (f.all l h.0) (g.all l h.1);
      only = λ l h. (f.only l (both.left l h), g.only l (both.right l h));
    }

    pub or-nothing : AreForced ts ds a [] → AreForced ts ds (t.or a b) []
    or-nothing f = record {
      not_false = λ h. f.not_false h.0;
      all = λ l h. f.all l h.0;
      only = λ l h. absurd h;
    }

    pub or-right : (r : Option (List Decided)) → IsFalse (literals_at ts ds) a → IsSeen ts ds b r → IsSeen ts ds (t.or a b) r
    or-right None h g = (h, g)
    or-right (Some ys) h g = record {
      not_false = λ k. g.not_false k.1;
      all = λ l k. g.all l k.1;
      only = λ l k. (more-false a l h, g.only l k);
    }

    pub or-left : (xs : List Decided) → AreForced ts ds a xs → IsFalse (literals_at ts ds) b → AreForced ts ds (t.or a b) xs
    or-left xs f h = record {
      not_false = λ k. f.not_false k.0;
      all = λ l k. f.all l k.0;
      only = λ l k. (f.only l k, more-false b l h);
    }
