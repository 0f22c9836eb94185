-- Places of literals that make an instance false, by those for its parts.
use Rattle.std.proofs.Common.{◌≡◌, refl, sym, ap, ◌∙◌, subst, ℕ, ◌<◌, Bool, true, false, not, List, [], ◌∷◌, ◌++◌, append_assoc, length, take, inl, inr, Option, Some, None, slice_get}
use Rattle.std.proofs.lemmas.Bool.{true≢false}
use Rattle.std.proofs.lemmas.Option.{slice_get_within}
use Rattle.jh_form.specs.Tree.{FormulaTree, ValueTree}
use Rattle.jh_form.specs.Tree as t
use Rattle.jh_closure.specs.congruence_closure.Nodes.{Has}
use Rattle.jh_closure.proofs.congruence_closure.Having.{has-left, has-right, has-either}
use Rattle.jh_arena.specs.table.Growth.{AreDifferent}
use Rattle.jh_models.specs.ground_models.Truths.{IsFalse}
use Rattle.jh_propagation.specs.declared.trail.decided.Decided.{Decided}
use Rattle.jh_propagation.specs.trail.Listing.{one_more, picked}
use Rattle.jh_propagation.specs.trail.Saying.{literal_tree_at, literals_at, opposite_of, supposed}
use Rattle.jh_propagation.specs.trail.Forms.{known_of, literal_of}
use Rattle.jh_propagation.specs.trail.Looks.{Covers, HasPlace, IsReason, IsNoReason, IsSought}
use Rattle.jh_propagation.proofs.trail.Formed.{some-is, known-says, literal-says}
use Rattle.jh_propagation.proofs.trail.Listed.{has-listed, listed-has, opposite-is}

-- the literals at the places are covered, with the opposite of the one that is supposed
has-picked : (ds : List Decided) (places : List ℕ) (p : ℕ) (d : Decided) → Has places p → slice_get ds p ≡ Some d → Has (picked ds places) d
has-picked ds [] p d h e = absurd h
has-picked ds (q ∷ qs) p d (inl same) e = here (slice_get ds q) (ap (slice_get ds) same ∙ e)
  where
    here : (o : Option Decided) → o ≡ Some d → Has (one_more o (picked ds qs)) d
    here (Some c) e = inl (some-is c d e)
    here None e = absurd (cc)
has-picked ds (q ∷ qs) p d (inr h) e = behind (slice_get ds q) (has-picked ds qs p d h e)
  where
    behind : (o : Option Decided) → Has (picked ds qs) d → Has (one_more o (picked ds qs)) d
    behind (Some c) h = inr h
    behind None h = h

has-supposed : (except : Option Decided) (ks : List Decided) (d : Decided) → Has ks d → Has (supposed except ks) d
has-supposed None ks d h = h
has-supposed (Some e) ks d h = inr h

turned-supposed : (except : Option Decided) (ks : List Decided) (d : Decided) → except ≡ Some d → Has (supposed except ks) (opposite_of d)
turned-supposed None ks d e = absurd (cc)
turned-supposed (Some c) ks d e = inl (ap opposite_of (some-is c d e))

pub covers-picked : (ds : List Decided) (except : Option Decided) (places : List ℕ) → Covers ds except places (supposed except (picked ds places))
covers-picked ds except places = record {
  placed = λ p d h e. has-supposed except (picked ds places) d (has-picked ds places p d h e);
  turned = λ d e. turned-supposed except (picked ds places) d e;
}

covers-front : (ds : List Decided) (except : Option Decided) (ps qs : List ℕ) (ks : List Decided) → Covers ds except (ps ++ qs) ks → Covers ds except ps ks
covers-front ds except ps qs ks h = record { placed = λ p d g e. h.placed p d (has-left ps qs p g) e; turned = h.turned }

covers-back : (ds : List Decided) (except : Option Decided) (ps qs : List ℕ) (ks : List Decided) → Covers ds except (ps ++ qs) ks → Covers ds except qs ks
covers-back ds except ps qs ks h = record { placed = λ p d g e. h.placed p d (has-right ps qs p g) e; turned = h.turned }

module _ (ts : List ValueTree) (ds : List Decided) (except : Option Decided) (before : ℕ) where
  none-added : (xs : List ℕ) → xs ≡ xs ++ []
  none-added [] = refl
  none-added (x ∷ xs) = ap (λ ys. x ∷ ys) (none-added xs)

  pub sought-known : (i : FormulaTree) (b : Bool) (old : List ℕ) → known_of i ≡ Some b → IsSought ts ds except before i old old (not b)
  sought-known i true old e = record { none = λ h. true≢false ((known-says i true e).refutes (literals_at ts (supposed except (take before ds))) h); same = refl }
  sought-known i false old e = record {
    places = [];
    added = none-added old;
    below = λ p h. absurd h;
    makes = λ ks h. (known-says i false e).refuted (literals_at ts ks) refl;
  }

  -- a literal whose opposite is the one that is supposed
  pub sought-supposed : (i : FormulaTree) (l : Decided) (old : List ℕ) → literal_of i ≡ Some (literal_tree_at ts l) → except ≡ Some l → IsSought ts ds except before i old old true
  sought-supposed i l old e is = record {
    places = [];
    added = none-added old;
    below = λ p h. absurd h;
    makes = λ ks h. (literal-says i (literal_tree_at ts l) e).refuted (literals_at ts ks) (has-listed ts ks (opposite_of l) (h.turned l is));
  }

  -- one whose opposite stands at a place
  pub sought-placed : (i : FormulaTree) (l : Decided) (p : ℕ) (old new : List ℕ) → literal_of i ≡ Some (literal_tree_at ts l) → p < before → slice_get ds p ≡ Some (opposite_of l) → new ≡ old ++ p ∷ [] → IsSought ts ds except before i old new true
  sought-placed i l p old new e lt at is = record {
    places = p ∷ [];
    added = is;
    below = λ q h. elim h [ inl same ↦ (subst (λ z. z < before) same lt, subst (λ z. HasPlace ds z) same (opposite_of l, at)) | inr none ↦ absurd none ];
    makes = λ ks h. (literal-says i (literal_tree_at ts l) e).refuted (literals_at ts ks) (has-listed ts ks (opposite_of l) (h.placed p (opposite_of l) (inl refl) at));
  }

  not-supposed : (l : Decided) (ks : List Decided) → (except ≡ Some l → ⊥) → (Has ks (opposite_of l) → ⊥) → Has (supposed except ks) (opposite_of l) → ⊥
  not-supposed l ks other none h = in-either except refl h
    where
      in-either : (o : Option Decided) → except ≡ o → Has (supposed o ks) (opposite_of l) → ⊥
      in-either None e h = none h
      in-either (Some c) e (inl same) = other (e ∙ ap Some (opposite-is c l same))
      in-either (Some c) e (inr h) = none h

  -- and one that isn't false
  pub sought-none : AreDifferent ts → (i : FormulaTree) (l : Decided) (old : List ℕ) → literal_of i ≡ Some (literal_tree_at ts l) → (except ≡ Some l → ⊥) → (Has (take before ds) (opposite_of l) → ⊥) → IsSought ts ds except before i old old false
  sought-none different i l old e other none = let says = literal-says i (literal_tree_at ts l) e in record {
    none = λ h. not-supposed l (take before ds) other none (listed-has ts different (supposed except (take before ds)) (opposite_of l) says.unknown (says.refutes (literals_at ts (supposed except (take before ds))) h));
    same = refl;
  }

  module _ (a b : FormulaTree) (old mid : List ℕ) where
    pub and-first : IsReason ts ds except before a old mid → IsReason ts ds except before (t.and a b) old mid
    and-first f = record { places = f.places; added = f.added; below = f.below; makes = λ ks h. inl (f.makes ks h) }

    pub and-second : (new : List ℕ) (r : Bool) → IsNoReason ts ds except before a old mid → IsSought ts ds except before b mid new r → IsSought ts ds except before (t.and a b) old new r
    and-second new true f g = record { places = g.places; added = g.added ∙ ap (λ xs. xs ++ g.places) f.same; below = g.below; makes = λ ks h. inr (g.makes ks h) }
    and-second new false f g = record { none = λ h. elim h [ inl x ↦ f.none x | inr y ↦ g.none y ]; same = g.same ∙ f.same }

    pub or-none : IsNoReason ts ds except before a old mid → IsNoReason ts ds except before (t.or a b) old mid
    or-none f = record { none = λ h. f.none h.0; same = f.same }

    pub or-both : (new : List ℕ) → IsReason ts ds except before a old mid → IsReason ts ds except before b mid new → IsReason ts ds except before (t.or a b) old new
    or-both new f g = record {
      places = f.places ++ g.places;
      added = g.added ∙ (ap (λ xs. xs ++ g.places) f.added ∙ append_assoc old f.places g.places);
      below = λ p h. elim (has-either f.places g.places p h) [ inl x ↦ f.below p x | inr y ↦ g.below p y ];
      makes = λ ks h. (f.makes ks (covers-front ds except f.places g.places ks h), g.makes ks (covers-back ds except f.places g.places ks h));
    }

    -- what was added for the first is taken back
    pub or-second-none : (back new : List ℕ) → IsReason ts ds except before a old mid → IsNoReason ts ds except before b mid back → new ≡ take (length old) back → IsNoReason ts ds except before (t.or a b) old new
    or-second-none back new f g is = record { none = λ h. g.none h.1; same = is ∙ (ap (take (length old)) (g.same ∙ f.added) ∙ front old f.places) }
      where
        front : (xs ys : List ℕ) → take (length xs) (xs ++ ys) ≡ xs
        front [] ys = refl
        front (x ∷ xs) ys = ap (λ zs. x ∷ zs) (front xs ys)

-- where the literals make the instance false, there is a reason, and the literals at its places make it false
module _ (ts : List ValueTree) (ds : List Decided) (except : Option Decided) (before : ℕ) (i : FormulaTree) (is_false : IsFalse (literals_at ts (supposed except (take before ds))) i) where
  found-reason : (old new : List ℕ) (b : Bool) → IsSought ts ds except before i old new b → IsReason ts ds except before i old new
  found-reason old new true h = h
  found-reason old new false h = absurd (h.none is_false)

  module _ (old new : List ℕ) (none : old ≡ []) (b : Bool) (h : IsSought ts ds except before i old new b) where
    reason : IsReason ts ds except before i old new
    reason = found-reason old new b h

    these : new ≡ reason.places
    these = reason.added ∙ ap (λ xs. xs ++ reason.places) none

    pub reason-below : (p : ℕ) → Has new p → p < before
    reason-below p g = (reason.below p (subst (λ xs. Has xs p) these g)).0

    pub reason-inside : (p : ℕ) → Has new p → p < length ds
    reason-inside p g = let at = (reason.below p (subst (λ xs. Has xs p) these g)).1 in slice_get_within ds p at.0 at.1

    pub reason-makes : IsFalse (literals_at ts (supposed except (picked ds new))) i
    reason-makes = subst (λ xs. IsFalse (literals_at ts (supposed except (picked ds xs))) i) (sym these) (reason.makes (supposed except (picked ds reason.places)) (covers-picked ds except reason.places))
