-- Steps with one more at the end, and the most that is kept.
use Rattle.std.proofs.Common.{◌≡◌, refl, sym, subst, List, [], ◌∷◌, ◌++◌, append_assoc, append-nil, ◌⊎◌, inl, inr}
use Rattle.jh_form.specs.Tree.{FormulaTree}
use Rattle.jh_closure.specs.structures.Literals.{LiteralTree, IsListed, AreListed}
use Rattle.jh_models.specs.ground_models.Atoms.{opposite, IsGroundAtom}
use Rattle.jh_models.specs.ground_models.Clashes.{Clash}
use Rattle.jh_models.specs.ground_models.Explanations.{GoesOn, ClosesBranch, IsLeft, none}
use Rattle.jh_models.proofs.ground_models.Growing.{clash-more}
use Rattle.jh_models.specs.shortening.Steps.{MayStand, GoFrom, AreSteps, IsMost}
use Rattle.jh_models.specs.shortening.Shortened.{IsNeededIn}
use Rattle.jh_models.proofs.shortening.Leaving.{listed-end, listed-before, listed-here, front-listed, end-both, end-one, left-before, left-end, left-split, LeftEnd, is_out, is_kept}

module _ (is : List FormulaTree) (ds : List LiteralTree) where
  from-more : (had ls : List LiteralTree) (l : LiteralTree) → GoFrom is ds had ls → IsGroundAtom is l.atom → MayStand is ds (had ++ ls) l → GoFrom is ds had (ls ++ (l ∷ []))
  from-more had [] l h at may = (at, subst (λ z. MayStand is ds z l) (append-nil had) may, tt)
  from-more had (m ∷ ls) l h at may = (h.0, h.1, from-more (had ++ (m ∷ [])) ls l h.2 at (subst (λ z. MayStand is ds z l) (sym (append_assoc had (m ∷ []) ls)) may))

  pub steps-more : (ls : List LiteralTree) (l : LiteralTree) → AreSteps is ds ls → IsGroundAtom is l.atom → MayStand is ds ls l → AreSteps is ds (ls ++ (l ∷ []))
  steps-more ls l h at may = from-more [] ls l h at may

  from-fewer : (had ls : List LiteralTree) (l : LiteralTree) → GoFrom is ds had (ls ++ (l ∷ [])) → GoFrom is ds had ls × MayStand is ds (had ++ ls) l
  from-fewer had [] l h = (tt, subst (λ z. MayStand is ds z l) (sym (append-nil had)) h.1)
  from-fewer had (m ∷ ls) l h = let g = from-fewer (had ++ (m ∷ [])) ls l h.2 in ((h.0, h.1, g.0), subst (λ z. MayStand is ds z l) (append_assoc had (m ∷ []) ls) g.1)

  from-closes : (had ls : List LiteralTree) → GoFrom is ds had ls → Clash is (had ++ ls) → GoesOn is ds had ls
  from-closes had [] h clash = subst (Clash is) (append-nil had) clash
  from-closes had (l ∷ ls) h clash = (h.0, h.1, from-closes (had ++ (l ∷ [])) ls h.2 (subst (Clash is) (sym (append_assoc had (l ∷ []) ls)) clash))

  pub steps-close : (ls : List LiteralTree) → AreSteps is ds ls → Clash is ls → ClosesBranch is ds ls
  steps-close ls h clash = from-closes [] ls h clash

  closes-from : (had ls : List LiteralTree) → GoesOn is ds had ls → GoFrom is ds had ls × Clash is (had ++ ls)
  closes-from had [] h = (tt, subst (Clash is) (sym (append-nil had)) h)
  closes-from had (l ∷ ls) h = let g = closes-from (had ++ (l ∷ [])) ls h.2 in ((h.0, h.1, g.0), subst (Clash is) (append_assoc had (l ∷ []) ls) g.1)

  from-atoms : (had ls : List LiteralTree) (l : LiteralTree) → GoesOn is ds had ls → IsListed ls l → IsGroundAtom is l.atom
  from-atoms had [] l h g = absurd g
  from-atoms had (m ∷ ls) l h (inl e) = subst (λ (z : LiteralTree). IsGroundAtom is z.atom) e h.0
  from-atoms had (m ∷ ls) l h (inr g) = from-atoms (had ++ (m ∷ [])) ls l h.2 g

  pub closed-atoms : (ls : List LiteralTree) (l : LiteralTree) → ClosesBranch is ds ls → IsListed ls l → IsGroundAtom is l.atom
  closed-atoms ls l h g = from-atoms [] ls l h g

  may-more : (had more : List LiteralTree) (l : LiteralTree) → AreListed more had → MayStand is ds had l → MayStand is ds more l
  may-more had more l h (inl g) = inl g
  may-more had more l h (inr g) = inr (clash-more (opposite l ∷ had) (opposite l ∷ more) (front-listed more had (opposite l) h) is g)

  pub most-begins : (o : LiteralTree) → IsMost is ds o [] []
  most-begins o = record { left = none; lacks = λ h. h; goes = tt; most = nothing }
    where
      nothing : (ks : List LiteralTree) → IsLeft ks [] → (IsListed ks o → ⊥) → AreSteps is ds ks → AreListed [] ks
      nothing _ none lacks goes = tt

  module _ (gone kept : List LiteralTree) (o l : LiteralTree) (h : IsMost is ds o gone kept) where
    pub most-keeps : IsGroundAtom is l.atom → (l ≡ o → ⊥) → MayStand is ds kept l → IsMost is ds o (gone ++ (l ∷ [])) (kept ++ (l ∷ []))
    most-keeps at other may = record {
      left = left-end kept gone l h.left;
      lacks = λ g. lacking (listed-end kept l o g);
      goes = steps-more kept l h.goes at may;
      most = λ ks left. more ks (left-split gone l ks left);
    }
      where
        lacking : IsListed kept o ⊎ (l ≡ o) → ⊥
        lacking (inl g) = h.lacks g
        lacking (inr e) = other e

        more : (ks : List LiteralTree) → LeftEnd gone l ks → (IsListed ks o → ⊥) → AreSteps is ds ks → AreListed (kept ++ (l ∷ [])) ks
        more _ (is_out ks left) lacks goes = end-one kept ks l (h.most ks left lacks goes)
        more _ (is_kept ks left) lacks goes = end-both kept ks l (h.most ks left (λ g. lacks (listed-before ks (l ∷ []) o g)) (from-fewer [] ks l goes).0)

    pub most-skips : (l ≡ o) ⊎ (MayStand is ds kept l → ⊥) → IsMost is ds o (gone ++ (l ∷ [])) kept
    most-skips why = record {
      left = left-before kept gone (l ∷ []) h.left;
      lacks = h.lacks;
      goes = h.goes;
      most = λ ks left. more ks (left-split gone l ks left);
    }
      where
        never : (ks : List LiteralTree) → (l ≡ o) ⊎ (MayStand is ds kept l → ⊥) → IsLeft ks gone → (IsListed (ks ++ (l ∷ [])) o → ⊥) → AreSteps is ds (ks ++ (l ∷ [])) → ⊥
        never ks (inl e) left lacks goes = lacks (subst (IsListed (ks ++ (l ∷ []))) e (listed-here ks l))
        never ks (inr never_may) left lacks goes =
            let g = from-fewer [] ks l goes
            in never_may (may-more ks kept l (h.most ks left (λ f. lacks (listed-before ks (l ∷ []) o f)) g.0) g.1)

        more : (ks : List LiteralTree) → LeftEnd gone l ks → (IsListed ks o → ⊥) → AreSteps is ds ks → AreListed kept ks
        more _ (is_out ks left) lacks goes = h.most ks left lacks goes
        more _ (is_kept ks left) lacks goes = absurd (never ks why left lacks goes)

  pub most-needed : (ls kept : List LiteralTree) (o : LiteralTree) → IsMost is ds o ls kept → (Clash is kept → ⊥) → IsNeededIn is ds ls o
  most-needed ls kept o h apart = λ ks left lacks closes.
      let g = closes-from [] ks closes
      in apart (clash-more ks kept (h.most ks left lacks g.0) is g.1)
