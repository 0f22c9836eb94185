-- Lists whose items belong to one another, item by item.
use Rattle.std.proofs.Common.{◌≡◌, refl, sym, ap, ◌∙◌, subst, List, [], ◌∷◌, ◌++◌, reverse}
use Rattle.std.proofs.lemmas.Grind.{reverse_onto}
use Rattle.jh_splitting.specs.Pairs.{ArePaired, AreReversed}

module _ {X Y : Type 0} (R S : X → Y → Type 0) (f : (x : X) (y : Y) → R x y → S x y) where
  pub paired-grows : (xs : List X) (ys : List Y) → ArePaired R xs ys → ArePaired S xs ys
  paired-grows [] [] h = h
  paired-grows [] (y ∷ ys) h = h
  paired-grows (x ∷ xs) [] h = h
  paired-grows (x ∷ xs) (y ∷ ys) h = (f x y h.0, paired-grows xs ys h.1)

  pub reversed-grows : (xs : List X) (ys : List Y) → AreReversed R xs ys → AreReversed S xs ys
  reversed-grows [] ys h = h
  reversed-grows (x ∷ xs) ys h = (h.0, h.1, f x h.1 h.2, reversed-grows xs h.0 h.3, h.4)

module _ {X Y : Type 0} (R : X → Y → Type 0) where
  pub paired-push : (xs : List X) (ys : List Y) (x : X) (y : Y) → ArePaired R xs ys → R x y → ArePaired R (xs ++ x ∷ []) (ys ++ y ∷ [])
  paired-push [] [] x y h r = (r, tt)
  paired-push [] (z ∷ ys) x y h r = absurd h
  paired-push (w ∷ xs) [] x y h r = absurd h
  paired-push (w ∷ xs) (z ∷ ys) x y h r = (h.0, paired-push xs ys x y h.1 r)

  pub reversed-push : (xs : List X) (ys : List Y) (x : X) (y : Y) → AreReversed R xs ys → R x y → AreReversed R (xs ++ x ∷ []) (y ∷ ys)
  reversed-push [] ys x y h r = ([], y, r, refl, ap (λ zs. y ∷ zs) h)
  reversed-push (w ∷ xs) ys x y h r = (y ∷ h.0, h.1, h.2, reversed-push xs h.0 x y h.3 r, ap (λ zs. y ∷ zs) h.4)

  pub reversed-pop : (xs : List X) (ys : List Y) (x : X) → AreReversed R (xs ++ x ∷ []) ys → (y : Y) × (rest : List Y) × R x y × AreReversed R xs rest × (ys ≡ y ∷ rest)
  reversed-pop [] ys x h = (h.1, [], h.2, refl, h.4 ∙ ap (λ zs. zs ++ h.1 ∷ []) h.3)
  reversed-pop (w ∷ xs) ys x h =
      let p = reversed-pop xs h.0 x h.3 in
      (p.0, p.1 ++ h.1 ∷ [], p.2, (p.1, h.1, h.2, p.3, refl), h.4 ∙ ap (λ zs. zs ++ h.1 ∷ []) p.4)

  pub reversed-paired : (xs : List X) (ys : List Y) → AreReversed R xs ys → ArePaired R (reverse xs) ys
  reversed-paired [] ys h = subst (λ (zs : List Y). ArePaired R [] zs) (sym h) tt
  reversed-paired (x ∷ xs) ys h =
      subst (λ (zs : List Y). ArePaired R (reverse (x ∷ xs)) zs) (sym h.4)
      (subst (λ (ws : List X). ArePaired R ws (h.0 ++ h.1 ∷ [])) (sym (reverse_onto xs x [])) (paired-push (reverse xs) h.0 x h.1 (reversed-paired xs h.0 h.3) h.2))
