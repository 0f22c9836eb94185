-- Lists that share what they begin with, link by link.
use Rattle.std.proofs.Common.{◌≡◌, refl, sym, ap, ◌∙◌, ℕ, zero, suc, List, [], ◌∷◌, ◌++◌, length, subst, Option, None, Some, slice_get}
use Rattle.std.proofs.lemmas.Option.{none-some}
use Rattle.std.proofs.lemmas.List.{append_assoc, append-nil}
use Rattle.jh_containers.specs.declared.shared_lists.chains.Link.{Link}
use Rattle.jh_containers.specs.shared_lists.Chained.{IsChain, Keeps}

module _ {X : Type 0} where
  -- one more link at the end
  push-keeps : (ls : List (Link X)) (l : Link X) (n : ℕ) (r : Link X) → slice_get ls n ≡ Some r → slice_get (ls ++ l ∷ []) n ≡ Some r
  push-keeps [] l n r h = cc
  push-keeps (k ∷ ls) l zero r h = h
  push-keeps (k ∷ ls) l (suc n) r h = push-keeps ls l n r h

  push-last : (ls : List (Link X)) (l : Link X) → slice_get (ls ++ l ∷ []) (length ls) ≡ Some l
  push-last [] l = refl
  push-last (k ∷ ls) l = push-last ls l

  pub chain-keeps : (ls : List (Link X)) (l : Link X) → Keeps ls (ls ++ l ∷ [])
  chain-keeps ls l None [] h = tt
  chain-keeps ls l None (x ∷ xs) h = h
  chain-keeps ls l (Some n) [] h = h
  chain-keeps ls l (Some n) (x ∷ xs) h = (h.0, push-keeps ls l n (record { before = h.0; item = x }) h.1, chain-keeps ls l h.0 xs h.2)

  pub chain-made : (ls : List (Link X)) (before : Option ℕ) (x : X) (xs : List X) → IsChain ls before xs → IsChain (ls ++ record { before = before; item = x } ∷ []) (Some (length ls)) (x ∷ xs)
  chain-made ls before x xs h = (before, push-last ls (record { before = before; item = x }), chain-keeps ls (record { before = before; item = x }) before xs h)

  -- what is left of a list behind its last items
  abbrev pub Left : List (Link X) → Option ℕ → List X → Option ℕ → List X → Type 0
  Left ls list made next xs = IsChain ls list xs → (ys : List X) × IsChain ls next ys × (made ++ ys ≡ xs)

  nil-at : (ls : List (Link X)) (next : Option ℕ) (ys : List X) → next ≡ None → IsChain ls next ys → ys ≡ []
  nil-at ls None [] e c = refl
  nil-at ls None (y ∷ ys) e c = absurd c
  nil-at ls (Some n) ys e c = absurd (none-some n (sym e))

  same-link : (before : Option ℕ) (y : X) (l : Link X) (o : Option (Link X)) → o ≡ Some (record { before = before; item = y }) → o ≡ Some l → record { before = before; item = y } ≡ l
  same-link before y l o a b = cc

  next-at : (ls : List (Link X)) (next : Option ℕ) (n : ℕ) (l : Link X) (ys : List X) → next ≡ Some n → slice_get ls n ≡ Some l → IsChain ls next ys → (zs : List X) × IsChain ls l.before zs × (ys ≡ l.item ∷ zs)
  next-at ls None n l ys e at c = absurd (none-some n e)
  next-at ls (Some m) n l [] e at c = absurd c
  next-at ls (Some m) n l (y ∷ ys) e at c =
      let there : slice_get ls m ≡ Some l = place m n e at in
      let same = same-link c.0 y l (slice_get ls m) c.1 there in
      (ys, subst (λ (b : Option ℕ). IsChain ls b ys) (ap (λ k. k.before) same) c.2, ap (λ k. k.item ∷ ys) same)
    where
      place : (i j : ℕ) → Some i ≡ Some j → slice_get ls j ≡ Some l → slice_get ls i ≡ Some l
      place i j e h = cc

  pub left-start : (ls : List (Link X)) (list : Option ℕ) (made xs : List X) → made ≡ [] → Left ls list made list xs
  left-start ls list made xs e = λ h. (xs, h, ap (λ ms. ms ++ xs) e)

  pub left-end : (ls : List (Link X)) (list next : Option ℕ) (made xs : List X) → Left ls list made next xs → next ≡ None → IsChain ls list xs → made ≡ xs
  left-end ls list next made xs left e h =
      let r = left h in
      sym (append-nil made) ∙ ap (λ ys. made ++ ys) (sym (nil-at ls next r.0 e r.1)) ∙ r.2

  pub left-next : (ls : List (Link X)) (list next : Option ℕ) (made new xs : List X) (n : ℕ) (l : Link X) →
      Left ls list made next xs → next ≡ Some n → slice_get ls n ≡ Some l → new ≡ made ++ l.item ∷ [] → Left ls list new l.before xs
  left-next ls list next made new xs n l left e at more = λ h.
      let r = left h in
      let s = next-at ls next n l r.0 e at r.1 in
      (s.0, s.1, ap (λ ys. ys ++ s.0) more ∙ append_assoc made (l.item ∷ []) s.0 ∙ ap (λ ys. made ++ ys) (sym s.2) ∙ r.2)

  -- the links after one more
  pub extended-keeps : (old new : List (Link X)) (l : Link X) → new ≡ old ++ l ∷ [] → Keeps old new
  extended-keeps old new l e = λ list xs h. subst (λ (ls : List (Link X)). IsChain ls list xs) (sym e) (chain-keeps old l list xs h)

  pub extended-made : (old new : List (Link X)) (before : Option ℕ) (x : X) (xs : List X) (n : ℕ) → new ≡ old ++ record { before = before; item = x } ∷ [] → n ≡ length old → IsChain old before xs → IsChain new (Some n) (x ∷ xs)
  extended-made old new before x xs n e k h =
      subst (λ (ls : List (Link X)). IsChain ls (Some n) (x ∷ xs)) (sym e)
      (subst (λ (m : ℕ). IsChain (old ++ record { before = before; item = x } ∷ []) (Some m) (x ∷ xs)) (sym k) (chain-made old before x xs h))
