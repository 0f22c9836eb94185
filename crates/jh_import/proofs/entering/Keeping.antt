-- Where a tree is a node already, no part of it is new.
use Rattle.std.proofs.Common.{◌≡◌, refl, sym, ap, ◌∙◌, ℕ, zero, suc, ◌<◌, ◌⊎◌, inl, inr, List, [], ◌∷◌, slice_get, Option, Some, None, subst}
use Rattle.jh_form.specs.Tree.{ValueTree}
use Rattle.jh_arena.specs.jh_boxed.Parts.{IsChild}
use Rattle.jh_arena.specs.table.Entries.{Listing}
use Rattle.jh_arena.specs.table.Growth.{Grows, Extends, AreDifferent}
use Rattle.jh_arena.specs.table.Nodes.{nodes}
use Rattle.jh_import.specs.entering.Entered.{IsPart, itself, inside, AddsParts, IsKept}

-- each part of a node is a node before it
abbrev pub PartsFirst : Listing → Type 0
PartsFirst t = (n : ℕ) (v w : ValueTree) → slice_get (nodes t) n ≡ Some v → IsChild w v → (m : ℕ) × (m < n) × (slice_get (nodes t) m ≡ Some w)

-- so each part of it at any depth is a node
part-stands : (t : Listing) → PartsFirst t → (x v : ValueTree) → IsPart x v → (n : ℕ) → slice_get (nodes t) n ≡ Some v → (m : ℕ) × (slice_get (nodes t) m ≡ Some x)
part-stands t law _ _ (itself x) n h = (n, h)
part-stands t law _ _ (inside x w v p child) n h =
    let at = law n v w h child in
    part-stands t law x w p at.0 at.2

-- two lists with the same at each place are one
same-list : {X : Type 0} (xs ys : List X) → ((n : ℕ) (x : X) → slice_get xs n ≡ Some x → slice_get ys n ≡ Some x) → ((n : ℕ) (x : X) → slice_get ys n ≡ Some x → slice_get xs n ≡ Some x) → xs ≡ ys
same-list [] [] f g = refl
same-list [] (y ∷ ys) f g = let e : None ≡ Some y = g 0 y refl in cc
same-list (x ∷ xs) [] f g = let e : None ≡ Some x = f 0 x refl in cc
same-list (x ∷ xs) (y ∷ ys) f g =
    let front : Some y ≡ Some x = f 0 x refl in
    let same : x ≡ y = cc in
    let rest : xs ≡ ys = same-list xs ys (λ n. f (suc n)) (λ n. g (suc n)) in
    λ i. same i ∷ rest i

pub kept-parts : (old new : Listing) (v : ValueTree) → PartsFirst old → Extends old new → AreDifferent (nodes new) → AddsParts old new v → IsKept old new v
kept-parts old new v law grows different only = λ node h.
    same-list (nodes new) (nodes old) (λ n x at. stays node h n x at (only n x at)) grows.nodes.keeps
  where
    stays : (node : ℕ) → slice_get (nodes old) node ≡ Some v → (n : ℕ) (x : ValueTree) → slice_get (nodes new) n ≡ Some x → (slice_get (nodes old) n ≡ Some x) ⊎ IsPart x v → slice_get (nodes old) n ≡ Some x
    stays node h n x at (inl old_at) = old_at
    stays node h n x at (inr part) =
        let there = part-stands old law x v part node h in
        let same : there.0 ≡ n = different there.0 n x (grows.nodes.keeps there.0 x there.1) at in
        subst (λ (k : ℕ). slice_get (nodes old) k ≡ Some x) same there.1
