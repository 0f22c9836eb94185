-- Definitions taken by their places, one after another.
use Rattle.std.proofs.Common.{◌≡◌, refl, sym, ap, subst, ◌∙◌, ◌⊎◌, inl, inr, ℕ, ◌+◌, ◌<◌, List, [], ◌∷◌, ◌++◌, length, slice_get, Some, arith}
use Rattle.std.proofs.lemmas.Option.{slice_get_within}
use Rattle.jh_containers.proofs.topological_order.Orderings.{push-keeps, push-last}
use Rattle.jh_containers.proofs.transitive_closure.Places.{before-or-at}
use Rattle.jh_definitions.specs.dependency_order.Defining.{AreTaken}

some-is : (a b : ℕ) → Some a ≡ Some b → a ≡ b
some-is a b e = cc

push-long : {X : Type 0} (ys : List X) (x : X) → length (ys ++ x ∷ []) ≡ length ys + 1
push-long [] x = refl
push-long (y ∷ ys) x = let more : length (ys ++ x ∷ []) ≡ length ys + 1 = push-long ys x in omega arith

pub long-next : {X : Type 0} (old new : List X) (n : ℕ) (x : X) → length old ≡ n → new ≡ old ++ x ∷ [] → length new ≡ n + 1
long-next old new n x long push = ap length push ∙ push-long old x ∙ ap (λ (k : ℕ). k + 1) long

module _ {X : Type 0} (xs : List X) (places : List ℕ) where
  abbrev pub TakenBelow : List X → ℕ → Type 0
  TakenBelow made n = (i k : ℕ) → i < n → slice_get places i ≡ Some k → (x : X) × (slice_get xs k ≡ Some x) × (slice_get made i ≡ Some x)

  pub taken-next : (old new : List X) (n k : ℕ) (x : X) → length old ≡ n → new ≡ old ++ x ∷ [] → slice_get places n ≡ Some k → slice_get xs k ≡ Some x → TakenBelow old n → TakenBelow new (n + 1)
  taken-next old new n k x long push at there below i j lt e = by (before-or-at i n lt)
    where
      by : (i < n) ⊎ (i ≡ n) → (y : X) × (slice_get xs j ≡ Some y) × (slice_get new i ≡ Some y)
      by (inl l) = let w = below i j l e in (w.0, w.1, ap (λ zs. slice_get zs i) push ∙ push-keeps old x i w.0 w.2)
      by (inr s) =
          let same : k ≡ j = some-is k j (sym at ∙ ap (slice_get places) (sym s) ∙ e) in
          (x, subst (λ (m : ℕ). slice_get xs m ≡ Some x) same there, (λ t. slice_get (push t) (s t)) ∙ ap (slice_get (old ++ x ∷ [])) (sym long) ∙ push-last old x)

  pub taken-all : (made : List X) (n : ℕ) → length made ≡ n → n ≡ length places → TakenBelow made n → AreTaken xs places made
  taken-all made n long end below = record { long = long ∙ end; taken = λ i k e. let inside : i < length places = slice_get_within places i k e in below i k (subst (λ (m : ℕ). i < m) (sym end) inside) e }
