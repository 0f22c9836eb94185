-- Sequents over nodes, as they are boxed.
use Rattle.std.proofs.Common.{◌≡◌, refl, sym, ap, subst, ◌∙◌, ℕ, zero, suc, ◌<◌, ◌≤◌, ◌+◌, ◌++◌, true, arith, List, [], ◌∷◌, map, take, length, Option, Some, None, slice_get}
use Rattle.std.proofs.lemmas.List.{map-append, take_more, take_all}
use Rattle.std.proofs.lemmas.Option.{slice_get_within, get_or_from_slice_get, same_Some, none-some}
use Rattle.jh_form.specs.declared.mark.Mark.{Mark}
use Rattle.jh_form.specs.Tree.{FormulaTree}
use Rattle.jh_arena.specs.table.Entries.{Listing, is_truth, the_truth}
use Rattle.jh_arena.specs.table.Nodes.{nodes}
use Rattle.jh_seq.specs.splitting.Split.{mark_of}
use Rattle.jh_splitting.specs.Pairs.{ArePaired}
use Rattle.jh_splitting.specs.Standing.{IsLabel, IsFormula, name_under}

-- a label by its number
pub label-within : (t : Listing) (n : ℕ) (m : Option Mark) → IsLabel t (Some n) m → n < length t.pools.marks
label-within t n None h = absurd h
label-within t n (Some m) h = slice_get_within t.pools.marks n m h

pub label-is : (t : Listing) (n : ℕ) (x : Mark) (m : Option Mark) → slice_get t.pools.marks n ≡ Some x → IsLabel t (Some n) m → x ≡ mark_of m
label-is t n x None e h = absurd h
label-is t n x (Some m) e h = same_Some x m (sym e ∙ h)

pub label-name : (t : Listing) (n : ℕ) (x : Mark) (m : Option Mark) → slice_get t.pools.marks n ≡ Some x → IsLabel t (Some n) m → x.name ≡ name_under m
label-name t n x None e h = absurd h
label-name t n x (Some m) e h = ap (λ (y : Mark). y.name) (same_Some x m (sym e ∙ h))

pub no-label : (t : Listing) (m : Option Mark) → IsLabel t None m → m ≡ None
no-label t None h = refl
no-label t (Some m) h = absurd h

-- a formula by its number
pub formula-there : (t : Listing) (n : ℕ) (a : FormulaTree) → IsFormula t n a → is_truth (slice_get (nodes t) n) ≡ true
unfolding is_truth
formula-there t n a h = ap is_truth h

pub formula-is : (t : Listing) (n : ℕ) (a : FormulaTree) → IsFormula t n a → the_truth (slice_get (nodes t) n) ≡ a
unfolding the_truth
formula-is t n a h = ap the_truth h

-- one more of the first items of a list
pub take-next : {X : Type 0} (xs : List X) (i : ℕ) (x : X) → slice_get xs i ≡ Some x → take (i + 1) xs ≡ take i xs ++ x ∷ []
take-next xs i x at = take_more xs i x (slice_get_within xs i x at) ∙ ap (λ y. take i xs ++ y ∷ []) (get_or_from_slice_get xs i x x at)

module _ {X Y : Type 0} (R : X → Y → Type 0) where
  -- what belongs to the item at a place
  pub paired-at : (xs : List X) (ys : List Y) (i : ℕ) (x : X) → ArePaired R xs ys → slice_get xs i ≡ Some x → (y : Y) × (slice_get ys i ≡ Some y) × R x y
  paired-at [] ys i x h at = absurd (none-some x at)
  paired-at (w ∷ xs) [] i x h at = absurd h
  paired-at (w ∷ xs) (z ∷ ys) zero x h at = (z, refl, subst (λ (v : X). R v z) (same_Some w x at) h.0)
  paired-at (w ∷ xs) (z ∷ ys) (suc i) x h at = paired-at xs ys i x h.1 at

  pub paired-length : (xs : List X) (ys : List Y) → ArePaired R xs ys → length ys ≡ length xs
  paired-length [] [] h = refl
  paired-length [] (y ∷ ys) h = absurd h
  paired-length (x ∷ xs) [] h = absurd h
  paired-length (x ∷ xs) (y ∷ ys) h = ap suc (paired-length xs ys h.1)

-- one more item that was boxed
pub boxed-next : {X Y Z : Type 0} (R : X → Y → Type 0) (f : Z → Y) (xs : List X) (ys : List Y) (i : ℕ) (x : X) (old new : List Z) (z : Z) →
    ((zs : List Y) → ArePaired R xs zs → map f old ≡ take i zs) → slice_get xs i ≡ Some x → ((y : Y) → R x y → f z ≡ y) → new ≡ old ++ z ∷ [] →
    ArePaired R xs ys → map f new ≡ take (i + 1) ys
boxed-next R f xs ys i x old new z before at is e h =
    let p = paired-at R xs ys i x h at in
    ap (map f) e ∙ map-append f old (z ∷ []) ∙ (λ j. before ys h j ++ is p.0 p.2 j ∷ []) ∙ sym (take-next ys i p.0 p.1)

-- and all
pub boxed-all : {X Y Z : Type 0} (R : X → Y → Type 0) (f : Z → Y) (xs : List X) (ys : List Y) (i : ℕ) (made : List Z) →
    ((zs : List Y) → ArePaired R xs zs → map f made ≡ take i zs) → length xs ≤ i → ArePaired R xs ys → map f made ≡ ys
boxed-all R f xs ys i made before le h =
    let same = paired-length R xs ys h in
    before ys h ∙ take_all i ys (omega (arith, same, le))

pub ruleset sequent_steps = (label-within, formula-there)
