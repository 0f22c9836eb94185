-- A list with a value at a place.
use Rattle.std.proofs.Common.{◌≡◌, refl, sym, ap, ◌∙◌, ℕ, zero, suc, ◌+◌, ◌-◌, ◌<◌, ◌≤◌, Bool, true, false, if◌then◌else◌, ◌==◌, List, [], ◌∷◌, ◌++◌, length, map, get_or, replicate, slice_set, take, arith}
use Rattle.std.proofs.lemmas.List.{take_all, map-append, map-set, length-map, append_assoc}
use Rattle.std.specs.declared.alloc.Global.{Global}
use Rattle.std.specs.declared.vec.Vec.{Vec}
use Rattle.std.proofs.lemmas.Bool.Decides.{nat_tests}
use Rattle.jh_store.specs.memory.Cells.{put, items_of}

pub put-within : {X : Type 0} (d : X) (xs : List X) (i : ℕ) (v : X) → i < length xs → slice_set xs i v ≡ put d xs i v
unfolding put
put-within d [] i v lt = absurd (omega arith)
put-within d (x ∷ xs) zero v lt = refl
put-within d (x ∷ xs) (suc i) v lt = ap (λ ys. x ∷ ys) (put-within d xs i v (omega arith))

put-empty : {X : Type 0} (d : X) (i : ℕ) (v : X) → slice_set (replicate (suc i) d) i v ≡ put d [] i v
unfolding put
put-empty d zero v = refl
put-empty d (suc i) v = ap (λ ys. d ∷ ys) (put-empty d i v)

put-past : {X : Type 0} (d : X) (xs : List X) (i : ℕ) (v : X) → length xs ≤ i → slice_set (xs ++ replicate (suc i - length xs) d) i v ≡ put d xs i v
unfolding put
put-past d [] i v le = let e : suc i - 0 ≡ suc i = omega arith in rw e (put-empty d i v)
put-past d (x ∷ xs) zero v le = absurd (omega arith)
put-past d (x ∷ xs) (suc i) v le =
    let e : suc (suc i) - suc (length xs) ≡ suc i - length xs = omega arith in
    rw e (ap (λ ys. x ∷ ys) (put-past d xs i v (omega arith)))

pub put-filled : {X : Type 0} (d : X) (xs ys : List X) (i n : ℕ) (v : X) → length xs ≤ i → n ≡ i + 1 → ys ≡ take n xs ++ replicate (n - length xs) d → slice_set ys i v ≡ put d xs i v
put-filled d xs ys i n v le size filled =
    let more : n ≡ suc i = omega arith in
    ap (λ zs. slice_set zs i v) (filled ∙ ap (λ zs. zs ++ replicate (n - length xs) d) (take_all n xs (omega arith)) ∙ ap (λ k. xs ++ replicate (k - length xs) d) more) ∙ put-past d xs i v le

put-here : {X : Type 0} (d : X) (xs : List X) (i : ℕ) (v : X) → get_or (put d xs i v) i d ≡ v
unfolding put
put-here d [] zero v = refl
put-here d [] (suc i) v = put-here d [] i v
put-here d (x ∷ xs) zero v = refl
put-here d (x ∷ xs) (suc i) v = put-here d xs i v

put-other : {X : Type 0} (d : X) (xs : List X) (i : ℕ) (v : X) (k : ℕ) → (k ≡ i → ⊥) → get_or (put d xs i v) k d ≡ get_or xs k d
unfolding put
put-other d [] zero v zero h = absurd (h refl)
put-other d [] zero v (suc k) h = refl
put-other d [] (suc i) v zero h = refl
put-other d [] (suc i) v (suc k) h = put-other d [] i v k (λ e. h (ap suc e))
put-other d (x ∷ xs) zero v zero h = absurd (h refl)
put-other d (x ∷ xs) zero v (suc k) h = refl
put-other d (x ∷ xs) (suc i) v zero h = refl
put-other d (x ∷ xs) (suc i) v (suc k) h = put-other d xs i v k (λ e. h (ap suc e))

pub same-number : (a b : ℕ) → (a == b) ≡ true → a ≡ b
same-number a b h = grind (arith, nat_tests)

pub other-number : (a b : ℕ) → (a == b) ≡ false → a ≡ b → ⊥
other-number a b h e = grind (arith, nat_tests)

-- what stands in it
pub put_reads : {X : Type 0} (d : X) (xs : List X) (i : ℕ) (v : X) (k : ℕ) → get_or (put d xs i v) k d ≡ (if k == i then v else get_or xs k d)
put_reads {X} d xs i v k = by (k == i) refl
  where
    by : (t : Bool) → (k == i) ≡ t → get_or (put d xs i v) k d ≡ (if k == i then v else get_or xs k d)
    by true e =
        let same : k ≡ i = same-number k i e in
        rw e (ap (λ n. get_or (put d xs i v) n d) same ∙ put-here d xs i v)
    by false e = rw e (put-other d xs i v k (other-number k i e))

at-end : (k : ℕ) → replicate {A = List Bool} k [] ++ ([] ∷ []) ≡ replicate (suc k) []
at-end zero = refl
at-end (suc k) = ap (λ (rs : List (List Bool)). [] ∷ rs) (at-end k)

-- rows of which one more is empty
pub one-more : (start rows new : List (Vec Bool Global)) (row : Vec Bool Global) (n : ℕ) → length start ≤ n → new ≡ rows ++ (row ∷ []) → row.items ≡ [] → map items_of rows ≡ map items_of start ++ replicate (n - length start) [] →
    map items_of new ≡ map items_of start ++ replicate (n + 1 - length start) []
one-more start rows new row n le pushed empty so-far =
    let size : n + 1 - length start ≡ suc (n - length start) = omega arith in
    ap (map items_of) pushed ∙ map-append items_of rows (row ∷ []) ∙ ap (λ (r : List Bool). map items_of rows ++ (r ∷ [])) empty ∙ ap (λ rs. rs ++ ([] ∷ [])) so-far
    ∙ append_assoc (map items_of start) (replicate (n - length start) []) ([] ∷ []) ∙ ap (λ rs. map items_of start ++ rs) (at-end (n - length start)) ∙ ap (λ k. map items_of start ++ replicate k []) (sym size)

pub row-within : (rows : List (Vec Bool Global)) (i : ℕ) (row : Vec Bool Global) → i < length rows → map items_of (slice_set rows i row) ≡ put [] (map items_of rows) i row.items
row-within rows i row lt =
    let more : i < length (map items_of rows) = let e = length-map rows items_of in omega arith in
    map-set items_of rows i row ∙ put-within [] (map items_of rows) i row.items more

push-past : (d : List Bool) (xs : List (List Bool)) (i : ℕ) (v : List Bool) → length xs ≤ i → (xs ++ replicate (i - length xs) d) ++ (v ∷ []) ≡ put d xs i v
unfolding put
push-past d [] i v le = let e : i - 0 ≡ i = omega arith in rw e (empty i)
  where
    empty : (i : ℕ) → replicate i d ++ (v ∷ []) ≡ put d [] i v
    empty zero = refl
    empty (suc i) = ap (λ ys. d ∷ ys) (empty i)
push-past d (x ∷ xs) zero v le = absurd (omega arith)
push-past d (x ∷ xs) (suc i) v le =
    let e : suc i - suc (length xs) ≡ i - length xs = omega arith in
    rw e (ap (λ ys. x ∷ ys) (push-past d xs i v (omega arith)))

pub row-past : (rows full new : List (Vec Bool Global)) (i : ℕ) (row : Vec Bool Global) → length rows ≤ i → map items_of full ≡ map items_of rows ++ replicate (i - length rows) [] → new ≡ full ++ (row ∷ []) →
    map items_of new ≡ put [] (map items_of rows) i row.items
row-past rows full new i row le filled pushed =
    let size = length-map rows items_of in
    let more : length (map items_of rows) ≤ i = omega arith in
    ap (map items_of) pushed ∙ map-append items_of full (row ∷ []) ∙ ap (λ rs. rs ++ (row.items ∷ [])) filled ∙ ap (λ k. (map items_of rows ++ replicate (i - k) []) ++ (row.items ∷ [])) (sym size) ∙ push-past [] (map items_of rows) i row.items more
