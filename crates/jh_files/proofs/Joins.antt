use Rattle.std.proofs.Common.{◌≡◌, ℕ, ◌+◌, ◌-◌, ◌≤◌, List, ◌++◌, ◌∙◌, append_assoc, ap, sym, subst, arith, length, take, drop, length-drop, take_all}
use Rattle.std.proofs.Math.Seq.{take-add}
use Rattle.std.specs.Prelude.{Option, None, Some}
use Rattle.jh_files.specs.Contents.{Appends}

-- a piece after a piece is both joined
pub appends-joined : (a : Option (List ℕ)) (p : List ℕ) (b : Option (List ℕ)) (q : List ℕ) (c : Option (List ℕ)) → Appends a p b → Appends b q c → Appends a (p ++ q) c
appends-joined (Some x) p (Some y) q (Some z) first second = second ∙ ap (λ w. w ++ q) first ∙ append_assoc x p q
appends-joined None p (Some y) q (Some z) first second = first
appends-joined a p None q (Some z) first second = elim second [ ]
appends-joined (Some x) p b q None first second = tt
appends-joined None p b q None first second = tt

-- the bytes from a place on, as a range of a slice gives them
abbrev pub rest_of : ℕ → List ℕ → List ℕ
rest_of at bytes = take (length bytes - at) (drop at bytes)

pub rest_is : (at : ℕ) (bytes : List ℕ) → rest_of at bytes ≡ drop at bytes
rest_is at bytes = ap (λ n. take n (drop at bytes)) (sym (length-drop at bytes)) ∙ take_all _ (drop at bytes) (omega arith)

-- a front and then some bytes from its end on are a longer front
pub appends-front : (a b c : Option (List ℕ)) (at n : ℕ) (bytes : List ℕ) → Appends a (take at bytes) b → Appends b (take n (rest_of at bytes)) c → Appends a (take (at + n) bytes) c
appends-front a b c at n bytes first second =
    subst (λ (front : List ℕ). Appends a front c) (sym (take-add at n bytes))
    (appends-joined a (take at bytes) b (take n (drop at bytes)) c first (subst (λ (rest : List ℕ). Appends b (take n rest) c) (rest_is at bytes) second))

pub within-front : (at n : ℕ) (bytes : List ℕ) → at ≤ length bytes → n ≤ length (rest_of at bytes) → at + n ≤ length bytes
within-front at n bytes inside short = let fact : length (rest_of at bytes) ≡ length bytes - at = ap length (rest_is at bytes) ∙ length-drop at bytes in omega arith
