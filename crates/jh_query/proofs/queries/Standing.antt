-- Whether something stands in several lists, one after the other.
use Rattle.std.proofs.Common.{◌≡◌, refl, ℕ, ◌+◌, ◌-◌, ◌<◌, ◌≤◌, Bool, true, false, ◌||◌, List, [], ◌∷◌, ◌++◌, length, drop, take, length-drop, arith, get_or, map, ap, ◌∙◌, add-one, drop-cons}
use Rattle.std.specs.List.{flat_map, list_any}
use Rattle.std.proofs.lemmas.List.{take_all}
use Rattle.jh_query.specs.declared.queries.query.Cond.{Cond}
use Rattle.jh_query.specs.queries.Tree.{CondTree}
use Rattle.jh_query.specs.queries.Bare.{cond_tree}
use Rattle.jh_query.specs.queries.Size.{atoms}

or_assoc : (a b c : Bool) → (a || (b || c)) ≡ ((a || b) || c)
or_assoc true b c = refl
or_assoc false b c = refl

pub any-append : (p : CondTree → Bool) (xs ys : List CondTree) → list_any p (xs ++ ys) ≡ (list_any p xs || list_any p ys)
any-append p [] ys = refl
any-append p (x ∷ xs) ys = ap (λ b. p x || b) (any-append p xs ys) ∙ or_assoc (p x) (list_any p xs) (list_any p ys)

-- it stands in the first list, or it is asked of the second
pub in-first : (p : CondTree → Bool) (xs ys : List CondTree) (r : Bool) → r ≡ list_any p xs → r ≡ true → r ≡ list_any p (xs ++ ys)
in-first p xs ys r e t = rw (any-append p xs ys, ← e, t) refl

pub in-second : (p : CondTree → Bool) (xs ys : List CondTree) (r s : Bool) → r ≡ list_any p xs → r ≡ false → s ≡ list_any p ys → s ≡ list_any p (xs ++ ys)
in-second p xs ys r s e t f = rw (any-append p xs ys, ← e, t) f

pub alone : (p : CondTree → Bool) (x : CondTree) (r : Bool) → r ≡ p x → r ≡ list_any p (x ∷ [])
alone p x r e = by_test (p x) r e
  where
    by_test : (b r : Bool) → r ≡ b → r ≡ (b || false)
    by_test true r e = e
    by_test false r e = e

-- the next of several conditions
pub next_cond : (conds : List Cond) (i : ℕ) (x : Cond) → i < length conds → x ≡ get_or conds i x → flat_map atoms (map cond_tree (drop i conds)) ≡ atoms (cond_tree x) ++ flat_map atoms (map cond_tree (drop (i + 1) conds))
next_cond conds i x h e =
    let all : drop i conds ≡ x ∷ drop (i + 1) conds = rw (add-one i) (rw (← e) at (drop-cons conds i x h)) in
    rw all refl

pub ruleset standing_steps = (in-first, in-second, alone)
