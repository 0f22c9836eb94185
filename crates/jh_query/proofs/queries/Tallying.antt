-- Tallies of lists of atoms, one after the other.
use Rattle.std.proofs.Common.{◌≡◌, refl, ℕ, ◌*◌, Bool, true, false, ◌&&◌, if◌then◌else◌, List, [], ◌∷◌, ◌++◌, Option, Some, None, append_assoc, ap, ◌∙◌, arith}
use Rattle.std.specs.List.{list_all, list_any}
use Rattle.std.proofs.lemmas.List.{append-nil}
use Rattle.std.proofs.lemmas.List.Sums.{sum_by-append}
use Rattle.jh_query.specs.declared.queries.measuring.Tally.{Tally}
use Rattle.jh_query.specs.queries.Tree.{CondTree, QueryTree}
use Rattle.jh_query.specs.queries.Same.{same_atom}
use Rattle.jh_query.specs.queries.Size.{atom_weight, distinct, is_small_atom, product_by, slacks}
use Rattle.jh_query.specs.queries.Tallies.{IsTally, fresh, joined}
use Rattle.jh_containers.proofs.capped_counts.Ceilings.{plus-capped, times-capped}

pub fresh-append : (xs ys later : List CondTree) → fresh (xs ++ ys) later ≡ fresh xs (ys ++ later) ++ fresh ys later
fresh-append [] ys later = refl
fresh-append (x ∷ xs) ys later =
    rw (append_assoc xs ys later) (one_more (list_any (same_atom x) (xs ++ (ys ++ later))) x (fresh (xs ++ ys) later) (fresh xs (ys ++ later)) (fresh ys later) (fresh-append xs ys later))
  where
    one_more : (b : Bool) (x : CondTree) (whole first second : List CondTree) → whole ≡ first ++ second → (if b then whole else x ∷ whole) ≡ (if b then first else x ∷ first) ++ second
    one_more true x whole first second e = e
    one_more false x whole first second e = ap (λ xs. x ∷ xs) e

pub fresh-alone : (xs : List CondTree) → fresh xs [] ≡ distinct xs
fresh-alone [] = refl
fresh-alone (x ∷ xs) = rw (append-nil xs, fresh-alone xs) refl

and_assoc : (a b c : Bool) → (a && (b && c)) ≡ ((a && b) && c)
and_assoc true b c = refl
and_assoc false b c = refl

all-append : (p : CondTree → Bool) (xs ys : List CondTree) → list_all p (xs ++ ys) ≡ (list_all p xs && list_all p ys)
all-append p [] ys = refl
all-append p (x ∷ xs) ys = ap (λ b. p x && b) (all-append p xs ys) ∙ and_assoc (p x) (list_all p xs) (list_all p ys)

product-append : (f : CondTree → ℕ) (xs ys : List CondTree) → product_by f (xs ++ ys) ≡ product_by f xs * product_by f ys
product-append f [] ys = omega arith
product-append f (x ∷ xs) ys = rw (product-append f xs ys) (omega arith)

and_false : (b c : Bool) → c ≡ false → (b && c) ≡ false
and_false true c e = e
and_false false c e = refl

pub joined-is : (q : QueryTree) (a b : Option Tally) (xs ys : List CondTree) → IsTally q a xs → IsTally q b ys → IsTally q (joined a b) (xs ++ ys)
joined-is q None b xs ys e f = rw (all-append (is_small_atom q) xs ys, e) refl
joined-is q (Some s) None xs ys e f = rw (all-append (is_small_atom q) xs ys) (and_false (list_all (is_small_atom q) xs) (list_all (is_small_atom q) ys) f)
joined-is q (Some s) (Some t) xs ys e f = (
  rw (all-append (is_small_atom q) xs ys, e.0, f.0) refl,
  rw (product-append (atom_weight q) xs ys) (times-capped _ s.product t.product _ _ refl e.1 f.1),
  rw (sum_by-append slacks xs ys) (plus-capped _ s.slacks t.slacks _ _ refl e.2 f.2),
)

-- the tally of two parts, of which the second stands behind the first
pub tally-both : (q : QueryTree) (r a b : Option Tally) (xs ys later : List CondTree) → r ≡ joined a b → IsTally q a (fresh xs (ys ++ later)) → IsTally q b (fresh ys later) → IsTally q r (fresh (xs ++ ys) later)
tally-both q r a b xs ys later e f g = rw (e, fresh-append xs ys later) (joined-is q a b (fresh xs (ys ++ later)) (fresh ys later) f g)

pub ruleset tally_steps = (tally-both)
