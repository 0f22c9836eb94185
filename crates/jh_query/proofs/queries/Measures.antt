-- The size of a query, from what its parts come to.
use Rattle.std.proofs.Common.{◌≡◌, refl, ℕ, ◌+◌, ◌*◌, ◌^◌, ◌≤◌, true, arith}
use Rattle.std.specs.List.{list_all, sum_by}
use Rattle.std.proofs.lemmas.Bool.{le-ltb}
use Rattle.jh_query.specs.queries.Tree.{QueryTree}
use Rattle.jh_query.specs.queries.Size.{atom_weight, atoms_of, capped, column_count, distinct, is_countable, is_small_atom, places, product_by, query_size, slacks}
use Rattle.jh_containers.proofs.capped_counts.Ceilings.{times-capped}

columns-are : (q : QueryTree) (tail columns more : ℕ) → tail ≡ capped (sum_by slacks (distinct (atoms_of q)))
    → columns ≡ capped (2 ^ q.sets + (2 * q.numbers + tail)) → more ≡ capped (columns + 1) → more ≡ capped (column_count q + 1)
columns-are q tail columns more t c m = rw (m, c, t) (omega arith)

countable : (q : QueryTree) → q.sets ≤ 16 → list_all (is_small_atom q) (distinct (atoms_of q)) ≡ true → is_countable q ≡ true
countable q h e = rw (le-ltb 16 q.sets h, e) refl

pub size-is : (q : QueryTree) (tail columns more place product cases r : ℕ) → q.sets ≤ 16 → list_all (is_small_atom q) (distinct (atoms_of q)) ≡ true
    → tail ≡ capped (sum_by slacks (distinct (atoms_of q))) → columns ≡ capped (2 ^ q.sets + (2 * q.numbers + tail)) → more ≡ capped (columns + 1)
    → place ≡ capped (places q.sets q.elements) → product ≡ capped (product_by (atom_weight q) (distinct (atoms_of q))) → cases ≡ capped (place * product) → r ≡ capped (cases * more) → r ≡ query_size q
size-is q tail columns more place product cases r h small t c m p w k e =
    rw (countable q h small)
    (times-capped r cases more (places q.sets q.elements * product_by (atom_weight q) (distinct (atoms_of q))) (column_count q + 1) e
    (times-capped cases place product (places q.sets q.elements) (product_by (atom_weight q) (distinct (atoms_of q))) k p w)
    (columns-are q tail columns more t c m))
