-- Loops over parts that are to pass.
use Rattle.std.proofs.Common.{◌≡◌, refl, sym, ap, ◌∙◌, ℕ, zero, suc, ◌+◌, ◌≤◌, Bool, true, false, not, IsTrue, ◌&&◌, List, [], ◌∷◌, length, slice_get, Some, drop, add-one}
use Rattle.std.proofs.lemmas.Bool.{true≢false}
use Rattle.std.proofs.lemmas.List.{drop_all}
use Rattle.jh_name.specs.declared.naming.Name.{Name}
use Rattle.jh_name.specs.declared.place.Sort.{Sort}
use Rattle.jh_form.specs.Tree.{ValueTree}
use Rattle.jh_form.specs.Passing.{value_passes}
use Rattle.jh_arena.specs.table.Entries.{the_value}
use Rattle.jh_arena.specs.table.Facing.{all_pass}

next_of : (q : Name → Sort → Bool) (ts : List ValueTree) (ns : List ℕ) (i n : ℕ) → slice_get ns i ≡ Some n →
    all_pass q ts (drop i ns) ≡ (value_passes (the_value (slice_get ts n)) q && all_pass q ts (drop (suc i) ns))
next_of q ts [] i n e = absurd (cc)
next_of q ts (x ∷ ns) zero n e =
    let same : x ≡ n = cc in
    ap (λ y. value_passes (the_value (slice_get ts y)) q && all_pass q ts ns) same
next_of q ts (x ∷ ns) (suc i) n e = next_of q ts ns i n e

pub all_pass-next : (q : Name → Sort → Bool) (ts : List ValueTree) (ns : List ℕ) (i n : ℕ) → slice_get ns i ≡ Some n →
    all_pass q ts (drop i ns) ≡ (value_passes (the_value (slice_get ts n)) q && all_pass q ts (drop (i + 1) ns))
all_pass-next q ts ns i n e =
    next_of q ts ns i n e ∙ ap (λ j. value_passes (the_value (slice_get ts n)) q && all_pass q ts (drop j ns)) (sym (add-one i))

pub all_pass-end : (q : Name → Sort → Bool) (ts : List ValueTree) (ns : List ℕ) (i : ℕ) → length ns ≤ i → all_pass q ts (drop i ns) ≡ true
all_pass-end q ts ns i le = ap (all_pass q ts) (drop_all i ns le)

pub not-true : (b : Bool) → IsTrue (not b) → b ≡ false
not-true false h = refl
not-true true h = absurd (true≢false (sym h))
