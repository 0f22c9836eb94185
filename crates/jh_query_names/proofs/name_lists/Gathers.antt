-- Names of formulas that are gathered one behind another.
use Rattle.std.proofs.Common.{◌≡◌, refl, sym, ap, ◌∙◌, ℕ, zero, suc, ◌+◌, ◌<◌, ◌≤◌, Bool, true, false, ◌&&◌, ◌||◌, nat_eq, List, [], ◌∷◌, ◌++◌, length, slice_get, Option, Some, drop, get_or, add-one, drop-cons, arith}
use Rattle.std.specs.List.{flat_map}
use Rattle.std.proofs.lemmas.Bool.{true≢false, eq-eqb}
use Rattle.std.proofs.lemmas.List.{drop_all}
use Rattle.std.proofs.lemmas.Option.{slice_get_within}
use Rattle.jh_form.specs.Tree.{ValueTree, of_truth}
use Rattle.jh_arena.specs.table.Entries.{is_truth, the_truth, the_value}
use Rattle.jh_arena.specs.table.Growth.{Grows}
use Rattle.jh_arena.specs.makers.Joined.{are_truths, truths_at}
use Rattle.jh_approx.specs.definition.Names.{names}
use Rattle.jh_query_names.specs.query_names.Gathered.{value_names, with_names}
use Rattle.jh_query_names.specs.query_names.Kinds.{value_at}
use Rattle.jh_query_names.specs.query_names.Finding.{AreBelow, has_node}
use Rattle.jh_query_names.proofs.query_names.Onces.{with-append}

both-left : (p q : Bool) → (p && q) ≡ true → p ≡ true
both-left true q h = refl
both-left false q h = absurd (true≢false (sym h))

both-right : (p q : Bool) → (p && q) ≡ true → q ≡ true
both-right true q h = h
both-right false q h = absurd (true≢false (sym h))

or-right : (p q : Bool) → q ≡ true → (p || q) ≡ true
or-right true q h = refl
or-right false q h = h

-- nodes each of which is in a table
pub found-below : (k : ℕ) (ns : List ℕ) → ((n : ℕ) → has_node ns n ≡ true → n < k) → AreBelow k ns
found-below k [] h = tt
found-below k (n ∷ ns) h = (h n (λ i. eq-eqb n n refl i || has_node ns n), found-below k ns (λ m e. h m (or-right (nat_eq m n) (has_node ns m) e)))

truth-names : (o : Option ValueTree) → is_truth o ≡ true → value_names (the_value o) ≡ names (the_truth o)
unfolding is_truth the_truth the_value value_names
truth-names (Some (of_truth a)) h = refl
truth-names _ h = absurd (true≢false (sym h))

-- what stands at a node that is a formula
formula-of : (o : Option ValueTree) → is_truth o ≡ true → o ≡ Some (of_truth (the_truth o))
unfolding is_truth the_truth
formula-of (Some (of_truth a)) h = refl
formula-of _ h = absurd (true≢false (sym h))

pub truth-inside : (ts : List ValueTree) (n : ℕ) → is_truth (slice_get ts n) ≡ true → n < length ts
truth-inside ts n h = slice_get_within ts n (of_truth (the_truth (slice_get ts n))) (formula-of (slice_get ts n) h)

-- formulas stay where they are while the table grows
pub truth-stays : (ts us : List ValueTree) (n : ℕ) → Grows ts us → is_truth (slice_get ts n) ≡ true → is_truth (slice_get us n) ≡ true
unfolding is_truth
truth-stays ts us n g h = ap is_truth (g.keeps n (of_truth (the_truth (slice_get ts n))) (formula-of (slice_get ts n) h))

pub truths-stay : (ts us : List ValueTree) (ns : List ℕ) → Grows ts us → are_truths ts ns ≡ true → are_truths us ns ≡ true
truths-stay ts us [] g h = refl
truths-stay ts us (n ∷ ns) g h =
    (λ i. truth-stays ts us n g (both-left (is_truth (slice_get ts n)) (are_truths ts ns) h) i && are_truths us ns)
    ∙ truths-stay ts us ns g (both-right (is_truth (slice_get ts n)) (are_truths ts ns) h)

-- the names of a formula at a node
pub names-at : (ts : List ValueTree) (n : ℕ) → is_truth (slice_get ts n) ≡ true → value_names (value_at ts n) ≡ names (the_truth (slice_get ts n))
names-at ts n h = truth-names (slice_get ts n) h

pub item-truth : (ts : List ValueTree) (ns : List ℕ) (j : ℕ) (d : ℕ) → are_truths ts ns ≡ true → j < length ns → is_truth (slice_get ts (get_or ns j d)) ≡ true
item-truth ts [] j d h lt = absurd (omega arith)
item-truth ts (n ∷ ns) zero d h lt = both-left (is_truth (slice_get ts n)) (are_truths ts ns) h
item-truth ts (n ∷ ns) (suc j) d h lt = item-truth ts ns j d (both-right (is_truth (slice_get ts n)) (are_truths ts ns) h) (omega arith)

-- one more formula
pub gathers-next : (ts : List ValueTree) (ns : List ℕ) (j d : ℕ) (known new whole : List ValueTree) → j < length ns → with_names known (flat_map names (truths_at ts (drop j ns))) ≡ whole →
    new ≡ with_names known (names (the_truth (slice_get ts (get_or ns j d)))) → with_names new (flat_map names (truths_at ts (drop (j + 1) ns))) ≡ whole
gathers-next ts ns j d known new whole lt h e =
    let rest = flat_map names (truths_at ts (drop (suc j) ns)) in
    rw add-one (ap (λ vs. with_names vs rest) e
    ∙ sym (with-append (names (the_truth (slice_get ts (get_or ns j d)))) rest known)
    ∙ ap (λ ms. with_names known (flat_map names (truths_at ts ms))) (sym (drop-cons ns j d lt))
    ∙ h)

pub gathers-end : (ts : List ValueTree) (ns : List ℕ) (j : ℕ) (known whole : List ValueTree) → length ns ≤ j → with_names known (flat_map names (truths_at ts (drop j ns))) ≡ whole → known ≡ whole
gathers-end ts ns j known whole le h = sym (ap (λ ms. with_names known (flat_map names (truths_at ts ms))) (drop_all j ns le)) ∙ h

-- null, facts and a goal
pub gathers-all : (a : ValueTree) (old one two three us vs ws : List ValueTree) → ws ≡ a ∷ [] → one ≡ with_names old ws → two ≡ with_names one us → three ≡ with_names two vs → three ≡ with_names old (a ∷ (us ++ vs))
gathers-all a old one two three us vs ws e f g h =
    h ∙ ap (λ xs. with_names xs vs) (g ∙ ap (λ xs. with_names xs us) (f ∙ ap (with_names old) e))
    ∙ sym (with-append us vs (with_names old (a ∷ [])))
