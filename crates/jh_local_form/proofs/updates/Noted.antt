-- Names that are noted one after another.
use Rattle.std.proofs.Common.{◌≡◌, refl, sym, ap, subst, ◌∙◌, ℕ, ◌+◌, ◌≤◌, true, List, [], ◌∷◌, ◌++◌, map, take, length, slice_get, Some, arith}
use Rattle.std.proofs.lemmas.Bool.{true≢false}
use Rattle.std.proofs.lemmas.List.{take_all, length-map, length-take}
use Rattle.std.proofs.lemmas.Option.{slice_get_within}
use Rattle.jh_name.specs.declared.naming.Name.{Name}
use Rattle.jh_form.specs.Tree.{ValueTree, of_field, free_field}
use Rattle.jh_form.specs.Tree as t
use Rattle.jh_arena.specs.table.Entries.{Listing, is_field, the_field}
use Rattle.jh_arena.specs.table.Growth.{Grows, Extends}
use Rattle.jh_arena.specs.table.Nodes.{nodes}
use Rattle.jh_approx.specs.definition.Names.{place_in}
use Rattle.jh_fca.specs.local_form.Named.{is_whole_update, text_under, text_of, name_of}
use Rattle.jh_local_form.specs.updates.Updating.{AreValues, AreUpdates, Names, named_as, IsNaming}
use Rattle.jh_local_form.specs.updates.Remaining.{values-grow, updates-grow}
use Rattle.jh_local_form.proofs.updates.Places.{value-at, values-length, map-next}
use Rattle.jh_local_form.proofs.updates.Collecting.{values-push}
use Rattle.jh_local_form.proofs.updates.Apart.{passes-at, place-is}

whole-field : (v : ValueTree) → is_whole_update v ≡ true → is_field (Some v) ≡ true
unfolding is_whole_update is_field
whole-field (t.of_field f) h = refl
whole-field _ h = absurd (true≢false (sym h))

text-field : (v : ValueTree) → is_whole_update v ≡ true → text_under (the_field (Some v)) ≡ text_of v
unfolding is_whole_update the_field text_of
text-field (t.of_field f) h = refl
text-field _ h = absurd (true≢false (sym h))

-- an update of the list is a field
pub field-there : (ts : List ValueTree) (ns : List ℕ) (us : List ValueTree) (i n : ℕ) → AreUpdates ts ns us → slice_get ns i ≡ Some n → is_field (slice_get ts n) ≡ true
field-there ts ns us i n are at =
    let u = value-at ts ns us i n are.are at in
    ap is_field u.2 ∙ whole-field u.0 (passes-at is_whole_update us i u.0 are.whole u.1)

-- the name that was made is that of the update at its place
made-name : (ts : List ValueTree) (us : List ValueTree) (i n k : ℕ) (u : ValueTree) (first count : ℕ) → is_whole_update u ≡ true → slice_get ts n ≡ Some u → place_in us u ≡ i → first ≡ k → count ≡ i →
    of_field (free_field (record { text = text_under (the_field (slice_get ts n)); turn = first + count })) ≡ named_as us k u
made-name ts us i n k u first count whole at place same counted = λ j.
    of_field (free_field (record { text = (ap (λ o. text_under (the_field o)) at ∙ text-field u whole) j; turn = (same j) + (counted ∙ sym place) j }))

-- one more name
pub names-next : (t0 t1 t2 : List ValueTree) → Grows t0 t1 → Grows t1 t2 → (ns : List ℕ) (us : List ValueTree) (i n k first : ℕ) (old new : List ℕ) → AreUpdates t0 ns us → slice_get ns i ≡ Some n → first ≡ k →
    AreValues t1 old (map (named_as us k) (take i us)) →
    (node : ℕ) × (new ≡ old ++ node ∷ []) × (slice_get t2 node ≡ Some (of_field (free_field (record { text = text_under (the_field (slice_get t1 n)); turn = first + length old })))) →
    AreValues t2 new (map (named_as us k) (take (i + 1) us))
names-next t0 t1 t2 g h ns us i n k first old new are at same names made =
    let u = value-at t0 ns us i n are.are at in
    let within = slice_get_within us i u.0 u.1 in
    let counted : length old ≡ i = let a = values-length t1 old (map (named_as us k) (take i us)) names in let b = length-map (take i us) (named_as us k) in let c = length-take i us in omega (arith, a, b, c, within) in
    let is = made-name t1 us i n k u.0 first (length old) (passes-at is_whole_update us i u.0 are.whole u.1) (g.keeps n u.0 u.2) (place-is us i u.0 are.differ u.1) same counted in
    subst (λ (ms : List ℕ). AreValues t2 ms (map (named_as us k) (take (i + 1) us))) (sym made.1)
    (subst (λ (vs : List ValueTree). AreValues t2 (old ++ made.0 ∷ []) vs) (sym (map-next (named_as us k) us i u.0 u.1))
    (values-push t2 old (map (named_as us k) (take i us)) made.0 (named_as us k u.0) (values-grow t1 t2 h old (map (named_as us k) (take i us)) names) (made.2 ∙ ap (λ v. Some v) is)))

-- all of them
pub naming-all : (t u : Listing) → Extends t u → (ns : List ℕ) (us : List ValueTree) (i k : ℕ) (n : Names) → AreUpdates (nodes t) ns us → length ns ≤ i → n.updates ≡ take i ns → n.first ≡ k → AreValues (nodes u) n.names (map (named_as us k) (take i us)) → IsNaming u n us
naming-all t u g ns us i k n are past updates first names =
    let long = values-length (nodes t) ns us are.are in
    record {
      updates = subst (λ (ms : List ℕ). AreUpdates (nodes u) ms us) (sym (updates ∙ take_all i ns past)) (updates-grow (nodes t) (nodes u) g.nodes ns us are);
      names = subst (λ (m : ℕ). AreValues (nodes u) n.names (map (named_as us m) us)) (sym first) (subst (λ (vs : List ValueTree). AreValues (nodes u) n.names (map (named_as us k) vs)) (take_all i us (omega (arith, past, long))) names);
    }
