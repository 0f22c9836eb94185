-- A list of fields that are made one after another.
use Rattle.std.proofs.Common.{◌≡◌, sym, ap, ◌∙◌, ℕ, zero, suc, ◌+◌, ◌<◌, ◌≤◌, true, List, [], ◌∷◌, ◌++◌, length, slice_get, Some, drop, get_or, add-one, drop-cons}
use Rattle.std.proofs.lemmas.List.{drop_all}
use Rattle.std.proofs.lemmas.Option.{slice_get-get_or}
use Rattle.jh_form.specs.declared.form.FieldTerm.{FieldTerm}
use Rattle.jh_form.specs.Bare.{field_tree, list_tree}
use Rattle.jh_form.specs.Tree.{FieldTrees, ValueTree}
use Rattle.jh_form.specs.Tree as t
use Rattle.jh_form.proofs.ClosedLemmas.{both-left, both-right}
use Rattle.jh_arena.proofs.of_jh_boxed.Rows.{before, before-none, before-push}
use Rattle.jh_arena.specs.table.Entries.{is_field, the_field, are_fields, fields_at}
use Rattle.jh_export.specs.Standing.{AreBelow}

-- an item of a list of fields is a field
item-field : (ts : List ValueTree) (ns : List ℕ) (j n : ℕ) → are_fields ts ns ≡ true → slice_get ns j ≡ Some n → is_field (slice_get ts n) ≡ true
unfolding are_fields
item-field ts [] j n h at = absurd (cc)
item-field ts (m ∷ ms) zero n h at = let same : m ≡ n = cc in ap (λ o. is_field (slice_get ts o)) (sym same) ∙ both-left (is_field (slice_get ts m)) (are_fields ts ms) h
item-field ts (m ∷ ms) (suc j) n h at = item-field ts ms j n (both-right (is_field (slice_get ts m)) (are_fields ts ms) h) at

pub item-is-field : (ts : List ValueTree) (ns : List ℕ) (j : ℕ) → are_fields ts ns ≡ true → j < length ns → is_field (slice_get ts (get_or ns j 0)) ≡ true
item-is-field ts ns j h lt = item-field ts ns j (get_or ns j 0) h (slice_get-get_or ns j 0 lt)

-- an item of a list below a place is below it
pub item-below : (i : ℕ) (ns : List ℕ) (j : ℕ) → AreBelow i ns → j < length ns → get_or ns j 0 < i
item-below i ns j h lt = h.below j (get_or ns j 0) (slice_get-get_or ns j 0 lt)

pub fields-start : (ts : List ValueTree) (ns : List ℕ) (made : List FieldTerm) → made ≡ [] → fields_at ts ns ≡ before made (fields_at ts (drop 0 ns))
fields-start ts ns made e = ap (λ fs. before fs (fields_at ts ns)) (sym e)

pub fields-step : (ts : List ValueTree) (ns : List ℕ) (j : ℕ) (f : FieldTerm) (made more : List FieldTerm) → j < length ns →
    fields_at ts ns ≡ before made (fields_at ts (drop j ns)) → field_tree f ≡ the_field (slice_get ts (get_or ns j 0)) → more ≡ made ++ f ∷ [] →
    fields_at ts ns ≡ before more (fields_at ts (drop (j + 1) ns))
unfolding fields_at
fields-step ts ns j f made more lt inv k p =
    let rest = fields_at ts (drop (suc j) ns) in
    rw add-one (inv ∙ ap (λ ms. before made (fields_at ts ms)) (drop-cons ns j 0 lt)
    ∙ ap (λ u. before made (t.more u rest)) (sym k)
    ∙ sym (before-push made f rest)
    ∙ ap (λ fs. before fs rest) (sym p))

pub fields-end : (ts : List ValueTree) (ns : List ℕ) (j : ℕ) (made : List FieldTerm) → length ns ≤ j → fields_at ts ns ≡ before made (fields_at ts (drop j ns)) → list_tree made ≡ fields_at ts ns
unfolding fields_at
fields-end ts ns j made h inv = sym (inv ∙ ap (λ ms. before made (fields_at ts ms)) (drop_all j ns h) ∙ before-none made)
