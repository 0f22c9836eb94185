-- Rows that list the objects of fields lead to the same objects as the fields.
use Rattle.std.proofs.Common.{◌≡◌, refl, sym, ap, ◌∙◌, ◌⊎◌, inl, inr, subst, ℕ, zero, suc, ◌+◌, ◌<◌, List, [], ◌∷◌, ◌++◌, length, get_or, slice_get, slice_index, Some, arith}
use Rattle.std.proofs.Math.ListN.{get_or-append}
use Rattle.std.proofs.lemmas.List.{get_or_push}
use Rattle.std.proofs.lemmas.Option.{slice_get_within, slice_get-get_or}
use Rattle.jh_form.specs.Tree.{ValueTree, FieldTree, FieldTrees, of_field}
use Rattle.jh_form.specs.Meaning.{Interp, Fields, edge, field_value, fields_value}
use Rattle.jh_boxed.specs.Parts.{Among, first, later, IsChild}
use Rattle.jh_arena.specs.table.Entries.{the_field, fields_at}
use Rattle.jh_containers.proofs.transitive_closure.Places.{before-or-at}
use Rattle.jh_sem.specs.Graphs.{listed_fields, IsRow, AreRows, HasObjects, AreSame}
use Rattle.jh_sem.specs.Wide.{IsWide}
use Rattle.jh_sem.proofs.Below.{pushed-is}
use Rattle.jh_sem.proofs.Walks.{some-one, pushed-length}
use Rattle.jh_export.proofs.FieldLists.{item-is-field}
use Rattle.jh_sem.proofs.Widening.{wide-part}

pub among-at : (ts : List ValueTree) (ns : List ℕ) (j n : ℕ) → slice_get ns j ≡ Some n → Among (the_field (slice_get ts n)) (fields_at ts ns)
unfolding fields_at
among-at ts [] j n h = absurd (cc)
among-at ts (k ∷ ns) zero n h = subst (λ (x : ℕ). Among (the_field (slice_get ts x)) (fields_at ts (k ∷ ns))) (some-one k n h) (first (the_field (slice_get ts k)) (fields_at ts ns))
among-at ts (k ∷ ns) (suc j) n h = later (the_field (slice_get ts n)) (the_field (slice_get ts k)) (fields_at ts ns) (among-at ts ns j n h)

pub wide-item : (m : Interp) (ts : List ValueTree) (ns : List ℕ) (j : ℕ) → j < length ns → IsWide m (of_field (the_field (slice_get ts (get_or ns j 0)))) → (v : ValueTree) → ((f : FieldTree) → Among f (fields_at ts ns) → IsChild (of_field f) v) → IsWide m v
wide-item m ts ns j lt w v parts = wide-part m (of_field (the_field (slice_get ts (get_or ns j 0)))) v (parts (the_field (slice_get ts (get_or ns j 0))) (among-at ts ns j (get_or ns j 0) (slice_get-get_or ns j 0 lt))) w

-- each of the first rows lists the objects of its field
abbrev pub ListObjects : ℕ → Interp → List ℕ → List ValueTree → List ℕ → List (List ℕ) → Type 0
ListObjects last m e ts ns rows = (j n : ℕ) (row : List ℕ) → slice_get ns j ≡ Some n → slice_get rows j ≡ Some row → HasObjects last row (field_value (the_field (slice_get ts n)) m e)

pub rows-more : (last : ℕ) (rows : List (List ℕ)) (row : List ℕ) → AreRows last rows → IsRow last row → AreRows last (rows ++ row ∷ [])
rows-more last rows row are is i r h = by (pushed-is rows row i r h)
  where
    by : (slice_get rows i ≡ Some r) ⊎ ((i ≡ length rows) × (r ≡ row)) → IsRow last r
    by (inl e) = are i r e
    by (inr e) = subst (λ (xs : List ℕ). IsRow last xs) (sym e.1) is

pub objects-more : (last : ℕ) (m : Interp) (e : List ℕ) (ts : List ValueTree) (ns : List ℕ) (rows : List (List ℕ)) (row : List ℕ) (j : ℕ) → j ≡ length rows → j < length ns → ListObjects last m e ts ns rows → HasObjects last row (field_value (the_field (slice_get ts (get_or ns j 0))) m e) → ListObjects last m e ts ns (rows ++ row ∷ [])
objects-more last m e ts ns rows row j at lt old new = λ i n r here h. by i n r here (pushed-is rows row i r h)
  where
    by : (i n : ℕ) (r : List ℕ) → slice_get ns i ≡ Some n → (slice_get rows i ≡ Some r) ⊎ ((i ≡ length rows) × (r ≡ row)) → HasObjects last r (field_value (the_field (slice_get ts n)) m e)
    by i n r here (inl k) = old i n r here k
    by i n r here (inr k) =
        let same : get_or ns j 0 ≡ n = some-one (get_or ns j 0) n (sym (slice_get-get_or ns j 0 lt) ∙ ap (slice_get ns) (at ∙ sym k.0) ∙ here) in
        λ x less. ap (λ xs. slice_index xs x) k.1 ∙ new x less ∙ ap (λ (k : ℕ). (field_value (the_field (slice_get ts k)) m e).objects x) same

pub same-rows : (last : ℕ) (m : Interp) (e : List ℕ) (ts : List ValueTree) (ns : List ℕ) (rows : List (List ℕ)) → length rows ≡ length ns → ListObjects last m e ts ns rows → AreSame last (listed_fields rows) (fields_value (fields_at ts ns) m e)
unfolding fields_at
same-rows last m e ts [] [] c h = record { counted = refl; edges = λ i x lt. refl }
same-rows last m e ts [] (r ∷ rows) c h = absurd (omega arith)
same-rows last m e ts (n ∷ ns) [] c h = absurd (omega arith)
same-rows last m e ts (n ∷ ns) (r ∷ rows) c h =
    let rest = same-rows last m e ts ns rows (omega arith) (λ j k row a b. h (suc j) k row a b) in
    record { counted = ap suc rest.counted; edges = λ i x lt. by rest i x lt }
  where
    by : AreSame last (listed_fields rows) (fields_value (fields_at ts ns) m e) → (i x : ℕ) → x < suc last → edge (listed_fields (r ∷ rows)) i x ≡ edge (fields_value (fields_at ts (n ∷ ns)) m e) i x
    by rest zero x lt = h 0 n r refl refl x lt
    by rest (suc i) x lt = rest.edges i x lt

pub length-pushed : {X : Type 0} (xs : List X) (x : X) (n : ℕ) → length xs ≡ n → length (xs ++ x ∷ []) ≡ n + 1
length-pushed xs x n h = let e = pushed-length xs x in omega arith

-- one more object of a row
pub inside-pushed : (last : ℕ) (row : List ℕ) (o : ℕ) → o < suc last → ((j x : ℕ) → slice_get row j ≡ Some x → x < suc last) → (j x : ℕ) → slice_get (row ++ o ∷ []) j ≡ Some x → x < suc last
inside-pushed last row o lt h j x at = by (pushed-is row o j x at)
  where
    by : (slice_get row j ≡ Some x) ⊎ ((j ≡ length row) × (x ≡ o)) → x < suc last
    by (inl e) = h j x e
    by (inr e) = let same = e.1 in omega arith

pub objects-pushed : (f : ℕ → ℕ) (row : List ℕ) (o at : ℕ) → length row ≡ at → o ≡ f at → ((x : ℕ) → x < at → slice_index row x ≡ f x) → (x : ℕ) → x < at + 1 → slice_index (row ++ o ∷ []) x ≡ f x
objects-pushed f row o at c is h x lt = by (before-or-at x at lt)
  where
    by : (x < at) ⊎ (x ≡ at) → slice_index (row ++ o ∷ []) x ≡ f x
    by (inl less) = get_or-append row (o ∷ []) 0 x (omega arith) ∙ h x less
    by (inr e) = get_or_push row o 0 x (c ∙ sym e) ∙ is ∙ ap f (sym e)

pub ruleset rows_steps = (wide-item, item-is-field)
