-- A list of fields from a place on, as loops over it need it.
use Rattle.std.proofs.Common.{◌≡◌, refl, ap, sym, ◌∙◌, ℕ, suc, Bool, true, ◌&&◌, ◌+◌, ◌<◌, ◌≤◌, max, List, [], ◌∷◌, ◌++◌, length, drop, get_or, add-one, drop-cons}
use Rattle.std.proofs.lemmas.List.{drop_all}
use Rattle.jh_form.specs.declared.form.FieldTerm.{FieldTerm}
use Rattle.jh_form.specs.Bare.{field_tree, list_tree}
use Rattle.jh_name.specs.declared.naming.Name.{Name}
use Rattle.jh_name.specs.declared.place.Sort.{Sort}
use Rattle.jh_form.specs.Passing.{field_passes, fields_passes}
use Rattle.jh_form.specs.Tree.{FieldTrees}
use Rattle.jh_form.specs.Tree as t
use Rattle.jh_boxed.specs.Sizes.{field_size, fields_size, field_depth, fields_depth}
use Rattle.jh_boxed.specs.Mapped.{LeafMap, mapped_field, mapped_fields}

pub rest_at : (fs : List FieldTerm) (j : ℕ) (f : FieldTerm) → j < length fs → f ≡ get_or fs j f →
    list_tree (drop j fs) ≡ t.more (field_tree f) (list_tree (drop (j + 1) fs))
rest_at fs j f h e =
    rw add-one (ap list_tree (drop-cons fs j f h) ∙ ap (λ g. t.more (field_tree g) (list_tree (drop (suc j) fs))) (sym e))

pub rest_end : (fs : List FieldTerm) (j : ℕ) → length fs ≤ j → list_tree (drop j fs) ≡ t.none
rest_end fs j h = ap list_tree (drop_all j fs h)

pub rest_size : (fs : List FieldTerm) (j : ℕ) (f : FieldTerm) → j < length fs → f ≡ get_or fs j f →
    fields_size (list_tree (drop j fs)) ≡ field_size (field_tree f) + fields_size (list_tree (drop (j + 1) fs))
unfolding fields_size
rest_size fs j f h e = ap fields_size (rest_at fs j f h e)

pub rest_depth : (fs : List FieldTerm) (j : ℕ) (f : FieldTerm) → j < length fs → f ≡ get_or fs j f →
    fields_depth (list_tree (drop j fs)) ≡ max (field_depth (field_tree f)) (fields_depth (list_tree (drop (j + 1) fs)))
unfolding fields_depth
rest_depth fs j f h e = ap fields_depth (rest_at fs j f h e)

pub end_size : (fs : List FieldTerm) (j : ℕ) → length fs ≤ j → fields_size (list_tree (drop j fs)) ≡ 0
unfolding fields_size
end_size fs j h = ap fields_size (rest_end fs j h)

pub end_depth : (fs : List FieldTerm) (j : ℕ) → length fs ≤ j → fields_depth (list_tree (drop j fs)) ≡ 0
unfolding fields_depth
end_depth fs j h = ap fields_depth (rest_end fs j h)

-- the trees of a list before others
abbrev pub before : List FieldTerm → FieldTrees → FieldTrees
before [] ts = ts
before (f ∷ fs) ts = t.more (field_tree f) (before fs ts)

pub before-none : (fs : List FieldTerm) → before fs t.none ≡ list_tree fs
before-none [] = refl
before-none (f ∷ fs) = ap (t.more (field_tree f)) (before-none fs)

pub before-push : (fs : List FieldTerm) (f : FieldTerm) (ts : FieldTrees) → before (fs ++ f ∷ []) ts ≡ before fs (t.more (field_tree f) ts)
before-push [] f ts = refl
before-push (g ∷ fs) f ts = ap (t.more (field_tree g)) (before-push fs f ts)

pub map_start : (fs : List FieldTerm) (l : LeafMap) (d : ℕ) (gs : List FieldTerm) → gs ≡ [] →
    mapped_fields (list_tree fs) l d ≡ before gs (mapped_fields (list_tree (drop 0 fs)) l d)
map_start fs l d gs e = ap (λ hs. before hs (mapped_fields (list_tree fs) l d)) (sym e)

-- one more field
pub map_step : (fs : List FieldTerm) (l : LeafMap) (d j : ℕ) (f g : FieldTerm) (made more : List FieldTerm) → j < length fs → f ≡ get_or fs j f →
    mapped_fields (list_tree fs) l d ≡ before made (mapped_fields (list_tree (drop j fs)) l d) →
    field_tree g ≡ mapped_field (field_tree f) l d → more ≡ made ++ g ∷ [] →
    mapped_fields (list_tree fs) l d ≡ before more (mapped_fields (list_tree (drop (j + 1) fs)) l d)
unfolding mapped_fields
map_step fs l d j f g made more h e inv k p =
    inv ∙ ap (λ ts. before made (mapped_fields ts l d)) (rest_at fs j f h e)
    ∙ ap (λ u. before made (t.more u (mapped_fields (list_tree (drop (j + 1) fs)) l d))) (sym k)
    ∙ sym (before-push made g (mapped_fields (list_tree (drop (j + 1) fs)) l d))
    ∙ ap (λ hs. before hs (mapped_fields (list_tree (drop (j + 1) fs)) l d)) (sym p)

pub map_end : (fs : List FieldTerm) (l : LeafMap) (d j : ℕ) (made : List FieldTerm) → length fs ≤ j →
    mapped_fields (list_tree fs) l d ≡ before made (mapped_fields (list_tree (drop j fs)) l d) →
    list_tree made ≡ mapped_fields (list_tree fs) l d
unfolding mapped_fields
map_end fs l d j made h inv =
    sym (inv ∙ ap (λ ts. before made (mapped_fields ts l d)) (rest_end fs j h) ∙ before-none made)

pub pass_step : (fs : List FieldTerm) (p : Name → Sort → Bool) (j : ℕ) (f : FieldTerm) → j < length fs → f ≡ get_or fs j f →
    fields_passes (list_tree (drop j fs)) p ≡ (field_passes (field_tree f) p && fields_passes (list_tree (drop (j + 1) fs)) p)
unfolding fields_passes
pass_step fs p j f h e = ap (λ ts. fields_passes ts p) (rest_at fs j f h e)

pub pass_end : (fs : List FieldTerm) (p : Name → Sort → Bool) (j : ℕ) → length fs ≤ j → fields_passes (list_tree (drop j fs)) p ≡ true
unfolding fields_passes
pass_end fs p j h = ap (λ ts. fields_passes ts p) (rest_end fs j h)
