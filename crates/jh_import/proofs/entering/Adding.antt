-- How entering adds parts alone: part after part, and then the shape.
use Rattle.std.proofs.Common.{◌≡◌, sym, ap, ◌∙◌, ℕ, zero, suc, ◌+◌, ◌<◌, ◌⊎◌, inl, inr, List, [], ◌∷◌, length, slice_get, get_or, drop, Some, subst}
use Rattle.jh_form.specs.declared.form.FieldTerm.{FieldTerm}
use Rattle.jh_form.specs.Bare.{field_tree, list_tree}
use Rattle.jh_form.specs.Tree.{FieldTree, FieldTrees, ValueTree, of_field}
use Rattle.jh_arena.specs.jh_boxed.Parts.{IsChild, Among, first, later}
use Rattle.jh_arena.proofs.of_jh_boxed.Rows.{rest_at}
use Rattle.jh_arena.specs.declared.table.shapes.Shape.{Shape}
use Rattle.jh_arena.specs.table.Entries.{Listing}
use Rattle.jh_arena.specs.table.Growth.{AddsOnly}
use Rattle.jh_arena.specs.table.Nodes.{nodes, tree_in}
use Rattle.jh_import.specs.entering.Entered.{IsPart, itself, inside, IsPartOfSome, AddsParts, AddsFields}

pub adds-self : (t : Listing) (v : ValueTree) → AddsParts t t v
adds-self t v = λ n x h. inl h

-- additions of two kinds, one after the other
then-adds : (K L M : ValueTree → Type 0) (t u w : Listing) → ((x : ValueTree) → K x → M x) → ((x : ValueTree) → L x → M x) → AddsOnly K t u → AddsOnly L u w → AddsOnly M t w
then-adds K L M t u w one two before after = λ n x h. elim (after n x h) [
  | inl at ↦ earlier n x (before n x at)
  | inr new ↦ inr (two x new)
]
  where
    earlier : (n : ℕ) (x : ValueTree) → (slice_get (nodes t) n ≡ Some x) ⊎ K x → (slice_get (nodes t) n ≡ Some x) ⊎ M x
    earlier n x (inl at) = inl at
    earlier n x (inr old) = inr (one x old)

-- after one more part
pub adds-part : (t u w : Listing) (v whole b : ValueTree) → v ≡ whole → IsChild b whole → AddsParts t u v → AddsParts u w b → AddsParts t w v
adds-part t u w v whole b e child before after =
    then-adds (λ x. IsPart x v) (λ x. IsPart x b) (λ x. IsPart x v) t u w (λ x p. p) (λ x p. inside x b v p (subst (λ (z : ValueTree). IsChild b z) (sym e) child)) before after

-- after a list of fields
pub adds-fields : (t u w : Listing) (v whole : ValueTree) (fs : FieldTrees) → v ≡ whole → ((f : FieldTree) → Among f fs → IsChild (of_field f) whole) → AddsParts t u v → AddsFields u w fs → AddsParts t w v
adds-fields t u w v whole fs e each before after =
    then-adds (λ x. IsPart x v) (λ x. IsPartOfSome x fs) (λ x. IsPart x v) t u w (λ x p. p)
    (λ x p. inside x (of_field p.field) v p.part (subst (λ (z : ValueTree). IsChild (of_field p.field) z) (sym e) (each p.field p.among))) before after

-- after a call that adds to a pool
pub adds-pool : (t u w : Listing) (v : ValueTree) → nodes w ≡ nodes u → AddsParts t u v → AddsParts t w v
adds-pool t u w v e before = λ n x h. before n x (ap (λ ts. slice_get ts n) (sym e) ∙ h)

-- after the shape is made
pub adds-made : (t u w : Listing) (v : ValueTree) (x : Shape) → tree_in u x ≡ v → AddsParts t u v → AddsOnly (λ y. y ≡ tree_in u x) u w → AddsParts t w v
adds-made t u w v x e before made =
    then-adds (λ y. IsPart y v) (λ y. y ≡ tree_in u x) (λ y. IsPart y v) t u w (λ y p. p)
    (λ y same. subst (λ (z : ValueTree). IsPart y z) (same ∙ e) (itself y)) before made

pub adds-first : (t : Listing) (fs : FieldTrees) → AddsFields t t fs
adds-first t fs = λ n x h. inl h

among-drop : (fs : List FieldTerm) (j : ℕ) (f : FieldTree) → Among f (list_tree (drop j fs)) → Among f (list_tree fs)
among-drop fs zero f h = h
among-drop [] (suc j) f h = h
among-drop (g ∷ fs) (suc j) f h = later f (field_tree g) (list_tree fs) (among-drop fs j f h)

among-at : (fs : List FieldTerm) (j : ℕ) (f : FieldTerm) → j < length fs → f ≡ get_or fs j f → Among (field_tree f) (list_tree fs)
among-at fs j f lt at = among-drop fs j (field_tree f) (subst (λ (gs : FieldTrees). Among (field_tree f) gs) (sym (rest_at fs j f lt at)) (first (field_tree f) (list_tree (drop (j + 1) fs))))

-- after one more field of a list
pub adds-field : (t u w : Listing) (fs : List FieldTerm) (j : ℕ) (f : FieldTerm) → AddsFields t u (list_tree fs) → AddsParts u w (of_field (field_tree f)) → j < length fs → f ≡ get_or fs j f → AddsFields t w (list_tree fs)
adds-field t u w fs j f before after lt is =
    then-adds (λ x. IsPartOfSome x (list_tree fs)) (λ x. IsPart x (of_field (field_tree f))) (λ x. IsPartOfSome x (list_tree fs)) t u w (λ x p. p)
    (λ x p. record { field = field_tree f; among = among-at fs j f lt is; part = p }) before after

-- after the list is put into its pool
pub adds-list : (t u w : Listing) (fs : FieldTrees) → nodes w ≡ nodes u → AddsFields t u fs → AddsFields t w fs
adds-list t u w fs e before = λ n x h. before n x (ap (λ ts. slice_get ts n) (sym e) ∙ h)
