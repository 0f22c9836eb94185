-- Written by tools/sem.py. The value of the node of each shape over those of its parts, and that what is wide in a part is in the whole.
use Rattle.std.proofs.Common.{◌≡◌, refl, sym, ap, subst, ◌∙◌, ℕ, suc, ◌==◌, Bool, true, false, not, ◌&&◌, ◌||◌, ◌∷◌, List, slice_get, slice_index, ℤ, pos, ◌+ℤ◌, ◌-ℤ◌, ◌*ℤ◌, neg_ℤ, int_lt, int_le}
use Rattle.std.specs.Ordering.{int_eq}
use Rattle.jh_form.specs.Tree.{TermTree, IntTree, SetTree, FieldTree, FormulaTree, of_object, of_number, of_truth, of_set, of_field}
use Rattle.jh_form.specs.Meaning.{Interp, count_below, every, some, agree, divides_number, updated, reaches, is_forest, term_value, int_value, set_value, field_value, datum, truth, fields_value}
use Rattle.jh_boxed.specs.Parts as part
use Rattle.jh_arena.specs.table.Entries.{Listing, the_name, the_mark, the_list, the_object, the_number, the_set, the_field, the_truth, the_value, fields_at}
use Rattle.jh_arena.specs.declared.table.shapes.Shape.TheVariants as s
use Rattle.jh_arena.specs.table.Nodes.{nodes}
use Rattle.jh_export.specs.Standing.{Stands}
use Rattle.jh_export.proofs.ValueSteps as v
use Rattle.jh_sem.specs.Wide.{IsWide}
use Rattle.jh_sem.proofs.Widening.{wide-part}

module _ (t : Listing) (i : ℕ) (m : Interp) where
  pub value-Bound : (k : ℕ) → Stands t i (s.Bound k) → (e : List ℕ) → slice_index e k ≡ term_value (the_object (slice_get (nodes t) i)) m e
  value-Bound k h e = ap (λ (f : TermTree). term_value f m e) (v.stands-Bound t i k h)

  pub value-FreeObject : (n : ℕ) → Stands t i (s.FreeObject n) → (e : List ℕ) → m.object (the_name (slice_get t.pools.names n)) ≡ term_value (the_object (slice_get (nodes t) i)) m e
  value-FreeObject n h e = ap (λ (f : TermTree). term_value f m e) (v.stands-FreeObject t i n h)

  pub value-Null : Stands t i s.Null → (e : List ℕ) → 0 ≡ term_value (the_object (slice_get (nodes t) i)) m e
  value-Null h e = ap (λ (f : TermTree). term_value f m e) (v.stands-Null t i h)

  pub value-ReadObject : (a : ℕ) (b : ℕ) → Stands t i (s.ReadObject a b) → (e : List ℕ) → (field_value (the_field (slice_get (nodes t) a)) m e).objects (term_value (the_object (slice_get (nodes t) b)) m e) ≡ term_value (the_object (slice_get (nodes t) i)) m e
  value-ReadObject a b h e = ap (λ (f : TermTree). term_value f m e) (v.stands-ReadObject t i a b h)

  pub wide-ReadObject-a : (a : ℕ) (b : ℕ) → Stands t i (s.ReadObject a b) → IsWide m (of_field (the_field (slice_get (nodes t) a))) → IsWide m (of_object (the_object (slice_get (nodes t) i)))
  wide-ReadObject-a a b h w = subst (λ (f : TermTree). IsWide m (of_object f)) (v.stands-ReadObject t i a b h) (wide-part m _ _ (part.read_object-a (the_field (slice_get (nodes t) a)) (the_object (slice_get (nodes t) b))) w)

  pub wide-ReadObject-b : (a : ℕ) (b : ℕ) → Stands t i (s.ReadObject a b) → IsWide m (of_object (the_object (slice_get (nodes t) b))) → IsWide m (of_object (the_object (slice_get (nodes t) i)))
  wide-ReadObject-b a b h w = subst (λ (f : TermTree). IsWide m (of_object f)) (v.stands-ReadObject t i a b h) (wide-part m _ _ (part.read_object-b (the_field (slice_get (nodes t) a)) (the_object (slice_get (nodes t) b))) w)

  pub value-Const : (z : ℤ) → Stands t i (s.Const z) → (e : List ℕ) → z ≡ int_value (the_number (slice_get (nodes t) i)) m e
  value-Const z h e = ap (λ (f : IntTree). int_value f m e) (v.stands-Const t i z h)

  pub value-FreeNumber : (n : ℕ) → Stands t i (s.FreeNumber n) → (e : List ℕ) → m.number (the_name (slice_get t.pools.names n)) ≡ int_value (the_number (slice_get (nodes t) i)) m e
  value-FreeNumber n h e = ap (λ (f : IntTree). int_value f m e) (v.stands-FreeNumber t i n h)

  pub value-ReadNumber : (a : ℕ) (b : ℕ) → Stands t i (s.ReadNumber a b) → (e : List ℕ) → (field_value (the_field (slice_get (nodes t) a)) m e).numbers (term_value (the_object (slice_get (nodes t) b)) m e) ≡ int_value (the_number (slice_get (nodes t) i)) m e
  value-ReadNumber a b h e = ap (λ (f : IntTree). int_value f m e) (v.stands-ReadNumber t i a b h)

  pub wide-ReadNumber-a : (a : ℕ) (b : ℕ) → Stands t i (s.ReadNumber a b) → IsWide m (of_field (the_field (slice_get (nodes t) a))) → IsWide m (of_number (the_number (slice_get (nodes t) i)))
  wide-ReadNumber-a a b h w = subst (λ (f : IntTree). IsWide m (of_number f)) (v.stands-ReadNumber t i a b h) (wide-part m _ _ (part.read_number-a (the_field (slice_get (nodes t) a)) (the_object (slice_get (nodes t) b))) w)

  pub wide-ReadNumber-b : (a : ℕ) (b : ℕ) → Stands t i (s.ReadNumber a b) → IsWide m (of_object (the_object (slice_get (nodes t) b))) → IsWide m (of_number (the_number (slice_get (nodes t) i)))
  wide-ReadNumber-b a b h w = subst (λ (f : IntTree). IsWide m (of_number f)) (v.stands-ReadNumber t i a b h) (wide-part m _ _ (part.read_number-b (the_field (slice_get (nodes t) a)) (the_object (slice_get (nodes t) b))) w)

  pub value-Add : (a : ℕ) (b : ℕ) → Stands t i (s.Add a b) → (e : List ℕ) → int_value (the_number (slice_get (nodes t) a)) m e +ℤ int_value (the_number (slice_get (nodes t) b)) m e ≡ int_value (the_number (slice_get (nodes t) i)) m e
  value-Add a b h e = ap (λ (f : IntTree). int_value f m e) (v.stands-Add t i a b h)

  pub wide-Add-a : (a : ℕ) (b : ℕ) → Stands t i (s.Add a b) → IsWide m (of_number (the_number (slice_get (nodes t) a))) → IsWide m (of_number (the_number (slice_get (nodes t) i)))
  wide-Add-a a b h w = subst (λ (f : IntTree). IsWide m (of_number f)) (v.stands-Add t i a b h) (wide-part m _ _ (part.add-a (the_number (slice_get (nodes t) a)) (the_number (slice_get (nodes t) b))) w)

  pub wide-Add-b : (a : ℕ) (b : ℕ) → Stands t i (s.Add a b) → IsWide m (of_number (the_number (slice_get (nodes t) b))) → IsWide m (of_number (the_number (slice_get (nodes t) i)))
  wide-Add-b a b h w = subst (λ (f : IntTree). IsWide m (of_number f)) (v.stands-Add t i a b h) (wide-part m _ _ (part.add-b (the_number (slice_get (nodes t) a)) (the_number (slice_get (nodes t) b))) w)

  pub value-Sub : (a : ℕ) (b : ℕ) → Stands t i (s.Sub a b) → (e : List ℕ) → int_value (the_number (slice_get (nodes t) a)) m e -ℤ int_value (the_number (slice_get (nodes t) b)) m e ≡ int_value (the_number (slice_get (nodes t) i)) m e
  value-Sub a b h e = ap (λ (f : IntTree). int_value f m e) (v.stands-Sub t i a b h)

  pub wide-Sub-a : (a : ℕ) (b : ℕ) → Stands t i (s.Sub a b) → IsWide m (of_number (the_number (slice_get (nodes t) a))) → IsWide m (of_number (the_number (slice_get (nodes t) i)))
  wide-Sub-a a b h w = subst (λ (f : IntTree). IsWide m (of_number f)) (v.stands-Sub t i a b h) (wide-part m _ _ (part.sub-a (the_number (slice_get (nodes t) a)) (the_number (slice_get (nodes t) b))) w)

  pub wide-Sub-b : (a : ℕ) (b : ℕ) → Stands t i (s.Sub a b) → IsWide m (of_number (the_number (slice_get (nodes t) b))) → IsWide m (of_number (the_number (slice_get (nodes t) i)))
  wide-Sub-b a b h w = subst (λ (f : IntTree). IsWide m (of_number f)) (v.stands-Sub t i a b h) (wide-part m _ _ (part.sub-b (the_number (slice_get (nodes t) a)) (the_number (slice_get (nodes t) b))) w)

  pub value-Neg : (a : ℕ) → Stands t i (s.Neg a) → (e : List ℕ) → neg_ℤ (int_value (the_number (slice_get (nodes t) a)) m e) ≡ int_value (the_number (slice_get (nodes t) i)) m e
  value-Neg a h e = ap (λ (f : IntTree). int_value f m e) (v.stands-Neg t i a h)

  pub wide-Neg-a : (a : ℕ) → Stands t i (s.Neg a) → IsWide m (of_number (the_number (slice_get (nodes t) a))) → IsWide m (of_number (the_number (slice_get (nodes t) i)))
  wide-Neg-a a h w = subst (λ (f : IntTree). IsWide m (of_number f)) (v.stands-Neg t i a h) (wide-part m _ _ (part.neg (the_number (slice_get (nodes t) a))) w)

  pub value-Scale : (z : ℤ) (a : ℕ) → Stands t i (s.Scale z a) → (e : List ℕ) → z *ℤ int_value (the_number (slice_get (nodes t) a)) m e ≡ int_value (the_number (slice_get (nodes t) i)) m e
  value-Scale z a h e = ap (λ (f : IntTree). int_value f m e) (v.stands-Scale t i z a h)

  pub wide-Scale-a : (z : ℤ) (a : ℕ) → Stands t i (s.Scale z a) → IsWide m (of_number (the_number (slice_get (nodes t) a))) → IsWide m (of_number (the_number (slice_get (nodes t) i)))
  wide-Scale-a z a h w = subst (λ (f : IntTree). IsWide m (of_number f)) (v.stands-Scale t i z a h) (wide-part m _ _ (part.scale z (the_number (slice_get (nodes t) a))) w)

  pub value-Card : (a : ℕ) → Stands t i (s.Card a) → (e : List ℕ) → pos (count_below (suc m.last) (λ x. set_value (the_set (slice_get (nodes t) a)) m e x)) ≡ int_value (the_number (slice_get (nodes t) i)) m e
  value-Card a h e = ap (λ (f : IntTree). int_value f m e) (v.stands-Card t i a h)

  pub wide-Card-a : (a : ℕ) → Stands t i (s.Card a) → IsWide m (of_set (the_set (slice_get (nodes t) a))) → IsWide m (of_number (the_number (slice_get (nodes t) i)))
  wide-Card-a a h w = subst (λ (f : IntTree). IsWide m (of_number f)) (v.stands-Card t i a h) (wide-part m _ _ (part.card (the_set (slice_get (nodes t) a))) w)

  pub value-FreeSet : (n : ℕ) → Stands t i (s.FreeSet n) → (e : List ℕ) (x : ℕ) → m.set (the_name (slice_get t.pools.names n)) x ≡ set_value (the_set (slice_get (nodes t) i)) m e x
  value-FreeSet n h e x = ap (λ (f : SetTree). set_value f m e x) (v.stands-FreeSet t i n h)

  pub value-ReadSet : (a : ℕ) (b : ℕ) → Stands t i (s.ReadSet a b) → (e : List ℕ) (x : ℕ) → (field_value (the_field (slice_get (nodes t) a)) m e).sets (term_value (the_object (slice_get (nodes t) b)) m e) x ≡ set_value (the_set (slice_get (nodes t) i)) m e x
  value-ReadSet a b h e x = ap (λ (f : SetTree). set_value f m e x) (v.stands-ReadSet t i a b h)

  pub wide-ReadSet-a : (a : ℕ) (b : ℕ) → Stands t i (s.ReadSet a b) → IsWide m (of_field (the_field (slice_get (nodes t) a))) → IsWide m (of_set (the_set (slice_get (nodes t) i)))
  wide-ReadSet-a a b h w = subst (λ (f : SetTree). IsWide m (of_set f)) (v.stands-ReadSet t i a b h) (wide-part m _ _ (part.read_set-a (the_field (slice_get (nodes t) a)) (the_object (slice_get (nodes t) b))) w)

  pub wide-ReadSet-b : (a : ℕ) (b : ℕ) → Stands t i (s.ReadSet a b) → IsWide m (of_object (the_object (slice_get (nodes t) b))) → IsWide m (of_set (the_set (slice_get (nodes t) i)))
  wide-ReadSet-b a b h w = subst (λ (f : SetTree). IsWide m (of_set f)) (v.stands-ReadSet t i a b h) (wide-part m _ _ (part.read_set-b (the_field (slice_get (nodes t) a)) (the_object (slice_get (nodes t) b))) w)

  pub value-Empty : Stands t i s.Empty → (e : List ℕ) (x : ℕ) → false ≡ set_value (the_set (slice_get (nodes t) i)) m e x
  value-Empty h e x = ap (λ (f : SetTree). set_value f m e x) (v.stands-Empty t i h)

  pub value-Univ : Stands t i s.Univ → (e : List ℕ) (x : ℕ) → true ≡ set_value (the_set (slice_get (nodes t) i)) m e x
  value-Univ h e x = ap (λ (f : SetTree). set_value f m e x) (v.stands-Univ t i h)

  pub value-Single : (a : ℕ) → Stands t i (s.Single a) → (e : List ℕ) (x : ℕ) → x == term_value (the_object (slice_get (nodes t) a)) m e ≡ set_value (the_set (slice_get (nodes t) i)) m e x
  value-Single a h e x = ap (λ (f : SetTree). set_value f m e x) (v.stands-Single t i a h)

  pub wide-Single-a : (a : ℕ) → Stands t i (s.Single a) → IsWide m (of_object (the_object (slice_get (nodes t) a))) → IsWide m (of_set (the_set (slice_get (nodes t) i)))
  wide-Single-a a h w = subst (λ (f : SetTree). IsWide m (of_set f)) (v.stands-Single t i a h) (wide-part m _ _ (part.single (the_object (slice_get (nodes t) a))) w)

  pub value-Union : (a : ℕ) (b : ℕ) → Stands t i (s.Union a b) → (e : List ℕ) (x : ℕ) → set_value (the_set (slice_get (nodes t) a)) m e x || set_value (the_set (slice_get (nodes t) b)) m e x ≡ set_value (the_set (slice_get (nodes t) i)) m e x
  value-Union a b h e x = ap (λ (f : SetTree). set_value f m e x) (v.stands-Union t i a b h)

  pub wide-Union-a : (a : ℕ) (b : ℕ) → Stands t i (s.Union a b) → IsWide m (of_set (the_set (slice_get (nodes t) a))) → IsWide m (of_set (the_set (slice_get (nodes t) i)))
  wide-Union-a a b h w = subst (λ (f : SetTree). IsWide m (of_set f)) (v.stands-Union t i a b h) (wide-part m _ _ (part.union-a (the_set (slice_get (nodes t) a)) (the_set (slice_get (nodes t) b))) w)

  pub wide-Union-b : (a : ℕ) (b : ℕ) → Stands t i (s.Union a b) → IsWide m (of_set (the_set (slice_get (nodes t) b))) → IsWide m (of_set (the_set (slice_get (nodes t) i)))
  wide-Union-b a b h w = subst (λ (f : SetTree). IsWide m (of_set f)) (v.stands-Union t i a b h) (wide-part m _ _ (part.union-b (the_set (slice_get (nodes t) a)) (the_set (slice_get (nodes t) b))) w)

  pub value-Inter : (a : ℕ) (b : ℕ) → Stands t i (s.Inter a b) → (e : List ℕ) (x : ℕ) → set_value (the_set (slice_get (nodes t) a)) m e x && set_value (the_set (slice_get (nodes t) b)) m e x ≡ set_value (the_set (slice_get (nodes t) i)) m e x
  value-Inter a b h e x = ap (λ (f : SetTree). set_value f m e x) (v.stands-Inter t i a b h)

  pub wide-Inter-a : (a : ℕ) (b : ℕ) → Stands t i (s.Inter a b) → IsWide m (of_set (the_set (slice_get (nodes t) a))) → IsWide m (of_set (the_set (slice_get (nodes t) i)))
  wide-Inter-a a b h w = subst (λ (f : SetTree). IsWide m (of_set f)) (v.stands-Inter t i a b h) (wide-part m _ _ (part.inter-a (the_set (slice_get (nodes t) a)) (the_set (slice_get (nodes t) b))) w)

  pub wide-Inter-b : (a : ℕ) (b : ℕ) → Stands t i (s.Inter a b) → IsWide m (of_set (the_set (slice_get (nodes t) b))) → IsWide m (of_set (the_set (slice_get (nodes t) i)))
  wide-Inter-b a b h w = subst (λ (f : SetTree). IsWide m (of_set f)) (v.stands-Inter t i a b h) (wide-part m _ _ (part.inter-b (the_set (slice_get (nodes t) a)) (the_set (slice_get (nodes t) b))) w)

  pub value-Diff : (a : ℕ) (b : ℕ) → Stands t i (s.Diff a b) → (e : List ℕ) (x : ℕ) → set_value (the_set (slice_get (nodes t) a)) m e x && not (set_value (the_set (slice_get (nodes t) b)) m e x) ≡ set_value (the_set (slice_get (nodes t) i)) m e x
  value-Diff a b h e x = ap (λ (f : SetTree). set_value f m e x) (v.stands-Diff t i a b h)

  pub wide-Diff-a : (a : ℕ) (b : ℕ) → Stands t i (s.Diff a b) → IsWide m (of_set (the_set (slice_get (nodes t) a))) → IsWide m (of_set (the_set (slice_get (nodes t) i)))
  wide-Diff-a a b h w = subst (λ (f : SetTree). IsWide m (of_set f)) (v.stands-Diff t i a b h) (wide-part m _ _ (part.diff-a (the_set (slice_get (nodes t) a)) (the_set (slice_get (nodes t) b))) w)

  pub wide-Diff-b : (a : ℕ) (b : ℕ) → Stands t i (s.Diff a b) → IsWide m (of_set (the_set (slice_get (nodes t) b))) → IsWide m (of_set (the_set (slice_get (nodes t) i)))
  wide-Diff-b a b h w = subst (λ (f : SetTree). IsWide m (of_set f)) (v.stands-Diff t i a b h) (wide-part m _ _ (part.diff-b (the_set (slice_get (nodes t) a)) (the_set (slice_get (nodes t) b))) w)

  pub value-Compl : (a : ℕ) → Stands t i (s.Compl a) → (e : List ℕ) (x : ℕ) → not (set_value (the_set (slice_get (nodes t) a)) m e x) ≡ set_value (the_set (slice_get (nodes t) i)) m e x
  value-Compl a h e x = ap (λ (f : SetTree). set_value f m e x) (v.stands-Compl t i a h)

  pub wide-Compl-a : (a : ℕ) → Stands t i (s.Compl a) → IsWide m (of_set (the_set (slice_get (nodes t) a))) → IsWide m (of_set (the_set (slice_get (nodes t) i)))
  wide-Compl-a a h w = subst (λ (f : SetTree). IsWide m (of_set f)) (v.stands-Compl t i a h) (wide-part m _ _ (part.compl (the_set (slice_get (nodes t) a))) w)

  pub value-Compr : (a : ℕ) → Stands t i (s.Compr a) → (e : List ℕ) (x : ℕ) → truth (the_truth (slice_get (nodes t) a)) m (x ∷ e) ≡ set_value (the_set (slice_get (nodes t) i)) m e x
  value-Compr a h e x = ap (λ (f : SetTree). set_value f m e x) (v.stands-Compr t i a h)

  pub wide-Compr-a : (a : ℕ) → Stands t i (s.Compr a) → IsWide m (of_truth (the_truth (slice_get (nodes t) a))) → IsWide m (of_set (the_set (slice_get (nodes t) i)))
  wide-Compr-a a h w = subst (λ (f : SetTree). IsWide m (of_set f)) (v.stands-Compr t i a h) (wide-part m _ _ (part.compr (the_truth (slice_get (nodes t) a))) w)

  pub value-FreeField : (n : ℕ) → Stands t i (s.FreeField n) → (e : List ℕ) → m.field (the_name (slice_get t.pools.names n)) ≡ field_value (the_field (slice_get (nodes t) i)) m e
  value-FreeField n h e = ap (λ (f : FieldTree). field_value f m e) (v.stands-FreeField t i n h)

  pub value-Update : (a : ℕ) (b : ℕ) (c : ℕ) → Stands t i (s.Update a b c) → (e : List ℕ) → updated (field_value (the_field (slice_get (nodes t) a)) m e) (term_value (the_object (slice_get (nodes t) b)) m e) (datum (the_value (slice_get (nodes t) c)) m e) ≡ field_value (the_field (slice_get (nodes t) i)) m e
  value-Update a b c h e = ap (λ (f : FieldTree). field_value f m e) (v.stands-Update t i a b c h)

  pub wide-Update-a : (a : ℕ) (b : ℕ) (c : ℕ) → Stands t i (s.Update a b c) → IsWide m (of_field (the_field (slice_get (nodes t) a))) → IsWide m (of_field (the_field (slice_get (nodes t) i)))
  wide-Update-a a b c h w = subst (λ (f : FieldTree). IsWide m (of_field f)) (v.stands-Update t i a b c h) (wide-part m _ _ (part.update-a (the_field (slice_get (nodes t) a)) (the_object (slice_get (nodes t) b)) (the_value (slice_get (nodes t) c))) w)

  pub wide-Update-b : (a : ℕ) (b : ℕ) (c : ℕ) → Stands t i (s.Update a b c) → IsWide m (of_object (the_object (slice_get (nodes t) b))) → IsWide m (of_field (the_field (slice_get (nodes t) i)))
  wide-Update-b a b c h w = subst (λ (f : FieldTree). IsWide m (of_field f)) (v.stands-Update t i a b c h) (wide-part m _ _ (part.update-b (the_field (slice_get (nodes t) a)) (the_object (slice_get (nodes t) b)) (the_value (slice_get (nodes t) c))) w)

  pub value-True : Stands t i s.True → (e : List ℕ) → true ≡ truth (the_truth (slice_get (nodes t) i)) m e
  value-True h e = ap (λ (f : FormulaTree). truth f m e) (v.stands-True t i h)

  pub value-False : Stands t i s.False → (e : List ℕ) → false ≡ truth (the_truth (slice_get (nodes t) i)) m e
  value-False h e = ap (λ (f : FormulaTree). truth f m e) (v.stands-False t i h)

  pub value-FreeTruth : (n : ℕ) → Stands t i (s.FreeTruth n) → (e : List ℕ) → m.truth (the_name (slice_get t.pools.names n)) ≡ truth (the_truth (slice_get (nodes t) i)) m e
  value-FreeTruth n h e = ap (λ (f : FormulaTree). truth f m e) (v.stands-FreeTruth t i n h)

  pub value-ReadTruth : (a : ℕ) (b : ℕ) → Stands t i (s.ReadTruth a b) → (e : List ℕ) → (field_value (the_field (slice_get (nodes t) a)) m e).truths (term_value (the_object (slice_get (nodes t) b)) m e) ≡ truth (the_truth (slice_get (nodes t) i)) m e
  value-ReadTruth a b h e = ap (λ (f : FormulaTree). truth f m e) (v.stands-ReadTruth t i a b h)

  pub wide-ReadTruth-a : (a : ℕ) (b : ℕ) → Stands t i (s.ReadTruth a b) → IsWide m (of_field (the_field (slice_get (nodes t) a))) → IsWide m (of_truth (the_truth (slice_get (nodes t) i)))
  wide-ReadTruth-a a b h w = subst (λ (f : FormulaTree). IsWide m (of_truth f)) (v.stands-ReadTruth t i a b h) (wide-part m _ _ (part.read_truth-a (the_field (slice_get (nodes t) a)) (the_object (slice_get (nodes t) b))) w)

  pub wide-ReadTruth-b : (a : ℕ) (b : ℕ) → Stands t i (s.ReadTruth a b) → IsWide m (of_object (the_object (slice_get (nodes t) b))) → IsWide m (of_truth (the_truth (slice_get (nodes t) i)))
  wide-ReadTruth-b a b h w = subst (λ (f : FormulaTree). IsWide m (of_truth f)) (v.stands-ReadTruth t i a b h) (wide-part m _ _ (part.read_truth-b (the_field (slice_get (nodes t) a)) (the_object (slice_get (nodes t) b))) w)

  pub value-Negation : (a : ℕ) → Stands t i (s.Negation a) → (e : List ℕ) → not (truth (the_truth (slice_get (nodes t) a)) m e) ≡ truth (the_truth (slice_get (nodes t) i)) m e
  value-Negation a h e = ap (λ (f : FormulaTree). truth f m e) (v.stands-Negation t i a h)

  pub wide-Negation-a : (a : ℕ) → Stands t i (s.Negation a) → IsWide m (of_truth (the_truth (slice_get (nodes t) a))) → IsWide m (of_truth (the_truth (slice_get (nodes t) i)))
  wide-Negation-a a h w = subst (λ (f : FormulaTree). IsWide m (of_truth f)) (v.stands-Negation t i a h) (wide-part m _ _ (part.negation (the_truth (slice_get (nodes t) a))) w)

  pub value-And : (a : ℕ) (b : ℕ) → Stands t i (s.And a b) → (e : List ℕ) → truth (the_truth (slice_get (nodes t) a)) m e && truth (the_truth (slice_get (nodes t) b)) m e ≡ truth (the_truth (slice_get (nodes t) i)) m e
  value-And a b h e = ap (λ (f : FormulaTree). truth f m e) (v.stands-And t i a b h)

  pub wide-And-a : (a : ℕ) (b : ℕ) → Stands t i (s.And a b) → IsWide m (of_truth (the_truth (slice_get (nodes t) a))) → IsWide m (of_truth (the_truth (slice_get (nodes t) i)))
  wide-And-a a b h w = subst (λ (f : FormulaTree). IsWide m (of_truth f)) (v.stands-And t i a b h) (wide-part m _ _ (part.and-a (the_truth (slice_get (nodes t) a)) (the_truth (slice_get (nodes t) b))) w)

  pub wide-And-b : (a : ℕ) (b : ℕ) → Stands t i (s.And a b) → IsWide m (of_truth (the_truth (slice_get (nodes t) b))) → IsWide m (of_truth (the_truth (slice_get (nodes t) i)))
  wide-And-b a b h w = subst (λ (f : FormulaTree). IsWide m (of_truth f)) (v.stands-And t i a b h) (wide-part m _ _ (part.and-b (the_truth (slice_get (nodes t) a)) (the_truth (slice_get (nodes t) b))) w)

  pub value-Or : (a : ℕ) (b : ℕ) → Stands t i (s.Or a b) → (e : List ℕ) → truth (the_truth (slice_get (nodes t) a)) m e || truth (the_truth (slice_get (nodes t) b)) m e ≡ truth (the_truth (slice_get (nodes t) i)) m e
  value-Or a b h e = ap (λ (f : FormulaTree). truth f m e) (v.stands-Or t i a b h)

  pub wide-Or-a : (a : ℕ) (b : ℕ) → Stands t i (s.Or a b) → IsWide m (of_truth (the_truth (slice_get (nodes t) a))) → IsWide m (of_truth (the_truth (slice_get (nodes t) i)))
  wide-Or-a a b h w = subst (λ (f : FormulaTree). IsWide m (of_truth f)) (v.stands-Or t i a b h) (wide-part m _ _ (part.or-a (the_truth (slice_get (nodes t) a)) (the_truth (slice_get (nodes t) b))) w)

  pub wide-Or-b : (a : ℕ) (b : ℕ) → Stands t i (s.Or a b) → IsWide m (of_truth (the_truth (slice_get (nodes t) b))) → IsWide m (of_truth (the_truth (slice_get (nodes t) i)))
  wide-Or-b a b h w = subst (λ (f : FormulaTree). IsWide m (of_truth f)) (v.stands-Or t i a b h) (wide-part m _ _ (part.or-b (the_truth (slice_get (nodes t) a)) (the_truth (slice_get (nodes t) b))) w)

  pub value-Implies : (a : ℕ) (b : ℕ) → Stands t i (s.Implies a b) → (e : List ℕ) → not (truth (the_truth (slice_get (nodes t) a)) m e) || truth (the_truth (slice_get (nodes t) b)) m e ≡ truth (the_truth (slice_get (nodes t) i)) m e
  value-Implies a b h e = ap (λ (f : FormulaTree). truth f m e) (v.stands-Implies t i a b h)

  pub wide-Implies-a : (a : ℕ) (b : ℕ) → Stands t i (s.Implies a b) → IsWide m (of_truth (the_truth (slice_get (nodes t) a))) → IsWide m (of_truth (the_truth (slice_get (nodes t) i)))
  wide-Implies-a a b h w = subst (λ (f : FormulaTree). IsWide m (of_truth f)) (v.stands-Implies t i a b h) (wide-part m _ _ (part.implies-a (the_truth (slice_get (nodes t) a)) (the_truth (slice_get (nodes t) b))) w)

  pub wide-Implies-b : (a : ℕ) (b : ℕ) → Stands t i (s.Implies a b) → IsWide m (of_truth (the_truth (slice_get (nodes t) b))) → IsWide m (of_truth (the_truth (slice_get (nodes t) i)))
  wide-Implies-b a b h w = subst (λ (f : FormulaTree). IsWide m (of_truth f)) (v.stands-Implies t i a b h) (wide-part m _ _ (part.implies-b (the_truth (slice_get (nodes t) a)) (the_truth (slice_get (nodes t) b))) w)

  pub value-Iff : (a : ℕ) (b : ℕ) → Stands t i (s.Iff a b) → (e : List ℕ) → agree (truth (the_truth (slice_get (nodes t) a)) m e) (truth (the_truth (slice_get (nodes t) b)) m e) ≡ truth (the_truth (slice_get (nodes t) i)) m e
  value-Iff a b h e = ap (λ (f : FormulaTree). truth f m e) (v.stands-Iff t i a b h)

  pub wide-Iff-a : (a : ℕ) (b : ℕ) → Stands t i (s.Iff a b) → IsWide m (of_truth (the_truth (slice_get (nodes t) a))) → IsWide m (of_truth (the_truth (slice_get (nodes t) i)))
  wide-Iff-a a b h w = subst (λ (f : FormulaTree). IsWide m (of_truth f)) (v.stands-Iff t i a b h) (wide-part m _ _ (part.iff-a (the_truth (slice_get (nodes t) a)) (the_truth (slice_get (nodes t) b))) w)

  pub wide-Iff-b : (a : ℕ) (b : ℕ) → Stands t i (s.Iff a b) → IsWide m (of_truth (the_truth (slice_get (nodes t) b))) → IsWide m (of_truth (the_truth (slice_get (nodes t) i)))
  wide-Iff-b a b h w = subst (λ (f : FormulaTree). IsWide m (of_truth f)) (v.stands-Iff t i a b h) (wide-part m _ _ (part.iff-b (the_truth (slice_get (nodes t) a)) (the_truth (slice_get (nodes t) b))) w)

  pub value-All : (a : ℕ) → Stands t i (s.All a) → (e : List ℕ) → every m.last (λ x. truth (the_truth (slice_get (nodes t) a)) m (x ∷ e)) ≡ truth (the_truth (slice_get (nodes t) i)) m e
  value-All a h e = ap (λ (f : FormulaTree). truth f m e) (v.stands-All t i a h)

  pub wide-All-a : (a : ℕ) → Stands t i (s.All a) → IsWide m (of_truth (the_truth (slice_get (nodes t) a))) → IsWide m (of_truth (the_truth (slice_get (nodes t) i)))
  wide-All-a a h w = subst (λ (f : FormulaTree). IsWide m (of_truth f)) (v.stands-All t i a h) (wide-part m _ _ (part.all (the_truth (slice_get (nodes t) a))) w)

  pub value-Ex : (a : ℕ) → Stands t i (s.Ex a) → (e : List ℕ) → some m.last (λ x. truth (the_truth (slice_get (nodes t) a)) m (x ∷ e)) ≡ truth (the_truth (slice_get (nodes t) i)) m e
  value-Ex a h e = ap (λ (f : FormulaTree). truth f m e) (v.stands-Ex t i a h)

  pub wide-Ex-a : (a : ℕ) → Stands t i (s.Ex a) → IsWide m (of_truth (the_truth (slice_get (nodes t) a))) → IsWide m (of_truth (the_truth (slice_get (nodes t) i)))
  wide-Ex-a a h w = subst (λ (f : FormulaTree). IsWide m (of_truth f)) (v.stands-Ex t i a h) (wide-part m _ _ (part.ex (the_truth (slice_get (nodes t) a))) w)

  pub value-EqObject : (a : ℕ) (b : ℕ) → Stands t i (s.EqObject a b) → (e : List ℕ) → term_value (the_object (slice_get (nodes t) a)) m e == term_value (the_object (slice_get (nodes t) b)) m e ≡ truth (the_truth (slice_get (nodes t) i)) m e
  value-EqObject a b h e = ap (λ (f : FormulaTree). truth f m e) (v.stands-EqObject t i a b h)

  pub wide-EqObject-a : (a : ℕ) (b : ℕ) → Stands t i (s.EqObject a b) → IsWide m (of_object (the_object (slice_get (nodes t) a))) → IsWide m (of_truth (the_truth (slice_get (nodes t) i)))
  wide-EqObject-a a b h w = subst (λ (f : FormulaTree). IsWide m (of_truth f)) (v.stands-EqObject t i a b h) (wide-part m _ _ (part.eq_object-a (the_object (slice_get (nodes t) a)) (the_object (slice_get (nodes t) b))) w)

  pub wide-EqObject-b : (a : ℕ) (b : ℕ) → Stands t i (s.EqObject a b) → IsWide m (of_object (the_object (slice_get (nodes t) b))) → IsWide m (of_truth (the_truth (slice_get (nodes t) i)))
  wide-EqObject-b a b h w = subst (λ (f : FormulaTree). IsWide m (of_truth f)) (v.stands-EqObject t i a b h) (wide-part m _ _ (part.eq_object-b (the_object (slice_get (nodes t) a)) (the_object (slice_get (nodes t) b))) w)

  pub value-EqNumber : (a : ℕ) (b : ℕ) → Stands t i (s.EqNumber a b) → (e : List ℕ) → int_eq (int_value (the_number (slice_get (nodes t) a)) m e) (int_value (the_number (slice_get (nodes t) b)) m e) ≡ truth (the_truth (slice_get (nodes t) i)) m e
  value-EqNumber a b h e = ap (λ (f : FormulaTree). truth f m e) (v.stands-EqNumber t i a b h)

  pub wide-EqNumber-a : (a : ℕ) (b : ℕ) → Stands t i (s.EqNumber a b) → IsWide m (of_number (the_number (slice_get (nodes t) a))) → IsWide m (of_truth (the_truth (slice_get (nodes t) i)))
  wide-EqNumber-a a b h w = subst (λ (f : FormulaTree). IsWide m (of_truth f)) (v.stands-EqNumber t i a b h) (wide-part m _ _ (part.eq_number-a (the_number (slice_get (nodes t) a)) (the_number (slice_get (nodes t) b))) w)

  pub wide-EqNumber-b : (a : ℕ) (b : ℕ) → Stands t i (s.EqNumber a b) → IsWide m (of_number (the_number (slice_get (nodes t) b))) → IsWide m (of_truth (the_truth (slice_get (nodes t) i)))
  wide-EqNumber-b a b h w = subst (λ (f : FormulaTree). IsWide m (of_truth f)) (v.stands-EqNumber t i a b h) (wide-part m _ _ (part.eq_number-b (the_number (slice_get (nodes t) a)) (the_number (slice_get (nodes t) b))) w)

  pub value-EqSet : (a : ℕ) (b : ℕ) → Stands t i (s.EqSet a b) → (e : List ℕ) → every m.last (λ x. agree (set_value (the_set (slice_get (nodes t) a)) m e x) (set_value (the_set (slice_get (nodes t) b)) m e x)) ≡ truth (the_truth (slice_get (nodes t) i)) m e
  value-EqSet a b h e = ap (λ (f : FormulaTree). truth f m e) (v.stands-EqSet t i a b h)

  pub wide-EqSet-a : (a : ℕ) (b : ℕ) → Stands t i (s.EqSet a b) → IsWide m (of_set (the_set (slice_get (nodes t) a))) → IsWide m (of_truth (the_truth (slice_get (nodes t) i)))
  wide-EqSet-a a b h w = subst (λ (f : FormulaTree). IsWide m (of_truth f)) (v.stands-EqSet t i a b h) (wide-part m _ _ (part.eq_set-a (the_set (slice_get (nodes t) a)) (the_set (slice_get (nodes t) b))) w)

  pub wide-EqSet-b : (a : ℕ) (b : ℕ) → Stands t i (s.EqSet a b) → IsWide m (of_set (the_set (slice_get (nodes t) b))) → IsWide m (of_truth (the_truth (slice_get (nodes t) i)))
  wide-EqSet-b a b h w = subst (λ (f : FormulaTree). IsWide m (of_truth f)) (v.stands-EqSet t i a b h) (wide-part m _ _ (part.eq_set-b (the_set (slice_get (nodes t) a)) (the_set (slice_get (nodes t) b))) w)

  pub value-Less : (a : ℕ) (b : ℕ) → Stands t i (s.Less a b) → (e : List ℕ) → int_lt (int_value (the_number (slice_get (nodes t) a)) m e) (int_value (the_number (slice_get (nodes t) b)) m e) ≡ truth (the_truth (slice_get (nodes t) i)) m e
  value-Less a b h e = ap (λ (f : FormulaTree). truth f m e) (v.stands-Less t i a b h)

  pub wide-Less-a : (a : ℕ) (b : ℕ) → Stands t i (s.Less a b) → IsWide m (of_number (the_number (slice_get (nodes t) a))) → IsWide m (of_truth (the_truth (slice_get (nodes t) i)))
  wide-Less-a a b h w = subst (λ (f : FormulaTree). IsWide m (of_truth f)) (v.stands-Less t i a b h) (wide-part m _ _ (part.less-a (the_number (slice_get (nodes t) a)) (the_number (slice_get (nodes t) b))) w)

  pub wide-Less-b : (a : ℕ) (b : ℕ) → Stands t i (s.Less a b) → IsWide m (of_number (the_number (slice_get (nodes t) b))) → IsWide m (of_truth (the_truth (slice_get (nodes t) i)))
  wide-Less-b a b h w = subst (λ (f : FormulaTree). IsWide m (of_truth f)) (v.stands-Less t i a b h) (wide-part m _ _ (part.less-b (the_number (slice_get (nodes t) a)) (the_number (slice_get (nodes t) b))) w)

  pub value-LessEqual : (a : ℕ) (b : ℕ) → Stands t i (s.LessEqual a b) → (e : List ℕ) → int_le (int_value (the_number (slice_get (nodes t) a)) m e) (int_value (the_number (slice_get (nodes t) b)) m e) ≡ truth (the_truth (slice_get (nodes t) i)) m e
  value-LessEqual a b h e = ap (λ (f : FormulaTree). truth f m e) (v.stands-LessEqual t i a b h)

  pub wide-LessEqual-a : (a : ℕ) (b : ℕ) → Stands t i (s.LessEqual a b) → IsWide m (of_number (the_number (slice_get (nodes t) a))) → IsWide m (of_truth (the_truth (slice_get (nodes t) i)))
  wide-LessEqual-a a b h w = subst (λ (f : FormulaTree). IsWide m (of_truth f)) (v.stands-LessEqual t i a b h) (wide-part m _ _ (part.less_equal-a (the_number (slice_get (nodes t) a)) (the_number (slice_get (nodes t) b))) w)

  pub wide-LessEqual-b : (a : ℕ) (b : ℕ) → Stands t i (s.LessEqual a b) → IsWide m (of_number (the_number (slice_get (nodes t) b))) → IsWide m (of_truth (the_truth (slice_get (nodes t) i)))
  wide-LessEqual-b a b h w = subst (λ (f : FormulaTree). IsWide m (of_truth f)) (v.stands-LessEqual t i a b h) (wide-part m _ _ (part.less_equal-b (the_number (slice_get (nodes t) a)) (the_number (slice_get (nodes t) b))) w)

  pub value-Divides : (z : ℤ) (a : ℕ) → Stands t i (s.Divides z a) → (e : List ℕ) → divides_number z (int_value (the_number (slice_get (nodes t) a)) m e) ≡ truth (the_truth (slice_get (nodes t) i)) m e
  value-Divides z a h e = ap (λ (f : FormulaTree). truth f m e) (v.stands-Divides t i z a h)

  pub wide-Divides-a : (z : ℤ) (a : ℕ) → Stands t i (s.Divides z a) → IsWide m (of_number (the_number (slice_get (nodes t) a))) → IsWide m (of_truth (the_truth (slice_get (nodes t) i)))
  wide-Divides-a z a h w = subst (λ (f : FormulaTree). IsWide m (of_truth f)) (v.stands-Divides t i z a h) (wide-part m _ _ (part.divides z (the_number (slice_get (nodes t) a))) w)

  pub value-Member : (a : ℕ) (b : ℕ) → Stands t i (s.Member a b) → (e : List ℕ) → set_value (the_set (slice_get (nodes t) b)) m e (term_value (the_object (slice_get (nodes t) a)) m e) ≡ truth (the_truth (slice_get (nodes t) i)) m e
  value-Member a b h e = ap (λ (f : FormulaTree). truth f m e) (v.stands-Member t i a b h)

  pub wide-Member-a : (a : ℕ) (b : ℕ) → Stands t i (s.Member a b) → IsWide m (of_object (the_object (slice_get (nodes t) a))) → IsWide m (of_truth (the_truth (slice_get (nodes t) i)))
  wide-Member-a a b h w = subst (λ (f : FormulaTree). IsWide m (of_truth f)) (v.stands-Member t i a b h) (wide-part m _ _ (part.member-a (the_object (slice_get (nodes t) a)) (the_set (slice_get (nodes t) b))) w)

  pub wide-Member-b : (a : ℕ) (b : ℕ) → Stands t i (s.Member a b) → IsWide m (of_set (the_set (slice_get (nodes t) b))) → IsWide m (of_truth (the_truth (slice_get (nodes t) i)))
  wide-Member-b a b h w = subst (λ (f : FormulaTree). IsWide m (of_truth f)) (v.stands-Member t i a b h) (wide-part m _ _ (part.member-b (the_object (slice_get (nodes t) a)) (the_set (slice_get (nodes t) b))) w)

  pub value-Subset : (a : ℕ) (b : ℕ) → Stands t i (s.Subset a b) → (e : List ℕ) → every m.last (λ x. not (set_value (the_set (slice_get (nodes t) a)) m e x) || set_value (the_set (slice_get (nodes t) b)) m e x) ≡ truth (the_truth (slice_get (nodes t) i)) m e
  value-Subset a b h e = ap (λ (f : FormulaTree). truth f m e) (v.stands-Subset t i a b h)

  pub wide-Subset-a : (a : ℕ) (b : ℕ) → Stands t i (s.Subset a b) → IsWide m (of_set (the_set (slice_get (nodes t) a))) → IsWide m (of_truth (the_truth (slice_get (nodes t) i)))
  wide-Subset-a a b h w = subst (λ (f : FormulaTree). IsWide m (of_truth f)) (v.stands-Subset t i a b h) (wide-part m _ _ (part.subset-a (the_set (slice_get (nodes t) a)) (the_set (slice_get (nodes t) b))) w)

  pub wide-Subset-b : (a : ℕ) (b : ℕ) → Stands t i (s.Subset a b) → IsWide m (of_set (the_set (slice_get (nodes t) b))) → IsWide m (of_truth (the_truth (slice_get (nodes t) i)))
  wide-Subset-b a b h w = subst (λ (f : FormulaTree). IsWide m (of_truth f)) (v.stands-Subset t i a b h) (wide-part m _ _ (part.subset-b (the_set (slice_get (nodes t) a)) (the_set (slice_get (nodes t) b))) w)

  pub value-Reach : (l : ℕ) (a : ℕ) (b : ℕ) → Stands t i (s.Reach l a b) → (e : List ℕ) → reaches m.last (fields_value (fields_at (nodes t) (the_list (slice_get t.pools.lists l))) m e) (term_value (the_object (slice_get (nodes t) a)) m e) (term_value (the_object (slice_get (nodes t) b)) m e) ≡ truth (the_truth (slice_get (nodes t) i)) m e
  value-Reach l a b h e = ap (λ (f : FormulaTree). truth f m e) (v.stands-Reach t i l a b h)

  pub wide-Reach-a : (l : ℕ) (a : ℕ) (b : ℕ) → Stands t i (s.Reach l a b) → IsWide m (of_object (the_object (slice_get (nodes t) a))) → IsWide m (of_truth (the_truth (slice_get (nodes t) i)))
  wide-Reach-a l a b h w = subst (λ (f : FormulaTree). IsWide m (of_truth f)) (v.stands-Reach t i l a b h) (wide-part m _ _ (part.reach-a (fields_at (nodes t) (the_list (slice_get t.pools.lists l))) (the_object (slice_get (nodes t) a)) (the_object (slice_get (nodes t) b))) w)

  pub wide-Reach-b : (l : ℕ) (a : ℕ) (b : ℕ) → Stands t i (s.Reach l a b) → IsWide m (of_object (the_object (slice_get (nodes t) b))) → IsWide m (of_truth (the_truth (slice_get (nodes t) i)))
  wide-Reach-b l a b h w = subst (λ (f : FormulaTree). IsWide m (of_truth f)) (v.stands-Reach t i l a b h) (wide-part m _ _ (part.reach-b (fields_at (nodes t) (the_list (slice_get t.pools.lists l))) (the_object (slice_get (nodes t) a)) (the_object (slice_get (nodes t) b))) w)

  pub value-Tree : (l : ℕ) → Stands t i (s.Tree l) → (e : List ℕ) → is_forest m.last (fields_value (fields_at (nodes t) (the_list (slice_get t.pools.lists l))) m e) ≡ truth (the_truth (slice_get (nodes t) i)) m e
  value-Tree l h e = ap (λ (f : FormulaTree). truth f m e) (v.stands-Tree t i l h)

  pub value-Mark : (k : ℕ) (a : ℕ) → Stands t i (s.Mark k a) → (e : List ℕ) → truth (the_truth (slice_get (nodes t) a)) m e ≡ truth (the_truth (slice_get (nodes t) i)) m e
  value-Mark k a h e = ap (λ (f : FormulaTree). truth f m e) (v.stands-Mark t i k a h)

  pub wide-Mark-a : (k : ℕ) (a : ℕ) → Stands t i (s.Mark k a) → IsWide m (of_truth (the_truth (slice_get (nodes t) a))) → IsWide m (of_truth (the_truth (slice_get (nodes t) i)))
  wide-Mark-a k a h w = subst (λ (f : FormulaTree). IsWide m (of_truth f)) (v.stands-Mark t i k a h) (wide-part m _ _ (part.mark (the_mark (slice_get t.pools.marks k)) (the_truth (slice_get (nodes t) a))) w)

pub ruleset bound_steps = (value-Bound)

pub ruleset free_object_steps = (value-FreeObject, v.sort-FreeObject-n)

pub ruleset null_steps = (value-Null)

pub ruleset read_object_steps = (value-ReadObject, wide-ReadObject-a, wide-ReadObject-b, v.sort-ReadObject-a, v.below-ReadObject-a, v.sort-ReadObject-b, v.below-ReadObject-b)

pub ruleset const_steps = (value-Const)

pub ruleset free_number_steps = (value-FreeNumber, v.sort-FreeNumber-n)

pub ruleset read_number_steps = (value-ReadNumber, wide-ReadNumber-a, wide-ReadNumber-b, v.sort-ReadNumber-a, v.below-ReadNumber-a, v.sort-ReadNumber-b, v.below-ReadNumber-b)

pub ruleset add_steps = (value-Add, wide-Add-a, wide-Add-b, v.sort-Add-a, v.below-Add-a, v.sort-Add-b, v.below-Add-b)

pub ruleset sub_steps = (value-Sub, wide-Sub-a, wide-Sub-b, v.sort-Sub-a, v.below-Sub-a, v.sort-Sub-b, v.below-Sub-b)

pub ruleset neg_steps = (value-Neg, wide-Neg-a, v.sort-Neg-a, v.below-Neg-a)

pub ruleset scale_steps = (value-Scale, wide-Scale-a, v.sort-Scale-a, v.below-Scale-a)

pub ruleset card_steps = (value-Card, wide-Card-a, v.sort-Card-a, v.below-Card-a)

pub ruleset free_set_steps = (value-FreeSet, v.sort-FreeSet-n)

pub ruleset read_set_steps = (value-ReadSet, wide-ReadSet-a, wide-ReadSet-b, v.sort-ReadSet-a, v.below-ReadSet-a, v.sort-ReadSet-b, v.below-ReadSet-b)

pub ruleset empty_steps = (value-Empty)

pub ruleset univ_steps = (value-Univ)

pub ruleset single_steps = (value-Single, wide-Single-a, v.sort-Single-a, v.below-Single-a)

pub ruleset union_steps = (value-Union, wide-Union-a, wide-Union-b, v.sort-Union-a, v.below-Union-a, v.sort-Union-b, v.below-Union-b)

pub ruleset inter_steps = (value-Inter, wide-Inter-a, wide-Inter-b, v.sort-Inter-a, v.below-Inter-a, v.sort-Inter-b, v.below-Inter-b)

pub ruleset diff_steps = (value-Diff, wide-Diff-a, wide-Diff-b, v.sort-Diff-a, v.below-Diff-a, v.sort-Diff-b, v.below-Diff-b)

pub ruleset compl_steps = (value-Compl, wide-Compl-a, v.sort-Compl-a, v.below-Compl-a)

pub ruleset compr_steps = (value-Compr, wide-Compr-a, v.sort-Compr-a, v.below-Compr-a)

pub ruleset free_field_steps = (value-FreeField, v.sort-FreeField-n)

pub ruleset update_steps = (value-Update, wide-Update-a, wide-Update-b, v.sort-Update-a, v.below-Update-a, v.sort-Update-b, v.below-Update-b, v.sort-Update-c, v.below-Update-c)

pub ruleset true_steps = (value-True)

pub ruleset false_steps = (value-False)

pub ruleset free_truth_steps = (value-FreeTruth, v.sort-FreeTruth-n)

pub ruleset read_truth_steps = (value-ReadTruth, wide-ReadTruth-a, wide-ReadTruth-b, v.sort-ReadTruth-a, v.below-ReadTruth-a, v.sort-ReadTruth-b, v.below-ReadTruth-b)

pub ruleset negation_steps = (value-Negation, wide-Negation-a, v.sort-Negation-a, v.below-Negation-a)

pub ruleset and_steps = (value-And, wide-And-a, wide-And-b, v.sort-And-a, v.below-And-a, v.sort-And-b, v.below-And-b)

pub ruleset or_steps = (value-Or, wide-Or-a, wide-Or-b, v.sort-Or-a, v.below-Or-a, v.sort-Or-b, v.below-Or-b)

pub ruleset implies_steps = (value-Implies, wide-Implies-a, wide-Implies-b, v.sort-Implies-a, v.below-Implies-a, v.sort-Implies-b, v.below-Implies-b)

pub ruleset iff_steps = (value-Iff, wide-Iff-a, wide-Iff-b, v.sort-Iff-a, v.below-Iff-a, v.sort-Iff-b, v.below-Iff-b)

pub ruleset all_steps = (value-All, wide-All-a, v.sort-All-a, v.below-All-a)

pub ruleset ex_steps = (value-Ex, wide-Ex-a, v.sort-Ex-a, v.below-Ex-a)

pub ruleset eq_object_steps = (value-EqObject, wide-EqObject-a, wide-EqObject-b, v.sort-EqObject-a, v.below-EqObject-a, v.sort-EqObject-b, v.below-EqObject-b)

pub ruleset eq_number_steps = (value-EqNumber, wide-EqNumber-a, wide-EqNumber-b, v.sort-EqNumber-a, v.below-EqNumber-a, v.sort-EqNumber-b, v.below-EqNumber-b)

pub ruleset eq_set_steps = (value-EqSet, wide-EqSet-a, wide-EqSet-b, v.sort-EqSet-a, v.below-EqSet-a, v.sort-EqSet-b, v.below-EqSet-b)

pub ruleset less_steps = (value-Less, wide-Less-a, wide-Less-b, v.sort-Less-a, v.below-Less-a, v.sort-Less-b, v.below-Less-b)

pub ruleset less_equal_steps = (value-LessEqual, wide-LessEqual-a, wide-LessEqual-b, v.sort-LessEqual-a, v.below-LessEqual-a, v.sort-LessEqual-b, v.below-LessEqual-b)

pub ruleset divides_steps = (value-Divides, wide-Divides-a, v.sort-Divides-a, v.below-Divides-a)

pub ruleset member_steps = (value-Member, wide-Member-a, wide-Member-b, v.sort-Member-a, v.below-Member-a, v.sort-Member-b, v.below-Member-b)

pub ruleset subset_steps = (value-Subset, wide-Subset-a, wide-Subset-b, v.sort-Subset-a, v.below-Subset-a, v.sort-Subset-b, v.below-Subset-b)

pub ruleset reach_steps = (value-Reach, wide-Reach-a, wide-Reach-b, v.sort-Reach-l, v.fields-Reach, v.below-Reach-l, v.sort-Reach-a, v.below-Reach-a, v.sort-Reach-b, v.below-Reach-b)

pub ruleset tree_steps = (value-Tree, v.sort-Tree-l, v.fields-Tree, v.below-Tree-l)

pub ruleset mark_steps = (value-Mark, wide-Mark-a, v.sort-Mark-a, v.below-Mark-a)
