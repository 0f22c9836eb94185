-- The whole text of a heap is read as that heap.
use Rattle.std.proofs.Common.{◌≡◌, refl, true, sym, ap, ◌∙◌, arith, ℕ, suc, ◌<◌, ◌≤◌, List, [], ◌∷◌, ◌++◌, length, map, replicate, Option, append-nil}
use Rattle.jh_semantics.specs.Code.{Text}
use Rattle.jh_semantics.specs.Heaps.{Cell, Heap}
use Rattle.jh_heap.specs.lines.Lines as l
use Rattle.jh_heap.specs.text.Outlines.{Holder, Outline}
use Rattle.jh_heap.specs.text.Drafts.{empty_draft, texts_of, nothing}
use Rattle.jh_heap.specs.text.Reading.{Reading, read, reading, objects_or}
use Rattle.jh_heap.specs.text.Writing.{heap_text, classes_text, statics_text, fields_text}
use Rattle.jh_heap_theorems.specs.round_trip.Names.{are_distinct, no_args}
use Rattle.jh_heap_theorems.proofs.round_trip.Spelled.{universe_line, universe-is, clean-universe}
use Rattle.jh_heap_theorems.proofs.round_trip.Turns.{outline, draft, Reads, reads-text, read-line, read-end}
use Rattle.jh_heap_theorems.proofs.round_trip.Classes.{given_class, ClassesFit, read-classes}
use Rattle.jh_heap_theorems.proofs.round_trip.Values.{given_cell, ValuesFit, cells-back, read-statics}
use Rattle.jh_heap_theorems.proofs.round_trip.Fields.{FieldsFit, rows-back, read-fields}

classes-back : (classes : List (List ℕ)) → map objects_or (map given_class classes) ≡ classes
classes-back [] = refl
classes-back ([] ∷ rest) = ap (λ z. [] ∷ z) (classes-back rest)
classes-back ((a ∷ xs) ∷ rest) = ap (λ z. (a ∷ xs) ∷ z) (classes-back rest)

-- what a heap is that can be written and read: names that are words and distinct, and values that break no rule
pub record HeapFits (cs : List Text) (ss fs : List Holder) (h : Heap) : Type 0 where
  pub small : h.greatest < 256
  pub class_names : are_distinct cs ≡ true
  pub static_names : are_distinct (texts_of ss) ≡ true
  pub field_names : are_distinct (texts_of fs) ≡ true
  pub classes_fit : ClassesFit h.greatest [] cs h.classes
  pub statics_fit : ValuesFit h.greatest (map given_class h.classes) ss h.statics
  pub fields_fit : FieldsFit h.greatest (map given_class h.classes) cs fs h.fields

module _ (cs : List Text) (ss fs : List Holder) (h : Heap) (fits : HeapFits cs ss fs h) where
  abbrev the_outline : Outline
  the_outline = outline cs ss fs

  abbrev answer : Reading
  answer = read h no_args

  abbrev given_classes : List (Option (List ℕ))
  given_classes = map given_class h.classes

  abbrev given_statics : List (Option Cell)
  given_statics = map given_cell h.statics

  abbrev given_fields : List (List (Option Cell))
  given_fields = map (map given_cell) h.fields

  abbrev no_statics : List (Option Cell)
  no_statics = nothing (length ss)

  abbrev no_fields : List (List (Option Cell))
  no_fields = replicate (length fs) (nothing (suc h.greatest))

  read-nothing : (e : ℕ) → 0 < e → Reads the_outline [] (draft h.greatest e given_classes given_statics given_fields) answer
  read-nothing e some k =
      read-end cs ss fs h.greatest e given_classes given_statics given_fields some k
      ∙ (λ i. read (record {
        greatest = h.greatest;
        classes = classes-back h.classes i;
        statics = cells-back h.greatest given_classes ss h.statics fits.statics_fit i;
        fields = rows-back h.greatest given_classes cs fs h.fields fits.fields_fit i;
      }) no_args)

  read-all-fields : (e : ℕ) → 0 < e → e ≤ 3 → Reads the_outline (fields_text fs h.fields) (draft h.greatest e given_classes given_statics no_fields) answer
  read-all-fields e some le =
      reads-text the_outline (fields_text fs h.fields) (fields_text fs h.fields ++ []) (draft h.greatest e given_classes given_statics no_fields) answer (sym (append-nil (fields_text fs h.fields)))
      (read-fields cs ss fs h.greatest fits.small fits.field_names given_classes given_statics answer [] fs [] h.fields [] e refl refl fits.fields_fit some le (λ f a b. read-nothing f a))

  read-all-statics : Reads the_outline (statics_text ss h.statics ++ fields_text fs h.fields) (draft h.greatest 1 given_classes no_statics no_fields) answer
  read-all-statics =
      read-statics cs ss fs h.greatest fits.small fits.static_names given_classes no_fields answer [] ss [] h.statics (fields_text fs h.fields) 1 refl refl fits.statics_fit (omega arith) (omega arith)
      (λ e a b. read-all-fields e a (omega (arith, b)))

  read-all-classes : Reads the_outline (classes_text cs h.classes ++ (statics_text ss h.statics ++ fields_text fs h.fields)) (draft h.greatest 1 (nothing (length cs)) no_statics no_fields) answer
  read-all-classes =
      read-classes cs ss fs h.greatest fits.small fits.class_names no_statics no_fields answer [] cs [] h.classes (statics_text ss h.statics ++ fields_text fs h.fields) refl refl fits.classes_fit read-all-statics

  pub whole-read : reading the_outline (heap_text the_outline h) ≡ answer
  whole-read =
      let line = clean-universe h.greatest fits.small in
      read-line the_outline (universe_line h.greatest) (classes_text cs h.classes ++ (statics_text ss h.statics ++ fields_text fs h.fields)) (l.universe h.greatest) empty_draft answer line.feed
      (universe-is h.greatest fits.small) refl refl read-all-classes 1
