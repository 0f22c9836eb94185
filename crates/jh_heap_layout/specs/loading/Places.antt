-- Where a memory has what a heap of a program lists.
use Rattle.std.specs.Prelude.{◌≡◌, ℕ, List, [], ◌∷◌, Some, slice_get}
use Rattle.jh_name.specs.declared.naming.Name.{Name}
use Rattle.jh_semantics.specs.Code.{Text}
use Rattle.jh_semantics.specs.State.{named, alloc_name}
use Rattle.jh_semantics.specs.Program.{Program, Member}
use Rattle.jh_semantics.specs.WellFormed.{all_classes}
use Rattle.jh_semantics.specs.Heaps.{statics_of, fields_of}
use Rattle.jh_heap_layout.specs.declared.loading.places.Place.{Place}
use Rattle.jh_heap_layout.specs.declared.loading.places.Places.{Places}

module _ (names : List Name) where
  -- numbers are those of the names of texts
  abbrev pub AreNumbers : List ℕ → List Text → Type 0
  AreNumbers [] [] = Unit {0}
  AreNumbers (k ∷ ks) (c ∷ cs) = (slice_get names k ≡ Some (named c)) × AreNumbers ks cs
  AreNumbers _ _ = ⊥

  -- the place of a static or field has the number of its name, and the kind of its values
  pub record IsPlace (place : Place) (x : Member) : Type 0 where
    pub number : slice_get names place.number ≡ Some (named x.text)
    pub kind : place.kind ≡ x.kind

  abbrev pub ArePlaces : List Place → List Member → Type 0
  ArePlaces [] [] = Unit {0}
  ArePlaces (k ∷ ks) (x ∷ xs) = IsPlace k x × ArePlaces ks xs
  ArePlaces _ _ = ⊥

  pub record AllPlaces (p : Program) (x : Places) : Type 0 where
    pub all : slice_get names x.all ≡ Some alloc_name
    pub classes : AreNumbers x.classes.items (all_classes p.classes)
    pub statics : ArePlaces x.statics.items (statics_of p)
    pub fields : ArePlaces x.fields.items (fields_of p)
