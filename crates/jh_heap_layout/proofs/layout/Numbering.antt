-- Numbers and places, one after another, while names get numbers.
use Rattle.std.proofs.Common.{◌≡◌, ap, ◌∙◌, ℕ, List, [], ◌∷◌, ◌++◌, Some, slice_get}
use Rattle.jh_name.specs.declared.naming.Name.{Name}
use Rattle.jh_arena.specs.table.Growth.{Grows}
use Rattle.jh_semantics.specs.Code.{Text}
use Rattle.jh_semantics.specs.State.{named}
use Rattle.jh_semantics.specs.Program.{Member}
use Rattle.jh_machine_code.specs.numbering.Numbered.{IsText}
use Rattle.jh_machine_code.proofs.numbering.Standing.{grows_twice}
use Rattle.jh_heap_layout.specs.declared.loading.places.Place.{Place}
use Rattle.jh_heap_layout.specs.loading.Places.{AreNumbers, IsPlace, ArePlaces}
use Rattle.jh_heap_layout.specs.layout.Lasting.{HasClasses, HasPlace, HasPlaces}

-- the name of a text that has a number
pub named-there : (names : List Name) (text : Text) (k : ℕ) → IsText names text k → (later : List Name) → Grows names later → slice_get later k ≡ Some (named text)
named-there names text k is later grows = is.fits later grows ∙ ap (λ t. Some (named t)) (is.same later grows)

one-number-more : (names : List Name) (ks : List ℕ) (cs : List Text) (k : ℕ) (c : Text) → AreNumbers names ks cs → slice_get names k ≡ Some (named c) → AreNumbers names (ks ++ k ∷ []) (cs ++ c ∷ [])
one-number-more names [] [] k c are at = (at, tt)
one-number-more names [] (d ∷ cs) k c are at = absurd are
one-number-more names (j ∷ ks) [] k c are at = absurd are
one-number-more names (j ∷ ks) (d ∷ cs) k c are at = (are.0, one-number-more names ks cs k c are.1 at)

pub classes_none : {names : List Name} → HasClasses names [] []
classes_none = record { are = λ later grows. tt }

pub classes_more : {old new : List Name} {ks : List ℕ} {cs : List Text} {k : ℕ} {c : Text} → HasClasses old ks cs → Grows old new → IsText new c k → HasClasses new (ks ++ k ∷ []) (cs ++ c ∷ [])
classes_more {new = new} {ks = ks} {cs = cs} {k = k} {c = c} has grows is = record { are = λ later more. one-number-more later ks cs k c (has.are later (grows_twice grows more)) (named-there new c k is later more) }

one-place-more : (names : List Name) (ks : List Place) (xs : List Member) (k : Place) (x : Member) → ArePlaces names ks xs → IsPlace names k x → ArePlaces names (ks ++ k ∷ []) (xs ++ x ∷ [])
one-place-more names [] [] k x are is = (is, tt)
one-place-more names [] (y ∷ xs) k x are is = absurd are
one-place-more names (j ∷ ks) [] k x are is = absurd are
one-place-more names (j ∷ ks) (y ∷ xs) k x are is = (are.0, one-place-more names ks xs k x are.1 is)

pub places_none : {names : List Name} → HasPlaces names [] []
places_none = record { are = λ later grows. tt }

pub places_more : {old new : List Name} {ks : List Place} {xs : List Member} {k : Place} {x : Member} → HasPlaces old ks xs → Grows old new → HasPlace new k x → HasPlaces new (ks ++ k ∷ []) (xs ++ x ∷ [])
places_more {ks = ks} {xs = xs} {k = k} {x = x} has grows is = record { are = λ later more. one-place-more later ks xs k x (has.are later (grows_twice grows more)) (is.is later more) }
