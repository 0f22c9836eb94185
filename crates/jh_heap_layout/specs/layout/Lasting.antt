-- Where memory has what heaps of a program list, among some names and all that grow from them.
use Rattle.std.specs.Prelude.{ℕ, List}
use Rattle.jh_name.specs.declared.naming.Name.{Name}
use Rattle.jh_arena.specs.table.Growth.{Grows}
use Rattle.jh_semantics.specs.Code.{Text}
use Rattle.jh_semantics.specs.Program.{Program, Member}
use Rattle.jh_heap_layout.specs.declared.loading.places.Place.{Place}
use Rattle.jh_heap_layout.specs.declared.loading.places.Places.{Places}
use Rattle.jh_heap_layout.specs.loading.Places.{AreNumbers, IsPlace, ArePlaces, AllPlaces}

pub record HasClasses (names : List Name) (numbers : List ℕ) (classes : List Text) : Type 0 where
  pub are : (later : List Name) → Grows names later → AreNumbers later numbers classes

pub record HasPlace (names : List Name) (place : Place) (x : Member) : Type 0 where
  pub is : (later : List Name) → Grows names later → IsPlace later place x

pub record HasPlaces (names : List Name) (places : List Place) (xs : List Member) : Type 0 where
  pub are : (later : List Name) → Grows names later → ArePlaces later places xs

pub record HasAll (names : List Name) (p : Program) (places : Places) : Type 0 where
  pub are : (later : List Name) → Grows names later → AllPlaces later p places
