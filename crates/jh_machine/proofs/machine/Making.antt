-- New objects.
use Rattle.std.proofs.Common.{◌≡◌, sym, ap, ◌∙◌, ℕ, suc, ◌≤◌, true, false, if◌then◌else◌, List, ◌∷◌, Some, slice_get, drop, drop-cons, length, Result, Ok, Err, OnOk}
use Rattle.std.proofs.lemmas.List.{drop_all}
use Rattle.std.proofs.lemmas.Option.{slice_get_within, get_or_from_slice_get}
use Rattle.jh_name.specs.declared.place.Place.{Place}
use Rattle.jh_form.specs.Meaning.{an_object}
use Rattle.jh_semantics.specs.Code.{Text, Target}
use Rattle.jh_semantics.specs.State.{State}
use Rattle.jh_semantics.specs.Values.{Value, value}
use Rattle.jh_semantics.specs.Objects.{created, is_free, pick, put, target_of}
use Rattle.jh_semantics.specs.Progress.{Configuration, Progress, stops, no_object, with_value}
use Rattle.jh_store.specs.memory.Held.{state_of}
use Rattle.jh_operands.specs.declared.fault.Fault.{Fault}
use Rattle.jh_operands.specs.Faults.{Never}
use Rattle.jh_machine.specs.declared.continuation.stop.Stop.{Stop}
use Rattle.jh_machine.specs.continuation.Stops.{stop_of, StopsAs, TargetFault}
use Rattle.jh_machine.specs.continuation.Done.{made_by}
use Rattle.jh_machine.proofs.writes.TargetSteps.{stops_there, fault_stops}
use Rattle.jh_machine.specs.declared.machine.machine.Machine.{Machine}
use Rattle.jh_machine.specs.machine.Machines.{stands}

-- from the element at a place on
first-of : (xs : List ℕ) (i x : ℕ) → slice_get xs i ≡ Some x → drop i xs ≡ x ∷ drop (suc i) xs
first-of xs i x h = drop-cons xs i x (slice_get_within xs i x h) ∙ ap (λ y. y ∷ drop (suc i) xs) (get_or_from_slice_get xs i x x h)

module _ (q : Place) (m : Machine) (s : State) (next : ℕ → Configuration → Progress) where
  abbrev from : List ℕ → Progress
  from xs = pick q xs (stands m s) next

  pub pick_none : length m.picks.items ≤ m.taken → pick q (stands m s).picks (stands m s) next ≡ stops (no_object q)
  pick_none h = ap from (drop_all m.taken m.picks.items h)

  pub pick_free : (a : ℕ) → slice_get m.picks.items m.taken ≡ Some a → true ≡ is_free (state_of m.now) a → (new : Machine) → new ≡ record m { taken = suc m.taken } → pick q (stands m s).picks (stands m s) next ≡ next a (stands new s)
  pick_free a at free new is =
      ap from (first-of m.picks.items m.taken a at)
      ∙ ap (λ b. if b then next a (record (stands m s) { picks = drop (suc m.taken) m.picks.items }) else stops (no_object q)) (sym free)
      ∙ ap (λ (z : Machine). next a (stands z s)) (sym is)

  pub pick_taken : (a : ℕ) → slice_get m.picks.items m.taken ≡ Some a → false ≡ is_free (state_of m.now) a → pick q (stands m s).picks (stands m s) next ≡ stops (no_object q)
  pick_taken a at free =
      ap from (first-of m.picks.items m.taken a at)
      ∙ ap (λ b. if b then next a (record (stands m s) { picks = drop (suc m.taken) m.picks.items }) else stops (no_object q)) (sym free)

-- what is done with an object that was picked
abbrev pub placed : Target → ℕ → Text → ℕ → Configuration → Progress
placed t at class x r = put t at (an_object x) (record r { now = created r.now class x })

module _ (q : Place) (t : Target) (class : Text) (r : Configuration) where
  pub made_fault : (why : Fault) → TargetFault t r.now why → StopsAs (made_by q t class r) Never (stop_of why)
  made_fault why h = fault_stops (target_of t r.now) (λ a. pick q r.picks r (placed t a class)) Never Never why h (λ p no. no)

  module _ (at : ℕ) (is : target_of t r.now ≡ value at) where
    placed-first : made_by q t class r ≡ pick q r.picks r (placed t at class)
    placed-first = ap (λ (v : Value ℕ). with_value v (λ a. pick q r.picks r (placed t a class))) is

    pub made_unpicked : (why : Stop) → StopsAs (pick q r.picks r (placed t at class)) Never why → StopsAs (made_by q t class r) Never why
    made_unpicked why h = stops_there (pick q r.picks r (placed t at class)) (made_by q t class r) Never Never why placed-first (λ p no. no) h

    module _ (x : ℕ) (u : Configuration) (picked : pick q r.picks r (placed t at class) ≡ placed t at class x u) where
      pub made_unput : (why : Stop) → StopsAs (placed t at class x u) Never why → StopsAs (made_by q t class r) Never why
      made_unput why h = stops_there (placed t at class x u) (made_by q t class r) Never Never why (placed-first ∙ picked) (λ p no. no) h

      pub made_on : (y : Progress) → placed t at class x u ≡ y → made_by q t class r ≡ y
      made_on y h = placed-first ∙ picked ∙ h

-- what holds after any answer
pub ok_always : {T E P : Type 0} (r : Result T E) → P → OnOk r P
ok_always (Ok x) h = h
ok_always (Err e) h = tt
