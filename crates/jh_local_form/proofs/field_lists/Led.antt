-- Where a list of fields leads by one change after another.
use Rattle.std.proofs.Common.{◌≡◌, sym, ap, subst, ◌∙◌, ℕ, nat_lt, Bool, true, false, if◌then◌else◌, List, [], ◌∷◌, ◌+◌, ◌≤◌, drop, length, slice_get, slice_set, Some, None, arith}
use Rattle.std.proofs.lemmas.List.{drop_all}
use Rattle.jh_form.specs.Tree.{FieldTree, of_field}
use Rattle.jh_arena.specs.table.Entries.{Listing, are_fields}
use Rattle.jh_arena.specs.table.Growth.{Extends}
use Rattle.jh_arena.specs.table.Nodes.{nodes}
use Rattle.jh_reach.specs.declared.backbones.Base.{Base}
use Rattle.jh_reach.specs.Axioms.{BackboneTree}
use Rattle.jh_reach.specs.Based.{IsBaseAt}
use Rattle.jh_reach.specs.Standing.{AreFields, fields_in}
use Rattle.jh_reach.proofs.Standings.{fields-grow, fields-there, fields-are}
use Rattle.jh_reach.proofs.Basing.{set-fields}
use Rattle.jh_fca.specs.local_form.Chains.{ChangeTree, has_axioms, place_of, backbone, base_at, led_from}
use Rattle.jh_local_form.specs.declared.updates.facts.NamedUpdate.{NamedUpdate}
use Rattle.jh_local_form.proofs.updates.Places.{drop-next}
use Rattle.jh_local_form.specs.declared.field_lists.backbones.Backbone.{Backbone}
use Rattle.jh_local_form.specs.field_lists.Changing.{IsChange, AreChanges}
use Rattle.jh_local_form.specs.field_lists.Leading.{AreBackbones, IsLed, LeadsOn, with_backbone, with_backbones}
use Rattle.jh_local_form.proofs.field_lists.Standing.{change-grows, change-at, changes-length}

module _ (c : ChangeTree) (cs : List ChangeTree) (fs : List FieldTree) where
  -- a change of no name of the list leads nowhere else
  pub led-past : nat_lt (place_of c.name fs) (length fs) ≡ false → led_from fs (c ∷ cs) ≡ led_from fs cs
  unfolding led_from
  led-past e = ap (λ b. if b then (if has_axioms fs then backbone fs (Some (base_at c (place_of c.name fs))) ∷ led_from (slice_set fs (place_of c.name fs) c.field) cs else []) else led_from fs cs) e

  -- a list for which no axioms are given leads nowhere
  pub led-ends : nat_lt (place_of c.name fs) (length fs) ≡ true → has_axioms fs ≡ false → led_from fs (c ∷ cs) ≡ []
  unfolding led_from
  led-ends e h = λ i. if e i then (if h i then backbone fs (Some (base_at c (place_of c.name fs))) ∷ led_from (slice_set fs (place_of c.name fs) c.field) cs else []) else led_from fs cs

  -- the list, and where the field leads that was updated
  pub led-more : nat_lt (place_of c.name fs) (length fs) ≡ true → has_axioms fs ≡ true → led_from fs (c ∷ cs) ≡ backbone fs (Some (base_at c (place_of c.name fs))) ∷ led_from (slice_set fs (place_of c.name fs) c.field) cs
  unfolding led_from
  led-more e h = λ i. if e i then (if h i then backbone fs (Some (base_at c (place_of c.name fs))) ∷ led_from (slice_set fs (place_of c.name fs) c.field) cs else []) else led_from fs cs

module _ (fs : List FieldTree) where
  pub last-none : has_axioms fs ≡ false → led_from fs [] ≡ []
  unfolding led_from
  last-none h = ap (λ b. if b then backbone fs None ∷ [] else []) h

  pub last-one : has_axioms fs ≡ true → led_from fs [] ≡ backbone fs None ∷ []
  unfolding led_from
  last-one h = ap (λ b. if b then backbone fs None ∷ [] else []) h

-- ---- what is made so far, with where the fields still lead

module _ (t : Listing) (made : List Backbone) (bs : List BackboneTree) where
  -- the list leads no further
  pub stopped : (c : ChangeTree) (cs : List ChangeTree) (fs : List FieldTree) → AreBackbones t made bs → nat_lt (place_of c.name fs) (length fs) ≡ true → has_axioms fs ≡ false → AreBackbones t made (with_backbones bs (led_from fs (c ∷ cs)))
  stopped c cs fs are e h = subst (λ (ds : List BackboneTree). AreBackbones t made (with_backbones bs ds)) (sym (led-ends c cs fs e h)) are

  -- it leads on
  pub going-on : (c : ChangeTree) (cs : List ChangeTree) (fs : List FieldTree) (ns : List ℕ) → AreBackbones t made (with_backbone bs (backbone fs (Some (base_at c (place_of c.name fs))))) → AreFields t ns (slice_set fs (place_of c.name fs) c.field) →
      nat_lt (place_of c.name fs) (length fs) ≡ true → has_axioms fs ≡ true → IsLed t made ns cs (with_backbones bs (led_from fs (c ∷ cs)))
  going-on c cs fs ns are stand e h = record {
    done = with_backbone bs (backbone fs (Some (base_at c (place_of c.name fs))));
    names = slice_set fs (place_of c.name fs) c.field;
    are = are;
    stand = stand;
    come = sym (ap (with_backbones bs) (led-more c cs fs e h));
  }

-- a change of no name of the list
pub passed : (t : Listing) (made : List Backbone) (ns : List ℕ) (c : ChangeTree) (cs : List ChangeTree) (whole : List BackboneTree) (h : IsLed t made ns (c ∷ cs) whole) → nat_lt (place_of c.name h.names) (length h.names) ≡ false → IsLed t made ns cs whole
passed t made ns c cs whole h e = record {
  done = h.done;
  names = h.names;
  are = h.are;
  stand = h.stand;
  come = sym (ap (with_backbones h.done) (led-past c cs h.names e)) ∙ h.come;
}

-- no change is left
pub last-stopped : (t : Listing) (made : List Backbone) (ns : List ℕ) (whole : List BackboneTree) (h : IsLed t made ns [] whole) → has_axioms h.names ≡ false → AreBackbones t made whole
last-stopped t made ns whole h e = subst (λ (bs : List BackboneTree). AreBackbones t made bs) (sym (ap (with_backbones h.done) (last-none h.names e)) ∙ h.come) h.are

pub last-added : (t u : Listing) (made now : List Backbone) (ns : List ℕ) (whole : List BackboneTree) (h : IsLed t made ns [] whole) → has_axioms h.names ≡ true → AreBackbones u now (with_backbone h.done (backbone h.names None)) → AreBackbones u now whole
last-added t u made now ns whole h e are = subst (λ (bs : List BackboneTree). AreBackbones u now bs) (sym (ap (with_backbones h.done) (last-one h.names e)) ∙ h.come) are

-- ---- one change

abbrev pub from : NamedUpdate → ℕ → Base
from x place = record { place = place; field = x.field; at = x.at; value = x.value }

module _ (t : Listing) (x : NamedUpdate) (c : ChangeTree) (is : IsChange (nodes t) x c) where
  -- what the list came from
  pub came-from : (place k : ℕ) → place ≡ k → IsBaseAt t (Some (from x place)) (Some (base_at c k))
  unfolding IsBaseAt
  came-from place k e = record { place = e; field = is.on; at = is.for_object; value = is.gives }

  module _ (u : Listing) (g : Extends t u) where
    -- the field that was updated in the place of the name of the update
    exchanged : (ns : List ℕ) (fs : List FieldTree) (k : ℕ) → AreFields t ns fs → AreFields u (slice_set ns k x.field) (slice_set fs k c.field)
    exchanged ns fs k stand = set-fields u ns fs k x.field c.field (fields-grow t u ns fs g stand) (g.nodes.keeps x.field (of_field c.field) is.on)

    pub exchanged-are : (ns new : List ℕ) (place : ℕ) → are_fields (nodes t) ns ≡ true → new ≡ slice_set ns place x.field → are_fields (nodes u) new ≡ true
    exchanged-are ns new place are e =
        let fs = fields_in (nodes t) ns in
        ap (are_fields (nodes u)) e ∙ fields-are u (slice_set ns place x.field) (slice_set fs place c.field) (exchanged ns fs place (fields-there t ns are))

    pub led-on : (ns new : List ℕ) (place : ℕ) (made : List Backbone) (bs : List BackboneTree) (cs : List ChangeTree) (fs : List FieldTree) → AreFields t ns fs → has_axioms fs ≡ true → nat_lt (place_of c.name fs) (length fs) ≡ true → place ≡ place_of c.name fs →
        AreBackbones u made (with_backbone bs (backbone fs (Some (base_at c (place_of c.name fs))))) → new ≡ slice_set ns place x.field → IsLed u made new cs (with_backbones bs (led_from fs (c ∷ cs)))
    led-on ns new place made bs cs fs stand known lt at are e =
        going-on u made bs c cs fs new are
        (subst (λ (ks : List ℕ). AreFields u ks (slice_set fs (place_of c.name fs) c.field)) (sym (e ∙ ap (λ k. slice_set ns k x.field) at)) (exchanged ns fs (place_of c.name fs) stand))
        lt known

-- ---- one change after another

module _ (t : Listing) (made : List Backbone) (ns : List ℕ) (cs : List ChangeTree) (whole : List BackboneTree) where
  pub leads : (on : Bool) → on ≡ true → LeadsOn on t made ns cs whole → IsLed t made ns cs whole
  leads on e h = subst (λ (b : Bool). LeadsOn b t made ns cs whole) e h

  pub ended : (on : Bool) → on ≡ false → LeadsOn on t made ns cs whole → AreBackbones t made whole
  ended on e h = subst (λ (b : Bool). LeadsOn b t made ns cs whole) e h

  pub led-as : (ms : List ℕ) → ms ≡ ns → IsLed t made ns cs whole → IsLed t made ms cs whole
  led-as ms e h = subst (λ (ks : List ℕ). IsLed t made ks cs whole) (sym e) h

module _ (t u : Listing) (g : Extends t u) (xs : List NamedUpdate) (cs : List ChangeTree) (are : AreChanges (nodes t) xs cs) (made : List Backbone) (ns : List ℕ) (whole : List BackboneTree) where
  -- the change at a place is the next one
  pub turn : (i : ℕ) (x : NamedUpdate) → slice_get xs i ≡ Some x → IsLed u made ns (drop i cs) whole → (R : Type 0) → ((c : ChangeTree) → IsChange (nodes u) x c → IsLed u made ns (c ∷ drop (i + 1) cs) whole → R) → R
  turn i x at led R next =
      let c = change-at (nodes t) xs cs i x are at in
      next c.0 (change-grows (nodes t) (nodes u) g.nodes x c.0 c.2) (subst (λ (ds : List ChangeTree). IsLed u made ns ds whole) (drop-next cs i c.0 c.1) led)

  -- no change is left
  pub all-gone : (i : ℕ) → length xs ≤ i → IsLed u made ns (drop i cs) whole → IsLed u made ns [] whole
  all-gone i past led = subst (λ (ds : List ChangeTree). IsLed u made ns ds whole) (drop_all i cs (let e = changes-length (nodes t) xs cs are in omega (arith, e, past))) led

-- a list that came from nowhere
pub from-nothing : (t : Listing) → IsBaseAt t None None
unfolding IsBaseAt
from-nothing t = tt
