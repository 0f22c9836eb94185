-- The axioms of a local form are true where the names of updates have the updates' values.
use Rattle.std.proofs.Common.{◌≡◌, refl, sym, ap, ◌∙◌, ℕ, zero, suc, ◌<◌, nat_lt, nat_le, Bool, true, false, not, ◌&&◌, if◌then◌else◌, List, [], ◌∷◌, ◌++◌, length, Option, Some, None, slice_get, slice_set, inl, inr, arith}
use Rattle.std.specs.Prelude.{filter}
use Rattle.std.specs.List.{All, list_any, flat_map}
use Rattle.std.proofs.lemmas.Bool.{true≢false, ltb-true}
use Rattle.jh_name.specs.declared.naming.Name.{Name}
use Rattle.jh_form.specs.Tree.{TermTree, FieldTree, ValueTree, FormulaTree}
use Rattle.jh_form.specs.Tree as t
use Rattle.jh_form.specs.Closed.{is_closed_term, is_closed_field, is_closed_value}
use Rattle.jh_form.specs.Meaning.{Interp, InUniverse, field_value, truth}
use Rattle.jh_form.proofs.ClosedLemmas.{both-left, both-right}
use Rattle.jh_form.proofs.Names.{name_equal-true}
use Rattle.jh_substitution.specs.rewriting.Rewritten.{rewritten_value}
use Rattle.jh_approx.specs.jh_reach.Axioms.{BackboneTree, axioms_of}
use Rattle.jh_approx.specs.jh_reach.Truths.{AreClosed, IsBase, IsThatUpdate, OfBase, AxiomsAreTrue}
use Rattle.jh_fca.specs.local_form.Named.{is_whole_update}
use Rattle.jh_fca.specs.local_form.Chains.{is_name, are_different_names, has_axioms, place_of, same_list, ChangeTree, change, changes_of, changes, backbone, base_at, led_from, lists_once, lists_in, backbones, reach_axioms}
use Rattle.jh_fca.proofs.local_form.Among.{Among}
use Rattle.jh_fca.proofs.local_form.Holding.{AllHold, hold-both}
use Rattle.jh_fca.proofs.local_form.Naming.{IsNamed, with_updates, is-that-field}
use Rattle.jh_fca.proofs.local_form.NamedClosed.{term-named, field-named}

hold-all : (m : Interp) (fs : List FormulaTree) → All (λ a. truth a m [] ≡ true) fs → AllHold m fs
hold-all m [] h = tt
hold-all m (a ∷ fs) h = (h zero a (omega arith), hold-all m fs (λ k d lt. h (suc k) d (omega (arith, lt))))

-- ---- changes

-- In an interpretation the change's name is the update, whose parts have no loose bound variables.
record IsGood (m : Interp) (c : ChangeTree) : Type 0 where
  pub field : is_closed_field c.field 0 ≡ true
  pub at : is_closed_term c.at 0 ≡ true
  pub value : is_closed_term c.value 0 ≡ true
  pub is : m.field c.name ≡ field_value (t.update c.field c.at (t.of_object c.value)) m []

abbrev AllGood : Interp → List ChangeTree → Type 0
AllGood m [] = Unit {0}
AllGood m (c ∷ cs) = IsGood m c × AllGood m cs

good-both : (m : Interp) (cs ds : List ChangeTree) → AllGood m cs → AllGood m ds → AllGood m (cs ++ ds)
good-both m [] ds h k = k
good-both m (c ∷ cs) ds h k = (h.0, good-both m cs ds h.1 k)

module _ (us : List ValueTree) (k : ℕ) (m : Interp) (all : (v : ValueTree) → Among v us → IsNamed k v) where
  abbrev known : Interp
  known = with_updates us k m all

  object-good : (f : FieldTree) (a v : TermTree) → Among (t.of_field (t.update f a (t.of_object v))) us → is_closed_field (t.update f a (t.of_object v)) 0 ≡ true → AllGood known (change us k (t.of_field (t.update f a (t.of_object v))))
  unfolding change is_closed_field is_closed_value rewritten_value
  object-good f a v h closed =
      let two : (is_closed_field f 0 && is_closed_term a 0) ≡ true = both-left (is_closed_field f 0 && is_closed_term a 0) (is_closed_term v 0) closed in (
        record {
          field = field-named us k f 0 (both-left (is_closed_field f 0) (is_closed_term a 0) two);
          at = term-named us k a 0 (both-right (is_closed_field f 0) (is_closed_term a 0) two);
          value = term-named us k v 0 (both-right (is_closed_field f 0 && is_closed_term a 0) (is_closed_term v 0) closed);
          is = is-that-field us k m all f a (t.of_object v) h [];
        },
        tt,
      )

  change-good : (v : ValueTree) → Among v us → AllGood known (change us k v)
  unfolding change is_whole_update
  change-good (t.of_field (t.update f a (t.of_object v))) h = object-good f a v h (all (t.of_field (t.update f a (t.of_object v))) h).whole
  change-good v h = tt

  changes-good : (vs : List ValueTree) → ((v : ValueTree) → Among v vs → Among v us) → AllGood known (changes_of us k vs)
  changes-good [] h = tt
  changes-good (v ∷ vs) h = good-both known (changes_of us k vs) (change us k v) (changes-good vs (λ w j. h w (inr j))) (change-good v (h v (inl refl)))

-- ---- lists

not-none : {X : Type 0} (x : X) → None ≡ Some x → ⊥
not-none {X = X} x e = true≢false (sym (ap is_there e)) where
  is_there : Option X → Bool
  is_there None = false
  is_there (Some y) = true

field_or_null : Option FieldTree → FieldTree → FieldTree
field_or_null (Some f) g = f
field_or_null None g = g

-- lists of different names have no loose bound variables
names-closed : (fs : List FieldTree) → are_different_names fs ≡ true → AreClosed fs
unfolding are_different_names is_closed_field field_or_null
names-closed [] h i f e = absurd (not-none f e)
names-closed (t.free_field x ∷ fs) h zero f e = sym (ap (λ o. is_closed_field (field_or_null o f) 0) e)
names-closed (t.free_field x ∷ fs) h (suc i) f e = names-closed fs (both-right (not (list_any (is_name x) fs)) (are_different_names fs) h) i f e
names-closed (t.update g a v ∷ fs) h i f e = absurd (true≢false (sym h))

axioms-closed : (fs : List FieldTree) → has_axioms fs ≡ true → AreClosed fs
unfolding has_axioms
axioms-closed fs h = names-closed fs (both-right (nat_le 1 (length fs) && nat_le (length fs) 4) (are_different_names fs) h)

named-value : (m : Interp) (x : Name) (g : FieldTree) → is_name x g ≡ true → field_value g m [] ≡ m.field x
unfolding is_name
named-value m x (t.free_field y) h = ap m.field (name_equal-true y x h)
named-value m x (t.update f a v) h = absurd (true≢false (sym h))

place-if : (m : Interp) (x : Name) (f g : FieldTree) (fs : List FieldTree) (b : Bool) → (b ≡ true → is_name x f ≡ true) → (slice_get fs (place_of x fs) ≡ Some g → field_value g m [] ≡ m.field x) →
    slice_get (f ∷ fs) (if b then zero else suc (place_of x fs)) ≡ Some g → field_value g m [] ≡ m.field x
unfolding field_or_null
place-if m x f g fs true h k e = sym (ap (λ o. field_value (field_or_null o g) m []) e) ∙ named-value m x f (h refl)
place-if m x f g fs false h k e = k e

-- at the place of a name stands what means the name
place-means : (m : Interp) (x : Name) (fs : List FieldTree) (g : FieldTree) → slice_get fs (place_of x fs) ≡ Some g → field_value g m [] ≡ m.field x
unfolding place_of
place-means m x [] g e = absurd (not-none g e)
place-means m x (f ∷ fs) g e = place-if m x f g fs (is_name x f) (λ h. h) (place-means m x fs g) e

-- ---- where a list leads to

-- what the law on axioms asks of a backbone
record IsRight (m : Interp) (b : BackboneTree) : Type 0 where
  pub fields : AreClosed b.fields
  pub base : OfBase (IsBase b.fields) b.base
  pub update : OfBase (IsThatUpdate m b.fields) b.base

abbrev AllRight : Interp → List BackboneTree → Type 0
AllRight m [] = Unit {0}
AllRight m (b ∷ bs) = IsRight m b × AllRight m bs

right-both : (m : Interp) (bs cs : List BackboneTree) → AllRight m bs → AllRight m cs → AllRight m (bs ++ cs)
right-both m [] cs h k = k
right-both m (b ∷ bs) cs h k = (h.0, right-both m bs cs h.1 k)

right-if : (m : Interp) (c : Bool) (bs cs : List BackboneTree) → (c ≡ true → AllRight m bs) → AllRight m cs → AllRight m (if c then bs else cs)
right-if m true bs cs h k = h refl
right-if m false bs cs h k = k

right-alone : (m : Interp) (fs : List FieldTree) → has_axioms fs ≡ true → AllRight m (backbone fs None ∷ [])
right-alone m fs h = (record { fields = axioms-closed fs h; base = tt; update = tt }, tt)

right-base : (m : Interp) (fs : List FieldTree) (c : ChangeTree) → IsGood m c → has_axioms fs ≡ true → place_of c.name fs < length fs → IsRight m (backbone fs (Some (base_at c (place_of c.name fs))))
right-base m fs c good h lt = record {
  fields = axioms-closed fs h;
  base = record { place = lt; field = good.field; at = good.at; value = good.value };
  update = λ g e x inside. ap (λ f. f.objects x) (place-means m c.name fs g e ∙ good.is);
}

led-right : (m : Interp) (fs : List FieldTree) (cs : List ChangeTree) → AllGood m cs → AllRight m (led_from fs cs)
unfolding led_from
led-right m fs [] h = right-if m (has_axioms fs) (backbone fs None ∷ []) [] (right-alone m fs) tt
led-right m fs (c ∷ cs) h =
    let further : List BackboneTree = led_from (slice_set fs (place_of c.name fs) c.field) cs in
    right-if m (nat_lt (place_of c.name fs) (length fs)) (if has_axioms fs then backbone fs (Some (base_at c (place_of c.name fs))) ∷ further else []) (led_from fs cs)
    (λ there. right-if m (has_axioms fs) (backbone fs (Some (base_at c (place_of c.name fs))) ∷ further) []
    (λ has. (right-base m fs c h.0 has (ltb-true (place_of c.name fs) (length fs) there), led-right m (slice_set fs (place_of c.name fs) c.field) cs h.1)) tt)
    (led-right m fs cs h.1)

all-led-right : (m : Interp) (ls : List (List FieldTree)) (cs : List ChangeTree) → AllGood m cs → AllRight m (flat_map (λ fs. led_from fs cs) ls)
all-led-right m [] cs h = tt
all-led-right m (fs ∷ ls) cs h = right-both m (led_from fs cs) (flat_map (λ gs. led_from gs cs) ls) (led-right m fs cs h) (all-led-right m ls cs h)

right-more : (m : Interp) (c : Bool) (b : BackboneTree) (bs : List BackboneTree) → IsRight m b → AllRight m bs → AllRight m (if c then b ∷ bs else bs)
right-more m true b bs h k = (h, k)
right-more m false b bs h k = k

filter-right : (m : Interp) (p : BackboneTree → Bool) (bs : List BackboneTree) → AllRight m bs → AllRight m (filter p bs)
filter-right m p [] h = tt
filter-right m p (b ∷ bs) h = right-more m (p b) b (filter p bs) h.0 (filter-right m p bs h.1)

once-right : (m : Interp) (bs : List BackboneTree) → AllRight m bs → AllRight m (lists_once bs)
unfolding lists_once
once-right m [] h = tt
once-right m (b ∷ bs) h = (h.0, filter-right m (λ c. not (same_list b.fields c.fields)) (lists_once bs) (once-right m bs h.1))

axioms-hold : AxiomsAreTrue → (m : Interp) → InUniverse m → (bs : List BackboneTree) → AllRight m bs → AllHold m (flat_map axioms_of bs)
axioms-hold law m inside [] h = tt
axioms-hold law m inside (b ∷ bs) h =
    hold-both m (axioms_of b) (flat_map axioms_of bs) (hold-all m (axioms_of b) (law b h.0.fields h.0.base m inside h.0.update [])) (axioms-hold law m inside bs h.1)

pub reach-axioms-hold : AxiomsAreTrue → (us : List ValueTree) (k : ℕ) (m : Interp) (all : (v : ValueTree) → Among v us → IsNamed k v) → InUniverse (with_updates us k m all) → (facts : List FormulaTree) →
    AllHold (with_updates us k m all) (reach_axioms facts (changes us k))
reach-axioms-hold law us k m all inside facts =
    let n : Interp = with_updates us k m all in
    axioms-hold law n inside (backbones facts (changes us k)) (once-right n (flat_map (λ fs. led_from fs (changes us k)) (lists_in facts)) (all-led-right n (lists_in facts) (changes us k) (changes-good us k m all us (λ v h. h))))
