-- A local form has local shape.
use Rattle.std.proofs.Common.{◌≡◌, refl, sym, ℕ, nat_lt, nat_le, Bool, true, false, not, ◌&&◌, if◌then◌else◌, List, [], ◌∷◌, ◌++◌, map, length, slice_set, None, Some, inl, inr}
use Rattle.std.specs.Prelude.{filter}
use Rattle.std.specs.List.{list_all, list_any, flat_map}
use Rattle.std.proofs.lemmas.Bool.{true≢false}
use Rattle.jh_form.specs.Tree.{TermTree, FieldTree, ValueTree, FormulaTree}
use Rattle.jh_form.specs.Tree as t
use Rattle.jh_form.specs.Closed.{is_closed_term, is_closed_field, is_closed_value}
use Rattle.jh_form.proofs.ClosedLemmas.{both-left, both-right}
use Rattle.jh_normal_forms.specs.declared.parts.order.Order.TheVariants as order
use Rattle.jh_normal_forms.specs.parts.Standing.{term_parts, field_parts, value_parts, formula_parts}
use Rattle.jh_normal_forms.specs.declared.rebuilding.polarity.Polarity.TheVariants as pol
use Rattle.jh_approx.specs.jh_reach.Axioms.{BackboneTree, axioms_of}
use Rattle.jh_seq.specs.sequent.Sequents.{HypTree, SequentTree}
use Rattle.jh_seq.specs.splitting.Local.{has_local_shape, is_local}
use Rattle.jh_fca.specs.local_form.Each.{over_facts, formulas}
use Rattle.jh_fca.specs.local_form.Chosen.{chosen}
use Rattle.jh_fca.specs.local_form.Named.{all_parts, first_turn, is_whole_update, updates}
use Rattle.jh_normal_forms.specs.set_opening.SetsOpened.{sets_opened}
use Rattle.jh_fca.specs.cutting.Cut.{cut}
use Rattle.jh_fca.specs.elimination.Eliminated.{eliminate}
use Rattle.jh_fca.specs.elimination.Laws.{EliminatedHasShape}
use Rattle.jh_fca.specs.local_form.Chains.{is_name, are_different_names, has_axioms, place_of, same_list, ChangeTree, change, changes_of, changes, backbone, base_at, led_from, lists_once, lists_in, backbones, reach_axioms}
use Rattle.jh_fca.specs.local_form.LocalOf.{begun, with_names, cut_down, local_with, local_of}
use Rattle.jh_fca.specs.local_form.Laws.{LocalHasShape}
use Rattle.jh_fca.proofs.local_form.Among.{Among, among-left, among-right, among-once, among-filter, filter-among, once-among, filter-passes}
use Rattle.jh_fca.proofs.local_form.AxiomShapes.{AllLocal, local-both, AreNames, IsLocalBase, OfBase, axioms-local}
use Rattle.jh_fca.proofs.local_form.Bare.{both-true}
use Rattle.jh_fca.proofs.local_form.CutShapes.{fact-local, goal-local}
use Rattle.jh_fca.proofs.local_form.PartsWithin.{HasParts, parts-both, formula-within}
use Rattle.jh_fca.proofs.local_form.Spines.{AreNamed, field-name, term-spine}

-- ---- changes

-- a name for the field, and terms of local shape
abbrev AllShaped : List ChangeTree → Type 0
AllShaped [] = Unit {0}
AllShaped (c ∷ cs) = IsLocalBase (base_at c 0) × AllShaped cs

shaped-both : (cs ds : List ChangeTree) → AllShaped cs → AllShaped ds → AllShaped (cs ++ ds)
shaped-both [] ds h k = k
shaped-both (c ∷ cs) ds h k = (h.0, shaped-both cs ds h.1 k)

module _ (us : List ValueTree) (k : ℕ) where
  sub-named : (xs ys : List ValueTree) → ((v : ValueTree) → Among v xs → Among v ys) → AreNamed us ys → AreNamed us xs
  sub-named xs ys f h v m = h v (f v m)

  object-shaped : (f : FieldTree) (a v : TermTree) → is_closed_field (t.update f a (t.of_object v)) 0 ≡ true → AreNamed us (value_parts (t.of_field (t.update f a (t.of_object v))) order.InnerFirst) →
      AllShaped (change us k (t.of_field (t.update f a (t.of_object v))))
  unfolding change is_closed_field is_closed_value value_parts field_parts
  object-shaped f a v closed h =
      let fs : List ValueTree = field_parts f order.InnerFirst in
      let rs : List ValueTree = term_parts a order.InnerFirst in
      let vs : List ValueTree = term_parts v order.InnerFirst in
      let u : ValueTree = t.of_field (t.update f a (t.of_object v)) in
      let two : (is_closed_field f 0 && is_closed_term a 0) ≡ true = both-left (is_closed_field f 0 && is_closed_term a 0) (is_closed_term v 0) closed in (
        record {
          field = field-name us k f (both-left (is_closed_field f 0) (is_closed_term a 0) two) (λ w m. h w (among-left w (fs ++ (rs ++ vs)) (u ∷ []) (among-left w fs (rs ++ vs) m)));
          at = term-spine us k a (both-right (is_closed_field f 0) (is_closed_term a 0) two) (λ w m. h w (among-left w (fs ++ (rs ++ vs)) (u ∷ []) (among-right w fs (rs ++ vs) (among-left w rs vs m))));
          value = term-spine us k v (both-right (is_closed_field f 0 && is_closed_term a 0) (is_closed_term v 0) closed) (λ w m. h w (among-left w (fs ++ (rs ++ vs)) (u ∷ []) (among-right w fs (rs ++ vs) (among-right w rs vs m))));
        },
        tt,
      )

  change-shaped : (v : ValueTree) → is_whole_update v ≡ true → AreNamed us (value_parts v order.InnerFirst) → AllShaped (change us k v)
  unfolding change is_whole_update
  change-shaped (t.of_field (t.update f a (t.of_object v))) whole h = object-shaped f a v whole h
  change-shaped v whole h = tt

  changes-shaped : (vs : List ValueTree) → ((v : ValueTree) → Among v vs → (is_whole_update v ≡ true) × AreNamed us (value_parts v order.InnerFirst)) → AllShaped (changes_of us k vs)
  changes-shaped [] h = tt
  changes-shaped (v ∷ vs) h = shaped-both (changes_of us k vs) (change us k v) (changes-shaped vs (λ w m. h w (inr m))) (change-shaped v (h v (inl refl)).0 (h v (inl refl)).1)

-- all parts of the parts of some formulas are among them
all-within : (facts : List FormulaTree) → HasParts (all_parts facts) (all_parts facts)
all-within [] w m v n = absurd m
all-within (a ∷ facts) w m v n = parts-both (formula_parts a order.InnerFirst) (all_parts facts) (formula-within a) (all-within facts) w m v n

-- each update that stands inside one of the list and may get a name is in the list
inside-named : (facts : List FormulaTree) (v : ValueTree) → Among v (updates facts) → (is_whole_update v ≡ true) × AreNamed (updates facts) (value_parts v order.InnerFirst)
inside-named facts v m =
    let here : Among v (filter is_whole_update (all_parts facts)) = among-once v (filter is_whole_update (all_parts facts)) m in (
      filter-passes is_whole_update v (all_parts facts) here,
      λ w n whole. once-among w (filter is_whole_update (all_parts facts)) (filter-among is_whole_update w (all_parts facts) whole (all-within facts v (among-filter is_whole_update v (all_parts facts) here) w n)),
    )

-- ---- lists

names-are : (fs : List FieldTree) → are_different_names fs ≡ true → AreNames fs
unfolding are_different_names
names-are [] h = tt
names-are (t.free_field x ∷ fs) h = (refl, names-are fs (both-right (not (list_any (is_name x) fs)) (are_different_names fs) h))
names-are (t.update f a v ∷ fs) h = absurd (true≢false (sym h))

list-names : (fs : List FieldTree) → has_axioms fs ≡ true → AreNames fs
unfolding has_axioms
list-names fs h = names-are fs (both-right (nat_le 1 (length fs) && nat_le (length fs) 4) (are_different_names fs) h)

abbrev AllLists : List BackboneTree → Type 0
AllLists [] = Unit {0}
AllLists (b ∷ bs) = (AreNames b.fields × OfBase b.base) × AllLists bs

lists-both : (bs cs : List BackboneTree) → AllLists bs → AllLists cs → AllLists (bs ++ cs)
lists-both [] cs h k = k
lists-both (b ∷ bs) cs h k = (h.0, lists-both bs cs h.1 k)

lists-if : (c : Bool) (bs cs : List BackboneTree) → (c ≡ true → AllLists bs) → AllLists cs → AllLists (if c then bs else cs)
lists-if true bs cs h k = h refl
lists-if false bs cs h k = k

led-lists : (fs : List FieldTree) (cs : List ChangeTree) → AllShaped cs → AllLists (led_from fs cs)
unfolding led_from
led-lists fs [] h = lists-if (has_axioms fs) (backbone fs None ∷ []) [] (λ has. ((list-names fs has, tt), tt)) tt
led-lists fs (c ∷ cs) h =
    let further : List BackboneTree = led_from (slice_set fs (place_of c.name fs) c.field) cs in
    lists-if (nat_lt (place_of c.name fs) (length fs)) (if has_axioms fs then backbone fs (Some (base_at c (place_of c.name fs))) ∷ further else []) (led_from fs cs)
    (λ there. lists-if (has_axioms fs) (backbone fs (Some (base_at c (place_of c.name fs))) ∷ further) []
    (λ has. ((list-names fs has, record { field = h.0.field; at = h.0.at; value = h.0.value }), led-lists (slice_set fs (place_of c.name fs) c.field) cs h.1)) tt)
    (led-lists fs cs h.1)

all-led-lists : (ls : List (List FieldTree)) (cs : List ChangeTree) → AllShaped cs → AllLists (flat_map (λ fs. led_from fs cs) ls)
all-led-lists [] cs h = tt
all-led-lists (fs ∷ ls) cs h = lists-both (led_from fs cs) (flat_map (λ gs. led_from gs cs) ls) (led-lists fs cs h) (all-led-lists ls cs h)

lists-more : (c : Bool) (b : BackboneTree) (bs : List BackboneTree) → AreNames b.fields × OfBase b.base → AllLists bs → AllLists (if c then b ∷ bs else bs)
lists-more true b bs h k = (h, k)
lists-more false b bs h k = k

filter-lists : (p : BackboneTree → Bool) (bs : List BackboneTree) → AllLists bs → AllLists (filter p bs)
filter-lists p [] h = tt
filter-lists p (b ∷ bs) h = lists-more (p b) b (filter p bs) h.0 (filter-lists p bs h.1)

once-lists : (bs : List BackboneTree) → AllLists bs → AllLists (lists_once bs)
unfolding lists_once
once-lists [] h = tt
once-lists (b ∷ bs) h = (h.0, filter-lists (λ c. not (same_list b.fields c.fields)) (lists_once bs) (once-lists bs h.1))

lists-local : (bs : List BackboneTree) → AllLists bs → AllLocal (flat_map axioms_of bs)
lists-local [] h = tt
lists-local (b ∷ bs) h = local-both (axioms_of b) (flat_map axioms_of bs) (axioms-local b h.0.0 h.0.1) (lists-local bs h.1)

reach-local : (facts given : List FormulaTree) (k : ℕ) → AllLocal (reach_axioms given (changes (updates facts) k))
reach-local facts given k =
    let cs : List ChangeTree = changes (updates facts) k in
    lists-local (backbones given cs) (once-lists (flat_map (λ fs. led_from fs cs) (lists_in given)) (all-led-lists (lists_in given) cs (changes-shaped (updates facts) k (updates facts) (inside-named facts))))

-- ---- the sequent

abbrev is_shaped : HypTree → Bool
is_shaped h = has_local_shape h.fact

shaped-append : (hs gs : List HypTree) → list_all is_shaped hs ≡ true → list_all is_shaped gs ≡ true → list_all is_shaped (hs ++ gs) ≡ true
shaped-append [] gs h k = k
shaped-append (x ∷ hs) gs h k = both-true (is_shaped x) (list_all is_shaped (hs ++ gs)) (both-left (is_shaped x) (list_all is_shaped hs) h) (shaped-append hs gs (both-right (is_shaped x) (list_all is_shaped hs) h) k)

facts-shaped : (hs : List HypTree) → list_all is_shaped (over_facts (λ a. cut (sets_opened a) pol.Negative) hs) ≡ true
facts-shaped [] = refl
facts-shaped (x ∷ hs) = both-true (has_local_shape (cut (sets_opened x.fact) pol.Negative)) (list_all is_shaped (over_facts (λ a. cut (sets_opened a) pol.Negative) hs)) (fact-local x.fact) (facts-shaped hs)

more-shaped : (fs : List FormulaTree) → AllLocal fs → list_all is_shaped (map (λ a. record { name = None; fact = a }) fs) ≡ true
more-shaped [] h = refl
more-shaped (a ∷ fs) h = both-true (has_local_shape a) (list_all is_shaped (map (λ b. record { name = None; fact = b }) fs)) h.0 (more-shaped fs h.1)

-- what is left after cutting has local shape
pub cut-local : (s : SequentTree) → is_local (cut_down s) ≡ true
cut-local s = both-true (list_all is_shaped (cut_down s).hyps) (has_local_shape (cut_down s).goal) (facts-shaped s.hyps) (goal-local s.goal)

with-shape : EliminatedHasShape → (facts : List FormulaTree) (k : ℕ) (s : SequentTree) → is_local (local_with (updates facts) k s) ≡ true
with-shape without facts k s =
    let given : SequentTree = eliminate (cut_down (with_names (updates facts) k s)) in
    let shaped : is_local given ≡ true = without (cut_down (with_names (updates facts) k s)) (cut-local (with_names (updates facts) k s)) in
    both-true (list_all is_shaped (local_with (updates facts) k s).hyps) (has_local_shape given.goal)
    (shaped-append given.hyps _ (both-left (list_all is_shaped given.hyps) (has_local_shape given.goal) shaped) (more-shaped (reach_axioms (formulas given) (changes (updates facts) k)) (reach-local facts (formulas given) k)))
    (both-right (list_all is_shaped given.hyps) (has_local_shape given.goal) shaped)

pub local-shape : EliminatedHasShape → LocalHasShape
unfolding local_of
local-shape without s = with-shape without (formulas (begun s)) (first_turn (formulas (chosen s))) (begun s)
