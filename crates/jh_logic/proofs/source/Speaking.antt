-- A formula in which nothing is wrong speaks of what its place allows.
use Rattle.std.proofs.Common.{◌≡◌, refl, sym, ap, subst, ◌∙◌, ℕ, Bool, true, false, not, ◌&&◌, ◌||◌, if◌then◌else◌, List, [], ◌∷◌, ◌++◌, map, length, Option, Some, None, is_some, option_map, codes, ⊎_elim}
use Rattle.std.specs.List.{Contains, flat_map, list_all}
use Rattle.std.specs.Option.{option_map_or}
use Rattle.std.proofs.lemmas.Bool.{true≢false}
use Rattle.std.proofs.lemmas.List.Elements.{Contains-append_left, Contains-append_right}
use Rattle.jh_name.specs.declared.place.Place.{Place}
use Rattle.jh_name.specs.declared.place.Kind.{Kind}
use Rattle.jh_name.specs.declared.place.Kind.TheVariants as k
use Rattle.jh_name.specs.declared.place.Sort.{Sort}
use Rattle.jh_name.specs.declared.place.Sort.TheVariants as sort
use Rattle.jh_ast.specs.declared.word.Word.{Word}
use Rattle.jh_ast.specs.declared.spec.SpecOp.{SpecOp}
use Rattle.jh_ast.specs.declared.spec.SpecOp.TheVariants as op
use Rattle.jh_ast.specs.Forms.{FormTree, FormTrees}
use Rattle.jh_ast.specs.Forms as f
use Rattle.jh_ast.specs.Programs.{ProgramTree, ClassPart}
use Rattle.jh_form.specs.Tree.{ValueTree}
use Rattle.jh_form.specs.Sorts.{same_sort}
use Rattle.jh_form.specs.Passing.{name_equal}
use Rattle.jh_form.proofs.Names.{name_equal-same}
use Rattle.jh_rules.specs.declared.fault.Fault.{Fault}
use Rattle.jh_rules.specs.declared.entries.StateEntry.{StateEntry}
use Rattle.jh_rules.specs.declared.entries.LocalEntry.{LocalEntry}
use Rattle.jh_rules.specs.Breaks.{faults_of}
use Rattle.jh_rules.specs.Faults.{Judged, right, wrong, fault, given, needs, needs_none, both, pair_of, second_of, each, ◌>>=◌}
use Rattle.jh_rules.specs.Words.{same_text, is_one_of, text_of}
use Rattle.jh_rules.specs.Kinds.{is_obj, is_number, is_truth, is_set, is_number_or_set, same_kind}
use Rattle.jh_rules.specs.Names.{Declared, declared_in, own_name, number_of}
use Rattle.jh_rules.specs.Names as names
use Rattle.jh_rules.specs.Shape.{program_parts}
use Rattle.jh_rules.specs.Rules.{rule_14, rule_27_name, rule_27_field, rule_28, rule_29_product, rule_29_dvd, rule_30_field, rule_30_shape, rule_30_list, rule_31_result, rule_31_old}
use Rattle.jh_rules.specs.Formulas.{Where, in_old, equations, first_place, known_states, state_kind, set_or_unknown, outer_kind, local_kind, name_kind, one, two, alike, binary_kind, field_state, fields_kind, form_kind, form_kinds}
use Rattle.jh_rules.specs.Formulas as rules
use Rattle.jh_vars.specs.state_names.States.{sort_of, member_sort}
use Rattle.jh_vars.specs.States.{State, called, class_text, state_spelled, state_named}
use Rattle.jh_vars.specs.Resolved.{Spot, own, under, at_entry, bound_as, kind_of_local, kind_known, state_name, field_name}
use Rattle.jh_vars.specs.Opened.{is_of_objects, is_of_object, name_uses, uses_this, one_uses_this}
use Rattle.jh_semantics.specs.Code.{Text}
use Rattle.jh_semantics.specs.State.{named}
use Rattle.jh_semantics.specs.Program.{Program, Member}
use Rattle.jh_semantics.specs.WellFormed.{all_classes}
use Rattle.jh_semantics.specs.LoweredProgram.{program_of}
use Rattle.jh_guard.specs.Items.{Item, all_objects, objects_of, of_member, item_text, item_sort, items}
use Rattle.jh_logic.specs.logic.MethodContracts.{is_item, is_state}
use Rattle.jh_logic.specs.source.Placed.{IsPlaced}
use Rattle.jh_logic.proofs.source.Lists.{has-none, has-first, has-later, has-cases, at-has, map-has, any-passes, more-not-empty, left-empty, right-empty, both-true, and-right, some-same, no-none, not-true, or-false-left, or-false-right, or-true-left, or-true-right}
use Rattle.jh_logic.proofs.source.Judged.{met, met-known, then-first, then-next}
use Rattle.jh_logic.proofs.source.Texts.{same-is, is-same}
use Rattle.jh_logic.proofs.source.Shaped.{Shaped}
use Rattle.jh_logic.proofs.source.Passings.{Passing}
use Rattle.jh_logic.proofs.source.Fine.{Test, Fine}
use Rattle.jh_logic.proofs.source.Leaves.{FieldsFine, PathFine, Leaves, AllLeaves}
use Rattle.jh_logic.proofs.source.Words.{IsOuter, IsState, Passes, alloc_words, name-fine, dots-fine}
use Rattle.jh_logic.proofs.source.Classes.{ClassAt, class-at}
use Rattle.jh_logic.proofs.source.Members.{member-of, member-stands}
use Rattle.jh_logic.proofs.source.Declared.{static-sort, class-text-is}
use Rattle.jh_logic.proofs.source.Named.{dotless}
use Rattle.jh_logic.proofs.source.States.{IsDeclared, spelled-is, named-is}
use Rattle.jh_logic.proofs.source.Pieces.{PieceIs, piece-is, kind-known}

same-sorts : (a : Sort) → same_sort a a ≡ true
same-sorts sort.Obj = refl
same-sorts sort.Int = refl
same-sorts sort.Bool = refl
same-sorts sort.Set = refl
same-sorts sort.Field = refl

-- a name that isn't bound
pub unbound : (x : List ℕ) (ys : List (List ℕ)) → bound_as x ys ≡ None → (y : List ℕ) → Contains ys y → same_text y x ≡ false
unfolding bound_as
unbound x [] e y i = absurd (has-none y i)
unbound x (z ∷ zs) e y i = by (bound_as x zs) refl (same_text z x) refl e (λ f. unbound x zs f)
  where
    by : (o : Option ℕ) → bound_as x zs ≡ o → (b : Bool) → same_text z x ≡ b → option_map_or (λ i. Some i) o (if b then Some (length zs) else None) ≡ None → (bound_as x zs ≡ None → (y : List ℕ) → Contains zs y → same_text y x ≡ false) → same_text y x ≡ false
    by (Some j) g b s f rest = absurd (no-none j (sym f))
    by None g true s f rest = absurd (no-none (length zs) (sym f))
    by None g false s f rest = ⊎_elim (λ h. ap (λ w. same_text w x) (sym h) ∙ s) (λ j. rest g y j) (has-cases z zs y i)

pub not-listed : (x : List ℕ) (ys : List (List ℕ)) → ((y : List ℕ) → Contains ys y → same_text y x ≡ false) → is_one_of x ys ≡ false
not-listed x [] h = refl
not-listed x (y ∷ ys) h = both (same_text x y) (is_one_of x ys) (turned x y (h y (has-first y ys))) (not-listed x ys (λ z i. h z (has-later y ys z i)))
  where
    both : (a b : Bool) → a ≡ false → b ≡ false → (a || b) ≡ false
    both true b e g = absurd (true≢false e)
    both false b e g = g

    turned : (x y : List ℕ) → same_text y x ≡ false → same_text x y ≡ false
    turned x y e = by (same_text x y) refl
      where
        by : (b : Bool) → same_text x y ≡ b → b ≡ false
        by true g = absurd (true≢false (sym (is-same y x (sym (same-is x y g))) ∙ e))
        by false g = refl

module _ (p : ProgramTree) (placed : IsPlaced p) (clean : faults_of p ≡ []) (shaped : Shaped (program_parts p)) where
  abbrev l : Declared
  l = declared_in p

  abbrev P : Program
  P = program_of p

  -- pieces of the state, by their texts and sorts
  item-state : (y : Item) → Contains (items P) y → is_state P (item_text y) (item_sort y) ≡ true
  item-state y i = any-passes (is_item (item_text y) (item_sort y)) (items P) y i (both-true (name_equal (named (item_text y)) (named (item_text y))) (same_sort (item_sort y) (item_sort y)) (name_equal-same (named (item_text y)) (named (item_text y)) refl) (same-sorts (item_sort y)))

  pub alloc-state : is_state P (codes "alloc") sort.Set ≡ true
  alloc-state = item-state all_objects (has-first all_objects (map (λ c. objects_of c) (all_classes P.classes) ++ map (λ x. of_member x) P.members))

  pub class-state : (x : List ℕ) (n : ℕ) → l.class_named x ≡ Some n → is_state P x sort.Set ≡ true
  class-state x n e =
      let c : ClassAt p n x = class-at p x n e in
      item-state (objects_of x) (has-later all_objects (map (λ c. objects_of c) (all_classes P.classes) ++ map (λ x. of_member x) P.members) (objects_of x)
      (Contains-append_left (map (λ c. objects_of c) (all_classes P.classes)) (map (λ x. of_member x) P.members) (objects_of x) (map-has (λ c. objects_of c) (all_classes P.classes) x
      (Contains-append_left P.classes (codes "Object" ∷ []) x (subst (Contains P.classes) c.text (map-has (λ (d : ClassPart). text_of d.name) p.classes c.part (at-has p.classes n c.part c.is)))))))

  pub plain-state : (x : State) → IsDeclared p x → x.entry.is_defined ≡ false → is_state P (state_name (class_text p) x).text (member_sort (kind_known x) x.entry.fixed) ≡ true
  plain-state x is plain =
      let piece : PieceIs p placed clean shaped x = piece-is p placed clean shaped x is plain in
      let m : Member = member-of p x.entry.class piece.class piece.piece in
      let there : Contains (items P) (of_member m) = has-later all_objects (map (λ c. objects_of c) (all_classes P.classes) ++ map (λ x. of_member x) P.members) (of_member m)
      (Contains-append_right (map (λ c. objects_of c) (all_classes P.classes)) (map (λ x. of_member x) P.members) (of_member m) (map-has (λ x. of_member x) P.members m (member-stands p x.entry.class piece.class piece.is piece.piece piece.stands))) in
      subst (λ (y : Text). is_state P y (member_sort (kind_known x) x.entry.fixed) ≡ true) (λ i. (sym (class-text-is p placed clean (dotless p placed clean shaped) x.entry.class piece.class piece.is) i ++ codes ".") ++ piece.name i)
      (subst (λ (a : Sort). is_state P m.text a ≡ true) (λ i. member_sort (piece.kind i) ((static-sort (piece.piece).kind (piece.piece).fixed ∙ piece.fixed) i)) (item-state (of_member m) there))

  -- the place of a formula in the rules, and for its value
  pub record Matches (there : Where) (at : Spot) : Type 0 where
    pub class : there.class ≡ at.class
    pub local : (x : List ℕ) → there.local x ≡ at.local x
    pub bound : (x : List ℕ) → bound_as x at.bound ≡ None → is_one_of x there.bound ≡ false

  module _ (meaning : ℕ → List ℕ → ValueTree) where
    -- a test allows what may be named at a place; `this` where it is used
    pub record Speaking (uses : Bool) (q : Test) (there : Where) (at : Spot) : Type 0 where
      pub local : (x : List ℕ) (entry : LocalEntry) → at.local x ≡ Some entry → q (own x 0) (sort_of (kind_of_local entry)) ≡ true
      pub this : uses ≡ true → there.has_this ≡ true → at.this_bound ≡ false → q (own (codes "this") 0) sort.Obj ≡ true
      pub result : (o : Option Kind) → there.result ≡ Some o → q (own (codes "result") 0) (sort_of at.result) ≡ true
      pub state : (x : Text) (a : Sort) → is_state P x a ≡ true → q (own x 0) a ≡ true
      pub means : (c : ℕ) (x : List ℕ) → Fine q (if is_of_objects p c x then 1 else 0) (meaning c x)

    -- and under `old`, where it may stand
    pub record SpeakingOld (uses : Bool) (q : Test) (there : Where) (at : Spot) : Type 0 where
      pub test : Test
      pub passing : Passing at_entry test q
      pub speaking : Speaking uses test (in_old there) at

    abbrev pub MayBeOld : Bool → Test → Where → Spot → Type 0
    MayBeOld uses q there at = there.old ≡ true → SpeakingOld uses q there at

    called-entry : (x : List ℕ) (o : Option StateEntry) (y : State) → option_map (called x) o ≡ Some y → o ≡ Some y.entry
    called-entry x None y e = absurd (no-none y e)
    called-entry x (Some s) y e = ap (λ (z : State). Some z.entry) (some-same (called x s) y e)

    -- A word in which nothing is wrong names what is allowed.
    module _ (uses : Bool) (q : Test) (there : Where) (at : Spot) (speaking : Speaking uses q there at) (matches : Matches there at) (w : Word) (used : name_uses p at.class at.bound w ≡ true → uses ≡ true) (h : (name_kind l there w).faults ≡ []) where
      abbrev x : List ℕ
      x = text_of w

      not-in : IsOuter p at w → is_one_of x at.bound ≡ false
      not-in o = not-listed x at.bound (unbound x at.bound o.not_bound)

      outer-clean : IsOuter p at w → (outer_kind l there w).faults ≡ []
      outer-clean o =
          (λ i. (if sym (matches.bound x o.not_bound) i then right k.Obj else option_map_or (local_kind l) (sym (matches.local x ∙ o.not_local) i) (outer_kind l there w)).faults) ∙ h

      this-clean : IsOuter p at w → same_text x (codes "this") ≡ true → there.has_this ≡ true
      this-clean o e = met there.has_this 14 w.place k.Obj ((λ i. (if sym e i then rule_14 there.has_this w.place k.Obj else if same_text x (codes "result") then rule_31_result w.place there.result else if is_one_of x alloc_words then right k.Set else
          option_map_or (state_kind l there w) (names.state_spelled l there.class x) (set_or_unknown l w)).faults) ∙ outer-clean o)

      result-clean : IsOuter p at w → same_text x (codes "this") ≡ false → same_text x (codes "result") ≡ true → (rule_31_result w.place there.result).faults ≡ []
      result-clean o e f = (λ i. (if sym e i then rule_14 there.has_this w.place k.Obj else if sym f i then rule_31_result w.place there.result else if is_one_of x alloc_words then right k.Set else
          option_map_or (state_kind l there w) (names.state_spelled l there.class x) (set_or_unknown l w)).faults) ∙ outer-clean o

      state-clean : IsState p at w → (option_map_or (state_kind l there w) (names.state_spelled l at.class x) (set_or_unknown l w)).faults ≡ []
      state-clean s = (λ i. (if sym s.not_this i then rule_14 there.has_this w.place k.Obj else if sym s.not_result i then rule_31_result w.place there.result else if sym s.not_alloc i then right k.Set else
          option_map_or (state_kind l there w) (names.state_spelled l (sym matches.class i) x) (set_or_unknown l w)).faults) ∙ outer-clean s.outer

      known-clean : IsState p at w → (y : StateEntry) → names.state_spelled l at.class x ≡ Some y → (y.fixed || there.has_this) ≡ true
      known-clean s y e = met (y.fixed || there.has_this) 14 w.place y (then-first (rule_14 (y.fixed || there.has_this) w.place y) (λ z. given z.kind)
          (ap (λ o. (option_map_or (state_kind l there w) o (set_or_unknown l w)).faults) (sym e) ∙ state-clean s))

      result-known : (o : Option (Option Kind)) → there.result ≡ o → (rule_31_result w.place o).faults ≡ [] → q (own (codes "result") 0) (sort_of at.result) ≡ true
      result-known None e g = absurd (more-not-empty (fault 31 w.place) [] g)
      result-known (Some o) e g = speaking.result o e

      unknown-class : (o : Option StateEntry) → names.state_spelled l at.class x ≡ o → option_map (called x) o ≡ None → IsState p at w → (n : Option ℕ) → l.class_named x ≡ n → q (own x 0) sort.Set ≡ true
      unknown-class (Some y) e g s n f = absurd (no-none (called x y) (sym g))
      unknown-class None e g s (Some n) f = speaking.state x sort.Set (class-state x n f)
      unknown-class None e g s None f = absurd (more-not-empty (fault 27 w.place) [] ((λ i. (option_map_or (state_kind l there w) (sym e i) (if is_some (sym f i) then right k.Set else rule_27_name w)).faults) ∙ state-clean s))

      this-used : IsOuter p at w → same_text x (codes "this") ≡ true → name_uses p at.class at.bound w ≡ true
      this-used o e = λ i. if not-in o i then false else if e i then true else if is_one_of x (codes "result" ∷ alloc_words) then false else is_of_object p (state_spelled l at.class x)

      member-used : IsState p at w → (y : State) → state_spelled l at.class x ≡ Some y → y.entry.fixed ≡ false → name_uses p at.class at.bound w ≡ true
      member-used s y e g =
          (λ i. if not-in s.outer i then false else if s.not_this i then true else if (s.not_result i || s.not_alloc i) then false else is_of_object p (e i)) ∙ ap not g

      pub word-passes : Passes p q at w
      word-passes = record {
        local = λ e entry g. speaking.local x entry g;
        this = λ o e bound. speaking.this (used (this-used o e)) (this-clean o e) bound;
        result = λ o e g. result-known there.result refl (result-clean o e g);
        alloc = speaking.state (codes "alloc") sort.Set alloc-state;
        class = λ s e. unknown-class (names.state_spelled l at.class x) refl e s (l.class_named x) refl;
        static = λ s y e fixed plain. subst (λ (b : Bool). q (state_name (class_text p) y) (member_sort (kind_known y) b) ≡ true) fixed (speaking.state (state_name (class_text p) y).text (member_sort (kind_known y) y.entry.fixed) (plain-state y (spelled-is p at.class x y e) plain));
        member = λ s y e fixed plain. subst (λ (b : Bool). q (state_name (class_text p) y) (member_sort (kind_known y) b) ≡ true) fixed (speaking.state (state_name (class_text p) y).text (member_sort (kind_known y) y.entry.fixed) (plain-state y (spelled-is p at.class x y e) plain));
        member_this = λ s y e fixed bound. speaking.this (used (member-used s y e fixed)) (second y.entry.fixed there.has_this fixed (known-clean s y.entry (called-entry x (names.state_spelled l at.class x) y e))) bound;
      }
        where
          second : (a b : Bool) → a ≡ false → (a || b) ≡ true → b ≡ true
          second true b e g = absurd (true≢false e)
          second false b e g = g

    -- fields after dots and in lists
    field-passes : (q : Test) (there : Where) (at : Spot) → Matches there at → ((x : Text) (a : Sort) → is_state P x a ≡ true → q (own x 0) a ≡ true) → (w : Word) → (rule_27_field l there.class w).faults ≡ [] → (y : State) → state_named l at.class (text_of w) ≡ Some y → y.entry.is_defined ≡ false → q (state_name (class_text p) y) sort.Field ≡ true
    field-passes q there at matches state w h y e plain =
        let s : names.state_named l at.class (text_of w) ≡ Some y.entry = called-entry (text_of w) (names.state_named l at.class (text_of w)) y e in
        let fixed : y.entry.fixed ≡ false = not-true y.entry.fixed (met (not y.entry.fixed) 27 w.place y.entry ((λ i. (option_map_or (λ (z : StateEntry). needs (not z.fixed) 27 w.place z) ((sym s ∙ ap (λ c. names.state_named l c (text_of w)) (sym matches.class)) i) (wrong 27 w.place)).faults) ∙ h)) in
        subst (λ (b : Bool). q (state_name (class_text p) y) (member_sort (kind_known y) b) ≡ true) fixed (state (state_name (class_text p) y).text (member_sort (kind_known y) y.entry.fixed) (plain-state y (named-is p at.class (text_of w) y e) plain))

    one-field : (q : Test) (there : Where) (at : Spot) → Matches there at → ((x : Text) (a : Sort) → is_state P x a ≡ true → q (own x 0) a ≡ true) → (w : Word) → (field_state l there w).faults ≡ [] → q (field_name l (class_text p) at w) sort.Field ≡ true
    one-field q there at matches state w h = by (names.state_named l there.class (text_of w)) refl
      where
        first : (rule_27_field l there.class w).faults ≡ []
        first = then-first (rule_27_field l there.class w) (rule_30_field w) h

        here : (y : StateEntry) → names.state_named l there.class (text_of w) ≡ Some y → (rule_27_field l there.class w).known ≡ Some y
        here y e = ap (λ o. (option_map_or (λ (z : StateEntry). needs (not z.fixed) 27 w.place z) o (wrong 27 w.place)).known) e ∙ met-known (not y.fixed) 27 w.place y (ap (λ o. (option_map_or (λ (z : StateEntry). needs (not z.fixed) 27 w.place z) o (wrong 27 w.place)).faults) (sym e) ∙ first)

        by : (o : Option StateEntry) → names.state_named l there.class (text_of w) ≡ o → q (field_name l (class_text p) at w) sort.Field ≡ true
        by None e = absurd (more-not-empty (fault 27 w.place) [] (ap (λ o. (option_map_or (λ (z : StateEntry). needs (not z.fixed) 27 w.place z) o (wrong 27 w.place)).faults) (sym e) ∙ first))
        by (Some y) e =
            let u = kind-known p placed clean shaped y.class (own_name (text_of w)) y (named-is p there.class (text_of w) (called (text_of w) y) (ap (λ o. option_map (called (text_of w)) o) e)) in
            let rule : (rule_30_field w y).faults ≡ [] = then-next (rule_27_field l there.class w) (rule_30_field w) y h (here y e) in
            let test : (is_obj u.0 && not y.is_defined) ≡ true = met (is_obj u.0 && not y.is_defined) 30 w.place y (then-next (given y.kind) (λ kind. needs (is_obj kind && not y.is_defined) 30 w.place y) u.0 rule u.1) in
            let spelled : state_named l at.class (text_of w) ≡ Some (called (text_of w) y) = ap (λ o. option_map (called (text_of w)) o) (ap (λ c. names.state_named l c (text_of w)) (sym matches.class) ∙ e) in
            ap (λ o. q (option_map_or (state_name (class_text p)) o (own [] 0)) sort.Field) spelled
            ∙ field-passes q there at matches state w first (called (text_of w) y) spelled (not-true y.is_defined (and-right (is_obj u.0) (not y.is_defined) test))

    listed-fields : (q : Test) (there : Where) (at : Spot) → Matches there at → ((x : Text) (a : Sort) → is_state P x a ≡ true → q (own x 0) a ≡ true) → (ws : List Word) → (each (field_state l there) ws).faults ≡ [] → FieldsFine l (class_text p) meaning q at ws
    unfolding each
    listed-fields q there at matches state [] h = tt
    listed-fields q there at matches state (w ∷ ws) h =
        let parts : (field_state l there w).faults ++ (each (field_state l there) ws).faults ≡ [] = then-first (both (field_state l there w) (each (field_state l there) ws)) (λ u. right (u.0 ∷ u.1)) h in
        (one-field q there at matches state w (left-empty (field_state l there w).faults (each (field_state l there) ws).faults parts), listed-fields q there at matches state ws (right-empty (field_state l there w).faults (each (field_state l there) ws).faults parts))

    fields-speak : (q : Test) (there : Where) (at : Spot) → Matches there at → ((x : Text) (a : Sort) → is_state P x a ≡ true → q (own x 0) a ≡ true) → (r : Place) (ws : List Word) → (fields_kind l there r ws).faults ≡ [] → FieldsFine l (class_text p) meaning q at ws
    fields-speak q there at matches state r ws h =
        let list : List Fault = rule_30_list r ws (flat_map (λ w. known_states w (rule_27_field l there.class w)) ws) in
        listed-fields q there at matches state ws (left-empty (each (field_state l there) ws).faults (needs_none list).faults (then-first (both (each (field_state l there) ws) (needs_none list)) (λ u. right k.Bool) h))

    -- what is wrong in a part
    two-clean : (left right : Kind → Bool) (a : FormTree) (j m : Judged Kind) (kind : Kind) → (two l left right a j m kind).faults ≡ [] → j.faults ++ m.faults ≡ []
    two-clean left right a j m kind h = then-first (both j m) (λ u. rule_28 (left u.0 && right u.1) (f.place_of a) kind) h

    alike-clean : (a : FormTree) (j m : Judged Kind) (good : Kind → Bool) (kind : Kind → Kind) → (alike l a j m good kind).faults ≡ [] → j.faults ++ m.faults ≡ []
    alike-clean a j m good kind h = then-first (both j m) (λ u. rule_28 (same_kind u.0 u.1 && good u.0) (f.place_of a) (kind u.0)) h

    product-clean : (q : Place) (a b : FormTree) (j m : Judged Kind) → (binary_kind l q op.Mul a j b m).faults ≡ [] → j.faults ++ m.faults ≡ []
    product-clean q a b j m h =
        let first : Judged (Unit {0}) = given (pair_of j.known m.known) >>= λ u. needs_none (rule_29_product q a b) in
        let second : Judged Kind = two l is_number is_number a j m k.Int in
        two-clean is_number is_number a j m k.Int (right-empty first.faults second.faults (then-first (both first second) (λ u. right k.Int) h))

    binary-clean : (q : Place) (o : SpecOp) (a b : FormTree) (j m : Judged Kind) → (binary_kind l q o a j b m).faults ≡ [] → j.faults ++ m.faults ≡ []
    binary-clean q op.Implies a b j m h = two-clean is_truth is_truth a j m k.Bool h
    binary-clean q op.Or a b j m h = two-clean is_truth is_truth a j m k.Bool h
    binary-clean q op.And a b j m h = two-clean is_truth is_truth a j m k.Bool h
    binary-clean q op.Equal a b j m h = alike-clean a j m (λ u. true) (λ u. k.Bool) h
    binary-clean q op.NotEqual a b j m h = alike-clean a j m (λ u. true) (λ u. k.Bool) h
    binary-clean q op.Elem a b j m h = two-clean is_obj is_set a j m k.Bool h
    binary-clean q op.NotElem a b j m h = two-clean is_obj is_set a j m k.Bool h
    binary-clean q op.Less a b j m h = two-clean is_number is_number a j m k.Bool h
    binary-clean q op.Greater a b j m h = two-clean is_number is_number a j m k.Bool h
    binary-clean q op.LessEq a b j m h = alike-clean a j m is_number_or_set (λ u. k.Bool) h
    binary-clean q op.GreaterEq a b j m h = alike-clean a j m is_number_or_set (λ u. k.Bool) h
    binary-clean q op.Union a b j m h = two-clean is_set is_set a j m k.Set h
    binary-clean q op.Inter a b j m h = two-clean is_set is_set a j m k.Set h
    binary-clean q op.Add a b j m h = two-clean is_number is_number a j m k.Int h
    binary-clean q op.Sub a b j m h = alike-clean a j m is_number_or_set (λ u. u) h
    binary-clean q op.Mul a b j m h = product-clean q a b j m h

    one-clean : (good : Kind → Bool) (a : FormTree) (j : Judged Kind) (kind : Kind) → (one l good a j kind).faults ≡ [] → j.faults ≡ []
    one-clean good a j kind h = then-first j (λ u. rule_28 (good u) (f.place_of a) kind) h

    -- under binders and `old`
    speaking-under : (uses : Bool) (q : Test) (there : Where) (at : Spot) (ws : List Word) → Speaking uses q there at → Speaking uses q (rules.under there ws) (under at ws)
    speaking-under uses q there at ws s = record { local = s.local; this = s.this; result = s.result; state = s.state; means = s.means }

    old-under : (uses : Bool) (q : Test) (there : Where) (at : Spot) (ws : List Word) → MayBeOld uses q there at → MayBeOld uses q (rules.under there ws) (under at ws)
    old-under uses q there at ws f e = let o = f e in record { test = o.test; passing = o.passing; speaking = record { local = o.speaking.local; this = o.speaking.this; result = o.speaking.result; state = o.speaking.state; means = o.speaking.means } }

    matches-old : (there : Where) (at : Spot) → Matches there at → Matches (in_old there) at
    matches-old there at m = record { class = m.class; local = m.local; bound = m.bound }

    listed-either : (x : List ℕ) (xs ys : List (List ℕ)) → is_one_of x xs ≡ false → is_one_of x ys ≡ false → is_one_of x (xs ++ ys) ≡ false
    listed-either x [] ys e g = g
    listed-either x (z ∷ zs) ys e g = both (same_text x z) (is_one_of x (zs ++ ys)) (or-false-left (same_text x z) (is_one_of x zs) e) (listed-either x zs ys (or-false-right (same_text x z) (is_one_of x zs) e) g)
      where
        both : (a b : Bool) → a ≡ false → b ≡ false → (a || b) ≡ false
        both true b e g = absurd (true≢false e)
        both false b e g = g

    bound-front : (x : List ℕ) (ys zs : List (List ℕ)) → bound_as x (ys ++ zs) ≡ None → (bound_as x ys ≡ None) × (bound_as x zs ≡ None)
    unfolding bound_as
    bound-front x [] zs e = (refl, e)
    bound-front x (y ∷ ys) zs e = by (bound_as x (ys ++ zs)) refl (same_text y x) e (λ f. bound-front x ys zs f)
      where
        by : (o : Option ℕ) → bound_as x (ys ++ zs) ≡ o → (b : Bool) → option_map_or (λ i. Some i) o (if b then Some (length (ys ++ zs)) else None) ≡ None → (bound_as x (ys ++ zs) ≡ None → (bound_as x ys ≡ None) × (bound_as x zs ≡ None)) → (option_map_or (λ i. Some i) (bound_as x ys) (if b then Some (length ys) else None) ≡ None) × (bound_as x zs ≡ None)
        by (Some j) g b h rest = absurd (no-none j (sym h))
        by None g true h rest = absurd (no-none (length (ys ++ zs)) (sym h))
        by None g false h rest = let r = rest g in (ap (λ o. option_map_or (λ i. Some i) o None) r.0, r.1)

    matches-under : (there : Where) (at : Spot) (ws : List Word) → Matches there at → Matches (rules.under there ws) (under at ws)
    matches-under there at ws m = record {
      class = m.class;
      local = m.local;
      bound = λ x e. let r = bound-front x at.bound (map text_of ws) e in listed-either x (map text_of ws) there.bound (not-listed x (map text_of ws) (unbound x (map text_of ws) r.1)) (m.bound x r.0);
    }

    path-speaks : (q : Test) (there : Where) (at : Spot) → Matches there at → ((x : Text) (a : Sort) → is_state P x a ≡ true → q (own x 0) a ≡ true) → (r : Place) (b : Bool) (o : Option (List Word)) → (rule_30_shape r (if b then None else o) >>= fields_kind l there r).faults ≡ [] → PathFine l (class_text p) meaning q at o
    path-speaks q there at matches state r b None h = tt
    path-speaks q there at matches state r true (Some ws) h = absurd (more-not-empty (fault 30 r) [] h)
    path-speaks q there at matches state r false (Some ws) h = fields-speak q there at matches state r ws h

    mutual
      unfolding form_kind uses_this

      -- The names and fields of a formula in which nothing is wrong are allowed.
      pub leaves-speak : (a : FormTree) (uses : Bool) (q : Test) (there : Where) (at : Spot) → Speaking uses q there at → MayBeOld uses q there at → Matches there at → (uses_this p a at.class at.bound ≡ true → uses ≡ true) → (form_kind l a there).faults ≡ [] → Leaves l (class_text p) meaning q a at
      leaves-speak (f.null r) uses q there at s old m u h = tt
      leaves-speak (f.yes r) uses q there at s old m u h = tt
      leaves-speak (f.no r) uses q there at s old m u h = tt
      leaves-speak (f.univ r) uses q there at s old m u h = tt
      leaves-speak (f.number r z) uses q there at s old m u h = tt
      leaves-speak (f.name r w) uses q there at s old m u h = name-fine p q meaning s.means at w (word-passes uses q there at s m w u h)
      leaves-speak (f.member r a w) uses q there at s old m u h =
          let parts : (form_kind l a there).faults ++ (rule_27_field l there.class w).faults ≡ [] = then-first (both (form_kind l a there) (rule_27_field l there.class w)) (λ v. rule_28 (is_obj v.0) (f.place_of a) k.Obj >>= λ z. given (second_of v).kind) h in (
            leaves-speak a uses q there at s old m u (left-empty (form_kind l a there).faults (rule_27_field l there.class w).faults parts),
            dots-fine p q meaning s.means at w (field-passes q there at m s.state w (right-empty (form_kind l a there).faults (rule_27_field l there.class w).faults parts)),
          )
      leaves-speak (f.negation r a) uses q there at s old m u h = leaves-speak a uses q there at s old m u (one-clean is_truth a (form_kind l a there) k.Bool h)
      leaves-speak (f.minus r a) uses q there at s old m u h = leaves-speak a uses q there at s old m u (then-first (form_kind l a there) (λ v. rule_28 (is_number_or_set v) (f.place_of a) v) h)
      leaves-speak (f.old r a) uses q there at s old m u h =
          let parts : (rule_31_old there.old r).faults ++ (form_kind l a (in_old there)).faults ≡ [] = then-first (both (rule_31_old there.old r) (form_kind l a (in_old there))) (λ v. right (second_of v)) h in
          let o : SpeakingOld uses q there at = old (met there.old 31 r tt (left-empty (rule_31_old there.old r).faults (form_kind l a (in_old there)).faults parts)) in
          (o.test, o.passing, leaves-speak a uses o.test (in_old there) at o.speaking (λ e. absurd (true≢false (sym e))) (matches-old there at m) u (right-empty (rule_31_old there.old r).faults (form_kind l a (in_old there)).faults parts))
      leaves-speak (f.card r a) uses q there at s old m u h = leaves-speak a uses q there at s old m u (one-clean is_set a (form_kind l a there) k.Int h)
      leaves-speak (f.binary r o a b) uses q there at s old m u h =
          let parts = binary-clean r o a b (form_kind l a there) (form_kind l b there) h in (
            leaves-speak a uses q there at s old m (λ e. u (or-true-left (uses_this p a at.class at.bound) (uses_this p b at.class at.bound) e)) (left-empty (form_kind l a there).faults (form_kind l b there).faults parts),
            leaves-speak b uses q there at s old m (λ e. u (or-true-right (uses_this p a at.class at.bound) (uses_this p b at.class at.bound) e)) (right-empty (form_kind l a there).faults (form_kind l b there).faults parts),
          )
      leaves-speak (f.dvd r z a) uses q there at s old m u h =
          let inner : Judged Kind = form_kind l a there >>= λ v. rule_28 (is_number v) r k.Bool in
          leaves-speak a uses q there at s old m u (then-first (form_kind l a there) (λ v. rule_28 (is_number v) r k.Bool) (right-empty (needs_none (rule_29_dvd r z)).faults inner.faults (then-first (both (needs_none (rule_29_dvd r z)) inner) (λ v. right k.Bool) h)))
      leaves-speak (f.all r ws a) uses q there at s old m u h = leaves-speak a uses q (rules.under there ws) (under at ws) (speaking-under uses q there at ws s) (old-under uses q there at ws old) (matches-under there at ws m) u (one-clean is_truth a (form_kind l a (rules.under there ws)) k.Bool h)
      leaves-speak (f.ex r ws a) uses q there at s old m u h = leaves-speak a uses q (rules.under there ws) (under at ws) (speaking-under uses q there at ws s) (old-under uses q there at ws old) (matches-under there at ws m) u (one-clean is_truth a (form_kind l a (rules.under there ws)) k.Bool h)
      leaves-speak (f.tree r ws) uses q there at s old m u h = fields-speak q there at m s.state r ws h
      leaves-speak (f.rtrancl r x y body a b) uses q there at s old m u h =
          let shape : Judged (List Word) = rule_30_shape r (if same_text (text_of x) (text_of y) then None else equations (text_of x) (text_of y) body) in
          let first : Judged Kind = shape >>= fields_kind l there r in
          let second : Judged Kind = two l is_obj is_obj a (form_kind l a there) (form_kind l b there) k.Bool in
          let parts : first.faults ++ second.faults ≡ [] = then-first (both first second) (λ v. right k.Bool) h in
          let ends = two-clean is_obj is_obj a (form_kind l a there) (form_kind l b there) k.Bool (right-empty first.faults second.faults parts) in (
            path-speaks q there at m s.state r (same_text (text_of x) (text_of y)) (equations (text_of x) (text_of y) body) (left-empty first.faults second.faults parts),
            leaves-speak a uses q there at s old m (λ e. u (or-true-left (uses_this p a at.class at.bound) (uses_this p b at.class at.bound) e)) (left-empty (form_kind l a there).faults (form_kind l b there).faults ends),
            leaves-speak b uses q there at s old m (λ e. u (or-true-right (uses_this p a at.class at.bound) (uses_this p b at.class at.bound) e)) (right-empty (form_kind l a there).faults (form_kind l b there).faults ends),
          )
      leaves-speak (f.braces r fs) uses q there at s old m u h = all-speak fs uses q there at s old m u (then-first (form_kinds l fs there) (λ us. rule_28 (list_all is_obj us) (first_place r fs) k.Set) h)
      leaves-speak (f.compr r w a) uses q there at s old m u h = leaves-speak a uses q (rules.under there (w ∷ [])) (under at (w ∷ [])) (speaking-under uses q there at (w ∷ []) s) (old-under uses q there at (w ∷ []) old) (matches-under there at (w ∷ []) m) u (one-clean is_truth a (form_kind l a (rules.under there (w ∷ []))) k.Set h)

      all-speak : (fs : FormTrees) (uses : Bool) (q : Test) (there : Where) (at : Spot) → Speaking uses q there at → MayBeOld uses q there at → Matches there at → (one_uses_this p fs at.class at.bound ≡ true → uses ≡ true) → (form_kinds l fs there).faults ≡ [] → AllLeaves l (class_text p) meaning q fs at
      all-speak f.none uses q there at s old m u h = tt
      all-speak (f.more a fs) uses q there at s old m u h =
          let parts : (form_kind l a there).faults ++ (form_kinds l fs there).faults ≡ [] = then-first (both (form_kind l a there) (form_kinds l fs there)) (λ v. right (v.0 ∷ v.1)) h in (
            leaves-speak a uses q there at s old m (λ e. u (or-true-left (uses_this p a at.class at.bound) (one_uses_this p fs at.class at.bound) e)) (left-empty (form_kind l a there).faults (form_kinds l fs there).faults parts),
            all-speak fs uses q there at s old m (λ e. u (or-true-right (uses_this p a at.class at.bound) (one_uses_this p fs at.class at.bound) e)) (right-empty (form_kind l a there).faults (form_kinds l fs there).faults parts),
          )
