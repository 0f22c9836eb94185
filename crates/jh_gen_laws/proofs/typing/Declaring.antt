-- What a made program declares, at the names that it uses.
use Rattle.std.proofs.Common.{◌≡◌, ℕ, true, false, cond, ◌&&◌, ◌==◌, List, [], ◌++◌, map, Option, Some, None, refl, ap, ◌∙◌, append-nil, eqb-true, codes}
use Rattle.std.specs.Option.{option_map_or}
use Rattle.std.proofs.lemmas.Bool.{and_parts, cond_both}
use Rattle.jh_name.specs.declared.place.Place.{Place}
use Rattle.jh_name.specs.declared.place.Kind.TheVariants as k
use Rattle.jh_ast.specs.Programs.{ProgramTree, FieldPart, MethodPart}
use Rattle.jh_ast.specs.declared.word.JType.TheVariants as j
use Rattle.jh_rules.specs.declared.types.Ty.TheVariants as ty
use Rattle.jh_rules.specs.declared.entries.FieldEntry.{FieldEntry}
use Rattle.jh_rules.specs.declared.entries.StateEntry.{StateEntry}
use Rattle.jh_rules.specs.Words.{same_text, is_before}
use Rattle.jh_rules.specs.Names.{Declared, declared_in, MemberPart, field, method, member_word, first_named, class_from, field_from, state_from}
use Rattle.jh_gen_laws.specs.typing.Trees.{name_of, word_at, static_object, gen_class, made_program, AreMethods}
use Rattle.jh_gen_laws.proofs.typing.Names.{same-is, no-method}

-- a function of a class and a name that is said anew at one of them
abbrev pub over : {A : Type 0} → (ℕ → List ℕ → A) → List ℕ → A → ℕ → List ℕ → A
over g t v c x = cond ((c == 1) && same_text x t) v (g c x)

over-is : {A : Type 0} (g : ℕ → List ℕ → A) (t : List ℕ) (v : A) → g 1 t ≡ v → (c : ℕ) (x : List ℕ) → g c x ≡ over g t v c x
over-is g t v e c x =
    cond_both ((c == 1) && same_text x t) v (g c x) (λ y. g c x ≡ y)
    (λ is. let r = and_parts (c == 1) (same_text x t) is in (λ i. g (eqb-true c 1 r.0 i) (same-is x t r.1 i)) ∙ e)
    (λ _. refl)

abbrev pub object_state : Option StateEntry
object_state = Some (record { class = 1; kind = Some k.Obj; fixed = true; is_variable = false; is_ghost = false; is_defined = false })

abbrev pub number_state : Option StateEntry
number_state = Some (record { class = 1; kind = Some k.Int; fixed = true; is_variable = false; is_ghost = false; is_defined = false })

abbrev pub object_field : Option FieldEntry
object_field = Some (record { fixed = true; ty = Some ty.Object })

abbrev pub number_field : Option FieldEntry
number_field = Some (record { fixed = true; ty = Some ty.Int })

-- what is declared, with the statics of the second class said at their names
abbrev pub known : Declared → Declared
known l = record {
  class_named = l.class_named;
  field_of = over (over (over l.field_of (codes "a") object_field) (codes "b") object_field) (codes "n") number_field;
  method_of = l.method_of;
  state_of = over (over (over l.state_of (codes "a") object_state) (codes "b") object_state) (codes "n") number_state;
  only_state = l.only_state;
  is_invariant = l.is_invariant;
}

module _ (q1 q2 q3 q4 q5 q6 q7 q8 : Place) (ms : List MethodPart) (are : AreMethods 1 ms) where
  -- no method has one of these names
  no-members : (x : List ℕ) → ((i : ℕ) → same_text (name_of i) x ≡ false) → first_named x (map method ms ++ []) ≡ None
  no-members x other = ap (first_named x) (append-nil (map method ms)) ∙ no-method x 1 ms other are

  abbrev program : ProgramTree
  program = made_program q1 q2 q3 q4 q5 q6 q7 q8 ms

  abbrev first_is : MemberPart → Option MemberPart → Option MemberPart
  first_is m o = Some (option_map_or (λ n. cond (is_before (member_word n).place (member_word m).place) n m) o m)

  field-a : (declared_in program).field_of 1 (codes "a") ≡ object_field
  unfolding first_named class_from
  field-a = ap (λ o. field_from program (first_is (field (static_object q4 q5 (codes "a"))) o)) (no-members (codes "a") (λ i. refl))

  field-b : (declared_in program).field_of 1 (codes "b") ≡ object_field
  unfolding first_named class_from
  field-b = ap (λ o. field_from program (first_is (field (static_object q6 q7 (codes "b"))) o)) (no-members (codes "b") (λ i. refl))

  abbrev number_part : FieldPart
  number_part = record { name = word_at q8 (codes "n"); jtype = j.Int; fixed = true; init = None }

  field-n : (declared_in program).field_of 1 (codes "n") ≡ number_field
  unfolding first_named class_from
  field-n = ap (λ o. field_from program (first_is (field number_part) o)) (no-members (codes "n") (λ i. refl))

  state-a : (declared_in program).state_of 1 (codes "a") ≡ object_state
  unfolding first_named class_from
  state-a = ap (λ o. state_from program (gen_class q3 q4 q5 q6 q7 q8 ms) 1 (first_is (field (static_object q4 q5 (codes "a"))) o)) (no-members (codes "a") (λ i. refl))

  state-b : (declared_in program).state_of 1 (codes "b") ≡ object_state
  unfolding first_named class_from
  state-b = ap (λ o. state_from program (gen_class q3 q4 q5 q6 q7 q8 ms) 1 (first_is (field (static_object q6 q7 (codes "b"))) o)) (no-members (codes "b") (λ i. refl))

  state-n : (declared_in program).state_of 1 (codes "n") ≡ number_state
  unfolding first_named class_from
  state-n = ap (λ o. state_from program (gen_class q3 q4 q5 q6 q7 q8 ms) 1 (first_is (field number_part) o)) (no-members (codes "n") (λ i. refl))

  fields-known : (c : ℕ) (x : List ℕ) → (declared_in program).field_of c x ≡ (known (declared_in program)).field_of c x
  fields-known c x =
      let l = declared_in program in
      let one = over l.field_of (codes "a") object_field in
      let two = over one (codes "b") object_field in
      over-is l.field_of (codes "a") object_field field-a c x
      ∙ over-is one (codes "b") object_field field-b c x
      ∙ over-is two (codes "n") number_field field-n c x

  states-known : (c : ℕ) (x : List ℕ) → (declared_in program).state_of c x ≡ (known (declared_in program)).state_of c x
  states-known c x =
      let l = declared_in program in
      let one = over l.state_of (codes "a") object_state in
      let two = over one (codes "b") object_state in
      over-is l.state_of (codes "a") object_state state-a c x
      ∙ over-is one (codes "b") object_state state-b c x
      ∙ over-is two (codes "n") number_state state-n c x

  pub known-is : declared_in program ≡ known (declared_in program)
  known-is = λ i. record {
    class_named = (declared_in program).class_named;
    field_of = λ c x. fields-known c x i;
    method_of = (declared_in program).method_of;
    state_of = λ c x. states-known c x i;
    only_state = (declared_in program).only_state;
    is_invariant = (declared_in program).is_invariant;
  }
