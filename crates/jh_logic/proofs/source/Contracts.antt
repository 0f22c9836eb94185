-- The contracts and invariants of a program that breaks no rule speak of what they may.
use Rattle.std.proofs.Common.{◌≡◌, refl, sym, ap, subst, ◌∙◌, ℕ, zero, suc, ◌+◌, Bool, true, false, not, ◌&&◌, ◌||◌, if◌then◌else◌, List, [], ◌∷◌, map, Option, Some, None, slice_get, arith}
use Rattle.std.specs.List.{Contains}
use Rattle.std.specs.Option.{option_map_or}
use Rattle.std.proofs.lemmas.Bool.{true≢false}
use Rattle.jh_name.specs.declared.naming.Name.{Name}
use Rattle.jh_name.specs.declared.place.Sort.{Sort}
use Rattle.jh_name.specs.declared.place.Sort.TheVariants as sort
use Rattle.jh_ast.specs.Forms.{FormTree}
use Rattle.jh_ast.specs.Programs.{ProgramTree, ClassPart, DefPart}
use Rattle.jh_form.specs.Tree.{ValueTree}
use Rattle.jh_form.specs.Tree as t
use Rattle.jh_form.specs.Closed.{is_closed_term, is_closed_int, is_closed_set, is_closed_field, is_closed_value, is_closed_formula}
use Rattle.jh_form.specs.Passing.{term_passes, int_passes, set_passes, field_passes, value_passes, formula_passes}
use Rattle.jh_boxed.specs.Mapped.{unchanged}
use Rattle.jh_boxed.proofs.Identity.{mapped_value-unchanged}
use Rattle.jh_rules.specs.declared.fault.Fault.{Fault}
use Rattle.jh_rules.specs.declared.entries.StateEntry.{StateEntry}
use Rattle.jh_rules.specs.Breaks.{faults_of}
use Rattle.jh_rules.specs.Words.{same_text, text_of, used_before}
use Rattle.jh_rules.specs.Names.{◌then◌, Declared, declared_in, def_of, def_in, class_from}
use Rattle.jh_rules.specs.Rules.{rule_8, rule_10}
use Rattle.jh_rules.specs.Shape.{program_parts}
use Rattle.jh_rules.specs.Formulas.{form_kind}
use Rattle.jh_rules.specs.Statements.{asked, outside, def_faults}
use Rattle.jh_vars.specs.States.{class_text}
use Rattle.jh_vars.specs.Resolved.{own, resolved, as_truth}
use Rattle.jh_vars.specs.Opened.{is_of_objects, meant, all_definitions, value_at, uses_this, of_every_object, invariant_value}
use Rattle.jh_vars.specs.Opened as opened
use Rattle.jh_semantics.specs.Code.{Text}
use Rattle.jh_semantics.specs.Program.{Program}
use Rattle.jh_semantics.specs.LoweredProgram.{program_of}
use Rattle.jh_logic.specs.logic.MethodContracts.{is_state, speaks_of_state}
use Rattle.jh_logic.specs.source.Placed.{IsPlaced}
use Rattle.jh_logic.proofs.source.Lists.{left-empty, right-empty, both-true, and-left, some-same, no-none, not-false, or-false-left}
use Rattle.jh_logic.proofs.source.Judged.{not-broken}
use Rattle.jh_logic.proofs.source.Texts.{is-same}
use Rattle.jh_logic.proofs.source.Shaped.{Shaped}
use Rattle.jh_logic.proofs.source.Passings.{Passing}
use Rattle.jh_logic.proofs.source.Closings.{Closing}
use Rattle.jh_logic.proofs.source.Fine.{Test, Fine, truth-fine, mapped-fine}
use Rattle.jh_logic.proofs.source.Leaves.{fine-form}
use Rattle.jh_logic.proofs.source.Classes.{class-fine}
use Rattle.jh_logic.proofs.source.Pieces.{def-found}
use Rattle.jh_logic.proofs.source.Speaking.{Matches, Speaking, class-state, leaves-speak}

-- what passes one test passes a wider one
unchanged-closed : (d : ℕ) → Closing unchanged d d
unfolding is_closed_term is_closed_int is_closed_set is_closed_field is_closed_formula
unchanged-closed d = record { object = λ x k n e. refl; number = λ x k n e. refl; truth = λ x k n e. refl; set = λ x k n e. refl; field = λ x k n e. refl; bound = λ i k m n u v h. subst (λ (c : ℕ). is_closed_term (t.bound i) c ≡ true) (u ∙ sym v) h }

wider-passing : (p q : Test) → ((x : Name) (a : Sort) → p x a ≡ true → q x a ≡ true) → Passing unchanged p q
unfolding term_passes int_passes set_passes field_passes formula_passes
wider-passing p q f = record { object = λ x d h. f x sort.Obj h; number = λ x d h. f x sort.Int h; truth = λ x d h. f x sort.Bool h; set = λ x d h. f x sort.Set h; field = λ x d h. f x sort.Field h; bound = λ i d. refl }

pub wider : (p q : Test) → ((x : Name) (a : Sort) → p x a ≡ true → q x a ≡ true) → (d : ℕ) (v : ValueTree) → Fine p d v → Fine q d v
wider p q f d v h = subst (Fine q d) (mapped_value-unchanged v 0) (mapped-fine unchanged p q d d v (wider-passing p q f) (unchanged-closed d) h)

none-more : (n : ℕ) → 0 + n ≡ n
none-more n = omega arith

module _ (p : ProgramTree) (placed : IsPlaced p) (clean : faults_of p ≡ []) (shaped : Shaped (program_parts p)) where
  abbrev l : Declared
  l = declared_in p

  abbrev P : Program
  P = program_of p

  abbrev pub of_state : Test
  of_state = speaks_of_state P

  state-now : (x : Text) (a : Sort) → is_state P x a ≡ true → of_state (own x 0) a ≡ true
  state-now x a h = h

  -- a place outside methods
  outside-matches : (n : ℕ) (has_this bound : Bool) → Matches p placed clean shaped (outside l n has_this) (opened.outside n bound)
  outside-matches n has_this bound = record { class = refl; local = λ x. refl; bound = λ x e. refl }

  outside-speaking : (meaning : ℕ → List ℕ → ValueTree) → ((c : ℕ) (x : List ℕ) → Fine of_state (if is_of_objects p c x then 1 else 0) (meaning c x)) → (uses : Bool) (n : ℕ) (has_this bound : Bool) → (uses ≡ true → has_this ≡ true → bound ≡ false → ⊥) →
      Speaking p placed clean shaped meaning uses of_state (outside l n has_this) (opened.outside n bound)
  outside-speaking meaning means uses n has_this bound this = record {
    local = λ x entry e. absurd (no-none entry e);
    this = λ u e b. absurd (this u e b);
    result = λ o e. absurd (no-none o e);
    state = state-now;
    means = means;
  }

  outside-fine : (meaning : ℕ → List ℕ → ValueTree) → ((c : ℕ) (x : List ℕ) → Fine of_state (if is_of_objects p c x then 1 else 0) (meaning c x)) → (uses : Bool) (n : ℕ) (has_this bound : Bool) → (uses ≡ true → has_this ≡ true → bound ≡ false → ⊥) →
      (a : FormTree) → (uses_this p a n [] ≡ true → uses ≡ true) → (form_kind l a (outside l n has_this)).faults ≡ [] → Fine of_state (if bound then 1 else 0) (resolved l (class_text p) meaning a (opened.outside n bound))
  outside-fine meaning means uses n has_this bound this a used h = subst (λ d. Fine of_state d (resolved l (class_text p) meaning a (opened.outside n bound))) (none-more (if bound then 1 else 0))
      (fine-form l (class_text p) meaning a (opened.outside n bound) of_state
      (leaves-speak p placed clean shaped meaning a uses of_state (outside l n has_this) (opened.outside n bound) (outside-speaking meaning means uses n has_this bound this) (λ e. absurd (true≢false (sym e))) (outside-matches n has_this bound) used h))

  -- what definitions mean speaks of the state alone
  def-at : (c : ℕ) (x : List ℕ) (d : DefPart) → def_of p c x ≡ Some d → (class : ClassPart) × (slice_get p.classes c ≡ Some class) × Contains class.defs d × (text_of d.name ≡ x)
  def-at c x d e = by (slice_get p.classes c) refl e
    where
      by : (o : Option ClassPart) → slice_get p.classes c ≡ o → (o then λ class. def_in x class.defs) ≡ Some d → (class : ClassPart) × (slice_get p.classes c ≡ Some class) × Contains class.defs d × (text_of d.name ≡ x)
      by None f g = absurd (no-none d g)
      by (Some class) f g = let r = def-found x class.defs d g in (class, f, r.0, r.1)

  abbrev is-static : StateEntry → Bool
  is-static s = s.is_variable && s.fixed

  abbrev is-plain : StateEntry → Bool
  is-plain s = s.is_variable && not s.is_ghost

  this-loose : (o : Option StateEntry) → option_map_or is-plain o false ≡ true → not (option_map_or is-static o false) ≡ true → option_map_or (λ (s : StateEntry). not s.fixed) o false ≡ false → ⊥
  this-loose None g h e = true≢false (sym g)
  this-loose (Some s) g h e = by s.is_variable s.fixed (and-left s.is_variable (not s.is_ghost) g) (not-false s.fixed e) h
    where
      by : (v f : Bool) → v ≡ true → f ≡ true → not (v && f) ≡ true → ⊥
      by true true u w g = true≢false (sym g)
      by true false u w g = true≢false (sym w)
      by false f u w g = true≢false (sym u)

  meant-speaks : (n c : ℕ) (x : List ℕ) → Fine of_state (if is_of_objects p c x then 1 else 0) (meant p n c x)
  unfolding meant is_closed_value is_closed_term value_passes term_passes
  meant-speaks zero c x = record { closed = refl; passes = refl }
  meant-speaks (suc n) c x = by (def_of p c x) refl (λ c x. meant-speaks n c x)
    where
      by : (o : Option DefPart) → def_of p c x ≡ o → ((c : ℕ) (x : List ℕ) → Fine of_state (if is_of_objects p c x then 1 else 0) (meant p n c x)) →
          Fine of_state (if is_of_objects p c x then 1 else 0) (option_map_or (λ (d : DefPart). resolved l (class_text p) (meant p n) d.spec.form (opened.outside c (is_of_objects p c x))) o (t.of_object t.null))
      by None e means = record { closed = refl; passes = refl }
      by (Some d) e means =
          let r = def-at c x d e in
          let faults : def_faults l c r.0 d ≡ [] = (class-fine p placed clean c r.0 r.1).defs d r.2 in
          let o : Option StateEntry = l.state_of c (text_of d.name) in
          let has_this : Bool = not (option_map_or is-static o false) in
          let whole : List Fault = asked (form_kind l d.spec.form (outside l c has_this)) (rule_10 l c d) in
          let test : Bool = option_map_or is-plain o false in
          let plain : test ≡ true = not-false test (or-false-left (not test) (used_before (map (λ (z : DefPart). z.name) (r.0).defs) d.name) (not-broken 8 d.name.place (not test || used_before (map (λ (z : DefPart). z.name) (r.0).defs) d.name) (left-empty (rule_8 l c r.0 d) whole faults))) in
          outside-fine (meant p n) means true c has_this (is_of_objects p c x)
          (λ u g h. this-loose o plain g (ap (λ y. is_of_objects p c y) r.3 ∙ h))
          d.spec.form (λ u. refl) (left-empty (form_kind l d.spec.form (outside l c has_this)).faults _ (right-empty (rule_8 l c r.0 d) whole faults))

  abbrev meaning : ℕ → List ℕ → ValueTree
  meaning = meant p (all_definitions p)

  pub means-speak : (c : ℕ) (x : List ℕ) → Fine of_state (if is_of_objects p c x then 1 else 0) (meaning c x)
  means-speak c x = meant-speaks (all_definitions p) c x

  number-some : (k : ℕ) (x : List ℕ) (cs : List ClassPart) (j : ℕ) (d : ClassPart) → slice_get cs j ≡ Some d → text_of d.name ≡ x → (m : ℕ) × (class_from k x cs ≡ Some m)
  unfolding class_from
  number-some k x [] j d g e = absurd (no-none d g)
  number-some k x (c ∷ cs) zero d g e = by (same_text (text_of c.name) x) (is-same (text_of c.name) x (ap (λ (z : ClassPart). text_of z.name) (some-same c d g) ∙ e))
    where
      by : (b : Bool) → b ≡ true → (m : ℕ) × ((if b then Some k else class_from (k + 1) x cs) ≡ Some m)
      by true f = (k, refl)
      by false f = absurd (true≢false (sym f))
  number-some k x (c ∷ cs) (suc j) d g e = by (same_text (text_of c.name) x) (number-some (k + 1) x cs j d g e)
    where
      by : (b : Bool) → (m : ℕ) × (class_from (k + 1) x cs ≡ Some m) → (m : ℕ) × ((if b then Some k else class_from (k + 1) x cs) ≡ Some m)
      by true f = (k, refl)
      by false f = f

  class-there : (n : ℕ) (c : ClassPart) → slice_get p.classes n ≡ Some c → is_state P (text_of c.name) sort.Set ≡ true
  class-there n c is = let m = number-some 0 (text_of c.name) p.classes n c is refl in class-state p placed clean shaped (text_of c.name) m.0 m.1

  -- an invariant speaks of the state alone
  pub every-speaks : (n : ℕ) (c : ClassPart) → slice_get p.classes n ≡ Some c → (a : FormTree) → (form_kind l a (outside l n true)).faults ≡ [] → (b : Bool) → uses_this p a n [] ≡ b →
      Fine of_state 0 (if b then of_every_object p c (as_truth (value_at p (opened.outside n true) a)) else value_at p (opened.outside n false) a)
  unfolding is_closed_value is_closed_formula is_closed_term is_closed_set value_passes formula_passes term_passes set_passes
  every-speaks n c is a h true e =
      let v : ValueTree = value_at p (opened.outside n true) a in
      let f : Fine of_state 1 (t.of_truth (as_truth v)) = truth-fine of_state 1 v (outside-fine meaning means-speak true n true true (λ u g b. true≢false b) a (λ u. refl) h) in
      record { closed = f.closed; passes = both-true (is_state P (text_of c.name) sort.Set) (formula_passes (as_truth v) of_state) (class-there n c is) f.passes }
  every-speaks n c is a h false e = outside-fine meaning means-speak false n true false (λ u g b. true≢false (sym u)) a (λ u. absurd (true≢false (sym u ∙ e))) h
