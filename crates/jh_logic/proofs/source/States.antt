-- The state that a word names is what its class declares, and its value is fine where its name passes.
use Rattle.std.proofs.Common.{◌≡◌, refl, sym, ap, subst, ◌∙◌, ℕ, zero, suc, ◌+◌, ◌≤◌, nat_lt, Bool, true, false, not, if◌then◌else◌, List, [], ◌∷◌, Option, Some, None, is_some, option_map, slice_get, arith, ⊎_elim}
use Rattle.std.specs.List.{Contains}
use Rattle.std.specs.Option.{option_map_or}
use Rattle.std.proofs.lemmas.Bool.Decides.{nat_tests}
use Rattle.jh_name.specs.declared.place.Sort.TheVariants as sort
use Rattle.jh_ast.specs.Programs.{ProgramTree, ClassPart}
use Rattle.jh_form.specs.Tree.{TermTree, ValueTree}
use Rattle.jh_form.specs.Tree as t
use Rattle.jh_form.specs.Closed.{is_closed_term, is_closed_int, is_closed_set, is_closed_field, is_closed_value, is_closed_formula}
use Rattle.jh_form.specs.Passing.{term_passes, int_passes, set_passes, field_passes, value_passes, formula_passes}
use Rattle.jh_boxed.specs.Mapped.{unchanged, mapped_value}
use Rattle.jh_boxed.proofs.Identity.{mapped_value-unchanged}
use Rattle.jh_rules.specs.declared.entries.StateEntry.{StateEntry}
use Rattle.jh_rules.specs.Words.{halves}
use Rattle.jh_rules.specs.Names.{◌then◌, Declared, declared_in, own_name, MemberPart, field, method, var, members_of, first_named, state_from, state_in, states_from, the_only, number_of}
use Rattle.jh_rules.specs.Names as names
use Rattle.jh_vars.specs.state_names.States.{sort_of}
use Rattle.jh_vars.specs.States.{State, called, class_text, state_spelled, state_named}
use Rattle.jh_vars.specs.Resolved.{free, read, receiving, shifting, shifted, kind_known, state_name, static_value, member_value}
use Rattle.jh_vars.specs.Opened.{is_of_objects}
use Rattle.jh_logic.proofs.source.Lists.{has-none, has-first, has-cases, some-same, no-none}
use Rattle.jh_logic.proofs.source.Passings.{Passing}
use Rattle.jh_logic.proofs.source.Closings.{Closing, term-closing}
use Rattle.jh_logic.proofs.source.Passings.{term-passing}
use Rattle.jh_logic.proofs.source.Fine.{Test, Fine, free-fine, read-fine, mapped-fine}

-- Raised variables, and a receiver for the loose one.
shifting-closing : (j d : ℕ) → Closing (shifting j) d (d + j)
unfolding is_closed_term is_closed_int is_closed_set is_closed_field is_closed_formula
shifting-closing j d = record { object = λ x k n e. refl; number = λ x k n e. refl; truth = λ x k n e. refl; set = λ x k n e. refl; field = λ x k n e. refl; bound = λ i k m n u v h. by i k m n (nat_lt i k) refl u v h }
  where
    by : (i k m n : ℕ) (b : Bool) → nat_lt i k ≡ b → m ≡ k + d → n ≡ k + (d + j) → nat_lt i m ≡ true → is_closed_term (if b then t.bound i else t.bound (i + j)) n ≡ true
    by i k m n true e u v h = grind (arith, nat_tests)
    by i k m n false e u v h = grind (arith, nat_tests)

shifting-passing : (j : ℕ) (q : Test) → Passing (shifting j) q q
unfolding term_passes int_passes set_passes field_passes formula_passes
shifting-passing j q = record { object = λ x d h. h; number = λ x d h. h; truth = λ x d h. h; set = λ x d h. h; field = λ x d h. h; bound = λ i d. by i (nat_lt i d) }
  where
    by : (i : ℕ) (b : Bool) → term_passes (if b then t.bound i else t.bound (i + j)) q ≡ true
    by i true = refl
    by i false = refl

receiving-closing : (w : TermTree) (c d : ℕ) → c ≤ 1 → is_closed_term w d ≡ true → Closing (receiving w) c d
unfolding is_closed_term is_closed_int is_closed_set is_closed_field is_closed_formula
receiving-closing w c d le closed = record { object = λ x k n e. refl; number = λ x k n e. refl; truth = λ x k n e. refl; set = λ x k n e. refl; field = λ x k n e. refl; bound = λ i k m n u v h. by i k m n (nat_lt i k) refl u v h }
  where
    zero-more : (d : ℕ) → d ≡ 0 + d
    zero-more d = omega arith

    swapped : (k n d : ℕ) → n ≡ k + d → n ≡ 0 + (d + k)
    swapped k n d v = omega (v, arith)

    by : (i k m n : ℕ) (b : Bool) → nat_lt i k ≡ b → m ≡ k + c → n ≡ k + d → nat_lt i m ≡ true → is_closed_term (if b then t.bound i else shifted k w) n ≡ true
    by i k m n true e u v h = grind (arith, nat_tests)
    by i k m n false e u v h = term-closing (shifting k) d (d + k) (shifting-closing k d) w 0 d n (zero-more d) (swapped k n d v) closed

receiving-passing : (w : TermTree) (q : Test) → term_passes w q ≡ true → Passing (receiving w) q q
unfolding term_passes int_passes set_passes field_passes formula_passes
receiving-passing w q h = record { object = λ x d g. g; number = λ x d g. g; truth = λ x d g. g; set = λ x d g. g; field = λ x d g. g; bound = λ i d. by i d (nat_lt i d) }
  where
    by : (i d : ℕ) (b : Bool) → term_passes (if b then t.bound i else shifted d w) q ≡ true
    by i d true = refl
    by i d false = term-passing (shifting d) q q (shifting-passing d q) w 0 h

-- what has no loose variable has none beyond any
unchanged-closing : (d : ℕ) → Closing unchanged 0 d
unfolding is_closed_term is_closed_int is_closed_set is_closed_field is_closed_formula
unchanged-closing d = record { object = λ x k n e. refl; number = λ x k n e. refl; truth = λ x k n e. refl; set = λ x k n e. refl; field = λ x k n e. refl; bound = λ i k m n u v h. grind (arith, nat_tests) }

unchanged-passing : (q : Test) → Passing unchanged q q
unfolding term_passes int_passes set_passes field_passes formula_passes
unchanged-passing q = record { object = λ x d h. h; number = λ x d h. h; truth = λ x d h. h; set = λ x d h. h; field = λ x d h. h; bound = λ i d. refl }

pub fine-anywhere : (q : Test) (d : ℕ) (v : ValueTree) → Fine q 0 v → Fine q d v
fine-anywhere q d v f = subst (Fine q d) (mapped_value-unchanged v 0) (mapped-fine unchanged q q 0 d v (unchanged-passing q) (unchanged-closing d) f)

module _ (p : ProgramTree) where
  abbrev l : Declared
  l = declared_in p

  -- A state is what its class declares of its name.
  abbrev pub IsDeclared : State → Type 0
  IsDeclared x = l.state_of x.entry.class x.name ≡ Some x.entry

  entry-class : (d : ClassPart) (c : ℕ) (o : Option MemberPart) (s : StateEntry) → state_from p d c o ≡ Some s → s.class ≡ c
  entry-class d c None s e = absurd (no-none s e)
  entry-class d c (Some (field x)) s e = ap (λ (z : StateEntry). z.class) (sym (some-same _ s e))
  entry-class d c (Some (var v)) s e = ap (λ (z : StateEntry). z.class) (sym (some-same _ s e))
  entry-class d c (Some (method m)) s e = absurd (no-none s e)

  class-entry : (c : ℕ) (x : List ℕ) (s : StateEntry) → l.state_of c x ≡ Some s → s.class ≡ c
  class-entry c x s e = by (slice_get p.classes c) e
    where
      by : (o : Option ClassPart) → (o then state_in p c x) ≡ Some s → s.class ≡ c
      by None g = absurd (no-none s g)
      by (Some d) g = entry-class d c (first_named x (members_of d)) s g

  own-declared : (c : ℕ) (x : List ℕ) (s : StateEntry) → l.state_of c x ≡ Some s → IsDeclared (record { entry = s; name = x })
  own-declared c x s e = ap (λ k. l.state_of k x) (class-entry c x s e) ∙ e

  spelled-declared : (c : ℕ) (x : List ℕ) (h : Option (List ℕ × List ℕ)) → (s : StateEntry) → option_map_or (λ h. l.class_named h.0 then λ d. l.state_of d h.1) h (l.state_of c x) ≡ Some s → IsDeclared (record { entry = s; name = option_map_or (λ h. h.1) h x })
  spelled-declared c x None s e = own-declared c x s e
  spelled-declared c x (Some h) s e = by (l.class_named h.0) e
    where
      by : (o : Option ℕ) → (o then λ d. l.state_of d h.1) ≡ Some s → IsDeclared (record { entry = s; name = h.1 })
      by None g = absurd (no-none s g)
      by (Some d) g = own-declared d h.1 s g

  from-called : (x : List ℕ) (o : Option StateEntry) → ((s : StateEntry) → o ≡ Some s → IsDeclared (called x s)) → (y : State) → option_map (called x) o ≡ Some y → IsDeclared y
  from-called x None f y e = absurd (no-none y e)
  from-called x (Some s) f y e = subst IsDeclared (some-same (called x s) y e) (f s refl)

  pub spelled-is : (c : ℕ) (x : List ℕ) (y : State) → state_spelled l c x ≡ Some y → IsDeclared y
  spelled-is c x y e = from-called x (names.state_spelled l c x) (λ s h. spelled-declared c x (halves x) s h) y e

  one-from : (k : ℕ) (x : List ℕ) (cs : List ClassPart) (s : StateEntry) → Contains (states_from p k x cs) s → (j : ℕ) × (c : ClassPart) × (slice_get cs j ≡ Some c) × (state_in p (k + j) x c ≡ Some s)
  unfolding states_from
  one-from k x [] s i = absurd (has-none s i)
  one-from k x (c ∷ cs) s i = by (state_in p k x c) refl i (λ j. one-from (k + 1) x cs s j)
    where
      no-more : (k : ℕ) → k ≡ k + 0
      no-more k = omega arith

      one-later : (k j : ℕ) → k + 1 + j ≡ k + suc j
      one-later k j = omega arith

      later : (j : ℕ) × (d : ClassPart) × (slice_get cs j ≡ Some d) × (state_in p (k + 1 + j) x d ≡ Some s) → (j : ℕ) × (d : ClassPart) × (slice_get (c ∷ cs) j ≡ Some d) × (state_in p (k + j) x d ≡ Some s)
      later r = (suc r.0, r.1, r.2, ap (λ m. state_in p m x r.1) (sym (one-later k r.0)) ∙ r.3)

      by : (o : Option StateEntry) → state_in p k x c ≡ o → Contains (option_map_or (λ s. s ∷ states_from p (k + 1) x cs) o (states_from p (k + 1) x cs)) s →
          (Contains (states_from p (k + 1) x cs) s → (j : ℕ) × (d : ClassPart) × (slice_get cs j ≡ Some d) × (state_in p (k + 1 + j) x d ≡ Some s)) → (j : ℕ) × (d : ClassPart) × (slice_get (c ∷ cs) j ≡ Some d) × (state_in p (k + j) x d ≡ Some s)
      by None e h rest = later (rest h)
      by (Some z) e h rest = ⊎_elim (λ f. (zero, c, refl, ap (λ m. state_in p m x c) (sym (no-more k)) ∙ e ∙ ap (λ (w : StateEntry). Some w) f)) (λ j. later (rest j)) (has-cases z (states_from p (k + 1) x cs) s h)

  only-declared : (x : List ℕ) (s : StateEntry) → l.only_state x ≡ Some s → (c : ℕ) × (l.state_of c x ≡ Some s)
  only-declared x s e = by (states_from p 0 x p.classes) e (one-from 0 x p.classes s)
    where
      none-more : (n : ℕ) → 0 + n ≡ n
      none-more n = omega arith

      by : (ss : List StateEntry) → the_only p ss ≡ Some s → (Contains ss s → (j : ℕ) × (c : ClassPart) × (slice_get p.classes j ≡ Some c) × (state_in p (0 + j) x c ≡ Some s)) → (c : ℕ) × (l.state_of c x ≡ Some s)
      by [] g f = absurd (no-none s g)
      by (z ∷ []) g f =
          let r = f (subst (Contains (z ∷ [])) (some-same z s g) (has-first z [])) in
          (r.0, ap (λ o. o then state_in p r.0 x) r.2 ∙ ap (λ m. state_in p m x r.1) (sym (none-more r.0)) ∙ r.3)
      by (z ∷ y ∷ ys) g f = absurd (no-none s g)

  named-by : (c : ℕ) (x : List ℕ) (o : Option StateEntry) → names.state_spelled l c x ≡ o → (b : Option (List ℕ × List ℕ)) → halves x ≡ b → (s : StateEntry) → option_map_or (λ s. Some s) o (if is_some b then None else l.only_state x) ≡ Some s → IsDeclared (record { entry = s; name = option_map_or (λ h. h.1) b x })
  named-by c x (Some z) e b h s g = subst (λ o. IsDeclared (record { entry = s; name = option_map_or (λ h. h.1) o x })) h (spelled-declared c x (halves x) s (e ∙ g))
  named-by c x None e (Some b) h s g = absurd (no-none s g)
  named-by c x None e None h s g = let r = only-declared x s g in own-declared r.0 x s r.1

  pub named-is : (c : ℕ) (x : List ℕ) (y : State) → state_named l c x ≡ Some y → IsDeclared y
  named-is c x y e = from-called x (names.state_named l c x) (λ s h. named-by c x (names.state_spelled l c x) refl (halves x) refl s h) y e

  -- The values of states, where definitions mean what is fine.
  module _ (q : Test) (meaning : ℕ → List ℕ → ValueTree) (means : (c : ℕ) (x : List ℕ) → Fine q (if is_of_objects p c x then 1 else 0) (meaning c x)) (d : ℕ) where
    of-object : (x : State) → IsDeclared x → is_of_objects p x.entry.class x.name ≡ not x.entry.fixed
    of-object x e = ap (λ o. option_map_or (λ (s : StateEntry). not s.fixed) o false) e

    pub static-fine : (x : State) → IsDeclared x → x.entry.fixed ≡ true → (x.entry.is_defined ≡ false → q (state_name (class_text p) x) (sort_of (kind_known x)) ≡ true) → Fine q d (static_value l (class_text p) meaning x)
    static-fine x e fixed names = by x.entry.is_defined refl
      where
        by : (b : Bool) → x.entry.is_defined ≡ b → Fine q d (if b then meaning x.entry.class x.name else free (kind_known x) (state_name (class_text p) x))
        by true h = fine-anywhere q d (meaning x.entry.class x.name) (subst (λ b. Fine q (if b then 1 else 0) (meaning x.entry.class x.name)) (of-object x e ∙ ap not fixed) (means x.entry.class x.name))
        by false h = free-fine q d (kind_known x) (state_name (class_text p) x) (names h)

    at-most-one : (b : Bool) → (if b then 1 else 0) ≤ 1
    at-most-one true = omega arith
    at-most-one false = omega arith

    pub member-fine : (x : State) → (x.entry.is_defined ≡ false → q (state_name (class_text p) x) sort.Field ≡ true) → (a : TermTree) → Fine q d (t.of_object a) → Fine q d (member_value l (class_text p) meaning x a)
    unfolding is_closed_value value_passes
    member-fine x names a f = by x.entry.is_defined refl
      where
        by : (b : Bool) → x.entry.is_defined ≡ b → Fine q d (if b then mapped_value (meaning x.entry.class x.name) (receiving a) 0 else read (kind_known x) (state_name (class_text p) x) a)
        by true h = mapped-fine (receiving a) q q (if is_of_objects p x.entry.class x.name then 1 else 0) d (meaning x.entry.class x.name) (receiving-passing a q f.passes) (receiving-closing a (if is_of_objects p x.entry.class x.name then 1 else 0) d (at-most-one (is_of_objects p x.entry.class x.name)) f.closed) (means x.entry.class x.name)
        by false h = read-fine q d (kind_known x) (state_name (class_text p) x) a (names h) f
