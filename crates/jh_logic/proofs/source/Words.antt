-- The value of a word in a formula is fine where what it names passes.
use Rattle.std.proofs.Common.{◌≡◌, refl, subst, ℕ, suc, ◌+◌, nat_lt, Bool, true, false, if◌then◌else◌, List, [], ◌∷◌, length, Option, Some, None, codes, arith}
use Rattle.std.specs.Option.{option_map_or}
use Rattle.std.proofs.lemmas.Bool.Decides.{nat_tests}
use Rattle.jh_name.specs.declared.place.Sort.TheVariants as sort
use Rattle.jh_ast.specs.declared.word.Word.{Word}
use Rattle.jh_ast.specs.Programs.{ProgramTree}
use Rattle.jh_form.specs.Tree.{TermTree, ValueTree}
use Rattle.jh_form.specs.Tree as t
use Rattle.jh_form.specs.Closed.{is_closed_term, is_closed_set, is_closed_value}
use Rattle.jh_form.specs.Passing.{term_passes, set_passes, value_passes}
use Rattle.jh_rules.specs.declared.entries.LocalEntry.{LocalEntry}
use Rattle.jh_rules.specs.Words.{same_text, is_one_of, text_of}
use Rattle.jh_rules.specs.Names.{Declared, declared_in}
use Rattle.jh_vars.specs.state_names.States.{sort_of}
use Rattle.jh_vars.specs.States.{State, class_text, state_spelled, state_named}
use Rattle.jh_vars.specs.Resolved.{Spot, own, free, static_value, member_value, this_at, bound_as, kind_of_local, kind_known, state_name, state_value, state_or_class, outer_value, local_value, name_value}
use Rattle.jh_vars.specs.Opened.{is_of_objects}
use Rattle.jh_logic.proofs.source.Fine.{Test, Fine, free-fine}
use Rattle.jh_logic.proofs.source.Lists.{some-same, no-none}
use Rattle.jh_logic.proofs.source.Leaves.{depth, MemberFine}
use Rattle.jh_logic.proofs.source.States.{spelled-is, static-fine, member-fine}

-- the number of a bound name is below that of all
pub bound-below : (x : List ℕ) (ys : List (List ℕ)) (i : ℕ) → bound_as x ys ≡ Some i → nat_lt i (length ys) ≡ true
unfolding bound_as
bound-below x [] i e = absurd (no-none i e)
bound-below x (y ∷ ys) i e = by (bound_as x ys) refl (same_text y x) e (λ j f. bound-below x ys j f)
  where
    more : (a b : ℕ) → nat_lt a b ≡ true → nat_lt a (suc b) ≡ true
    more a b h = grind (arith, nat_tests)

    last : (a b : ℕ) → a ≡ b → nat_lt b (suc a) ≡ true
    last a b h = grind (arith, nat_tests)

    by : (o : Option ℕ) → bound_as x ys ≡ o → (b : Bool) → option_map_or (λ i. Some i) o (if b then Some (length ys) else None) ≡ Some i → ((j : ℕ) → bound_as x ys ≡ Some j → nat_lt j (length ys) ≡ true) → nat_lt i (suc (length ys)) ≡ true
    by (Some j) f b g rest = more i (length ys) (subst (λ m. nat_lt m (length ys) ≡ true) (some-same j i g) (rest j f))
    by None f true g rest = last (length ys) i (some-same (length ys) i g)
    by None f false g rest = absurd (no-none i g)

abbrev pub alloc_words : List (List ℕ)
alloc_words = codes "alloc" ∷ codes "Object" ∷ codes "Object.alloc" ∷ []

module _ (p : ProgramTree) where
  abbrev l : Declared
  l = declared_in p

  -- a word that is neither bound nor a parameter or local
  pub record IsOuter (at : Spot) (w : Word) : Type 0 where
    pub not_bound : bound_as (text_of w) at.bound ≡ None
    pub not_local : at.local (text_of w) ≡ None

  -- and none of the words that stand for something everywhere
  pub record IsState (at : Spot) (w : Word) : Type 0 where
    pub outer : IsOuter at w
    pub not_this : same_text (text_of w) (codes "this") ≡ false
    pub not_result : same_text (text_of w) (codes "result") ≡ false
    pub not_alloc : is_one_of (text_of w) alloc_words ≡ false

  -- what a word names passes
  pub record Passes (q : Test) (at : Spot) (w : Word) : Type 0 where
    pub local : bound_as (text_of w) at.bound ≡ None → (x : LocalEntry) → at.local (text_of w) ≡ Some x → q (own (text_of w) 0) (sort_of (kind_of_local x)) ≡ true
    pub this : IsOuter at w → same_text (text_of w) (codes "this") ≡ true → at.this_bound ≡ false → q (own (codes "this") 0) sort.Obj ≡ true
    pub result : IsOuter at w → same_text (text_of w) (codes "this") ≡ false → same_text (text_of w) (codes "result") ≡ true → q (own (codes "result") 0) (sort_of at.result) ≡ true
    pub alloc : q (own (codes "alloc") 0) sort.Set ≡ true
    pub class : IsState at w → state_spelled l at.class (text_of w) ≡ None → q (own (text_of w) 0) sort.Set ≡ true
    pub static : IsState at w → (x : State) → state_spelled l at.class (text_of w) ≡ Some x → x.entry.fixed ≡ true → x.entry.is_defined ≡ false → q (state_name (class_text p) x) (sort_of (kind_known x)) ≡ true
    pub member : IsState at w → (x : State) → state_spelled l at.class (text_of w) ≡ Some x → x.entry.fixed ≡ false → x.entry.is_defined ≡ false → q (state_name (class_text p) x) sort.Field ≡ true
    pub member_this : IsState at w → (x : State) → state_spelled l at.class (text_of w) ≡ Some x → x.entry.fixed ≡ false → at.this_bound ≡ false → q (own (codes "this") 0) sort.Obj ≡ true

  module _ (q : Test) (meaning : ℕ → List ℕ → ValueTree) (means : (c : ℕ) (x : List ℕ) → Fine q (if is_of_objects p c x then 1 else 0) (meaning c x)) (at : Spot) where
    this-fine : (at.this_bound ≡ false → q (own (codes "this") 0) sort.Obj ≡ true) → Fine q (depth at) (t.of_object (this_at at))
    unfolding is_closed_value is_closed_term value_passes term_passes
    this-fine h = by at.this_bound refl
      where
        last : (a : ℕ) → nat_lt a (a + 1) ≡ true
        last a = grind (arith, nat_tests)

        by : (b : Bool) → at.this_bound ≡ b → Fine q (length at.bound + (if b then 1 else 0)) (t.of_object (if b then t.bound (length at.bound) else t.free_object (own (codes "this") 0)))
        by true e = record { closed = last (length at.bound); passes = refl }
        by false e = record { closed = refl; passes = h e }

    state-by : (w : Word) → Passes q at w → IsState at w → (o : Option State) → state_spelled l at.class (text_of w) ≡ o → Fine q (depth at) (option_map_or (state_value l (class_text p) meaning at) o (t.of_set (t.free_set (own (text_of w) 0))))
    unfolding is_closed_value is_closed_set value_passes set_passes
    state-by w pass is None e = record { closed = refl; passes = pass.class is e }
    state-by w pass is (Some x) e = by x.entry.fixed refl
      where
        by : (b : Bool) → x.entry.fixed ≡ b → Fine q (depth at) (if b then static_value l (class_text p) meaning x else member_value l (class_text p) meaning x (this_at at))
        by true f = static-fine p q meaning means (depth at) x (spelled-is p at.class (text_of w) x e) f (pass.static is x e f)
        by false f = member-fine p q meaning means (depth at) x (pass.member is x e f) (this_at at) (this-fine (pass.member_this is x e f))

    outer-by : (w : Word) → Passes q at w → IsOuter at w → (a b c : Bool) → same_text (text_of w) (codes "this") ≡ a → same_text (text_of w) (codes "result") ≡ b → is_one_of (text_of w) alloc_words ≡ c →
        Fine q (depth at) (if a then t.of_object (this_at at) else if b then free at.result (own (codes "result") 0) else if c then t.of_set (t.free_set (own (codes "alloc") 0)) else state_or_class l (class_text p) meaning at w)
    unfolding is_closed_value is_closed_set value_passes set_passes
    outer-by w pass outer true b c e f g = this-fine (pass.this outer e)
    outer-by w pass outer false true c e f g = free-fine q (depth at) at.result (own (codes "result") 0) (pass.result outer e f)
    outer-by w pass outer false false true e f g = record { closed = refl; passes = pass.alloc }
    outer-by w pass outer false false false e f g = state-by w pass (record { outer = outer; not_this = e; not_result = f; not_alloc = g }) (state_spelled l at.class (text_of w)) refl

    local-by : (w : Word) → Passes q at w → bound_as (text_of w) at.bound ≡ None → (o : Option LocalEntry) → at.local (text_of w) ≡ o → Fine q (depth at) (option_map_or (λ (x : LocalEntry). free (kind_of_local x) (own (text_of w) 0)) o (outer_value l (class_text p) meaning at w))
    local-by w pass none (Some x) e = free-fine q (depth at) (kind_of_local x) (own (text_of w) 0) (pass.local none x e)
    local-by w pass none None e = outer-by w pass (record { not_bound = none; not_local = e }) (same_text (text_of w) (codes "this")) (same_text (text_of w) (codes "result")) (is_one_of (text_of w) alloc_words) refl refl refl

    bound-by : (w : Word) → Passes q at w → (o : Option ℕ) → bound_as (text_of w) at.bound ≡ o → Fine q (depth at) (option_map_or (λ i. t.of_object (t.bound i)) o (local_value l (class_text p) meaning at w))
    unfolding is_closed_value is_closed_term value_passes term_passes
    bound-by w pass None e = local-by w pass e (at.local (text_of w)) refl
    bound-by w pass (Some i) e = record { closed = below i (length at.bound) (if at.this_bound then 1 else 0) (bound-below (text_of w) at.bound i e); passes = refl }
      where
        below : (a b c : ℕ) → nat_lt a b ≡ true → nat_lt a (b + c) ≡ true
        below a b c h = grind (arith, nat_tests)

    -- The value of a word is fine where what it names passes.
    pub name-fine : (w : Word) → Passes q at w → Fine q (depth at) (name_value l (class_text p) meaning at w)
    name-fine w pass = bound-by w pass (bound_as (text_of w) at.bound) refl

    -- what stands behind dots
    pub dots-fine : (w : Word) → ((x : State) → state_named l at.class (text_of w) ≡ Some x → x.entry.is_defined ≡ false → q (state_name (class_text p) x) sort.Field ≡ true) → MemberFine l (class_text p) meaning q at w
    dots-fine w names a f = by (state_named l at.class (text_of w)) refl
      where
        by : (o : Option State) → state_named l at.class (text_of w) ≡ o → Fine q (depth at) (option_map_or (λ x. member_value l (class_text p) meaning x a) o (t.of_object a))
        by None e = f
        by (Some x) e = member-fine p q meaning means (depth at) x (names x e) a f
