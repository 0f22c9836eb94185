-- What the names of a contract say at a call: each says where the command stands what it says where the contract stands.
use Rattle.std.proofs.Common.{◌≡◌, refl, sym, ◌∙◌, subst, ℕ, zero, suc, ◌≤◌, ◌==◌, Bool, true, false, not, ◌&&◌, ◌||◌, if◌then◌else◌, List, [], ◌∷◌, arith}
use Rattle.std.specs.Prelude.{is_some}
use Rattle.std.proofs.lemmas.Bool.{true≢false}
use Rattle.std.proofs.lemmas.Bool.Decides.{nat_tests}
use Rattle.jh_name.specs.declared.naming.Name.{Name}
use Rattle.jh_name.specs.declared.place.Sort.{Sort}
use Rattle.jh_name.specs.declared.place.Sort.TheVariants as sort
use Rattle.jh_form.specs.Sorts.{same_sort}
use Rattle.jh_form.proofs.ClosedLemmas.{both-left, both-right}
use Rattle.jh_form.specs.Meaning.{Interp, Datum}
use Rattle.jh_rules.specs.Words.{same_text}
use Rattle.jh_rules.specs.Kinds.{kind_of, is_void}
use Rattle.jh_vars.specs.state_names.States.{sort_of}
use Rattle.jh_semantics.specs.Code.{Text, Local}
use Rattle.jh_semantics.specs.Program.{Program, Method}
use Rattle.jh_semantics.specs.State.{State, named, this_name, result_name, shown}
use Rattle.jh_semantics.specs.Locals.{with_args}
use Rattle.jh_guard.specs.Steps.{fresh}
use Rattle.jh_guard.specs.Calls.{CallTurns, at_call, argument_name, this_text, result_text}
use Rattle.jh_logic.specs.logic.MethodContracts.{is_state, is_param, is_plain, names_now, speaks_before, speaks_after, speaks_of_state}
use Rattle.jh_logic.specs.logic.Histories.{viewed, Gives}
use Rattle.jh_logic.proofs.logic.Views.{viewed-fresh}
use Rattle.jh_logic.proofs.logic.Histories.{gives-then}
use Rattle.jh_logic.proofs.logic.Renamings.{GivesAt, gives-at}
use Rattle.jh_logic.proofs.logic.StateNames.{sorts-equal, texts-equal}
use Rattle.jh_logic.proofs.logic.Passings.{KnowsArgs, argument-none}

-- a view says of the state now what the state says
pub viewed-now : (a : Sort) (s o g : Interp) (y : Text) → GivesAt a (viewed s o g) (named y) s (named y)
viewed-now sort.Obj s o g y = refl
viewed-now sort.Int s o g y = refl
viewed-now sort.Bool s o g y = refl
viewed-now sort.Set s o g y = refl
viewed-now sort.Field s o g y = refl

pub shown-now : (a : Sort) (v : Interp) (z : Name) (s o : State) (y : Text) → GivesAt a v z s (named y) → GivesAt a v z (shown s o) (record { text = y; turn = 0 })
shown-now sort.Obj v z s o y h = h
shown-now sort.Int v z s o y h = h
shown-now sort.Bool v z s o y h = h
shown-now sort.Set v z s o y h = h
shown-now sort.Field v z s o y h = h

pub shown-old : (a : Sort) (v : Interp) (z : Name) (s o : State) (y : Text) → GivesAt a v z o (named y) → GivesAt a v z (shown s o) (record { text = y; turn = 1 })
shown-old sort.Obj v z s o y h = h
shown-old sort.Int v z s o y h = h
shown-old sort.Bool v z s o y h = h
shown-old sort.Set v z s o y h = h
shown-old sort.Field v z s o y h = h

pub args-viewed : (xs : List Local) (ds : List Datum) (k : ℕ) (u : State) (s o g : Interp) → 2 ≤ k → KnowsArgs xs ds k u g → KnowsArgs xs ds k u (viewed s o g)
args-viewed [] ds k u s o g le h = tt
args-viewed (x ∷ xs) [] k u s o g le h = tt
args-viewed (x ∷ xs) (d ∷ ds) k u s o g le h = (
  gives-then (viewed s o g) g (with_args (x ∷ xs) (d ∷ ds) u) (fresh x.text k) (fresh x.text k) (named x.text) (viewed-fresh s o g (fresh x.text k) le) h.0,
  args-viewed xs ds (suc k) u s o g (omega (arith, le)) h.1,
)

no-late : (i : ℕ) (b : Bool) → (suc i == 0 && b) ≡ true → ⊥
no-late i b h = absurd (true≢false (sym (both-left (suc i == 0) b h) ∙ later i))
  where
    later : (i : ℕ) → (suc i == 0) ≡ false
    later i = grind (arith, nat_tests)

module _ (p : Program) (x : Method) (turns : CallTurns) (written : Text → Bool) (returned : Bool) (v w : Interp)
    (of_this : is_some x.this ≡ true → v.object (fresh this_text turns.receiver) ≡ w.object this_name)
    (of_result : returned ≡ true → is_void x.result ≡ false → Gives v (fresh result_text turns.result) w result_name)
    (of_param : (y : Text) (a : Sort) → is_param x.params y ≡ true → same_text y result_text ≡ false → is_plain a ≡ true → GivesAt a v (argument_name x.params turns.args y) w (named y))
    (of_state : (y : Text) (a : Sort) → is_state p y a ≡ true → same_text y result_text ≡ false → GivesAt a v (named y) w (named y)) where
  -- a name without `old`
  pub now-gives : (y : Text) (a : Sort) → names_now p x returned y a ≡ true → GivesAt a v (at_call turns x.params written (named y)) w (named y)
  now-gives y a h = from (same_text y this_text) (same_text y result_text) (is_param x.params y) refl refl refl h
    where
      this-at : (a : Sort) → (is_some x.this && same_sort a sort.Obj) ≡ true → y ≡ this_text → GivesAt a v (fresh this_text turns.receiver) w (named y)
      this-at a e is = subst (λ (b : Sort). GivesAt b v (fresh this_text turns.receiver) w (named y)) (sym (sorts-equal a sort.Obj (both-right (is_some x.this) (same_sort a sort.Obj) e)))
          (subst (λ (z : Text). v.object (fresh this_text turns.receiver) ≡ w.object (named z)) (sym is) (of_this (both-left (is_some x.this) (same_sort a sort.Obj) e)))

      not-void : (b d : Bool) → (not b && d) ≡ true → b ≡ false
      not-void true d e = absurd (true≢false (sym e))
      not-void false d e = refl

      result-at : (returned && (not (is_void x.result) && same_sort a (sort_of (kind_of x.result)))) ≡ true → y ≡ result_text → GivesAt a v (fresh result_text turns.result) w (named y)
      result-at e is =
          subst (λ (z : Text). GivesAt a v (fresh result_text turns.result) w (named z)) (sym is)
          (gives-at a v (fresh result_text turns.result) w result_name
          (of_result (both-left returned (not (is_void x.result) && same_sort a (sort_of (kind_of x.result))) e)
          (not-void (is_void x.result) (same_sort a (sort_of (kind_of x.result))) (both-right returned (not (is_void x.result) && same_sort a (sort_of (kind_of x.result))) e))))

      from : (b1 b2 b3 : Bool) → same_text y this_text ≡ b1 → same_text y result_text ≡ b2 → is_param x.params y ≡ b3 →
          (if b1 then is_some x.this && same_sort a sort.Obj else if b2 then returned && (not (is_void x.result) && same_sort a (sort_of (kind_of x.result))) else if b3 then is_plain a else is_state p y a) ≡ true →
          GivesAt a v (if b1 then fresh this_text turns.receiver else if b2 then fresh result_text turns.result else argument_name x.params turns.args y) w (named y)
      from true b2 b3 e1 e2 e3 h = this-at a h (texts-equal y this_text e1)
      from false true b3 e1 e2 e3 h = result-at h (texts-equal y result_text e2)
      from false false true e1 e2 e3 h = of_param y a e3 e2 h
      from false false false e1 e2 e3 h = subst (λ (z : Name). GivesAt a v z w (named y)) (sym (argument-none x.params turns.args y e3)) (of_state y a h e2)

-- the names of `requires`
pub before-gives : (p : Program) (x : Method) (turns : CallTurns) (written : Text → Bool) (v : Interp) (now old : State) →
    ((y : Text) (a : Sort) → names_now p x false y a ≡ true → GivesAt a v (at_call turns x.params written (named y)) now (named y)) →
    (z : Name) (a : Sort) → speaks_before p x z a ≡ true → GivesAt a v (at_call turns x.params written z) (shown now old) z
before-gives p x turns written v now old of_now z a h = from z.turn z.text h
  where
    from : (i : ℕ) (y : Text) → (i == 0 && names_now p x false y a) ≡ true → GivesAt a v (at_call turns x.params written (record { text = y; turn = i })) (shown now old) (record { text = y; turn = i })
    from zero y h = shown-now a v (at_call turns x.params written (named y)) now old y (of_now y a (both-right (zero == 0) (names_now p x false y a) h))
    from (suc i) y h = absurd (no-late i (names_now p x false y a) h)

-- the names of `ensures`
pub after-gives : (p : Program) (x : Method) (turns : CallTurns) (written : Text → Bool) (v : Interp) (now old : State) →
    ((y : Text) (a : Sort) → names_now p x true y a ≡ true → GivesAt a v (at_call turns x.params written (named y)) now (named y)) →
    ((y : Text) (a : Sort) → is_state p y a ≡ true → GivesAt a v (if written y then fresh y turns.copies else named y) old (named y)) →
    (z : Name) (a : Sort) → speaks_after p x z a ≡ true → GivesAt a v (at_call turns x.params written z) (shown now old) z
after-gives p x turns written v now old of_now of_old z a h = from z.turn z.text h
  where
    or-false : (b d : Bool) → b ≡ false → (b || d) ≡ true → d ≡ true
    or-false true d e h = absurd (true≢false e)
    or-false false d e h = h

    no-one : (b d : Bool) → ((b && d) || false) ≡ true → d ≡ true
    no-one true true h = refl
    no-one true false h = h
    no-one false d h = absurd (true≢false (sym h))

    no-zero : (b d : Bool) → (false || (b && d)) ≡ true → d ≡ true
    no-zero true d h = h
    no-zero false d h = absurd (true≢false (sym h))

    later : (i : ℕ) (b d : Bool) → ((suc (suc i) == 0 && b) || (suc (suc i) == 1 && d)) ≡ true → ⊥
    later i b d h = true≢false (sym h ∙ (λ j. (not-zero i j && b) || (not-one i j && d)))
      where
        not-zero : (i : ℕ) → (suc (suc i) == 0) ≡ false
        not-zero i = grind (arith, nat_tests)

        not-one : (i : ℕ) → (suc (suc i) == 1) ≡ false
        not-one i = grind (arith, nat_tests)

    from : (i : ℕ) (y : Text) → ((i == 0 && names_now p x true y a) || (i == 1 && is_state p y a)) ≡ true →
        GivesAt a v (at_call turns x.params written (record { text = y; turn = i })) (shown now old) (record { text = y; turn = i })
    from zero y h = shown-now a v (at_call turns x.params written (named y)) now old y (of_now y a (no-one true (names_now p x true y a) h))
    from (suc zero) y h = shown-old a v (if written y then fresh y turns.copies else named y) now old y (of_old y a (no-zero true (is_state p y a) h))
    from (suc (suc i)) y h = absurd (later i (names_now p x true y a) (is_state p y a) h)

-- the names of an invariant
pub state-gives : (p : Program) (v : Interp) (now old : State) → ((y : Text) (a : Sort) → is_state p y a ≡ true → GivesAt a v (named y) now (named y)) →
    (z : Name) (a : Sort) → speaks_of_state p z a ≡ true → GivesAt a v z (shown now old) z
state-gives p v now old of_state z a h = from z.turn z.text h
  where
    from : (i : ℕ) (y : Text) → (i == 0 && is_state p y a) ≡ true → GivesAt a v (record { text = y; turn = i }) (shown now old) (record { text = y; turn = i })
    from zero y h = shown-now a v (named y) now old y (of_state y a (both-right (zero == 0) (is_state p y a) h))
    from (suc i) y h = absurd (no-late i (is_state p y a) h)
