-- What holds of what is read, where things are read one after another.
use Rattle.std.proofs.Common.{◌≡◌, ℕ, List, ◌+◌, Bool, true, false, refl, ap, subst, ◌∙◌}
use Rattle.std.proofs.lemmas.Option.{none-some}
use Rattle.std.specs.Prelude.{Option, None, Some}
use Rattle.std.specs.Option.{option_map_or}
use Rattle.jh_lex.specs.declared.lexer.symbol.Symbol.{Symbol}
use Rattle.jh_lex.specs.declared.lexer.token.Token.{Token}
use Rattle.jh_operators.specs.lookahead.Choices.{and_then, choose, given}
use Rattle.jh_operators.specs.lookahead.Standing.{Is, is_at, behind}

-- what is read, if anything, is so
pub data Holds {A : Type 0} (P : A → Type 0) : Option A → Type 0 where
  nothing : Holds P None
  found : {x : A} → P x → Holds P (Some x)

pub then_holds : {A B : Type 0} {o : Option A} {f : A → Option B} {P : A → Type 0} {Q : B → Type 0} → Holds P o → ((x : A) → P x → Holds Q (f x)) → Holds Q (and_then o f)
unfolding and_then
then_holds nothing go = nothing
then_holds (found p) go = go _ p

pub then_found : {A B : Type 0} {o : Option A} {f : A → Option B} {Q : B → Type 0} → ((x : A) → o ≡ Some x → Holds Q (f x)) → Holds Q (and_then o f)
unfolding and_then
then_found {o = None} go = nothing
then_found {o = Some x} go = go x refl

pub choose_holds : {A : Type 0} {b : Bool} {x y : Option A} {Q : A → Type 0} → (b ≡ true → Holds Q x) → (b ≡ false → Holds Q y) → Holds Q (choose b x y)
unfolding choose
choose_holds {b = true} on off = on refl
choose_holds {b = false} on off = off refl

pub given_holds : {A B : Type 0} {o : Option A} {f : A → Option B} {y : Option B} {Q : B → Type 0} → ((x : A) → o ≡ Some x → Holds Q (f x)) → (o ≡ None → Holds Q y) → Holds Q (given o f y)
unfolding given
given_holds {o = None} on off = off refl
given_holds {o = Some x} on off = on x refl

-- a symbol that has to stand there, and what is read after it
pub behind_holds : {B : Type 0} (ts : List Token) (i : ℕ) (s : Symbol) (f : ℕ → Option B) (Q : B → Type 0) → (Is ts i s → Holds Q (f (i + 1))) → Holds Q (and_then (behind ts i s) f)
unfolding and_then choose behind
behind_holds ts i s f Q go = by_test (is_at ts i s) refl where
  by_test : (b : Bool) → is_at ts i s ≡ b → Holds Q (and_then (choose b (Some (i + 1)) None) f)
  by_test true e = go e
  by_test false e = nothing

-- likewise, as the last thing
pub last_holds : (ts : List Token) (i : ℕ) (s : Symbol) (Q : ℕ → Type 0) → (Is ts i s → Q (i + 1)) → Holds Q (behind ts i s)
unfolding behind
last_holds ts i s Q go = choose_holds (λ e. found (go e)) (λ e. nothing)

-- of two things that are there each is the other
pub some_one : {A : Type 0} {a b : A} → Some a ≡ Some b → a ≡ b
some_one {a = a} e = ap (λ o. option_map_or (λ x. x) o a) e

-- what holds of what was found
pub of_found : {A : Type 0} {P : A → Type 0} {o : Option A} → Holds P o → (x : A) → o ≡ Some x → P x
of_found nothing x e = absurd (none-some x e)
of_found {P = P} (found {x = y} p) x e = subst P (some_one e) p

-- what is read step by step, and which of two is read
pub then_is : {A B : Type 0} {o : Option A} {x : A} (f : A → Option B) {r : Option B} → o ≡ Some x → f x ≡ r → and_then o f ≡ r
unfolding and_then
then_is f e h = ap (λ o. and_then o f) e ∙ h

pub choose_on : {A : Type 0} {b : Bool} {x : A} (y : A) {r : A} → b ≡ true → x ≡ r → choose b x y ≡ r
unfolding choose
choose_on {x = x} y e h = ap (λ b. choose b x y) e ∙ h

pub choose_off : {A : Type 0} {b : Bool} (x : A) {y : A} {r : A} → b ≡ false → y ≡ r → choose b x y ≡ r
unfolding choose
choose_off x {y = y} e h = ap (λ b. choose b x y) e ∙ h

pub given_on : {A B : Type 0} {o : Option A} {x : A} (f : A → B) (y : B) {r : B} → o ≡ Some x → f x ≡ r → given o f y ≡ r
unfolding given
given_on f y e h = ap (λ o. given o f y) e ∙ h

pub given_off : {A B : Type 0} {o : Option A} (f : A → B) {y : B} {r : B} → o ≡ None → y ≡ r → given o f y ≡ r
unfolding given
given_off f {y = y} e h = ap (λ o. given o f y) e ∙ h

pub behind_on : (ts : List Token) (i : ℕ) (s : Symbol) → Is ts i s → behind ts i s ≡ Some (i + 1)
unfolding behind
behind_on ts i s e = choose_on _ e refl
