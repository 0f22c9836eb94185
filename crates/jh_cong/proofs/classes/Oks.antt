-- What follows where a call answers Ok.
use Rattle.std.proofs.Common.{◌≡◌, sym, ap, ◌∙◌, ℕ, List, [], Result, Ok, Err, Option, Some, None}
use Rattle.std.specs.Prelude.{IfOk, IfSome, IfNone, OnOk}
use Rattle.jh_cong.specs.declared.classes.literal.CongError.{CongError}
use Rattle.jh_cong.specs.declared.classes.literal.CongError.TheVariants as error

pub if-ok : {X E : Type 0} {P Q : X → Type 0} (r : Result X E) → ((x : X) → P x → Q x) → IfOk r P → IfOk r Q
if-ok (Ok x) w h = w x h
if-ok (Err e) w h = tt

pub on-ok : {A E P Q : Type 0} (r : Result A E) → (P → Q) → OnOk r P → OnOk r Q
on-ok (Ok x) f p = f p
on-ok (Err e) f p = tt

pub some-found : {X : Type 0} {P Q : X → Type 0} (o : Option X) → ((x : X) → P x → Q x) → IfSome o P → IfSome o Q
some-found (Some x) w h = w x h
some-found None w h = tt

pub none-found : {X P Q : Type 0} (o : Option X) → (P → Q) → IfNone o P → IfNone o Q
none-found (Some x) w h = tt
none-found None w h = w h

-- what is found where the answer is Ok
pub if-found : {X E : Type 0} {P Q : X → Type 0} (r : Result (Option X) E) → ((x : X) → P x → Q x) → IfOk r (λ o. IfSome o P) → IfOk r (λ o. IfSome o Q)
if-found r w h = if-ok r (λ o g. some-found o w g) h

pub if-none : {X E P Q : Type 0} (r : Result (Option X) E) → (P → Q) → IfOk r (λ o. IfNone o P) → IfOk r (λ o. IfNone o Q)
if-none r w h = if-ok r (λ o g. none-found o w g) h

pub on-ok-always : {A E Q : Type 0} (r : Result A E) → Q → OnOk r Q
on-ok-always (Ok x) q = q
on-ok-always (Err e) q = tt

abbrev listed_of : Result (Unit {0}) CongError → List ℕ
listed_of (Ok x) = []
listed_of (Err (error.Conflict ks)) = ks
listed_of (Err error.Memory) = []

-- a conflict lists one list
pub one-conflict : (r : Result (Unit {0}) CongError) (a b : List ℕ) → r ≡ Err (error.Conflict a) → r ≡ Err (error.Conflict b) → a ≡ b
one-conflict r a b e f = ap listed_of (sym e ∙ f)
