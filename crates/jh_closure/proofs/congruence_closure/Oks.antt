-- What several clauses give where the answer is Ok.
use Rattle.std.proofs.Common.{◌≡◌, false, Result, Ok, Err, OnOk, is_err}
use Rattle.std.proofs.lemmas.Bool.{true≢false}

pub on-ok : {A E P : Type 0} (r : Result A E) → P → OnOk r P
on-ok (Ok x) p = p
on-ok (Err e) p = tt

pub on-ok-then : {A E P Q : Type 0} (r : Result A E) → (P → Q) → OnOk r P → OnOk r Q
on-ok-then (Ok x) f p = f p
on-ok-then (Err e) f p = tt

pub on-ok-three : {A E P Q R T : Type 0} (r : Result A E) → (P → Q → R → T) → OnOk r P → OnOk r Q → OnOk r R → OnOk r T
on-ok-three (Ok x) f p q s = f p q s
on-ok-three (Err e) f p q s = tt

pub on-ok-four : {A E P Q R S T : Type 0} (r : Result A E) → (P → Q → R → S → T) → OnOk r P → OnOk r Q → OnOk r R → OnOk r S → OnOk r T
on-ok-four (Ok x) f p q s t = f p q s t
on-ok-four (Err e) f p q s t = tt

-- what is so of Ok, where it is no error
pub ok-of : {A E P : Type 0} (r : Result A E) → is_err r ≡ false → OnOk r P → P
ok-of (Ok x) e p = p
ok-of (Err x) e p = absurd (true≢false e)
