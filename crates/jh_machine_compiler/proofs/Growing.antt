-- What is made stays what it is while names get numbers and formulas nodes.
use Rattle.std.proofs.Common.{◌≡◌, sym, ap, ◌∙◌, ℕ, ◌+◌, ◌<◌, Bool, List, [], ◌∷◌, ◌++◌, take, drop, length, get_or, Option, IfOk, Ok, Err}
use Rattle.std.specs.Prelude.{Result}
use Rattle.std.proofs.lemmas.List.{drop_more, take_more}
use Rattle.jh_name.specs.declared.naming.Name.{Name}
use Rattle.jh_arena.specs.table.Entries.{Listing}
use Rattle.jh_arena.specs.table.Growth.{Grows, Extends}
use Rattle.jh_arena.proofs.table.Listed.{extends-trans}
use Rattle.jh_vars.specs.Written.{Callee}
use Rattle.jh_semantics.specs.Code as c
use Rattle.jh_semantics.specs.declared.typed_code.stmts.Target.{Target}
use Rattle.jh_machine_code.specs.declared.code.destination.Destination.{Destination}
use Rattle.jh_machine_code.specs.declared.code.step.Step.{Step}
use Rattle.jh_machine_code.proofs.numbering.Standing.{grows_twice}
use Rattle.jh_machine_compiler.specs.Lasting.{IsDestination, Makes, MakesAll}

pub destination_still : {old new : List Name} {target : Target} {made : Destination} → Grows old new → IsDestination old target made → IsDestination new target made
destination_still grows goes = record { is = λ later more. goes.is later (grows_twice grows more) }

pub makes_still : {numbered : Callee → Option ℕ} {keeps : Bool} {old new : List Name} {t u : Listing} {s : c.Stmt} {made : Step} → Grows old new → Extends t u → Makes numbered keeps old t s made → Makes numbered keeps new u s made
makes_still {t = t} {u = u} grows extends makes = record { is = λ later v more much. makes.is later v (grows_twice grows more) (extends-trans t u v extends much) }

pub makes_all_still : {numbered : Callee → Option ℕ} {keeps : Bool} {old new : List Name} {t u : Listing} {ss : c.Stmts} {made : List Step} → Grows old new → Extends t u → MakesAll numbered keeps old t ss made → MakesAll numbered keeps new u ss made
makes_all_still {t = t} {u = u} grows extends makes = record { are = λ later v more much. makes.are later v (grows_twice grows more) (extends-trans t u v extends much) }

pub if-ok : {A E : Type 0} {P Q : A → Type 0} (r : Result A E) → ((x : A) → P x → Q x) → IfOk r P → IfOk r Q
if-ok (Ok x) f h = f x h
if-ok (Err e) f h = tt

-- lists, an item at a time
pub take-next : {X : Type 0} (xs : List X) (i : ℕ) (x : X) → i < length xs → x ≡ get_or xs i x → take (i + 1) xs ≡ take i xs ++ x ∷ []
take-next xs i x lt is = take_more xs i x lt ∙ ap (λ z. take i xs ++ z ∷ []) (sym is)

pub left-at : {X : Type 0} (xs : List X) (i : ℕ) (x : X) → i < length xs → x ≡ get_or xs i x → drop i xs ≡ x ∷ drop (i + 1) xs
left-at xs i x lt is = drop_more xs i x lt ∙ ap (λ z. z ∷ drop (i + 1) xs) (sym is)
