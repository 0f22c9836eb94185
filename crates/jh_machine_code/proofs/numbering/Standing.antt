-- What stands for code, while names are added.
use Rattle.std.proofs.Common.{◌≡◌, ap, subst, sym, ◌∙◌, ℕ, List, [], Some, slice_get}
use Rattle.std.specs.Option.{option_map_or}
use Rattle.std.specs.declared.alloc.Global.{Global}
use Rattle.std.specs.declared.boxed.Box.{Box}
use Rattle.jh_name.specs.declared.naming.Name.{Name}
use Rattle.jh_semantics.specs.Code.{Text}
use Rattle.jh_semantics.specs.State.{named}
use Rattle.jh_operands.specs.Exprs.{text_at}
use Rattle.jh_arena.specs.table.Growth.{Grows}
use Rattle.jh_machine_code.specs.numbering.Numbered.{Stands, IsText}

pub grows_same : {names : List Name} → Grows names names
grows_same = record { keeps = λ n x at. at }

pub grows_twice : {old middle new : List Name} → Grows old middle → Grows middle new → Grows old new
grows_twice first second = record { keeps = λ n x at. second.keeps n x (first.keeps n x at) }

-- what stands for a code stands for it while names are added
pub stands_still : {E C : Type 0} {denotes : List Name → E → C} {Fits : List Name → E → Type 0} {old new : List Name} {made : E} {code : C} → Grows old new → Stands denotes Fits old made code → Stands denotes Fits new made code
stands_still grows stands = record {
  same = λ later more. stands.same later (grows_twice grows more);
  fits = λ later more. stands.fits later (grows_twice grows more);
}

pub keeps_names : {old new : List Name} → ((n : ℕ) (x : Name) → slice_get old n ≡ Some x → slice_get new n ≡ Some x) → Grows old new
keeps_names keeps = record { keeps = keeps }

-- what stands in boxes stands for what stood in boxes
pub boxed : {E C D : Type 0} {denotes : List Name → E → D} {Fits : List Name → E → Type 0} (code_of : C → D) {names : List Name} {code : C} (source : Box C Global) {made : E} (box : Box E Global) → code ≡ source.value → box.value ≡ made → Stands denotes Fits names made (code_of code) → Stands denotes Fits names box.value (code_of source.value)
boxed {denotes = denotes} {Fits = Fits} code_of {names} source {made} box at there stands =
    subst (λ e. Stands denotes Fits names e (code_of source.value)) (sym there) (subst (λ c. Stands denotes Fits names made (code_of c)) at stands)

-- a number of a name at turn 0 is that of its text
pub number_stands : {names : List Name} {k : ℕ} {text : Text} → slice_get names k ≡ Some (named text) → IsText names text k
number_stands {names} {k} {text} at = record {
  same = λ later more. there later more;
  fits = λ later more. more.keeps k (named text) at ∙ ap (λ u. Some (named u)) (sym (there later more));
}
  where
    there : (later : List Name) → Grows names later → text_at later k ≡ text
    there later more = ap (λ o. option_map_or (λ (y : Name). y.text) o []) (more.keeps k (named text) at)

pub ruleset text_steps = (keeps_names, number_stands)
