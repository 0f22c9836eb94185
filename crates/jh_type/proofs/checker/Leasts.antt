-- Least faults of lists in parts.
use Rattle.std.proofs.Common.{◌≡◌, refl, sym, ap, ◌∙◌, List, [], ◌∷◌, ◌++◌, map, Option}
use Rattle.std.specs.List.{flat_map}
use Rattle.jh_rules.specs.declared.fault.Fault.{Fault}
use Rattle.jh_rules.specs.declared.found.Found.{Found}
use Rattle.jh_rules.specs.Faults.{Judged}
use Rattle.jh_rules.specs.Found.{Finds, least, lesser}
use Rattle.jh_rules.proofs.Judgements.{least-append}

-- a list in two parts
pub least-two : (xs ys : List Fault) (a b o : Option Fault) → a ≡ least xs → b ≡ least ys → o ≡ lesser a b → o ≡ least (xs ++ ys)
least-two xs ys a b o e f g = g ∙ (λ i. lesser (e i) (f i)) ∙ sym (least-append xs ys)

pub least-of : {T : Type 0} (j : Judged T) (u : Found T) → Finds u j → u.least ≡ least j.faults
least-of j u h = h.least_is

pub flat-mapped : {A B C : Type 0} (f : B → List C) (t : A → B) (xs : List A) → flat_map f (map t xs) ≡ flat_map (λ a. f (t a)) xs
flat-mapped f t [] = refl
flat-mapped f t (x ∷ xs) = ap (λ ys. f (t x) ++ ys) (flat-mapped f t xs)

pub append-none : {A : Type 0} (xs : List A) → xs ++ [] ≡ xs
append-none [] = refl
append-none (x ∷ xs) = ap (λ ys. x ∷ ys) (append-none xs)

pub ruleset least_steps = (least-two, least-of)
