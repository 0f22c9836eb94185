-- Tests of options in memory are those of the options that they are.
use Rattle.std.proofs.Common.{◌≡◌, refl, sym, ap, ◌∙◌, ◌||◌, ◌&&◌, not, Bool, true, false, List, [], ◌∷◌, map, Bor}
use Rattle.std.specs.List.{list_any}
use Rattle.jh_arguments.specs.Arguments.{Word, are_among, are_once, are_options, is_among, is_for, same_word}
use Rattle.jh_arguments.specs.Held.{are_among_in, are_once_in, given_in}
use Rattle.jh_arguments.specs.declared.reader.Given.{Given as HeldGiven}

any-map : {X Y : Type 0} (p : Y → Bool) (f : X → Y) (xs : List X) → list_any (λ x. p (f x)) xs ≡ list_any p (map f xs)
any-map p f [] = refl
any-map p f (x ∷ xs) = ap (λ (b : Bool). p (f x) || b) (any-map p f xs)

once-is : (gs : List HeldGiven) → are_once_in gs ≡ are_once (map given_in gs)
once-is [] = refl
once-is (g ∷ gs) = ap (λ (b : Bool). not b && are_once_in gs) (any-map (is_for g.name.now) given_in gs) ∙ ap (λ (b : Bool). not (list_any (is_for g.name.now) (map given_in gs)) && b) (once-is gs)

abbrev texts : List (Bor Word) → List Word
texts names = map {A = Bor Word} {B = Word} (λ name. name.now) names

among-is : (names : List (Bor Word)) (gs : List HeldGiven) → are_among_in names gs ≡ are_among (texts names) (map given_in gs)
among-is names [] = refl
among-is names (g ∷ gs) =
    ap (λ (b : Bool). b && are_among_in names gs) (any-map (same_word g.name.now) (λ (name : Bor Word). name.now) names)
    ∙ ap (λ (b : Bool). is_among (texts names) g.name.now && b) (among-is names gs)

pub both_so : (names : List (Bor Word)) (gs : List HeldGiven) → are_among_in names gs ≡ true → are_once_in gs ≡ are_options (texts names) (map given_in gs)
both_so names gs h = once-is gs ∙ ap (λ (b : Bool). b && are_once (map given_in gs)) (sym h ∙ among-is names gs)

pub first_not : (names : List (Bor Word)) (gs : List HeldGiven) → are_among_in names gs ≡ false → false ≡ are_options (texts names) (map given_in gs)
first_not names gs h = ap (λ (b : Bool). b && are_once (map given_in gs)) (sym h ∙ among-is names gs)
