-- Literals among others.
use Rattle.std.proofs.Common.{subst, List, [], ◌∷◌, inl, inr}
use Rattle.jh_closure.specs.structures.Structures.{Structure}
use Rattle.jh_closure.specs.structures.Literals.{LiteralTree, MeetsOne, Meets, IsListed, AreListed, NotMet}

pub meets-listed : {O N T S F : Type 0} (s : Structure O N T S F) (ks : List LiteralTree) (l : LiteralTree) → IsListed ks l → Meets s ks → MeetsOne s l.holds l.atom
meets-listed s [] l h met = absurd h
meets-listed s (k ∷ ks) l (inl e) met = subst (λ (z : LiteralTree). MeetsOne s z.holds z.atom) e met.0
meets-listed s (k ∷ ks) l (inr later) met = meets-listed s ks l later met.1

pub meets-all : {O N T S F : Type 0} (s : Structure O N T S F) (ks ls : List LiteralTree) → AreListed ks ls → Meets s ks → Meets s ls
meets-all s ks [] h met = tt
meets-all s ks (l ∷ ls) h met = (meets-listed s ks l h.0 met, meets-all s ks ls h.1 met)

pub more-not-met : (ls ks : List LiteralTree) → AreListed ks ls → NotMet ls → NotMet ks
more-not-met ls ks h unmet s met = unmet s (meets-all s ks ls h met)
