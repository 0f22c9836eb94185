-- How far the making of instances is, over nodes.
use Rattle.std.specs.Prelude.{◌≡◌, ◌≤◌, ◌+◌, ◌++◌, ℕ, zero, suc, Bool, true, false, List, [], ◌∷◌, length, take}
use Rattle.std.specs.List.{list_all}
use Rattle.jh_form.specs.Tree.{TermTree}
use Rattle.jh_form.specs.Closed.{is_closed_term}
use Rattle.jh_arena.specs.table.Entries.{Listing}
use Rattle.jh_inst.specs.instances.Entries.{Entry}
use Rattle.jh_inst.specs.instances.Prenex.{in_front}
use Rattle.jh_inst.specs.instances.Rounds as rounds
use Rattle.jh_instantiation.specs.closed_terms.Listed.{AreTerms}
use Rattle.jh_instantiation.specs.skolem_constants.Standing.{IsFormula}
use Rattle.jh_instantiation.specs.instances.Standing.{IsMade}
use Rattle.jh_instantiation.specs.declared.instances.making.AtHand.{AtHand}
use Rattle.jh_instantiation.specs.declared.instances.making.Progress.{Progress}

-- A universal at hand. The terms at which it was put are the first ones of all.
pub record IsAtHand (t : Listing) (ts : List TermTree) (x : AtHand) (h : rounds.AtHand) : Type 0 where
  pub place : h.place ≡ x.place
  pub formula : IsFormula t x.node h.formula
  pub variables : x.variables ≡ in_front h.formula
  pub old : h.old ≡ take x.old ts
  pub within : x.old ≤ length ts

abbrev pub AreAtHand : Listing → List TermTree → List AtHand → List rounds.AtHand → Type 0
AreAtHand t ts [] [] = Unit {0}
AreAtHand t ts [] (h ∷ hs) = ⊥
AreAtHand t ts (x ∷ xs) [] = ⊥
AreAtHand t ts (x ∷ xs) (h ∷ hs) = IsAtHand t ts x h × AreAtHand t ts xs hs

pub record IsProgress (t : Listing) (x : Progress) (p : rounds.Progress) : Type 0 where
  pub entries : IsMade t x.entries p.entries
  pub at_hand : AreAtHand t p.terms x.at_hand.items p.at_hand
  pub terms : AreTerms t x.terms.nodes.keys p.terms
  pub closed : list_all (λ w. is_closed_term w 0) p.terms ≡ true
  pub next : p.next ≡ x.next

-- the universals that are put: those of one variable alone, or all
abbrev pub put_each_of : Bool → List rounds.AtHand → List rounds.AtHand
put_each_of true hs = rounds.of_one hs
put_each_of false hs = hs

-- with more entries that were put
abbrev pub after_puts : rounds.Progress → List Entry → rounds.Progress
after_puts p es = record { entries = p.entries ++ es; at_hand = p.at_hand; terms = p.terms; next = p.next + rounds.made_constants es }

-- a universal that was put at so many terms, the first ones of all
abbrev pub put_now : ℕ → AtHand → AtHand
put_now n x = record { place = x.place; node = x.node; variables = x.variables; old = n }

-- a list in which the one at a place was put at so many terms
abbrev pub noted_at : ℕ → List AtHand → ℕ → List AtHand
noted_at n [] i = []
noted_at n (x ∷ xs) zero = put_now n x ∷ xs
noted_at n (x ∷ xs) (suc i) = x ∷ noted_at n xs i
