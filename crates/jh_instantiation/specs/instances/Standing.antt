-- Entries whose formulas and terms are nodes of a table.
use Rattle.std.specs.Prelude.{◌≡◌, ℕ, suc, List, [], ◌∷◌, Some, length, slice_get}
use Rattle.jh_form.specs.Tree.{TermTree}
use Rattle.jh_arena.specs.table.Entries.{Listing}
use Rattle.jh_instantiation.specs.skolem_constants.Standing.{IsFormula, IsTerm}
use Rattle.jh_inst.specs.instances.Witnesses.{constants_from}
use Rattle.jh_inst.specs.instances.Entries.{Source, of_fact, of_entry, Entry}
use Rattle.jh_instantiation.specs.declared.instances.entry.Origin.{Origin}
use Rattle.jh_instantiation.specs.declared.instances.entry.Origin.TheVariants as origin
use Rattle.jh_instantiation.specs.declared.instances.entry.NodeEntry.{NodeEntry}
use Rattle.jh_instantiation.specs.declared.instances.entry.NodeEntries.{NodeEntries}

-- the source of an entry
abbrev pub source_of : Origin → Source
source_of (origin.Fact n) = of_fact n
source_of (origin.Entry n) = of_entry n

-- the terms stand in a list of nodes from a place on
abbrev pub AreTermsAt : Listing → List ℕ → ℕ → List TermTree → Type 0
AreTermsAt t pool i [] = Unit {0}
AreTermsAt t pool i (w ∷ ws) = (n : ℕ) × (slice_get pool i ≡ Some n) × IsTerm t n w × AreTermsAt t pool (suc i) ws

-- The node of the formula, the source, the terms, which stand in a list of nodes, and the constants of an entry.
pub record IsEntry (t : Listing) (pool : List ℕ) (x : NodeEntry) (e : Entry) : Type 0 where
  pub formula : IsFormula t x.formula e.formula
  pub source : e.source ≡ source_of x.source
  pub counted : x.variables ≡ length e.terms
  pub terms : AreTermsAt t pool x.terms e.terms
  pub fresh : e.fresh ≡ constants_from x.first x.fresh

abbrev pub AreEntries : Listing → List ℕ → List NodeEntry → List Entry → Type 0
AreEntries t pool [] [] = Unit {0}
AreEntries t pool [] (e ∷ es) = ⊥
AreEntries t pool (x ∷ xs) [] = ⊥
AreEntries t pool (x ∷ xs) (e ∷ es) = IsEntry t pool x e × AreEntries t pool xs es

-- The list stands for these entries, one by one.
abbrev pub IsMade : Listing → NodeEntries → List Entry → Type 0
IsMade t x es = AreEntries t x.terms.items x.items.items es
