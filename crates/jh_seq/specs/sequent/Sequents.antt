-- Sequents without memory, and which are valid.
use Rattle.std.specs.Prelude.{◌≡◌, true, List, [], ◌∷◌, map, Option}
use Rattle.jh_name.specs.declared.naming.Name.{Name}
use Rattle.jh_name.specs.declared.place.MethodId.{MethodId}
use Rattle.jh_form.specs.declared.mark.Mark.{Mark}
use Rattle.jh_form.specs.Tree.{FormulaTree}
use Rattle.jh_form.specs.Bare.{formula_tree}
use Rattle.jh_form.specs.Meaning.{Interp, InUniverse, truth}
use Rattle.jh_seq.specs.declared.sequent.sequent.Hyp.{Hyp}
use Rattle.jh_seq.specs.declared.sequent.sequent.Sequent.{Sequent}

-- a hypothesis, with the name under which it is known; and a sequent, without memory
pub record HypTree : Type 0 where
  pub name : Option Name
  pub fact : FormulaTree

pub record SequentTree : Type 0 where
  pub method : MethodId
  pub mark : Mark
  pub hyps : List HypTree
  pub goal : FormulaTree

unfoldable pub hyp_tree : Hyp → HypTree
hyp_tree h = record { name = h.name; fact = formula_tree h.fact }

unfoldable pub sequent_tree : Sequent → SequentTree
sequent_tree s = record { method = s.method; mark = s.mark; hyps = map hyp_tree s.hyps; goal = formula_tree s.goal }

-- all hypotheses are true in an interpretation
abbrev pub AllTrue : List HypTree → Interp → Type 0
AllTrue [] m = Unit {0}
AllTrue (h ∷ hs) m = (truth h.fact m [] ≡ true) × AllTrue hs m

-- A sequent is valid where its goal is true in every interpretation in which its hypotheses are.
abbrev pub IsValid : SequentTree → Type 0
IsValid s = (m : Interp) → InUniverse m → AllTrue s.hyps m → truth s.goal m [] ≡ true
