-- The facts of a sequent as the instances are made of them.
use Rattle.std.proofs.Common.{◌≡◌, sym, subst, ℕ, List, [], ◌∷◌}
use Rattle.jh_form.specs.Tree.{FormulaTree}
use Rattle.jh_arena.specs.table.Entries.{Listing}
use Rattle.jh_derivation_rules.specs.jh_reach.Standing as reach
use Rattle.jh_ground_input.specs.jh_instantiation.instance_count.Grouping as counted
use Rattle.jh_seq.specs.sequent.Sequents.{SequentTree}
use Rattle.jh_inst.specs.instances.Instances.{normal_facts}
use Rattle.jh_ground_input.specs.declared.facts.Apart.{Apart}
use Rattle.jh_ground_input.specs.Standing.{IsPosed}

formulas-are : (t : Listing) (ns : List ℕ) (fs : List FormulaTree) → reach.AreFormulas t ns fs → counted.AreFormulas t ns fs
unfolding reach.AreFormulas
formulas-are t [] [] h = tt
formulas-are t [] (a ∷ fs) h = h
formulas-are t (n ∷ ns) [] h = h
formulas-are t (n ∷ ns) (a ∷ fs) h = (h.0, formulas-are t ns fs h.1)

pub facts-stand : (x : Apart) (s : SequentTree) (ns : List ℕ) → ns ≡ x.facts.items → IsPosed x s → counted.AreFormulas x.table ns (normal_facts s)
facts-stand x s ns same posed = subst (λ (ms : List ℕ). counted.AreFormulas x.table ms (normal_facts s)) (sym same) (formulas-are x.table x.facts.items (normal_facts s) posed.facts)
