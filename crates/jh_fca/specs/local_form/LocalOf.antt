-- The local form of a sequent: what the local prover decides in its place. Where the local form is valid, so is the sequent.
use Rattle.std.specs.Prelude.{ℕ, List}
use Rattle.jh_form.specs.Tree.{ValueTree}
use Rattle.jh_seq.specs.sequent.Sequents.{SequentTree}
use Rattle.jh_normal_forms.specs.declared.rebuilding.polarity.Polarity.TheVariants as pol
use Rattle.jh_fca.specs.local_form.Each.{over_each, with_facts, formulas}
use Rattle.jh_fca.specs.local_form.Chosen.{chosen}
use Rattle.jh_normal_forms.specs.idle_updates.Dropped.{dropped}
use Rattle.jh_fca.specs.local_form.Named.{first_turn, updates, named, update_facts}
use Rattle.jh_normal_forms.specs.set_opening.SetsOpened.{sets_opened}
use Rattle.jh_fca.specs.cutting.Cut.{cut}
use Rattle.jh_fca.specs.elimination.Eliminated.{eliminate}
use Rattle.jh_fca.specs.local_form.Chains.{changes, reach_axioms}

-- the hypotheses that are chosen and the goal, without updates that change nothing
abbrev pub begun : SequentTree → SequentTree
begun s = over_each dropped dropped (chosen s)

-- each update of a list by its name, from turn k on, and what the names stand for
abbrev pub with_names : List ValueTree → ℕ → SequentTree → SequentTree
with_names us k s = with_facts (update_facts us k) (over_each (named us k) (named us k) s)

-- sets opened, and what has no local form cut
abbrev pub cut_down : SequentTree → SequentTree
cut_down s = over_each (λ a. cut (sets_opened a) pol.Negative) (λ a. cut (sets_opened a) pol.Positive) s

-- the axioms of reachability behind all hypotheses
abbrev pub with_axioms : List ValueTree → ℕ → SequentTree → SequentTree
with_axioms us k s = with_facts (reach_axioms (formulas s) (changes us k)) s

abbrev pub local_with : List ValueTree → ℕ → SequentTree → SequentTree
local_with us k s = with_axioms us k (eliminate (cut_down (with_names us k s)))

-- In this order: hypotheses are chosen, updates named, sets opened, what has no local form cut, derived fields eliminated, axioms
-- added. The names have
-- turns beyond those of all names that stand in the chosen hypotheses and the goal.
unfoldable pub local_of : SequentTree → SequentTree
local_of s = local_with (updates (formulas (begun s))) (first_turn (formulas (chosen s))) (begun s)
