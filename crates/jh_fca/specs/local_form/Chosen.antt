-- The hypotheses with which a local form begins. Where the goal names facts, these are the hypotheses of those names and
-- the ones that say that the state is well formed; where it names none, all.
use Rattle.std.specs.Prelude.{Bool, true, List, [], ◌∷◌, filter, codes}
use Rattle.jh_name.specs.declared.naming.Name.{Name}
use Rattle.jh_seq.specs.sequent.Sequents.{HypTree, SequentTree}
use Rattle.jh_approx.specs.definition.Links.{named_in}

-- the name of what says that the state is well formed
abbrev pub well_formed : Name
well_formed = record { text = codes "wf"; turn = 0 }

abbrev pub is_chosen : List Name → HypTree → Bool
is_chosen [] h = true
is_chosen (x ∷ from) h = named_in (well_formed ∷ x ∷ from) h.name

abbrev pub chosen : SequentTree → SequentTree
chosen s = record { method = s.method; mark = s.mark; hyps = filter (is_chosen s.mark.from) s.hyps; goal = s.goal }
