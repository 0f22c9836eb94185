-- The facts of a state, those of locals apart.
use Rattle.std.specs.Prelude.{ℕ, Option, List, [], ◌∷◌, ◌++◌}
use Rattle.std.specs.List.{flat_map}
use Rattle.jh_form.specs.Tree.{FormulaTree}
use Rattle.jh_form.specs.Tree as t
use Rattle.jh_semantics.specs.Code.{Text, Local}
use Rattle.jh_semantics.specs.Program.{Member}
use Rattle.jh_semantics.specs.WellFormed.{alloc, all_classes, union_of, apart, static_facts, local_facts, this_facts, field_facts, default_facts}

-- of the sets of objects
abbrev pub set_facts : List Text → List FormulaTree
set_facts classes = (t.eq_set alloc (union_of (all_classes classes)) ∷ []) ++ apart (all_classes classes) ++ (t.negation (t.member t.null alloc) ∷ [])

-- before the facts of locals, and behind them
abbrev pub head_facts : List Text → List Member → List FormulaTree
head_facts classes members = set_facts classes ++ flat_map (static_facts classes) members

abbrev pub tail_facts : List Text → List Member → List FormulaTree
tail_facts classes members = flat_map (field_facts classes) members ++ flat_map default_facts members

-- with those of locals and of `this` between them
abbrev pub formed_facts : List Text → List Member → List Local → Option ℕ → List FormulaTree
formed_facts classes members scope this = head_facts classes members ++ flat_map (local_facts classes) scope ++ this_facts classes this ++ tail_facts classes members
