-- What is true of plain formulas.
use Rattle.std.specs.Prelude.{◌≡◌, ℕ, Bool, true, List}
use Rattle.std.specs.List.{list_all}
use Rattle.jh_form.specs.Tree.{FormulaTree}
use Rattle.jh_boxed_operations.specs.comparison.Unmarked.{unmarked_formula}
use Rattle.jh_normal_forms.specs.negation_normal_form.Normal.{normal}
use Rattle.jh_inst.specs.instances.Entries.{formulas}
use Rattle.jh_inst.specs.instances.Rounds.{all_made}
use Rattle.jh_inst.specs.instances.Instances.{instances_of}
use Rattle.jh_inst.specs.plain_formulas.Plain.{is_plain, are_literals}

-- The negation normal form of a formula without its labels is plain, and so is that of its negation.
abbrev pub NormalIsPlain : Type 0
NormalIsPlain = (a : FormulaTree) (s : Bool) → is_plain (normal (unmarked_formula a) s) ≡ true

-- Where all facts are plain, all that is made of them is.
abbrev pub EntriesArePlain : Type 0
EntriesArePlain = (facts : List FormulaTree) (k r : ℕ) → list_all is_plain facts ≡ true → list_all is_plain (formulas (all_made facts k r)) ≡ true

-- Then each instance is And and Or over atoms and negated atoms: it has no quantifier, no label, no implication and no equivalence.
abbrev pub InstancesAreLiterals : Type 0
InstancesAreLiterals = (facts : List FormulaTree) (k r : ℕ) → list_all is_plain facts ≡ true → list_all are_literals (instances_of (all_made facts k r)) ≡ true
