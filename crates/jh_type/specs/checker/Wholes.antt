-- The faults of classes, part by part.
use Rattle.std.specs.Prelude.{ℕ, ◌+◌, Bool, List, [], ◌∷◌, ◌++◌, Option}
use Rattle.std.specs.List.{flat_map}
use Rattle.std.specs.Option.{option_map_or}
use Rattle.jh_ast.specs.declared.word.Word.{Word}
use Rattle.jh_ast.specs.Forms.{LabelledPart}
use Rattle.jh_ast.specs.Programs.{ClassPart}
use Rattle.jh_rules.specs.declared.fault.Fault.{Fault}
use Rattle.jh_rules.specs.Found.{least, lesser}
use Rattle.jh_rules.specs.Names.{Declared, member_word, members_of}
use Rattle.jh_rules.specs.Rules.{rule_2, rule_3, rule_6_member}
use Rattle.jh_rules.specs.Statements.{field_faults, var_faults, def_faults, method_faults}
use Rattle.jh_type.specs.checker.Parts.{class_name_faults, invariant_faults}

abbrev pub member_names : ClassPart → List Fault
member_names c = flat_map (λ x. rule_2 c (member_word x) ++ rule_6_member (member_word x)) (members_of c)

abbrev pub label_words : LabelledPart → List Word
label_words x = option_map_or (λ w. w ∷ []) x.label []

abbrev pub label_names : List LabelledPart → List Fault
label_names is = flat_map (rule_3 (flat_map label_words is)) (flat_map label_words is)

abbrev pub all_defs : Declared → ℕ → ClassPart → List Fault
all_defs l n c = flat_map (def_faults l n c) c.defs

-- what is found, and the least faults of what a class declares beside its methods
abbrev pub with_state : Declared → ℕ → ClassPart → Option Fault → Option Fault
with_state l n c found = lesser (lesser (lesser (lesser found (least (flat_map (field_faults l) c.fields))) (least (flat_map (var_faults l n) c.vars))) (least (all_defs l n c))) (least (flat_map (invariant_faults l n) c.invariants))

-- the faults of a class, where a test says whether its name is used before
abbrev pub class_faults : Declared → ℕ → (Word → Bool) → ClassPart → List Fault
class_faults l n b c =
    class_name_faults b c.name ++ member_names c ++ label_names c.invariants ++ flat_map (field_faults l) c.fields ++ flat_map (var_faults l n) c.vars ++ all_defs l n c
    ++ flat_map (invariant_faults l n) c.invariants ++ flat_map (method_faults l n) c.methods

unfoldable pub all_classes : Declared → ℕ → (Word → Bool) → List ClassPart → List Fault
all_classes l n b [] = []
all_classes l n b (c ∷ cs) = class_faults l n b c ++ all_classes l (n + 1) b cs
