use Rattle.std.proofs.Common.{◌≡◌, ◌++◌, map, drop}
use Rattle.jh_ast.specs.Bare.{class_part}
use Rattle.jh_ast.specs.Programs.{ClassPart}
use Rattle.jh_rules.specs.Words.{text_of}
use Rattle.jh_outline.proofs.declarations.classes.texts_of.Given as goal

abbrev pub invariant-loop-class : goal.invariant-loop-class
invariant-loop-class l = l.texts.items ++ map (λ (c : ClassPart). text_of c.name) (map class_part (drop l.class-index l.classes)) ≡ map (λ (c : ClassPart). text_of c.name) (map class_part l.classes)
