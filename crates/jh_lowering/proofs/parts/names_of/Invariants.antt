use Rattle.std.proofs.Common.{◌≡◌, ◌++◌, map, drop}
use Rattle.jh_ast.specs.declared.word.Word.{Word}
use Rattle.jh_lowering.proofs.parts.names_of.Given as goal

abbrev pub invariant-loop-word : goal.invariant-loop-word
invariant-loop-word l = l.names.items ++ map (λ (w : Word). w.text) (drop l.word-index l.words) ≡ map (λ (w : Word). w.text) l.words
