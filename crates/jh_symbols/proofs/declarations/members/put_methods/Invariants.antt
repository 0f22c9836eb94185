use Rattle.std.proofs.Common.{ℕ, List}
use Rattle.indexmap.specs.IndexMap.{get_by_text}
use Rattle.jh_ast.specs.Bare.{method_part}
use Rattle.jh_rules.specs.Names as n
use Rattle.jh_rules.specs.Names.{def_in, type_of, members_of}
use Rattle.jh_ast.specs.Programs.{DefPart}
use Rattle.jh_symbols.proofs.declarations.Naming.{Fills}
use Rattle.jh_symbols.proofs.declarations.members.put_methods.Given as goal

-- the methods behind stand before what was there
abbrev pub invariant-loop-back : goal.invariant-loop-back
invariant-loop-back l = (class : ℕ) (ds : List DefPart) → Fills (λ x. get_by_text l.numbers x) class ds (λ x. n.method (method_part x)) (λ x. get_by_text l.initial.names x) (λ x. get_by_text l.names x) l.methods l.back
