use Rattle.std.proofs.Common.{ℕ, List, Option, ◌≡◌}
use Rattle.indexmap.specs.IndexMap.{get_by_text}
use Rattle.jh_ast.specs.Bare.{var_part}
use Rattle.jh_rules.specs.Names as n
use Rattle.jh_rules.specs.Names.{def_in, type_of, members_of}
use Rattle.jh_ast.specs.Programs.{DefPart}
use Rattle.jh_symbols.specs.declarations.Entries.{marked}
use Rattle.jh_symbols.proofs.declarations.Naming.{Fills}
use Rattle.jh_symbols.proofs.declarations.members.put_vars.Given as goal

-- the variables behind stand before what was there
abbrev pub invariant-loop-back : goal.invariant-loop-back
invariant-loop-back l = (numbers : List ℕ → Option ℕ) (ds : List DefPart) → ((x : List ℕ) → get_by_text l.defs x ≡ marked (def_in x ds)) → Fills numbers l.class ds (λ x. n.var (var_part x)) (λ x. get_by_text l.initial.names x) (λ x. get_by_text l.names x) l.vars l.back
