use Rattle.std.proofs.Common.{ap, ◌∙◌, map}
use Rattle.std.specs.List.{flat_map}
use Rattle.jh_ast.specs.Bare.{def_part}
use Rattle.jh_rules.specs.Found.{least}
use Rattle.jh_rules.specs.Words.{used_before}
use Rattle.jh_symbols.specs.scopes.Firsts.{is_behind}
use Rattle.jh_symbols.specs.scopes.Lookings.{declared_by}
use Rattle.jh_type.specs.checker.Parts as parts
use Rattle.jh_type.proofs.checker.Joining.{defs-is}
use Rattle.jh_type.proofs.checker.classes.def_faults.Goals as goal

pub returns : goal.returns
returns c = c.in_ok-found.ensures ∙ ap (λ xs. least (flat_map (parts.def_faults (declared_by c.args.lookups.now) c.args.number (is_behind c.in_ok-words.words)) (map def_part xs))) c.items-2.ensures ∙ defs-is (declared_by c.args.lookups.now) c.args.number (is_behind c.in_ok-words.words) c.args.class.now (λ w. c.in_ok-words.ensures w ∙ ap (λ xs. used_before (parts.def_words xs) w) c.items.ensures)
