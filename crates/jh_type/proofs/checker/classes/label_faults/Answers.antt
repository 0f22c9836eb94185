use Rattle.std.proofs.Common.{◌∙◌}
use Rattle.jh_symbols.specs.scopes.Firsts.{is_behind}
use Rattle.jh_type.proofs.checker.Joining.{labels-is}
use Rattle.jh_type.proofs.checker.classes.label_faults.Goals as goal

pub returns : goal.returns
returns c = c.label_names.ensures ∙ labels-is (is_behind c.in_ok-words.words) c.args.invariants.now c.in_ok-words.ensures
