use Rattle.std.proofs.Common.{subst, sym, ap, ◌∙◌, ◌||◌, map, length, is_some}
use Rattle.std.specs.List.{flat_map}
use Rattle.indexmap.specs.IndexMap.{get_by_text}
use Rattle.jh_ast.specs.Bare.{class_part}
use Rattle.jh_rules.specs.Words.{is_one_of}
use Rattle.jh_rules.specs.Names.{number_of}
use Rattle.jh_symbols.specs.declarations.Entries.{AreTables, class_labels}
use Rattle.jh_symbols.proofs.declarations.Naming.{tables-long, parts-long}
use Rattle.jh_symbols.proofs.declarations.tables.fill.Goals as goal

-- src/tables.rt
pub put_states-requires-clause-long : goal.put_states-requires-clause-long
put_states-requires-clause-long c = ap length c.deref.ensures.value ∙ tables-long (λ x. get_by_text c.put_numbers.new.table x) 0 c.put_tables.new.tables.items (map class_part c.args.classes.now) c.in_ok-put_tables.ensures ∙ parts-long c.args.classes.now

-- src/tables.rt
pub returns : goal.returns
returns c = record {
  numbers = c.in_ok-put_numbers.ensures;
  tables = c.in_ok-put_tables.ensures;
  firsts = λ p tables. c.in_ok-put_states.ensures.firsts p (subst (λ ts. AreTables (number_of p) 0 ts (map class_part c.args.classes.now)) (sym c.deref.ensures.value) tables);
  lasts = λ p tables. c.in_ok-put_states.ensures.lasts p (subst (λ ts. AreTables (number_of p) 0 ts (map class_part c.args.classes.now)) (sym c.deref.ensures.value) tables);
  labels = λ x. c.in_ok-put_labels.ensures x ∙ ap (λ o. is_some o || is_one_of x (flat_map class_labels (map class_part c.args.classes.now))) (c.requires.labels x);
}
