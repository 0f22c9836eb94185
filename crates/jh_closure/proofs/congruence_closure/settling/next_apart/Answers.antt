use Rattle.std.proofs.Common.{◌<◌, sym, subst, ◌∙◌, List, [], ◌∷◌}
use Rattle.jh_closure.specs.union_find.Merges.{class_of}
use Rattle.jh_closure.specs.declared.union_find.merge.Cause.{Cause}
use Rattle.jh_closure.specs.congruence_closure.Nodes.{Has}
use Rattle.jh_closure.specs.congruence_closure.Closing.{IsTable}
use Rattle.jh_closure.specs.congruence_closure.Tables.{found}
use Rattle.jh_closure.proofs.congruence_closure.Having.{has-left}
use Rattle.jh_closure.proofs.congruence_closure.Waits.{table-drop, table-last, last-first, last-left, last-right, last-gone, last-kept}
use Rattle.jh_closure.proofs.congruence_closure.settling.next_apart.Goals as goal

pub find-requires : goal.find-requires
find-requires c = subst (λ z. c.in-Some.cause.left < z) (sym c.requires.count) (last-left c.args.nodes.now (class_of c.args.core.now.forest.merges) (found c.args.core.now.table.nodes.entries) c.pop.new.self.items c.in-Some.cause (subst (λ (ps : List Cause). IsTable c.args.nodes.now (class_of c.args.core.now.forest.merges) (found c.args.core.now.table.nodes.entries) ps []) c.in-Some.ensures.items c.loop-cause.invariant.table))

pub find-requires-in-Some : goal.find-requires-in-Some
find-requires-in-Some c = subst (λ z. c.in-Some.cause.right < z) (sym c.requires.count) (last-right c.args.nodes.now (class_of c.args.core.now.forest.merges) (found c.args.core.now.table.nodes.entries) c.pop.new.self.items c.in-Some.cause (subst (λ (ps : List Cause). IsTable c.args.nodes.now (class_of c.args.core.now.forest.merges) (found c.args.core.now.table.nodes.entries) ps []) c.in-Some.ensures.items c.loop-cause.invariant.table))

pub returns-then-find-clause-table : goal.returns-then-find-clause-table
returns-then-find-clause-table c = table-last c.args.nodes.now (class_of c.args.core.now.forest.merges) (found c.args.core.now.table.nodes.entries) c.pop.new.self.items c.in-Some.cause (subst (λ (ps : List Cause). IsTable c.args.nodes.now (class_of c.args.core.now.forest.merges) (found c.args.core.now.table.nodes.entries) ps []) c.in-Some.ensures.items c.loop-cause.invariant.table)

pub returns-then-find-clause-among : goal.returns-then-find-clause-among
returns-then-find-clause-among c q h =
    c.loop-cause.invariant.among q (subst (λ (ps : List Cause). Has ps q) (sym c.in-Some.ensures.items) (last-first c.args.nodes.now (class_of c.args.core.now.forest.merges) (found c.args.core.now.table.nodes.entries) c.pop.new.self.items c.in-Some.cause q h))

pub returns-then-find-clause-kept : goal.returns-then-find-clause-kept
returns-then-find-clause-kept c = last-kept (class_of c.args.core.now.forest.merges) c.args.pending.now.items c.loop-cause.pending.items c.pop.new.self.items c.in-Some.cause c.in-Some.ensures.items c.loop-cause.invariant.kept

pub loop-cause-preserved : goal.loop-cause-preserved
loop-cause-preserved c = record {
  table = table-drop c.args.nodes.now (class_of c.args.core.now.forest.merges) (found c.args.core.now.table.nodes.entries) c.pop.new.self.items c.in-Some.cause (sym c.find.ensures.class ∙ (c.if-find.false ∙ c.find-in-Some.ensures.class)) (subst (λ (ps : List Cause). IsTable c.args.nodes.now (class_of c.args.core.now.forest.merges) (found c.args.core.now.table.nodes.entries) ps []) c.in-Some.ensures.items c.loop-cause.invariant.table);
  among = λ q h. c.loop-cause.invariant.among q (subst (λ (ps : List Cause). Has ps q) (sym c.in-Some.ensures.items) (has-left c.pop.new.self.items (c.in-Some.cause ∷ []) q h));
  kept = last-gone (class_of c.args.core.now.forest.merges) c.args.pending.now.items c.loop-cause.pending.items c.pop.new.self.items c.in-Some.cause c.in-Some.ensures.items (sym c.find.ensures.class ∙ (c.if-find.false ∙ c.find-in-Some.ensures.class)) c.loop-cause.invariant.kept;
}
