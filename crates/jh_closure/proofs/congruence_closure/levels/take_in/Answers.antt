use Rattle.std.proofs.Common.{◌≡◌, ◌++◌, refl, sym, subst, ◌∙◌, ap, List, [], ◌∷◌, length}
use Rattle.jh_closure.specs.union_find.Merges.{class_of}
use Rattle.jh_closure.specs.declared.union_find.merge.Cause.{Cause}
use Rattle.jh_closure.specs.declared.congruence_closure.equation.Equation.{Equation}
use Rattle.jh_closure.specs.declared.congruence_closure.node.Node.{Node}
use Rattle.jh_closure.proofs.union_find.Stamping.{longer}
use Rattle.jh_closure.specs.congruence_closure.Nodes.{Has}
use Rattle.jh_closure.specs.congruence_closure.Closing.{IsTable, AreRight, Keeps}
use Rattle.jh_closure.specs.congruence_closure.Cores.{IsCore}
use Rattle.jh_closure.specs.congruence_closure.Tables.{found}
use Rattle.jh_closure.proofs.congruence_closure.Growing.{begins-push, begins-same}
use Rattle.jh_closure.proofs.congruence_closure.Leveling.{given, levels-grown, right-first, settled-after, settled-now, table-first}
use Rattle.jh_closure.proofs.congruence_closure.Stating.{open-after, state-after}
use Rattle.jh_closure.proofs.congruence_closure.levels.take_in.Goals as goal

pub returns-in_err-pending-clause-opened : goal.returns-in_err-pending-clause-opened
returns-in_err-pending-clause-opened c = record {
  parts = c.requires.state.opened.parts;
  core = c.requires.state.opened.core;
  levels = levels-grown c.args.state.now.nodes.items c.args.state.now.said.items c.push.new.self.items c.args.state.now.core.forest.merges c.args.state.now.core.forest.merges c.args.state.now.core.table.nodes.entries c.args.state.now.core.table.nodes.entries c.args.state.now.marks.items
      (begins-push c.args.state.now.said.items c.push.new.self.items c.args.equation c.in_ok-push.ensures.items) (begins-same c.args.state.now.core.forest.merges c.args.state.now.core.forest.merges refl) (begins-same c.args.state.now.core.table.nodes.entries c.args.state.now.core.table.nodes.entries refl) c.requires.state.opened.levels;
}

pub returns-in_err-settle-clause-opened : goal.returns-in_err-settle-clause-opened
returns-in_err-settle-clause-opened c = record {
  parts = c.requires.state.opened.parts;
  core = subst (λ (xs : List Node). IsCore xs c.settle.new.core) c.as_slice.ensures.value c.settle.ensures.grown.core;
  levels = levels-grown c.args.state.now.nodes.items c.args.state.now.said.items c.push.new.self.items c.args.state.now.core.forest.merges c.settle.new.core.forest.merges c.args.state.now.core.table.nodes.entries c.settle.new.core.table.nodes.entries c.args.state.now.marks.items
      (begins-push c.args.state.now.said.items c.push.new.self.items c.args.equation c.in_ok-push.ensures.items) c.settle.ensures.grown.merges c.settle.ensures.grown.entries c.requires.state.opened.levels;
}

pub settle-requires-clause-table : goal.settle-requires-clause-table
settle-requires-clause-table c =
    let number = ap (λ (xs : List Equation). length xs) c.as_slice-number.ensures.value in
    subst (λ (xs : List Node). IsTable xs (class_of c.args.state.now.core.forest.merges) (found c.args.state.now.core.table.nodes.entries) c.in_ok-pending.pending.items []) (sym c.as_slice.ensures.value)
    (subst (λ (ps : List Cause). IsTable c.args.state.now.nodes.items (class_of c.args.state.now.core.forest.merges) (found c.args.state.now.core.table.nodes.entries) ps []) (sym (c.in_ok-pending.ensures ∙ ap (λ i. given c.args.equation i ∷ []) number))
    (table-first c.args.state.now.nodes.items c.args.state.now.said.items c.args.state.now.core.forest.merges c.args.state.now.core.table.nodes.entries c.args.equation (settled-now c.args.state.now.nodes.items c.args.state.now.said.items c.args.state.now.core.forest.merges c.args.state.now.core.table.nodes.entries c.args.state.now.marks.items c.requires.state.opened.levels c.requires.state.count c.requires.state.merges c.requires.state.entries) c.requires.left c.requires.right))

pub returns-clause-opened : goal.returns-clause-opened
returns-clause-opened c =
    let e = c.args.equation in
    let more = c.args.state.now.said.items ++ e ∷ [] in
    let slice = c.as_slice.ensures.value in
    let one : c.in_ok-pending.pending.items ≡ given e (length c.args.state.now.said.items) ∷ [] = c.in_ok-pending.ensures ∙ ap (λ i. given e i ∷ []) (ap (λ (xs : List Equation). length xs) c.as_slice-number.ensures.value) in
    let k = c.in_ok-settle.ensures in
    let table = subst (λ (xs : List Node). IsTable xs (class_of c.settle.new.core.forest.merges) (found c.settle.new.core.table.nodes.entries) [] []) slice k.table in
    let right = subst (λ (xs : List Node). AreRight xs more c.settle.new.core.forest.merges []) slice (k.right more (subst (λ (ps : List Cause). AreRight c.as_slice.result.now more c.args.state.now.core.forest.merges ps) (sym one) (subst (λ (xs : List Node). AreRight xs more c.args.state.now.core.forest.merges (given e (length c.args.state.now.said.items) ∷ [])) (sym slice) (right-first c.args.state.now.nodes.items c.args.state.now.said.items c.args.state.now.core.forest.merges c.args.state.now.core.table.nodes.entries e (settled-now c.args.state.now.nodes.items c.args.state.now.said.items c.args.state.now.core.forest.merges c.args.state.now.core.table.nodes.entries c.args.state.now.marks.items c.requires.state.opened.levels c.requires.state.count c.requires.state.merges c.requires.state.entries) c.requires.left c.requires.right)))) in
    let keeps = subst (λ (xs : List Node). Keeps (length xs) (class_of c.args.state.now.core.forest.merges) (class_of c.settle.new.core.forest.merges)) slice k.keeps in
    let now = settled-after c.args.state.now.nodes.items c.args.state.now.said.items c.args.state.now.core.forest.merges c.args.state.now.core.table.nodes.entries e (settled-now c.args.state.now.nodes.items c.args.state.now.said.items c.args.state.now.core.forest.merges c.args.state.now.core.table.nodes.entries c.args.state.now.marks.items c.requires.state.opened.levels c.requires.state.count c.requires.state.merges c.requires.state.entries) c.requires.left c.requires.right c.settle.new.core.forest.merges c.settle.new.core.table.nodes.entries table right keeps (λ q w. k.joined q (subst (λ (ps : List Cause). Has ps q) (sym one) w)) in
    let grown = c.settle.ensures.grown in
    let levels = levels-grown c.args.state.now.nodes.items c.args.state.now.said.items more c.args.state.now.core.forest.merges c.settle.new.core.forest.merges c.args.state.now.core.table.nodes.entries c.settle.new.core.table.nodes.entries c.args.state.now.marks.items (begins-push c.args.state.now.said.items more e refl) grown.merges grown.entries c.requires.state.opened.levels in
    let said = c.add_mark.ensures.said ∙ c.in_ok-push.ensures.items in
    let core = c.add_mark.ensures.core in
    let here = subst (λ z. IsCore c.args.state.now.nodes.items z) (sym core) (subst (λ (xs : List Node). IsCore xs c.settle.new.core) slice grown.core) in
    open-after c.add_mark.new.state c.args.state.now.nodes.items more c.settle.new.core.forest.merges c.settle.new.core.table.nodes.entries c.args.state.now.marks.items c.add_mark.ensures.nodes said (ap (λ z. z.forest.merges) core) (ap (λ z. z.table.nodes.entries) core) c.requires.state.opened.parts here levels (c.requires.state.count ∙ sym (longer c.args.state.now.said.items e)) now c.add_mark.result c.add_mark.ensures.marks c.add_mark.ensures.err

pub returns-clause-ok : goal.returns-clause-ok
returns-clause-ok c =
    let e = c.args.equation in
    let more = c.args.state.now.said.items ++ e ∷ [] in
    let slice = c.as_slice.ensures.value in
    let one : c.in_ok-pending.pending.items ≡ given e (length c.args.state.now.said.items) ∷ [] = c.in_ok-pending.ensures ∙ ap (λ i. given e i ∷ []) (ap (λ (xs : List Equation). length xs) c.as_slice-number.ensures.value) in
    let k = c.in_ok-settle.ensures in
    let table = subst (λ (xs : List Node). IsTable xs (class_of c.settle.new.core.forest.merges) (found c.settle.new.core.table.nodes.entries) [] []) slice k.table in
    let right = subst (λ (xs : List Node). AreRight xs more c.settle.new.core.forest.merges []) slice (k.right more (subst (λ (ps : List Cause). AreRight c.as_slice.result.now more c.args.state.now.core.forest.merges ps) (sym one) (subst (λ (xs : List Node). AreRight xs more c.args.state.now.core.forest.merges (given e (length c.args.state.now.said.items) ∷ [])) (sym slice) (right-first c.args.state.now.nodes.items c.args.state.now.said.items c.args.state.now.core.forest.merges c.args.state.now.core.table.nodes.entries e (settled-now c.args.state.now.nodes.items c.args.state.now.said.items c.args.state.now.core.forest.merges c.args.state.now.core.table.nodes.entries c.args.state.now.marks.items c.requires.state.opened.levels c.requires.state.count c.requires.state.merges c.requires.state.entries) c.requires.left c.requires.right)))) in
    let keeps = subst (λ (xs : List Node). Keeps (length xs) (class_of c.args.state.now.core.forest.merges) (class_of c.settle.new.core.forest.merges)) slice k.keeps in
    let now = settled-after c.args.state.now.nodes.items c.args.state.now.said.items c.args.state.now.core.forest.merges c.args.state.now.core.table.nodes.entries e (settled-now c.args.state.now.nodes.items c.args.state.now.said.items c.args.state.now.core.forest.merges c.args.state.now.core.table.nodes.entries c.args.state.now.marks.items c.requires.state.opened.levels c.requires.state.count c.requires.state.merges c.requires.state.entries) c.requires.left c.requires.right c.settle.new.core.forest.merges c.settle.new.core.table.nodes.entries table right keeps (λ q w. k.joined q (subst (λ (ps : List Cause). Has ps q) (sym one) w)) in
    let grown = c.settle.ensures.grown in
    let levels = levels-grown c.args.state.now.nodes.items c.args.state.now.said.items more c.args.state.now.core.forest.merges c.settle.new.core.forest.merges c.args.state.now.core.table.nodes.entries c.settle.new.core.table.nodes.entries c.args.state.now.marks.items (begins-push c.args.state.now.said.items more e refl) grown.merges grown.entries c.requires.state.opened.levels in
    let said = c.add_mark.ensures.said ∙ c.in_ok-push.ensures.items in
    let core = c.add_mark.ensures.core in
    let here = subst (λ z. IsCore c.args.state.now.nodes.items z) (sym core) (subst (λ (xs : List Node). IsCore xs c.settle.new.core) slice grown.core) in
    state-after c.add_mark.new.state c.args.state.now.nodes.items more c.settle.new.core.forest.merges c.settle.new.core.table.nodes.entries c.args.state.now.marks.items c.add_mark.ensures.nodes said (ap (λ z. z.forest.merges) core) (ap (λ z. z.table.nodes.entries) core) c.requires.state.opened.parts here levels (c.requires.state.count ∙ sym (longer c.args.state.now.said.items e)) now c.add_mark.result c.add_mark.ensures.marks
