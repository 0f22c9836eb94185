use Rattle.std.proofs.Common.{◌≡◌, ◌+◌, refl, sym, subst, ◌∙◌, ap, take, slice_get, Some}
use Rattle.jh_closure.specs.congruence_closure.Cores.{IsCore}
use Rattle.jh_closure.proofs.congruence_closure.Leveling.{levels-cut, cut-said, cut-marks, cut-last-merges, cut-last-entries}
use Rattle.jh_closure.proofs.congruence_closure.Stating.{state-of}
use Rattle.jh_closure.proofs.congruence_closure.levels.back.Goals as goal

pub returns-clause-state : goal.returns-clause-state
returns-clause-state c =
    let st = c.args.state.now in
    let ns = st.nodes.items in
    let said = st.said.items in
    let ms = st.core.forest.merges in
    let es = st.core.table.nodes.entries in
    let marks = st.marks.items in
    let k = c.mark_at-mark.result in
    let h = c.requires.opened.levels in
    let here = subst (λ ks. slice_get ks c.args.level ≡ Some k) c.as_slice.ensures.value c.mark_at-mark.ensures in
    let core : IsCore ns c.cut.new.core = record { count = c.cut.ensures.count ∙ c.requires.opened.core.count; uses = c.cut.ensures.uses ns c.requires.opened.core.uses } in
    state-of _ ns (take c.args.level said) (take k.merges ms) (take k.entries es) (take (c.args.level + 1) marks) refl c.truncate.ensures.items c.cut.ensures.merges c.cut.ensures.entries c.truncate-2.ensures.items
    c.requires.opened.parts core (levels-cut ns said ms es marks c.args.level k h here)
    (cut-marks ns said ms es marks c.args.level k h here ∙ ap (λ z. z + 1) (sym (cut-said ns said ms es marks c.args.level k h here)))
    (cut-last-merges ns said ms es marks c.args.level k h here) (cut-last-entries ns said ms es marks c.args.level k h here)
