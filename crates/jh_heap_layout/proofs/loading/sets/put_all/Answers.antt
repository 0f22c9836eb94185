use Rattle.std.proofs.Common.{rules, ◌≡◌, sym, ap, ◌∙◌, ◌||◌, ◌+◌, false, refl, [], ◌∷◌, drop, slice_get}
use Rattle.std.proofs.lemmas.List.{drop_all}
use Rattle.std.specs.List.{list_any}
use Rattle.jh_semantics.specs.Heaps.{is_in}
use Rattle.jh_store.specs.memory.Held.{state_of, IsNamed}
use Rattle.jh_heap_layout.proofs.loading.Lists.{left-at, none-more, or-apart, there}
use Rattle.jh_heap_layout.proofs.loading.Setting as s
use Rattle.jh_heap_layout.proofs.loading.sets.put_all.Goals as goal

pub loop-row-init : goal.loop-row-init
loop-row-init c = record {
  names = c.put_set.ensures.names;
  last = c.put_set.ensures.last;
  state = λ x at.
      let m = state_of c.args.memory.now in
      let n = state_of c.put_set.new.self in
      let empty : n ≡ s.with_set m x (λ a. false) = c.put_set.ensures.state x at (λ a. false) (λ a. search rules) in
      s.joins-none m x n (λ a. false) (λ b. list_any (is_in b) c.args.rows.now) empty (λ b. refl);
}

pub loop-row-preserved : goal.loop-row-preserved
loop-row-preserved c =
    let known = c.loop-row.invariant in
    record {
      names = c.join_all.ensures.names ∙ known.names;
      last = c.join_all.ensures.last ∙ known.last;
      state = λ x at.
          let m = state_of c.loop-row.memory in
          let n = state_of c.join_all.new.memory in
          let i = c.loop-row.row-index in
          let all = c.args.rows.now in
          let row = c.row-item.result in
          let rest = drop (i + 1) all in
          let left : drop i all ≡ row ∷ rest = left-at all i row (there all i row c.loop-row-test.true c.row-item.is) in
          let here : IsNamed c.loop-row.memory c.args.number x = ap (λ ns. slice_get ns c.args.number) known.names ∙ at in
          let joined : n ≡ s.with_set m x (λ b. m.set x b || is_in b row) = search rules in
          s.joins-more m x n (λ b. is_in b row) (λ b. list_any (is_in b) rest) joined
          ∙ s.sets-same m x (λ b. (m.set x b || is_in b row) || list_any (is_in b) rest) (λ b. m.set x b || list_any (is_in b) (drop i all)) (λ b. or-apart (m.set x b) (is_in b row) (list_any (is_in b) rest) ∙ ap (λ xs. m.set x b || list_any (is_in b) xs) (sym left))
          ∙ known.state x at;
    }

pub returns-clause-state : goal.returns-clause-state
returns-clause-state c = λ x at.
    let m = state_of c.loop-row.memory in
    let i = c.loop-row.row-index in
    let none : drop i c.args.rows.now ≡ [] = drop_all i c.args.rows.now c.loop-row-test.false in
    sym (s.set-kept m x (λ b. m.set x b || list_any (is_in b) (drop i c.args.rows.now)) (λ b. ap (λ xs. m.set x b || list_any (is_in b) xs) none ∙ none-more (m.set x b))) ∙ c.loop-row.invariant.state x at
