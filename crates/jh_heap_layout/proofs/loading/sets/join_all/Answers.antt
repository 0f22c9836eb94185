use Rattle.std.proofs.Common.{◌≡◌, sym, ap, ◌∙◌, ◌==◌, ◌||◌, ◌+◌, [], drop, get_or, slice_get}
use Rattle.std.proofs.lemmas.List.{drop_more, drop_all}
use Rattle.jh_semantics.specs.Heaps.{is_in}
use Rattle.jh_store.specs.memory.Held.{state_of, IsNamed}
use Rattle.jh_heap_layout.proofs.loading.Lists.{more-in, none-more}
use Rattle.jh_heap_layout.proofs.loading.Setting as s
use Rattle.jh_heap_layout.proofs.loading.sets.join_all.Goals as goal

pub loop-object-preserved : goal.loop-object-preserved
loop-object-preserved c =
    let known = c.loop-object.invariant in
    record {
      names = c.join.ensures.names ∙ known.names;
      last = c.join.ensures.last ∙ known.last;
      state = λ x at.
          let m = state_of c.loop-object.memory in
          let n = state_of c.join.new.self in
          let i = c.loop-object.object-index in
          let all = c.args.objects.now in
          let a = get_or all i 0 in
          let rest = drop (i + 1) all in
          let here : IsNamed c.loop-object.memory c.args.number x = ap (λ ns. slice_get ns c.args.number) known.names ∙ at in
          s.joins-more m x n (λ b. b == a) (λ b. is_in b rest) (c.in_ok-join.ensures.state x here)
          ∙ s.sets-same m x (λ b. (m.set x b || b == a) || is_in b rest) (λ b. m.set x b || is_in b (drop i all)) (λ b. more-in (m.set x b) b a rest ∙ ap (λ xs. m.set x b || is_in b xs) (sym (drop_more all i 0 c.loop-object-test.true)))
          ∙ known.state x at;
    }

pub returns-clause-state : goal.returns-clause-state
returns-clause-state c = λ x at.
    let m = state_of c.loop-object.memory in
    let i = c.loop-object.object-index in
    let none : drop i c.args.objects.now ≡ [] = drop_all i c.args.objects.now c.loop-object-test.false in
    sym (s.set-kept m x (λ b. m.set x b || is_in b (drop i c.args.objects.now)) (λ b. ap (λ xs. m.set x b || is_in b xs) none ∙ none-more (m.set x b))) ∙ c.loop-object.invariant.state x at
