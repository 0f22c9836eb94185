use Rattle.std.proofs.Common.{rules, ◌≡◌, ap, ◌∙◌, false, refl, slice_get}
use Rattle.jh_semantics.specs.Heaps.{is_in}
use Rattle.jh_store.specs.memory.Held.{state_of, IsNamed}
use Rattle.std.proofs.lemmas.Result.{on_ok_weaker}
use Rattle.jh_heap_layout.proofs.loading.Setting as s
use Rattle.jh_heap_layout.proofs.loading.sets.put_set.Goals as goal

pub returns-clause-state : goal.returns-clause-state
returns-clause-state c =
    on_ok_weaker c.join_all.result
    (λ joined x at.
    let m = state_of c.args.memory.now in
    let n = state_of c.put_set.new.self in
    let empty : n ≡ s.with_set m x (λ a. false) = c.put_set.ensures.state x at (λ a. false) (λ a. search rules) in
    let here : IsNamed c.put_set.new.self c.args.number x = ap (λ ns. slice_get ns c.args.number) c.put_set.ensures.names ∙ at in
    joined x here ∙ s.joins-none m x n (λ a. false) (λ b. is_in b c.args.objects.now) empty (λ b. refl))
    c.join_all.ensures.state
