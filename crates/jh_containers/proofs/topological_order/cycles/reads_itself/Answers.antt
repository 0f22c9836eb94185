use Rattle.std.proofs.Common.{◌≡◌, refl, ap, sym, subst, ◌∙◌, ℕ, List, map}
use Rattle.jh_containers.specs.declared.transitive_closure.facts.Fact.{Fact}
use Rattle.jh_containers.specs.transitive_closure.Spreads.{Spreads}
use Rattle.jh_containers.specs.topological_order.Orders.{reads_of, Reaches, start_of}
use Rattle.jh_containers.proofs.topological_order.Reached.{reached-from, reached-back}
use Rattle.jh_containers.proofs.topological_order.cycles.reads_itself.Goals as goal

-- src/cycles.rt
pub returns-clause-yes : goal.returns-clause-yes
returns-clause-yes c = λ h.
    let reads = c.args.reads.now in
    let x = c.args.thing in
    let same : c.as_slice.result.now ≡ map start_of (reads_of reads x) = c.as_slice.ensures.value ∙ c.in_ok-started.ensures ∙ ap (map start_of) c.reads_of.ensures in
    let k = c.is_of.ensures.yes h in
    let s : Spreads (map start_of (reads_of reads x)) reads k.0 = subst (λ (fs : List Fact). Spreads fs reads k.0) same ((c.in_ok-reached.ensures.exact k.0).0 k.1) in
    subst (λ (y : ℕ). Reaches reads x y) k.2 (reached-from reads x k.0 s)

-- src/cycles.rt
pub returns-clause-no : goal.returns-clause-no
returns-clause-no c = λ h r.
    let reads = c.args.reads.now in
    let x = c.args.thing in
    let same : c.as_slice.result.now ≡ map start_of (reads_of reads x) = c.as_slice.ensures.value ∙ c.in_ok-started.ensures ∙ ap (map start_of) c.reads_of.ensures in
    let s : Spreads c.as_slice.result.now reads (start_of x) = subst (λ (fs : List Fact). Spreads fs reads (start_of x)) (sym same) (reached-back reads x x r) in
    c.is_of.ensures.no h (start_of x) ((c.in_ok-reached.ensures.exact (start_of x)).1 s) refl
