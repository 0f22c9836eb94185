use Rattle.std.proofs.Common.{◌<◌, sym, ap, subst, ℕ, List, length}
use Rattle.jh_ast.specs.Bare.{program_tree}
use Rattle.jh_containers.specs.transitive_closure.Spreads.{IsIn, passed_to}
use Rattle.jh_vars.specs.Written.{all_state}
use Rattle.jh_effects.specs.declared.written_state.flow.Given.{Given}
use Rattle.jh_effects.specs.declared.written_state.flow.Key.{Key}
use Rattle.jh_effects.specs.declared.written_state.flow.Link.{Link}
use Rattle.jh_effects.specs.written_state.Arising.{Arises, ArePlaces}
use Rattle.jh_effects.specs.written_state.Methods.{callees, gathered_from, given_by, links_by}
use Rattle.jh_effects.proofs.written_state.Writers.{links-inside, all-written}
use Rattle.jh_effects.proofs.written_state.writing.written.Goals as goal

-- src/writing.rt
pub all_places-requires : goal.all_places-requires
all_places-requires c =
    let p = program_tree c.args.program.now in
    let methods = c.in_ok-methods.methods in
    λ link h.
    subst (λ (n : ℕ). link.from < n) (sym (ap length c.as_slice.ensures.value))
    (links-inside p methods.numbers methods.list.items c.in_ok-methods.ensures.numbered c.in_ok-methods.ensures.all link (subst (λ (ks : List Link). IsIn ks link) c.in_ok-flow.ensures.links h))

-- src/writing.rt
pub returns : goal.returns
returns c =
    let p = program_tree c.args.program.now in
    let methods = c.in_ok-methods.methods in
    let flow = c.in_ok-flow.flow in
    let list = c.in_ok-list.list.items in
    let rows = c.in_ok-rows.rows.items in
    let given = gathered_from (given_by p) 0 (callees methods.list.items) in
    let links = gathered_from (links_by p methods.numbers) 0 (callees methods.list.items) in
    all-written p methods.numbers methods.list.items c.in_ok-methods.ensures.numbered c.in_ok-methods.ensures.all rows (all_state p)
    (λ n lt.
    subst (λ (xs : List Key). ArePlaces (Arises given links n) xs (passed_to rows n)) c.in_ok-list.ensures
    (subst (λ (gs : List Given). ArePlaces (Arises gs links n) list (passed_to rows n)) c.in_ok-flow.ensures.given
    (subst (λ (ls : List Link). ArePlaces (Arises flow.given.items ls n) list (passed_to rows n)) c.in_ok-flow.ensures.links
    (c.in_ok-rows.ensures.places n (subst (λ (k : ℕ). n < k) (sym (ap length c.as_slice.ensures.value)) lt)))))
