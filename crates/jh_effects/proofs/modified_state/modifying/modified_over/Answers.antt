use Rattle.std.proofs.Common.{◌<◌, sym, ap, subst, ◌∙◌, ℕ, List, ◌++◌, length}
use Rattle.std.proofs.lemmas.List.{length-map}
use Rattle.jh_ast.specs.Bare.{program_tree}
use Rattle.jh_containers.specs.transitive_closure.Spreads.{IsIn, passed_to}
use Rattle.jh_vars.specs.Written.{all_state}
use Rattle.jh_effects.specs.declared.written_state.flow.Given.{Given}
use Rattle.jh_effects.specs.declared.written_state.flow.Key.{Key}
use Rattle.jh_effects.specs.declared.written_state.flow.Link.{Link}
use Rattle.jh_effects.specs.declared.written_state.methods.Listed.{Listed}
use Rattle.jh_effects.specs.written_state.Arising.{Arises, ArePlaces}
use Rattle.jh_effects.specs.written_state.Methods.{AreMethods, callee_of, callees, gathered_from}
use Rattle.jh_effects.specs.modified_state.Modifying.{given_named, given_read, link_named, link_read, variables_of}
use Rattle.jh_effects.proofs.modified_state.Counting.{defined-number}
use Rattle.jh_effects.proofs.modified_state.Namers.{targets-inside, given-inside, all-named}
use Rattle.jh_effects.proofs.modified_state.Parts.{classes-long}
use Rattle.jh_effects.proofs.modified_state.modifying.modified_over.Goals as goal

-- src/modifying.rt
pub count_definitions-requires : goal.count_definitions-requires
count_definitions-requires c =
    λ k d at.
    subst (λ (n : ℕ). d.class < n) (classes-long c.args.program.now ∙ ap length (sym c.items.ensures)) (c.requires.ordered.definitions k d at).inside

-- src/modifying.rt
pub flow_of-requires-clause-methods : goal.flow_of-requires-clause-methods
flow_of-requires-clause-methods c = subst (λ (ls : List Listed). AreMethods (program_tree c.args.program.now) ls) (sym c.as_slice-list.ensures.value) c.in_ok-methods.ensures.sound

-- src/modifying.rt
pub first_places-requires-clause-links : goal.first_places-requires-clause-links
first_places-requires-clause-links c =
    let p = program_tree c.args.program.now in
    let list = c.as_slice-list.result.now in
    let ds = c.args.definitions.now in
    let numbers = c.in_ok-counted.counted in
    λ link h.
    subst (λ (n : ℕ). link.to < n) (sym c.in_ok-things.ensures)
    (targets-inside p numbers (callees list) (length list) (sym (length-map list callee_of)) ds c.in_ok-counted.ensures.counted (defined-number p numbers ds c.requires.ordered.all c.in_ok-counted.ensures.all) link
    (subst (λ (ks : List Link). IsIn ks link) c.in_ok-flow.ensures.links h))

-- src/modifying.rt
pub first_places-requires-clause-given : goal.first_places-requires-clause-given
first_places-requires-clause-given c =
    let p = program_tree c.args.program.now in
    let list = c.as_slice-list.result.now in
    let ds = c.args.definitions.now in
    let numbers = c.in_ok-counted.counted in
    λ given h.
    subst (λ (n : ℕ). given.of < n) (sym c.in_ok-things.ensures)
    (given-inside p numbers (callees list) (length list) (sym (length-map list callee_of)) ds c.in_ok-counted.ensures.counted (defined-number p numbers ds c.requires.ordered.all c.in_ok-counted.ensures.all) given
    (subst (λ (gs : List Given). IsIn gs given) c.in_ok-flow.ensures.given h))

-- src/modifying.rt
pub returns : goal.returns
returns c =
    let p = program_tree c.args.program.now in
    let methods = c.in_ok-methods.methods in
    let list = c.as_slice-list.result.now in
    let ds = c.args.definitions.now in
    let numbers = c.in_ok-counted.counted in
    let flow = c.in_ok-flow.flow in
    let rows = c.in_ok-rows.rows.items in
    let given = gathered_from (given_named p) 0 (callees list) ++ gathered_from (given_read p) (length list) (variables_of ds) in
    let links = gathered_from (link_named p numbers) 0 (callees list) ++ gathered_from (link_read p numbers) (length list) (variables_of ds) in
    all-named p numbers (callees list) (length list) (sym (length-map list callee_of)) ds c.in_ok-counted.ensures.counted (defined-number p numbers ds c.requires.ordered.all c.in_ok-counted.ensures.all) methods.numbers methods.list.items (ap callees c.as_slice-list.ensures.value) c.in_ok-methods.ensures.numbered c.in_ok-methods.ensures.all rows (all_state p)
    (λ n lt.
    subst (λ (xs : List Key). ArePlaces (Arises given links n) xs (passed_to rows n)) c.in_ok-key_list.ensures
    (subst (λ (gs : List Given). ArePlaces (Arises gs links n) c.in_ok-key_list.field-0.items (passed_to rows n)) c.in_ok-flow.ensures.given
    (subst (λ (ls : List Link). ArePlaces (Arises flow.given.items ls n) c.in_ok-key_list.field-0.items (passed_to rows n)) c.in_ok-flow.ensures.links
    (c.in_ok-rows.ensures.places n lt))))
