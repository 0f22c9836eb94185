use Rattle.std.proofs.Common.{[], ◌∷◌, ◌++◌, List, map, option_map, codes, subst}
use Rattle.jh_arena.proofs.table.Listed.{extends-trans}
use Rattle.jh_form.specs.Tree as tree
use Rattle.jh_semantics.specs.Code.{Claim}
use Rattle.jh_semantics.specs.Entry.{owed}
use Rattle.jh_guard.specs.Frames.{frame_facts}
use Rattle.jh_guard.specs.Methods.{post_formula}
use Rattle.jh_guard.specs.Steps.{fresh}
use Rattle.jh_semantics.specs.typed_code.Statements.{claim_in, method_in}
use Rattle.jh_state_facts.specs.well_formedness.Facts.{AddsFacts}
use Rattle.jh_state_facts.proofs.well_formedness.FactSteps.{adds-two}
use Rattle.jh_state_facts.proofs.changes.AddedSteps.{on-ok}
use Rattle.jh_method_commands.specs.environment.Outlines.{source_of, program_in, writes_in, callee_of}
use Rattle.jh_method_commands.specs.commands.Made.{invariant_formula, frame_formula}
use Rattle.jh_method_commands.proofs.commands.OutlinedSteps.{outlined_grows}
use Rattle.jh_method_commands.proofs.commands.MethodSteps.{owed-are}
use Rattle.jh_method_commands.proofs.commands.returning.push_returned.Goals as goal

pub push_invariants-requires : goal.push_invariants-requires
push_invariants-requires c = outlined_grows c.args.table.now c.push_ensures.new.table c.args.outline.now c.requires.outline c.push_ensures.ensures.grows

pub push_framed-requires-clause-outline : goal.push_framed-requires-clause-outline
push_framed-requires-clause-outline c =
    outlined_grows c.args.table.now c.push_invariants.new.table c.args.outline.now c.requires.outline (extends-trans c.args.table.now c.push_ensures.new.table c.push_invariants.new.table c.push_ensures.ensures.grows c.push_invariants.ensures.grows)

pub returns-clause-facts : goal.returns-clause-facts
returns-clause-facts c =
    let o = c.args.outline.now in
    let x = c.args.method.now in
    let src = source_of o in
    let t1 = c.push_ensures.new.table in
    let t2 = c.push_invariants.new.table in
    let t3 = c.push_framed.new.table in
    let old = c.args.facts.now.items in
    let m1 = c.push_ensures.new.facts.items in
    let m2 = c.push_invariants.new.facts.items in
    let new = c.push_framed.new.facts.items in
    let post = post_formula x.code.now.place (option_map (claim_in src) x.code.now.post) ∷ [] in
    let claims = owed (program_in o) (method_in src x.code.now) in
    let frames = map (frame_formula x.code.now.place) (frame_facts (program_in o) (writes_in o) (callee_of x) (tree.free_set (fresh (codes "alloc") 1)) 1) in
    let invs = subst (λ (cs : List Claim). AddsFacts t2 m1 m2 (map invariant_formula cs)) (owed-are o x.code.now c.owed.result.now c.owed.ensures) c.in_ok-push_invariants.ensures.facts in
    on-ok c.push_framed.result
    (λ h. adds-two t2 t3 old m2 new (post ++ map invariant_formula claims) frames (adds-two t1 t2 old m1 m2 post (map invariant_formula claims) c.in_ok-push_ensures.ensures.facts c.push_invariants.ensures.grows invs) c.push_framed.ensures.grows h)
    c.push_framed.ensures.facts
