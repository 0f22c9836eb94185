use Rattle.std.proofs.Common.{◌≡◌, ◌++◌, ◌∙◌, ap, subst, refl, inl, true, [], ◌∷◌, length, slice_get, Some, arith}
use Rattle.jh_closure.specs.union_find.Merges.{root}
use Rattle.jh_closure.proofs.congruence_closure.Answering.{question, effort-some, effort-grows, explains-same, explains-answered, used-right, used-cases, goes-asked, stays-asked, two-kept, two-first, two-second, two-asked, two-efforts}
use Rattle.jh_closure.proofs.congruence_closure.Oks.{on-ok-then, on-ok-four}
use Rattle.jh_closure.proofs.congruence_closure.explaining.answer.Goals as goal

pub returns-then-question-clause-explains : goal.returns-then-question-clause-explains
returns-then-question-clause-explains c said left right trail h =
    explains-same c.args.nodes.now said c.args.forest.now.merges c.args.listed.now.items c.args.used.now.items c.args.asked.now.items c.args.question left right c.if-question.true h

pub returns-then-question-clause-effort : goal.returns-then-question-clause-effort
returns-then-question-clause-effort c = let r = effort-some c.args.question.before in omega (arith, r)

pub returns-then-was_used-clause-asked : goal.returns-then-was_used-clause-asked
returns-then-was_used-clause-asked c = two-asked c.args.asked.now.items c.ask-2.new.asked.items (question c.joint-joint.result.goes c.merge_at-merge.result.left c.joint-joint.result.time) (question c.merge_at-merge.result.right c.joint-joint.result.stays c.joint-joint.result.time) (c.in_ok-ask-2.ensures ∙ ap (λ zs. zs ++ (question c.merge_at-merge.result.right c.joint-joint.result.stays c.joint-joint.result.time) ∷ []) c.in_ok-ask.ensures) c.args.forest.now.merges (length c.args.nodes.now) (goes-asked c.args.nodes.now c.requires.trail.0 c.args.forest.now.merges c.requires.trail.1 c.args.question c.requires.question c.joint-joint.result c.joint-joint.ensures.joint c.joint-joint.ensures.before c.merge_at-merge.result c.merge_at-merge.ensures) (stays-asked c.args.nodes.now c.requires.trail.0 c.args.forest.now.merges c.requires.trail.1 c.args.question c.requires.question c.joint-joint.result c.joint-joint.ensures.joint c.joint-joint.ensures.before c.merge_at-merge.result c.merge_at-merge.ensures) c.requires.asked

pub returns-then-was_used-clause-explains : goal.returns-then-was_used-clause-explains
returns-then-was_used-clause-explains c said left right trail h =
    explains-answered c.args.nodes.now said c.args.forest.now.merges c.args.question c.joint-joint.result c.joint-joint.ensures.joint c.joint-joint.ensures.before c.merge_at-merge.result c.merge_at-merge.ensures c.args.asked.now.items c.ask-2.new.asked.items c.args.listed.now.items c.args.listed.now.items c.args.used.now.items c.was_used.new.used.items left right h
    (two-kept c.args.asked.now.items c.ask-2.new.asked.items (question c.joint-joint.result.goes c.merge_at-merge.result.left c.joint-joint.result.time) (question c.merge_at-merge.result.right c.joint-joint.result.stays c.joint-joint.result.time) (c.in_ok-ask-2.ensures ∙ ap (λ zs. zs ++ (question c.merge_at-merge.result.right c.joint-joint.result.stays c.joint-joint.result.time) ∷ []) c.in_ok-ask.ensures)) (two-first c.args.asked.now.items c.ask-2.new.asked.items (question c.joint-joint.result.goes c.merge_at-merge.result.left c.joint-joint.result.time) (question c.merge_at-merge.result.right c.joint-joint.result.stays c.joint-joint.result.time) (c.in_ok-ask-2.ensures ∙ ap (λ zs. zs ++ (question c.merge_at-merge.result.right c.joint-joint.result.stays c.joint-joint.result.time) ∷ []) c.in_ok-ask.ensures)) (two-second c.args.asked.now.items c.ask-2.new.asked.items (question c.joint-joint.result.goes c.merge_at-merge.result.left c.joint-joint.result.time) (question c.merge_at-merge.result.right c.joint-joint.result.stays c.joint-joint.result.time) (c.in_ok-ask-2.ensures ∙ ap (λ zs. zs ++ (question c.merge_at-merge.result.right c.joint-joint.result.stays c.joint-joint.result.time) ∷ []) c.in_ok-ask.ensures)) (λ i w. w) (λ i w. inl w) (λ t us. used-cases c.args.used.now.items c.joint-joint.result.time t (subst (λ bs. slice_get bs t ≡ Some true) c.was_used.ensures.new us))
    (λ s at g met eq. used-right c.args.nodes.now said c.args.forest.now.merges c.args.question c.joint-joint.result c.joint-joint.ensures.joint c.joint-joint.ensures.before c.merge_at-merge.result c.merge_at-merge.ensures c.args.asked.now.items c.ask-2.new.asked.items c.args.listed.now.items c.args.used.now.items left right h (two-kept c.args.asked.now.items c.ask-2.new.asked.items (question c.joint-joint.result.goes c.merge_at-merge.result.left c.joint-joint.result.time) (question c.merge_at-merge.result.right c.joint-joint.result.stays c.joint-joint.result.time) (c.in_ok-ask-2.ensures ∙ ap (λ zs. zs ++ (question c.merge_at-merge.result.right c.joint-joint.result.stays c.joint-joint.result.time) ∷ []) c.in_ok-ask.ensures)) (c.was_used.ensures.old ∙ ap Some c.if-was_used.true) s at g met eq)

pub returns-then-was_used-clause-effort : goal.returns-then-was_used-clause-effort
returns-then-was_used-clause-effort c =
    let r = (two-efforts c.args.asked.now.items c.ask-2.new.asked.items (question c.joint-joint.result.goes c.merge_at-merge.result.left c.joint-joint.result.time) (question c.merge_at-merge.result.right c.joint-joint.result.stays c.joint-joint.result.time) (c.in_ok-ask-2.ensures ∙ ap (λ zs. zs ++ (question c.merge_at-merge.result.right c.joint-joint.result.stays c.joint-joint.result.time) ∷ []) c.in_ok-ask.ensures) c.joint-joint.result.time refl refl) in
    let g = effort-grows c.joint-joint.result.time c.args.question.before c.joint-joint.ensures.before in
    let p = effort-some c.joint-joint.result.time in
    omega (arith, r, g, p)

pub returns-clause-asked : goal.returns-clause-asked
returns-clause-asked c =
    on-ok-then c.add_reason.result
    (λ h. h c.requires.trail.0 c.args.forest.now.merges (let b = c.requires.question.before in let e = c.joint-joint.ensures.before in omega (arith, b, e)) (c.requires.trail.1.why c.joint-joint.result.time c.merge_at-merge.result c.merge_at-merge.ensures) (two-asked c.args.asked.now.items c.ask-2.new.asked.items (question c.joint-joint.result.goes c.merge_at-merge.result.left c.joint-joint.result.time) (question c.merge_at-merge.result.right c.joint-joint.result.stays c.joint-joint.result.time) (c.in_ok-ask-2.ensures ∙ ap (λ zs. zs ++ (question c.merge_at-merge.result.right c.joint-joint.result.stays c.joint-joint.result.time) ∷ []) c.in_ok-ask.ensures) c.args.forest.now.merges (length c.args.nodes.now) (goes-asked c.args.nodes.now c.requires.trail.0 c.args.forest.now.merges c.requires.trail.1 c.args.question c.requires.question c.joint-joint.result c.joint-joint.ensures.joint c.joint-joint.ensures.before c.merge_at-merge.result c.merge_at-merge.ensures) (stays-asked c.args.nodes.now c.requires.trail.0 c.args.forest.now.merges c.requires.trail.1 c.args.question c.requires.question c.joint-joint.result c.joint-joint.ensures.joint c.joint-joint.ensures.before c.merge_at-merge.result c.merge_at-merge.ensures) c.requires.asked))
    c.add_reason.ensures.asked

pub returns-clause-explains : goal.returns-clause-explains
returns-clause-explains c =
    on-ok-four c.add_reason.result
    (λ keeps lists numbers leads said left right trail h.
    let just = trail.why c.joint-joint.result.time c.merge_at-merge.result c.merge_at-merge.ensures in
    explains-answered c.args.nodes.now said c.args.forest.now.merges c.args.question c.joint-joint.result c.joint-joint.ensures.joint c.joint-joint.ensures.before c.merge_at-merge.result c.merge_at-merge.ensures c.args.asked.now.items c.add_reason.new.asked.items c.args.listed.now.items c.add_reason.new.listed.items c.args.used.now.items c.was_used.new.used.items left right h
    (λ x w. keeps x (two-kept c.args.asked.now.items c.ask-2.new.asked.items (question c.joint-joint.result.goes c.merge_at-merge.result.left c.joint-joint.result.time) (question c.merge_at-merge.result.right c.joint-joint.result.stays c.joint-joint.result.time) (c.in_ok-ask-2.ensures ∙ ap (λ zs. zs ++ (question c.merge_at-merge.result.right c.joint-joint.result.stays c.joint-joint.result.time) ∷ []) c.in_ok-ask.ensures) x w)) (keeps (question c.joint-joint.result.goes c.merge_at-merge.result.left c.joint-joint.result.time) (two-first c.args.asked.now.items c.ask-2.new.asked.items (question c.joint-joint.result.goes c.merge_at-merge.result.left c.joint-joint.result.time) (question c.merge_at-merge.result.right c.joint-joint.result.stays c.joint-joint.result.time) (c.in_ok-ask-2.ensures ∙ ap (λ zs. zs ++ (question c.merge_at-merge.result.right c.joint-joint.result.stays c.joint-joint.result.time) ∷ []) c.in_ok-ask.ensures))) (keeps (question c.merge_at-merge.result.right c.joint-joint.result.stays c.joint-joint.result.time) (two-second c.args.asked.now.items c.ask-2.new.asked.items (question c.joint-joint.result.goes c.merge_at-merge.result.left c.joint-joint.result.time) (question c.merge_at-merge.result.right c.joint-joint.result.stays c.joint-joint.result.time) (c.in_ok-ask-2.ensures ∙ ap (λ zs. zs ++ (question c.merge_at-merge.result.right c.joint-joint.result.stays c.joint-joint.result.time) ∷ []) c.in_ok-ask.ensures))) lists (numbers said (root c.args.forest.now.merges c.joint-joint.result.time) just) (λ t us. used-cases c.args.used.now.items c.joint-joint.result.time t (subst (λ bs. slice_get bs t ≡ Some true) c.was_used.ensures.new us))
    (λ s at g met eq. leads said (root c.args.forest.now.merges c.joint-joint.result.time) s at just g met eq))
    c.add_reason.ensures.keeps c.add_reason.ensures.listed c.add_reason.ensures.numbers c.add_reason.ensures.leads

pub returns-clause-effort : goal.returns-clause-effort
returns-clause-effort c =
    on-ok-then c.add_reason.result
    (λ a.
    let r = (two-efforts c.args.asked.now.items c.ask-2.new.asked.items (question c.joint-joint.result.goes c.merge_at-merge.result.left c.joint-joint.result.time) (question c.merge_at-merge.result.right c.joint-joint.result.stays c.joint-joint.result.time) (c.in_ok-ask-2.ensures ∙ ap (λ zs. zs ++ (question c.merge_at-merge.result.right c.joint-joint.result.stays c.joint-joint.result.time) ∷ []) c.in_ok-ask.ensures) c.joint-joint.result.time refl refl) in
    let g = effort-grows c.joint-joint.result.time c.args.question.before c.joint-joint.ensures.before in
    let p = effort-some c.joint-joint.result.time in
    omega (arith, a, r, g, p))
    c.add_reason.ensures.effort
