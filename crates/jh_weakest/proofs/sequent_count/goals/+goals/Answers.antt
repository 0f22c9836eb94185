use Rattle.std.proofs.Common.{◌≡◌, ◌∙◌, ap, sym, ◌+◌, ◌*◌, true, if◌then◌else◌, length, slice_get}
use Rattle.jh_arena.specs.table.Entries.{Listing, is_truth, the_truth}
use Rattle.jh_arena.specs.table.Nodes.{nodes}
use Rattle.jh_arena.specs.table.Parts.{parts}
use Rattle.jh_seq.specs.counting.Goals.{Weights, capped, forest_count, goals}
use Rattle.jh_weakest.specs.sequent_count.Tallies.{name_at, shares_of, tally_of}
use Rattle.jh_weakest.proofs.sequent_count.Ceilings.{added-twice, added-fixed, once, never, factor-capped}
use Rattle.jh_weakest.proofs.sequent_count.Goings.{goals-here, goals-both, goals-part, goals-labelled, goals-forest, goals-truth, goals-alone, name-is, name-goals, goals_at}
use Rattle.jh_weakest.proofs.sequent_count.Insides.{truth-inside, on-ok}
use Rattle.jh_weakest.proofs.sequent_count.goals.+goals.Goals as goal

pub shape-shape-requires : goal.shape-shape-requires
shape-shape-requires t c = truth-inside (nodes c.args.table.now) c.args.node c.requires.there

pub returns-in-Forest-clause-goals : goal.returns-in-Forest-clause-goals
returns-in-Forest-clause-goals t c = λ w.
    let u = c.args.table.now in
    let x = c.shape-shape.result in
    let n = forest_count (length (parts u.pools.lists x)) in
    let here : goals (the_truth (slice_get (nodes u) c.args.node)) w c.args.marked ≡ n =
    goals-here u w c.args.marked c.args.node x c.shape-shape.ensures.tree ∙ goals-forest u w c.args.marked x (sym c.form_of.ensures ∙ c.in-Forest.is) in
    (λ i. capped (c.add_fixed.new.self.fixed + shares_of u (c.add_fixed.ensures.shares i) w))
    ∙ added-fixed c.args.tally.now.fixed c.add_fixed.new.self.fixed (shares_of u c.args.tally.now.shares.items w) c.times.result (c.args.often * n) c.add_fixed.ensures.fixed
    (factor-capped c.times.result c.args.often c.forest.result n c.times.ensures (c.forest.ensures ∙ ap (λ k. capped (forest_count k)) c.count.ensures))
    ∙ (λ i. capped (tally_of u c.args.tally.now.fixed c.args.tally.now.shares.items w + c.args.often * sym here i))

pub returns-then-marked-clause-goals : goal.returns-then-marked-clause-goals
returns-then-marked-clause-goals t c = λ w.
    let u = c.args.table.now in
    let x = c.shape-shape.result in
    let here : goals (the_truth (slice_get (nodes u) c.args.node)) w c.args.marked ≡ 1 =
    goals-here u w c.args.marked c.args.node x c.shape-shape.ensures.tree ∙ goals-truth u w c.args.marked x (sym c.form_of.ensures ∙ c.in-Truth.is) ∙ ap (λ b. if b then 1 else 0) c.if-marked.true in
    (λ i. capped (c.add_fixed-then-marked.new.self.fixed + shares_of u (c.add_fixed-then-marked.ensures.shares i) w))
    ∙ added-fixed c.args.tally.now.fixed c.add_fixed-then-marked.new.self.fixed (shares_of u c.args.tally.now.shares.items w) c.args.often (c.args.often * 1) c.add_fixed-then-marked.ensures.fixed (once c.args.often)
    ∙ (λ i. capped (tally_of u c.args.tally.now.fixed c.args.tally.now.shares.items w + c.args.often * sym here i))

pub returns-else-marked-clause-goals : goal.returns-else-marked-clause-goals
returns-else-marked-clause-goals t c = λ w.
    let u = c.args.table.now in
    let x = c.shape-shape.result in
    let here : goals (the_truth (slice_get (nodes u) c.args.node)) w c.args.marked ≡ 0 =
    goals-here u w c.args.marked c.args.node x c.shape-shape.ensures.tree ∙ goals-truth u w c.args.marked x (sym c.form_of.ensures ∙ c.in-Truth.is) ∙ ap (λ b. if b then 1 else 0) c.if-marked.false in
    never (tally_of u c.args.tally.now.fixed c.args.tally.now.shares.items w) c.args.often
    ∙ (λ i. capped (tally_of u c.args.tally.now.fixed c.args.tally.now.shares.items w + c.args.often * sym here i))

pub returns-in-Alone-clause-goals : goal.returns-in-Alone-clause-goals
returns-in-Alone-clause-goals t c = λ w.
    let u = c.args.table.now in
    let x = c.shape-shape.result in
    let here : goals (the_truth (slice_get (nodes u) c.args.node)) w c.args.marked ≡ 1 =
    goals-here u w c.args.marked c.args.node x c.shape-shape.ensures.tree
    ∙ goals-alone u w c.args.marked x (sym c.form_of.ensures ∙ c.in-Alone.is) (ap is_truth (sym c.shape-shape.ensures.tree) ∙ c.requires.there) in
    (λ i. capped (c.add_fixed-in-Alone.new.self.fixed + shares_of u (c.add_fixed-in-Alone.ensures.shares i) w))
    ∙ added-fixed c.args.tally.now.fixed c.add_fixed-in-Alone.new.self.fixed (shares_of u c.args.tally.now.shares.items w) c.args.often (c.args.often * 1) c.add_fixed-in-Alone.ensures.fixed (once c.args.often)
    ∙ (λ i. capped (tally_of u c.args.tally.now.fixed c.args.tally.now.shares.items w + c.args.often * sym here i))

pub returns-in-Part-clause-goals : goal.returns-in-Part-clause-goals
returns-in-Part-clause-goals t c =
    let u = c.args.table.now in
    let x = c.shape-shape.result in
    on-ok
    ((w : Weights) → capped (tally_of u c.add_goals-in-Part.new.tally.fixed c.add_goals-in-Part.new.tally.shares.items w) ≡ capped (tally_of u c.args.tally.now.fixed c.args.tally.now.shares.items w + c.args.often * goals_at u w c.args.marked c.in-Part.part c.args.marked))
    ((w : Weights) → capped (tally_of u c.add_goals-in-Part.new.tally.fixed c.add_goals-in-Part.new.tally.shares.items w) ≡ capped (tally_of u c.args.tally.now.fixed c.args.tally.now.shares.items w + c.args.often * goals (the_truth (slice_get (nodes u) c.args.node)) w c.args.marked))
    c.add_goals-in-Part.result
    (λ h w. h w ∙ (λ i. capped (tally_of u c.args.tally.now.fixed c.args.tally.now.shares.items w
    + c.args.often * sym (goals-here u w c.args.marked c.args.node x c.shape-shape.ensures.tree ∙ goals-part u w c.args.marked x c.in-Part.part (sym c.form_of.ensures ∙ c.in-Part.is)) i)))
    c.add_goals-in-Part.ensures.goals

pub returns-in-Labelled-clause-goals : goal.returns-in-Labelled-clause-goals
returns-in-Labelled-clause-goals t c =
    let u = c.args.table.now in
    let x = c.shape-shape.result in
    on-ok
    ((w : Weights) → capped (tally_of u c.add_goals-in-Labelled.new.tally.fixed c.add_goals-in-Labelled.new.tally.shares.items w) ≡ capped (tally_of u c.args.tally.now.fixed c.args.tally.now.shares.items w + c.args.often * goals_at u w c.args.marked c.in-Labelled.part true))
    ((w : Weights) → capped (tally_of u c.add_goals-in-Labelled.new.tally.fixed c.add_goals-in-Labelled.new.tally.shares.items w) ≡ capped (tally_of u c.args.tally.now.fixed c.args.tally.now.shares.items w + c.args.often * goals (the_truth (slice_get (nodes u) c.args.node)) w c.args.marked))
    c.add_goals-in-Labelled.result
    (λ h w. h w ∙ (λ i. capped (tally_of u c.args.tally.now.fixed c.args.tally.now.shares.items w
    + c.args.often * sym (goals-here u w c.args.marked c.args.node x c.shape-shape.ensures.tree ∙ goals-labelled u w c.args.marked x c.in-Labelled.part (sym c.form_of.ensures ∙ c.in-Labelled.is)) i)))
    c.add_goals-in-Labelled.ensures.goals

pub returns-in-Name-clause-goals : goal.returns-in-Name-clause-goals
returns-in-Name-clause-goals t c =
    let u = c.args.table.now in
    let named = name-is u c.shape-shape.result c.args.node (sym c.form_of.ensures ∙ c.in-Name.is) c.shape-shape.ensures.tree in
    on-ok
    ((v : Listing) (w : Weights) → capped (tally_of v c.add.new.self.fixed c.add.new.self.shares.items w) ≡ capped (tally_of v c.args.tally.now.fixed c.args.tally.now.shares.items w + c.args.often * w (name_at v c.args.node) c.args.marked))
    ((w : Weights) → capped (tally_of u c.add.new.self.fixed c.add.new.self.shares.items w) ≡ capped (tally_of u c.args.tally.now.fixed c.args.tally.now.shares.items w + c.args.often * goals (the_truth (slice_get (nodes u) c.args.node)) w c.args.marked))
    c.add.result
    (λ h w. h u w ∙ (λ i. capped (tally_of u c.args.tally.now.fixed c.args.tally.now.shares.items w + c.args.often * sym (name-goals u w c.args.marked c.args.node named) i)))
    c.add.ensures.goals

pub returns-in_ok-add_goals-in-Both-clause-goals : goal.returns-in_ok-add_goals-in-Both-clause-goals
returns-in_ok-add_goals-in-Both-clause-goals t c =
    let u = c.args.table.now in
    let x = c.shape-shape.result in
    let middle = c.add_goals.new.tally in
    let last = c.add_goals-in-Both.new.tally in
    on-ok
    ((w : Weights) → capped (tally_of u last.fixed last.shares.items w) ≡ capped (tally_of u middle.fixed middle.shares.items w + c.args.often * goals_at u w c.args.marked c.in-Both.right c.args.marked))
    ((w : Weights) → capped (tally_of u last.fixed last.shares.items w) ≡ capped (tally_of u c.args.tally.now.fixed c.args.tally.now.shares.items w + c.args.often * goals (the_truth (slice_get (nodes u) c.args.node)) w c.args.marked))
    c.add_goals-in-Both.result
    (λ h w.
    added-twice (tally_of u middle.fixed middle.shares.items w) (tally_of u last.fixed last.shares.items w) (tally_of u c.args.tally.now.fixed c.args.tally.now.shares.items w) c.args.often
    (goals_at u w c.args.marked c.in-Both.left c.args.marked) (goals_at u w c.args.marked c.in-Both.right c.args.marked) (c.in_ok-add_goals-in-Both.ensures.goals w) (h w)
    ∙ (λ i. capped (tally_of u c.args.tally.now.fixed c.args.tally.now.shares.items w
    + c.args.often * sym (goals-here u w c.args.marked c.args.node x c.shape-shape.ensures.tree ∙ goals-both u w c.args.marked x c.in-Both.left c.in-Both.right (sym c.form_of.ensures ∙ c.in-Both.is)) i)))
    c.add_goals-in-Both.ensures.goals
