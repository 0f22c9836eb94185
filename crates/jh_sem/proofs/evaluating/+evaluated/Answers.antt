use Rattle.std.proofs.Common.{rules, ◌≡◌, ◌+◌, ◌<◌, ◌≤◌, ◌∷◌, ℕ, suc, Bool, true, false, not, ◌&&◌, ◌||◌, ◌+ℤ◌, ◌-ℤ◌, ◌*ℤ◌, neg_ℤ, sym, ap, ◌∙◌, slice_get, SFits, to_z, of_z, inl, inr, arith}
use Rattle.jh_form.specs.Meaning.{truth, set_value, int_value, every, some, agree}
use Rattle.std.specs.Int.{w64, w128}
use Rattle.std.proofs.lemmas.Int.{to_z-of_z}
use Rattle.jh_containers.proofs.transitive_closure.Places.{before-or-at}
use Rattle.jh_sem.specs.Bounds.{bound_list}
use Rattle.jh_sem.proofs.Below.{below-all}
use Rattle.jh_sem.proofs.Evaluated.{if-ok, stop-and, go-and, stop-or, go-or, one-fails, one-passes, wide-out}
use Rattle.jh_sem.proofs.EvalSteps.{value-And, value-Or, value-Implies, value-Union, value-Inter, value-Diff, value-All, value-Ex, value-EqNumber, value-EqSet, value-Subset, value-Add, value-Sub, value-Neg, value-Scale}
use Rattle.jh_name.specs.declared.place.Sort.TheVariants as Sort
use Rattle.jh_form.specs.Sorts.{tree_sort}
use Rattle.jh_arena.specs.table.Entries.{is_number, is_truth, is_set, the_value, the_truth, the_set, the_number}
use Rattle.jh_arena.specs.table.Nodes.{nodes}
use Rattle.jh_export.proofs.ValueSteps.{int-else, set-else, field-else, formula-else, below-Update-c}
use Rattle.jh_sem.proofs.Updates.{sorted-number, sorted-truth, sorted-member}
use Rattle.jh_sem.proofs.evaluating.+evaluated.Goals as goal

pub number_of-unreachable-requires : goal.number_of-unreachable-requires
number_of-unreachable-requires g t c =
    int-else (g.W.World.listing c.args.world.now) c.args.node c.standing.result c.standing.ensures c.requires.sort
    c.in_default.not-Const c.in_default.not-FreeNumber c.in_default.not-ReadNumber c.in_default.not-Add c.in_default.not-Sub c.in_default.not-Neg c.in_default.not-Scale c.in_default.not-Card

pub has_member-unreachable-requires : goal.has_member-unreachable-requires
has_member-unreachable-requires g t c =
    set-else (g.W.World.listing c.args.world.now) c.args.node c.standing.result c.standing.ensures c.requires.sort
    c.in_default.not-FreeSet c.in_default.not-ReadSet c.in_default.not-Empty c.in_default.not-Univ c.in_default.not-Single c.in_default.not-Union c.in_default.not-Inter c.in_default.not-Diff c.in_default.not-Compl c.in_default.not-Compr

pub truth_of-unreachable-requires : goal.truth_of-unreachable-requires
truth_of-unreachable-requires g t c =
    formula-else (g.W.World.listing c.args.world.now) c.args.node c.standing.result c.standing.ensures c.requires.sort
    c.in_default.not-True c.in_default.not-False c.in_default.not-FreeTruth c.in_default.not-ReadTruth c.in_default.not-Negation c.in_default.not-And c.in_default.not-Or c.in_default.not-Implies c.in_default.not-Iff c.in_default.not-All c.in_default.not-Ex c.in_default.not-EqObject c.in_default.not-EqNumber c.in_default.not-EqSet c.in_default.not-Less c.in_default.not-LessEqual c.in_default.not-Divides c.in_default.not-Member c.in_default.not-Subset c.in_default.not-Reach c.in_default.not-Tree c.in_default.not-Mark

pub number_in-unreachable-requires : goal.number_in-unreachable-requires
number_in-unreachable-requires g t c =
    field-else (g.W.World.listing c.args.world.now) c.args.node c.standing.result c.standing.ensures c.requires.sort
    c.in_default.not-FreeField c.in_default.not-Update

pub truth_in-unreachable-requires : goal.truth_in-unreachable-requires
truth_in-unreachable-requires g t c =
    field-else (g.W.World.listing c.args.world.now) c.args.node c.standing.result c.standing.ensures c.requires.sort
    c.in_default.not-FreeField c.in_default.not-Update

pub member_in-unreachable-requires : goal.member_in-unreachable-requires
member_in-unreachable-requires g t c =
    field-else (g.W.World.listing c.args.world.now) c.args.node c.standing.result c.standing.ensures c.requires.sort
    c.in_default.not-FreeField c.in_default.not-Update

pub number_updated-number_of-requires : goal.number_updated-number_of-requires
number_updated-number_of-requires g t c κs within =
    let table = g.W.World.listing c.args.world.now in
    let is : tree_sort (the_value (slice_get (nodes table) c.args.c)) ≡ Sort.Int = sym c.sort_of.ensures ∙ c.in-Int.is in
    let sorted : is_number (slice_get (nodes table) c.args.c) ≡ true = sorted-number table c.args.node (g.W.World.meaning c.args.world.now) c.args.a c.args.b c.args.c c.requires.stands is in
    let below : c.args.c < c.args.node = below-Update-c table c.args.node c.args.a c.args.b c.args.c c.requires.stands in
    search (rules, arith)

pub truth_updated-truth_of-requires : goal.truth_updated-truth_of-requires
truth_updated-truth_of-requires g t c κs within =
    let table = g.W.World.listing c.args.world.now in
    let is : tree_sort (the_value (slice_get (nodes table) c.args.c)) ≡ Sort.Bool = sym c.sort_of.ensures ∙ c.in-Bool.is in
    let sorted : is_truth (slice_get (nodes table) c.args.c) ≡ true = sorted-truth table c.args.node (g.W.World.meaning c.args.world.now) c.args.a c.args.b c.args.c c.requires.stands is in
    let below : c.args.c < c.args.node = below-Update-c table c.args.node c.args.a c.args.b c.args.c c.requires.stands in
    search (rules, arith)

pub member_updated-has_member-requires : goal.member_updated-has_member-requires
member_updated-has_member-requires g t c κs within =
    let table = g.W.World.listing c.args.world.now in
    let is : tree_sort (the_value (slice_get (nodes table) c.args.c)) ≡ Sort.Set = sym c.sort_of.ensures ∙ c.in-Set.is in
    let sorted : is_set (slice_get (nodes table) c.args.c) ≡ true = sorted-member table c.args.node (g.W.World.meaning c.args.world.now) c.args.a c.args.b c.args.c c.requires.stands is in
    let below : c.args.c < c.args.node = below-Update-c table c.args.node c.args.a c.args.b c.args.c c.requires.stands in
    search (rules, arith)

pub and_value-returns-then-not-branch-clause-value : goal.and_value-returns-then-not-branch-clause-value
and_value-returns-then-not-branch-clause-value g t c =
    let t0 = g.W.World.listing c.args.world.now in
    let m = g.W.World.meaning c.args.world.now in
    let e = bound_list c.args.bound.now in
    stop-and (truth (the_truth (slice_get (nodes t0) c.args.a)) m e) (truth (the_truth (slice_get (nodes t0) c.args.b)) m e) (truth (the_truth (slice_get (nodes t0) c.args.node)) m e) (sym c.in_ok-truth_of.ensures.value ∙ c.if-not-branch.true) (value-And t0 c.args.node m c.args.a c.args.b c.requires.stands e)

pub and_value-returns-clause-value : goal.and_value-returns-clause-value
and_value-returns-clause-value g t c =
    let t0 = g.W.World.listing c.args.world.now in
    let m = g.W.World.meaning c.args.world.now in
    let e = bound_list c.args.bound.now in
    if-ok c.truth_of-2.result (truth (the_truth (slice_get (nodes t0) c.args.b)) m e) (truth (the_truth (slice_get (nodes t0) c.args.node)) m e) c.truth_of-2.ensures.value (go-and (truth (the_truth (slice_get (nodes t0) c.args.a)) m e) (truth (the_truth (slice_get (nodes t0) c.args.b)) m e) (truth (the_truth (slice_get (nodes t0) c.args.node)) m e) (sym c.in_ok-truth_of.ensures.value ∙ c.if-not-branch.false) (value-And t0 c.args.node m c.args.a c.args.b c.requires.stands e))

pub inter_value-returns-then-not-branch-clause-value : goal.inter_value-returns-then-not-branch-clause-value
inter_value-returns-then-not-branch-clause-value g t c =
    let t0 = g.W.World.listing c.args.world.now in
    let m = g.W.World.meaning c.args.world.now in
    let e = bound_list c.args.bound.now in
    stop-and (set_value (the_set (slice_get (nodes t0) c.args.a)) m e c.args.object) (set_value (the_set (slice_get (nodes t0) c.args.b)) m e c.args.object) (set_value (the_set (slice_get (nodes t0) c.args.node)) m e c.args.object) (sym c.in_ok-has_member.ensures.value ∙ c.if-not-branch.true) (value-Inter t0 c.args.node m c.args.a c.args.b c.requires.stands e c.args.object)

pub inter_value-returns-clause-value : goal.inter_value-returns-clause-value
inter_value-returns-clause-value g t c =
    let t0 = g.W.World.listing c.args.world.now in
    let m = g.W.World.meaning c.args.world.now in
    let e = bound_list c.args.bound.now in
    if-ok c.has_member-2.result (set_value (the_set (slice_get (nodes t0) c.args.b)) m e c.args.object) (set_value (the_set (slice_get (nodes t0) c.args.node)) m e c.args.object) c.has_member-2.ensures.value (go-and (set_value (the_set (slice_get (nodes t0) c.args.a)) m e c.args.object) (set_value (the_set (slice_get (nodes t0) c.args.b)) m e c.args.object) (set_value (the_set (slice_get (nodes t0) c.args.node)) m e c.args.object) (sym c.in_ok-has_member.ensures.value ∙ c.if-not-branch.false) (value-Inter t0 c.args.node m c.args.a c.args.b c.requires.stands e c.args.object))

pub or_value-returns-then-branch-clause-value : goal.or_value-returns-then-branch-clause-value
or_value-returns-then-branch-clause-value g t c =
    let t0 = g.W.World.listing c.args.world.now in
    let m = g.W.World.meaning c.args.world.now in
    let e = bound_list c.args.bound.now in
    stop-or (truth (the_truth (slice_get (nodes t0) c.args.a)) m e) (truth (the_truth (slice_get (nodes t0) c.args.b)) m e) (truth (the_truth (slice_get (nodes t0) c.args.node)) m e) (sym c.in_ok-truth_of.ensures.value ∙ c.if-branch.true) (value-Or t0 c.args.node m c.args.a c.args.b c.requires.stands e)

pub or_value-returns-clause-value : goal.or_value-returns-clause-value
or_value-returns-clause-value g t c =
    let t0 = g.W.World.listing c.args.world.now in
    let m = g.W.World.meaning c.args.world.now in
    let e = bound_list c.args.bound.now in
    if-ok c.truth_of-2.result (truth (the_truth (slice_get (nodes t0) c.args.b)) m e) (truth (the_truth (slice_get (nodes t0) c.args.node)) m e) c.truth_of-2.ensures.value (go-or (truth (the_truth (slice_get (nodes t0) c.args.a)) m e) (truth (the_truth (slice_get (nodes t0) c.args.b)) m e) (truth (the_truth (slice_get (nodes t0) c.args.node)) m e) (sym c.in_ok-truth_of.ensures.value ∙ c.if-branch.false) (value-Or t0 c.args.node m c.args.a c.args.b c.requires.stands e))

pub union_value-returns-then-branch-clause-value : goal.union_value-returns-then-branch-clause-value
union_value-returns-then-branch-clause-value g t c =
    let t0 = g.W.World.listing c.args.world.now in
    let m = g.W.World.meaning c.args.world.now in
    let e = bound_list c.args.bound.now in
    stop-or (set_value (the_set (slice_get (nodes t0) c.args.a)) m e c.args.object) (set_value (the_set (slice_get (nodes t0) c.args.b)) m e c.args.object) (set_value (the_set (slice_get (nodes t0) c.args.node)) m e c.args.object) (sym c.in_ok-has_member.ensures.value ∙ c.if-branch.true) (value-Union t0 c.args.node m c.args.a c.args.b c.requires.stands e c.args.object)

pub union_value-returns-clause-value : goal.union_value-returns-clause-value
union_value-returns-clause-value g t c =
    let t0 = g.W.World.listing c.args.world.now in
    let m = g.W.World.meaning c.args.world.now in
    let e = bound_list c.args.bound.now in
    if-ok c.has_member-2.result (set_value (the_set (slice_get (nodes t0) c.args.b)) m e c.args.object) (set_value (the_set (slice_get (nodes t0) c.args.node)) m e c.args.object) c.has_member-2.ensures.value (go-or (set_value (the_set (slice_get (nodes t0) c.args.a)) m e c.args.object) (set_value (the_set (slice_get (nodes t0) c.args.b)) m e c.args.object) (set_value (the_set (slice_get (nodes t0) c.args.node)) m e c.args.object) (sym c.in_ok-has_member.ensures.value ∙ c.if-branch.false) (value-Union t0 c.args.node m c.args.a c.args.b c.requires.stands e c.args.object))

pub implies_value-returns-then-not-branch-clause-value : goal.implies_value-returns-then-not-branch-clause-value
implies_value-returns-then-not-branch-clause-value g t c =
    let t0 = g.W.World.listing c.args.world.now in
    let m = g.W.World.meaning c.args.world.now in
    let e = bound_list c.args.bound.now in
    stop-or (not (truth (the_truth (slice_get (nodes t0) c.args.a)) m e)) (truth (the_truth (slice_get (nodes t0) c.args.b)) m e) (truth (the_truth (slice_get (nodes t0) c.args.node)) m e) (ap not (sym c.in_ok-truth_of.ensures.value ∙ c.if-not-branch.true)) (value-Implies t0 c.args.node m c.args.a c.args.b c.requires.stands e)

pub implies_value-returns-clause-value : goal.implies_value-returns-clause-value
implies_value-returns-clause-value g t c =
    let t0 = g.W.World.listing c.args.world.now in
    let m = g.W.World.meaning c.args.world.now in
    let e = bound_list c.args.bound.now in
    if-ok c.truth_of-2.result (truth (the_truth (slice_get (nodes t0) c.args.b)) m e) (truth (the_truth (slice_get (nodes t0) c.args.node)) m e) c.truth_of-2.ensures.value (go-or (not (truth (the_truth (slice_get (nodes t0) c.args.a)) m e)) (truth (the_truth (slice_get (nodes t0) c.args.b)) m e) (truth (the_truth (slice_get (nodes t0) c.args.node)) m e) (ap not (sym c.in_ok-truth_of.ensures.value ∙ c.if-not-branch.false)) (value-Implies t0 c.args.node m c.args.a c.args.b c.requires.stands e))

pub diff_value-returns-then-not-branch-clause-value : goal.diff_value-returns-then-not-branch-clause-value
diff_value-returns-then-not-branch-clause-value g t c =
    let t0 = g.W.World.listing c.args.world.now in
    let m = g.W.World.meaning c.args.world.now in
    let e = bound_list c.args.bound.now in
    stop-and (set_value (the_set (slice_get (nodes t0) c.args.a)) m e c.args.object) (not (set_value (the_set (slice_get (nodes t0) c.args.b)) m e c.args.object)) (set_value (the_set (slice_get (nodes t0) c.args.node)) m e c.args.object) (sym c.in_ok-has_member.ensures.value ∙ c.if-not-branch.true) (value-Diff t0 c.args.node m c.args.a c.args.b c.requires.stands e c.args.object)

pub diff_value-returns-clause-value : goal.diff_value-returns-clause-value
diff_value-returns-clause-value g t c =
    let t0 = g.W.World.listing c.args.world.now in
    let m = g.W.World.meaning c.args.world.now in
    let e = bound_list c.args.bound.now in
    ap not c.in_ok-other.ensures.value ∙ go-and (set_value (the_set (slice_get (nodes t0) c.args.a)) m e c.args.object) (not (set_value (the_set (slice_get (nodes t0) c.args.b)) m e c.args.object)) (set_value (the_set (slice_get (nodes t0) c.args.node)) m e c.args.object) (sym c.in_ok-has_member.ensures.value ∙ c.if-not-branch.false) (value-Diff t0 c.args.node m c.args.a c.args.b c.requires.stands e c.args.object)

pub all_value-returns-clause-value : goal.all_value-returns-clause-value
all_value-returns-clause-value g t c =
    let t0 = g.W.World.listing c.args.world.now in
    let m = g.W.World.meaning c.args.world.now in
    let e = bound_list c.args.bound.now in
    if-ok c.for_all.result (every m.last (λ x. truth (the_truth (slice_get (nodes t0) c.args.a)) m (x ∷ e))) (truth (the_truth (slice_get (nodes t0) c.args.node)) m e) c.for_all.ensures.value (value-All t0 c.args.node m c.args.a c.requires.stands e)

pub ex_value-returns-clause-value : goal.ex_value-returns-clause-value
ex_value-returns-clause-value g t c =
    let t0 = g.W.World.listing c.args.world.now in
    let m = g.W.World.meaning c.args.world.now in
    let e = bound_list c.args.bound.now in
    if-ok c.for_some.result (some m.last (λ x. truth (the_truth (slice_get (nodes t0) c.args.a)) m (x ∷ e))) (truth (the_truth (slice_get (nodes t0) c.args.node)) m e) c.for_some.ensures.value (value-Ex t0 c.args.node m c.args.a c.requires.stands e)

pub for_all-returns-then-not-branch-clause-value : goal.for_all-returns-then-not-branch-clause-value
for_all-returns-then-not-branch-clause-value g t c =
    let t0 = g.W.World.listing c.args.world.now in
    let m = g.W.World.meaning c.args.world.now in
    let e = bound_list c.args.bound.now in
    one-fails (suc m.last) c.loop-object.object (λ x. truth (the_truth (slice_get (nodes t0) c.args.node)) m (x ∷ e)) (search (rules, arith)) (sym c.in_ok-truth_of.ensures.value ∙ c.if-not-branch.true)

pub for_some-returns-then-branch-clause-value : goal.for_some-returns-then-branch-clause-value
for_some-returns-then-branch-clause-value g t c =
    let t0 = g.W.World.listing c.args.world.now in
    let m = g.W.World.meaning c.args.world.now in
    let e = bound_list c.args.bound.now in
    one-passes (suc m.last) c.loop-object.object (λ x. truth (the_truth (slice_get (nodes t0) c.args.node)) m (x ∷ e)) (search (rules, arith)) (sym c.in_ok-truth_of.ensures.value ∙ c.if-branch.true)

pub add_value-returns-clause-wide : goal.add_value-returns-clause-wide
add_value-returns-clause-wide g t c =
    let t0 = g.W.World.listing c.args.world.now in
    let m = g.W.World.meaning c.args.world.now in
    let e = bound_list c.args.bound.now in
    let fits_left : SFits w128 c.in_ok-left.left = search rules in
    let fits_right : SFits w128 c.in_ok-right.right = search rules in
    wide-out m (the_number (slice_get (nodes t0) c.args.node)) e (to_z w128 (of_z w128 c.in_ok-left.left) +ℤ to_z w128 (of_z w128 c.in_ok-right.right)) c.added.result c.requires.bound ((λ i. to_z-of_z w128 c.in_ok-left.left fits_left i +ℤ to_z-of_z w128 c.in_ok-right.right fits_right i) ∙ (λ i. c.in_ok-left.ensures.value i +ℤ c.in_ok-right.ensures.value i) ∙ value-Add t0 c.args.node m c.args.a c.args.b c.requires.stands e) c.added.ensures.wide

pub sub_value-returns-clause-wide : goal.sub_value-returns-clause-wide
sub_value-returns-clause-wide g t c =
    let t0 = g.W.World.listing c.args.world.now in
    let m = g.W.World.meaning c.args.world.now in
    let e = bound_list c.args.bound.now in
    let fits_left : SFits w128 c.in_ok-left.left = search rules in
    let fits_right : SFits w128 c.in_ok-right.right = search rules in
    wide-out m (the_number (slice_get (nodes t0) c.args.node)) e (to_z w128 (of_z w128 c.in_ok-left.left) -ℤ to_z w128 (of_z w128 c.in_ok-right.right)) c.subtracted.result c.requires.bound ((λ i. to_z-of_z w128 c.in_ok-left.left fits_left i -ℤ to_z-of_z w128 c.in_ok-right.right fits_right i) ∙ (λ i. c.in_ok-left.ensures.value i -ℤ c.in_ok-right.ensures.value i) ∙ value-Sub t0 c.args.node m c.args.a c.args.b c.requires.stands e) c.subtracted.ensures.wide

pub neg_value-returns-clause-wide : goal.neg_value-returns-clause-wide
neg_value-returns-clause-wide g t c =
    let t0 = g.W.World.listing c.args.world.now in
    let m = g.W.World.meaning c.args.world.now in
    let e = bound_list c.args.bound.now in
    let fits : SFits w128 c.in_ok-number.number = search rules in
    wide-out m (the_number (slice_get (nodes t0) c.args.node)) e (neg_ℤ (to_z w128 (of_z w128 c.in_ok-number.number))) c.negated.result c.requires.bound (ap neg_ℤ (to_z-of_z w128 c.in_ok-number.number fits) ∙ ap neg_ℤ c.in_ok-number.ensures.value ∙ value-Neg t0 c.args.node m c.args.a c.requires.stands e) c.negated.ensures.wide

pub scale_value-returns-clause-wide : goal.scale_value-returns-clause-wide
scale_value-returns-clause-wide g t c =
    let t0 = g.W.World.listing c.args.world.now in
    let m = g.W.World.meaning c.args.world.now in
    let e = bound_list c.args.bound.now in
    let fits_number : SFits w64 c.args.number = search rules in
    let fits_term : SFits w128 c.in_ok-term.term = search rules in
    wide-out m (the_number (slice_get (nodes t0) c.args.node)) e (to_z w64 (of_z w64 c.args.number) *ℤ to_z w128 (of_z w128 c.in_ok-term.term)) c.scaled.result c.requires.bound ((λ i. to_z-of_z w64 c.args.number fits_number i *ℤ to_z-of_z w128 c.in_ok-term.term fits_term i) ∙ ap (λ z. c.args.number *ℤ z) c.in_ok-term.ensures.value ∙ value-Scale t0 c.args.node m c.args.number c.args.a c.requires.stands e) c.scaled.ensures.wide

pub eq_set_value-returns-then-not-agree-clause-value : goal.eq_set_value-returns-then-not-agree-clause-value
eq_set_value-returns-then-not-agree-clause-value g t c =
    let t0 = g.W.World.listing c.args.world.now in
    let m = g.W.World.meaning c.args.world.now in
    let e = bound_list c.args.bound.now in
    one-fails (suc m.last) c.loop-place.place (λ x. agree (set_value (the_set (slice_get (nodes t0) c.args.a)) m e x) (set_value (the_set (slice_get (nodes t0) c.args.b)) m e x)) (search (rules, arith)) (sym (c.agree.ensures ∙ (λ i. agree (c.in_ok-left.ensures.value i) (c.in_ok-right.ensures.value i))) ∙ c.if-not-agree.true) ∙ value-EqSet t0 c.args.node m c.args.a c.args.b c.requires.stands e

pub eq_set_value-returns-clause-value : goal.eq_set_value-returns-clause-value
eq_set_value-returns-clause-value g t c =
    let t0 = g.W.World.listing c.args.world.now in
    let m = g.W.World.meaning c.args.world.now in
    let e = bound_list c.args.bound.now in
    sym (below-all (suc m.last) (λ x. agree (set_value (the_set (slice_get (nodes t0) c.args.a)) m e x) (set_value (the_set (slice_get (nodes t0) c.args.b)) m e x)) (λ x lt. c.loop-place.invariant x (search (rules, arith)))) ∙ value-EqSet t0 c.args.node m c.args.a c.args.b c.requires.stands e

pub eq_set_value-loop-place-preserved : goal.eq_set_value-loop-place-preserved
eq_set_value-loop-place-preserved g t c =
    let t0 = g.W.World.listing c.args.world.now in
    let m = g.W.World.meaning c.args.world.now in
    let e = bound_list c.args.bound.now in
    λ x lt.
    elim (before-or-at x c.loop-place.place lt) [
      | inl l ↦ c.loop-place.invariant x l
      | inr k ↦ ap (λ x. agree (set_value (the_set (slice_get (nodes t0) c.args.a)) m e x) (set_value (the_set (slice_get (nodes t0) c.args.b)) m e x)) k ∙ sym (c.agree.ensures ∙ (λ i. agree (c.in_ok-left.ensures.value i) (c.in_ok-right.ensures.value i))) ∙ c.if-not-agree.false
    ]

pub subset_value-returns-then-not-follows-clause-value : goal.subset_value-returns-then-not-follows-clause-value
subset_value-returns-then-not-follows-clause-value g t c =
    let t0 = g.W.World.listing c.args.world.now in
    let m = g.W.World.meaning c.args.world.now in
    let e = bound_list c.args.bound.now in
    one-fails (suc m.last) c.loop-place.place (λ x. not (set_value (the_set (slice_get (nodes t0) c.args.a)) m e x) || set_value (the_set (slice_get (nodes t0) c.args.b)) m e x) (search (rules, arith)) (sym (c.follows.ensures ∙ (λ i. not (c.in_ok-left.ensures.value i) || c.in_ok-right.ensures.value i)) ∙ c.if-not-follows.true) ∙ value-Subset t0 c.args.node m c.args.a c.args.b c.requires.stands e

pub subset_value-returns-clause-value : goal.subset_value-returns-clause-value
subset_value-returns-clause-value g t c =
    let t0 = g.W.World.listing c.args.world.now in
    let m = g.W.World.meaning c.args.world.now in
    let e = bound_list c.args.bound.now in
    sym (below-all (suc m.last) (λ x. not (set_value (the_set (slice_get (nodes t0) c.args.a)) m e x) || set_value (the_set (slice_get (nodes t0) c.args.b)) m e x) (λ x lt. c.loop-place.invariant x (search (rules, arith)))) ∙ value-Subset t0 c.args.node m c.args.a c.args.b c.requires.stands e

pub subset_value-loop-place-preserved : goal.subset_value-loop-place-preserved
subset_value-loop-place-preserved g t c =
    let t0 = g.W.World.listing c.args.world.now in
    let m = g.W.World.meaning c.args.world.now in
    let e = bound_list c.args.bound.now in
    λ x lt.
    elim (before-or-at x c.loop-place.place lt) [
      | inl l ↦ c.loop-place.invariant x l
      | inr k ↦ ap (λ x. not (set_value (the_set (slice_get (nodes t0) c.args.a)) m e x) || set_value (the_set (slice_get (nodes t0) c.args.b)) m e x) k ∙ sym (c.follows.ensures ∙ (λ i. not (c.in_ok-left.ensures.value i) || c.in_ok-right.ensures.value i)) ∙ c.if-not-follows.false
    ]

pub add_value-returns-clause-value : goal.add_value-returns-clause-value
add_value-returns-clause-value g t c =
    let t0 = g.W.World.listing c.args.world.now in
    let m = g.W.World.meaning c.args.world.now in
    let e = bound_list c.args.bound.now in
    let fits_left : SFits w128 c.in_ok-left.left = search rules in
    let fits_right : SFits w128 c.in_ok-right.right = search rules in
    if-ok c.added.result (to_z w128 (of_z w128 c.in_ok-left.left) +ℤ to_z w128 (of_z w128 c.in_ok-right.right)) (int_value (the_number (slice_get (nodes t0) c.args.node)) m e) c.added.ensures.value ((λ i. to_z-of_z w128 c.in_ok-left.left fits_left i +ℤ to_z-of_z w128 c.in_ok-right.right fits_right i) ∙ (λ i. c.in_ok-left.ensures.value i +ℤ c.in_ok-right.ensures.value i) ∙ value-Add t0 c.args.node m c.args.a c.args.b c.requires.stands e)

pub sub_value-returns-clause-value : goal.sub_value-returns-clause-value
sub_value-returns-clause-value g t c =
    let t0 = g.W.World.listing c.args.world.now in
    let m = g.W.World.meaning c.args.world.now in
    let e = bound_list c.args.bound.now in
    let fits_left : SFits w128 c.in_ok-left.left = search rules in
    let fits_right : SFits w128 c.in_ok-right.right = search rules in
    if-ok c.subtracted.result (to_z w128 (of_z w128 c.in_ok-left.left) -ℤ to_z w128 (of_z w128 c.in_ok-right.right)) (int_value (the_number (slice_get (nodes t0) c.args.node)) m e) c.subtracted.ensures.value ((λ i. to_z-of_z w128 c.in_ok-left.left fits_left i -ℤ to_z-of_z w128 c.in_ok-right.right fits_right i) ∙ (λ i. c.in_ok-left.ensures.value i -ℤ c.in_ok-right.ensures.value i) ∙ value-Sub t0 c.args.node m c.args.a c.args.b c.requires.stands e)

pub neg_value-returns-clause-value : goal.neg_value-returns-clause-value
neg_value-returns-clause-value g t c =
    let t0 = g.W.World.listing c.args.world.now in
    let m = g.W.World.meaning c.args.world.now in
    let e = bound_list c.args.bound.now in
    let fits : SFits w128 c.in_ok-number.number = search rules in
    if-ok c.negated.result (neg_ℤ (to_z w128 (of_z w128 c.in_ok-number.number))) (int_value (the_number (slice_get (nodes t0) c.args.node)) m e) c.negated.ensures.value (ap neg_ℤ (to_z-of_z w128 c.in_ok-number.number fits) ∙ ap neg_ℤ c.in_ok-number.ensures.value ∙ value-Neg t0 c.args.node m c.args.a c.requires.stands e)

pub scale_value-returns-clause-value : goal.scale_value-returns-clause-value
scale_value-returns-clause-value g t c =
    let t0 = g.W.World.listing c.args.world.now in
    let m = g.W.World.meaning c.args.world.now in
    let e = bound_list c.args.bound.now in
    let fits_number : SFits w64 c.args.number = search rules in
    let fits_term : SFits w128 c.in_ok-term.term = search rules in
    if-ok c.scaled.result (to_z w64 (of_z w64 c.args.number) *ℤ to_z w128 (of_z w128 c.in_ok-term.term)) (int_value (the_number (slice_get (nodes t0) c.args.node)) m e) c.scaled.ensures.value ((λ i. to_z-of_z w64 c.args.number fits_number i *ℤ to_z-of_z w128 c.in_ok-term.term fits_term i) ∙ ap (λ z. c.args.number *ℤ z) c.in_ok-term.ensures.value ∙ value-Scale t0 c.args.node m c.args.number c.args.a c.requires.stands e)
