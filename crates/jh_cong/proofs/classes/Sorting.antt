-- Trees whose sorts are one.
use Rattle.std.proofs.Common.{◌≡◌, refl, sym, true, false}
use Rattle.std.proofs.lemmas.Bool.{true≢false}
use Rattle.jh_form.specs.Sorts.{tree_sort}
use Rattle.jh_form.specs.Tree.{ValueTree}
use Rattle.jh_form.specs.Tree as t
use Rattle.jh_cong.specs.classes.Equatable.{equatable}
use Rattle.jh_cong.specs.classes.Saying.{AreEquatable}

pub sorts-equatable : (v w : ValueTree) → equatable (tree_sort v) (tree_sort w) ≡ true → AreEquatable v w
unfolding equatable
sorts-equatable (t.of_object a) (t.of_object b) h = tt
sorts-equatable (t.of_object a) _ h = absurd (true≢false (sym h))
sorts-equatable (t.of_number a) (t.of_number b) h = tt
sorts-equatable (t.of_number a) _ h = absurd (true≢false (sym h))
sorts-equatable (t.of_truth a) (t.of_truth b) h = tt
sorts-equatable (t.of_truth a) _ h = absurd (true≢false (sym h))
sorts-equatable (t.of_set a) (t.of_set b) h = tt
sorts-equatable (t.of_set a) _ h = absurd (true≢false (sym h))
sorts-equatable (t.of_field a) _ h = absurd (true≢false (sym h))

pub equatable-sorts : (v w : ValueTree) → AreEquatable v w → equatable (tree_sort v) (tree_sort w) ≡ true
unfolding equatable
equatable-sorts (t.of_object a) (t.of_object b) h = refl
equatable-sorts (t.of_number a) (t.of_number b) h = refl
equatable-sorts (t.of_truth a) (t.of_truth b) h = refl
equatable-sorts (t.of_set a) (t.of_set b) h = refl
equatable-sorts _ _ h = absurd h
