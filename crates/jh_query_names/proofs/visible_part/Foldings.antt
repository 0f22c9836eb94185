-- What is left of two formulas hangs on the truths that they are at sight.
use Rattle.std.proofs.Common.{◌≡◌, refl, true, false, Some, None}
use Rattle.jh_form.specs.Tree.{FormulaTree}
use Rattle.jh_form.specs.Tree as t
use Rattle.jh_approx.specs.definition.Shown.{negation_of, and_before, and_of, or_before, or_of, implies_before, implies_of, iff_before, iff_of}
use Rattle.jh_query_names.specs.declared.visible_part.folding.Connective.{Connective}
use Rattle.jh_query_names.specs.declared.visible_part.folding.Connective.TheVariants as c
use Rattle.jh_query_names.specs.visible_part.Folding.{constant, folded_and, folded_or, folded_implies, folded_iff, folded, left_of, joined}

pub negation-true : (a : FormulaTree) → constant a ≡ Some true → negation_of a ≡ t.false_formula
unfolding constant negation_of
negation-true t.true_formula h = refl
negation-true t.false_formula h = cc
negation-true a h = cc

pub negation-false : (a : FormulaTree) → constant a ≡ Some false → negation_of a ≡ t.true_formula
unfolding constant negation_of
negation-false t.true_formula h = cc
negation-false t.false_formula h = refl
negation-false a h = cc

pub negation-none : (a : FormulaTree) → constant a ≡ None → negation_of a ≡ t.negation a
unfolding constant negation_of
negation-none t.true_formula h = cc
negation-none t.false_formula h = cc
negation-none a h = refl

and-before-is : (a b : FormulaTree) → and_before a b ≡ left_of (folded_and None (constant b)) c.And a b
unfolding constant and_before
and-before-is a t.true_formula = refl
and-before-is a t.false_formula = refl
and-before-is a b = refl

and-is : (a b : FormulaTree) → and_of a b ≡ left_of (folded_and (constant a) (constant b)) c.And a b
unfolding constant and_of
and-is t.true_formula b = refl
and-is t.false_formula b = refl
and-is a b = and-before-is a b

or-before-is : (a b : FormulaTree) → or_before a b ≡ left_of (folded_or None (constant b)) c.Or a b
unfolding constant or_before
or-before-is a t.true_formula = refl
or-before-is a t.false_formula = refl
or-before-is a b = refl

or-is : (a b : FormulaTree) → or_of a b ≡ left_of (folded_or (constant a) (constant b)) c.Or a b
unfolding constant or_of
or-is t.true_formula b = refl
or-is t.false_formula b = refl
or-is a b = or-before-is a b

implies-before-is : (a b : FormulaTree) → constant a ≡ None → implies_before a b ≡ left_of (folded_implies None (constant b)) c.Implies a b
unfolding constant implies_before
implies-before-is a t.true_formula h = refl
implies-before-is a t.false_formula h = negation-none a h
implies-before-is a b h = refl

implies-is : (a b : FormulaTree) → implies_of a b ≡ left_of (folded_implies (constant a) (constant b)) c.Implies a b
unfolding constant implies_of
implies-is t.true_formula b = refl
implies-is t.false_formula b = refl
implies-is a b = implies-before-is a b refl

iff-before-is : (a b : FormulaTree) → constant a ≡ None → iff_before a b ≡ left_of (folded_iff None (constant b)) c.Iff a b
unfolding constant iff_before
iff-before-is a t.true_formula h = refl
iff-before-is a t.false_formula h = negation-none a h
iff-before-is a b h = refl

iff-false-is : (b : FormulaTree) → negation_of b ≡ left_of (folded_iff (Some false) (constant b)) c.Iff t.false_formula b
unfolding constant negation_of
iff-false-is t.true_formula = refl
iff-false-is t.false_formula = refl
iff-false-is b = refl

iff-is : (a b : FormulaTree) → iff_of a b ≡ left_of (folded_iff (constant a) (constant b)) c.Iff a b
unfolding constant iff_of
iff-is t.true_formula b = refl
iff-is t.false_formula b = iff-false-is b
iff-is a b = iff-before-is a b refl

pub joined-is : (k : Connective) (a b : FormulaTree) → joined k a b ≡ left_of (folded k (constant a) (constant b)) k a b
joined-is c.And a b = and-is a b
joined-is c.Or a b = or-is a b
joined-is c.Implies a b = implies-is a b
joined-is c.Iff a b = iff-is a b
