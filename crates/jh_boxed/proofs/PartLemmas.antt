-- A part has fewer nodes than its whole.
use Rattle.std.proofs.Common.{◌<◌, ◌≤◌, arith}
use Rattle.jh_form.specs.Tree.{FieldTree, ValueTree, FieldTrees}
use Rattle.jh_boxed.specs.Sizes.{term_size, int_size, set_size, field_size, value_size, formula_size, fields_size}
use Rattle.jh_boxed.specs.Parts.{Among, first, later, IsChild, IsPart, child, within}
use Rattle.jh_boxed.specs.Parts as p

pub among-size : (f : FieldTree) (fs : FieldTrees) → Among f fs → field_size f ≤ fields_size fs
unfolding fields_size
among-size _ _ (first f fs) = omega arith
among-size _ _ (later f g fs h) = let le : field_size f ≤ fields_size fs = among-size f fs h in omega arith

pub child-size : (a b : ValueTree) → IsChild a b → value_size a < value_size b
unfolding term_size int_size set_size field_size value_size formula_size fields_size
child-size _ _ (p.read_object-a a b) = omega arith
child-size _ _ (p.read_object-b a b) = omega arith
child-size _ _ (p.read_number-a a b) = omega arith
child-size _ _ (p.read_number-b a b) = omega arith
child-size _ _ (p.add-a a b) = omega arith
child-size _ _ (p.add-b a b) = omega arith
child-size _ _ (p.sub-a a b) = omega arith
child-size _ _ (p.sub-b a b) = omega arith
child-size _ _ (p.neg a) = omega arith
child-size _ _ (p.scale z a) = omega arith
child-size _ _ (p.card a) = omega arith
child-size _ _ (p.read_set-a a b) = omega arith
child-size _ _ (p.read_set-b a b) = omega arith
child-size _ _ (p.single a) = omega arith
child-size _ _ (p.union-a a b) = omega arith
child-size _ _ (p.union-b a b) = omega arith
child-size _ _ (p.inter-a a b) = omega arith
child-size _ _ (p.inter-b a b) = omega arith
child-size _ _ (p.diff-a a b) = omega arith
child-size _ _ (p.diff-b a b) = omega arith
child-size _ _ (p.compl a) = omega arith
child-size _ _ (p.compr a) = omega arith
child-size _ _ (p.update-a a b c) = omega arith
child-size _ _ (p.update-b a b c) = omega arith
child-size _ _ (p.update-c a b c) = omega arith
child-size _ _ (p.read_truth-a a b) = omega arith
child-size _ _ (p.read_truth-b a b) = omega arith
child-size _ _ (p.negation a) = omega arith
child-size _ _ (p.and-a a b) = omega arith
child-size _ _ (p.and-b a b) = omega arith
child-size _ _ (p.or-a a b) = omega arith
child-size _ _ (p.or-b a b) = omega arith
child-size _ _ (p.implies-a a b) = omega arith
child-size _ _ (p.implies-b a b) = omega arith
child-size _ _ (p.iff-a a b) = omega arith
child-size _ _ (p.iff-b a b) = omega arith
child-size _ _ (p.all a) = omega arith
child-size _ _ (p.ex a) = omega arith
child-size _ _ (p.eq_object-a a b) = omega arith
child-size _ _ (p.eq_object-b a b) = omega arith
child-size _ _ (p.eq_number-a a b) = omega arith
child-size _ _ (p.eq_number-b a b) = omega arith
child-size _ _ (p.eq_set-a a b) = omega arith
child-size _ _ (p.eq_set-b a b) = omega arith
child-size _ _ (p.less-a a b) = omega arith
child-size _ _ (p.less-b a b) = omega arith
child-size _ _ (p.less_equal-a a b) = omega arith
child-size _ _ (p.less_equal-b a b) = omega arith
child-size _ _ (p.divides z a) = omega arith
child-size _ _ (p.member-a a b) = omega arith
child-size _ _ (p.member-b a b) = omega arith
child-size _ _ (p.subset-a a b) = omega arith
child-size _ _ (p.subset-b a b) = omega arith
child-size _ _ (p.reach-field f fs a b h) = let le : field_size f ≤ fields_size fs = among-size f fs h in omega arith
child-size _ _ (p.reach-a fs a b) = omega arith
child-size _ _ (p.reach-b fs a b) = omega arith
child-size _ _ (p.tree-field f fs h) = let le : field_size f ≤ fields_size fs = among-size f fs h in omega arith
child-size _ _ (p.mark k a) = omega arith

pub part-size : (a b : ValueTree) → IsPart a b → value_size a < value_size b
part-size _ _ (child a b h) = child-size a b h
part-size _ _ (within a b c h k) = let lt : value_size a < value_size b = part-size a b h in let less : value_size b < value_size c = child-size b c k in omega arith
