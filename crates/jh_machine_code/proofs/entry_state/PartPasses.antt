-- A part passes a test of names where the whole does.
use Rattle.std.proofs.Common.{◌≡◌, Bool, true, ◌&&◌}
use Rattle.jh_name.specs.declared.naming.Name.{Name}
use Rattle.jh_name.specs.declared.place.Sort.{Sort}
use Rattle.jh_form.specs.Tree.{FieldTree, ValueTree, FieldTrees}
use Rattle.jh_form.specs.Passing.{term_passes, int_passes, set_passes, field_passes, value_passes, formula_passes, fields_passes}
use Rattle.jh_form.proofs.ClosedLemmas.{both-left, both-right}
use Rattle.jh_boxed.specs.Parts.{Among, first, later, IsChild, IsPart, child, within}
use Rattle.jh_boxed.specs.Parts as c

module _ (p : Name → Sort → Bool) where
  among-passes : (f : FieldTree) (fs : FieldTrees) → Among f fs → fields_passes fs p ≡ true → field_passes f p ≡ true
  unfolding fields_passes
  among-passes _ _ (first f fs) e = both-left (field_passes f p) (fields_passes fs p) e
  among-passes _ _ (later f g fs h) e = among-passes f fs h (both-right (field_passes g p) (fields_passes fs p) e)

  child-passes : (w v : ValueTree) → IsChild w v → value_passes v p ≡ true → value_passes w p ≡ true
  unfolding term_passes int_passes set_passes field_passes value_passes formula_passes fields_passes
  child-passes _ _ (c.read_object-a a b) e = both-left (field_passes a p) (term_passes b p) e
  child-passes _ _ (c.read_object-b a b) e = both-right (field_passes a p) (term_passes b p) e
  child-passes _ _ (c.read_number-a a b) e = both-left (field_passes a p) (term_passes b p) e
  child-passes _ _ (c.read_number-b a b) e = both-right (field_passes a p) (term_passes b p) e
  child-passes _ _ (c.add-a a b) e = both-left (int_passes a p) (int_passes b p) e
  child-passes _ _ (c.add-b a b) e = both-right (int_passes a p) (int_passes b p) e
  child-passes _ _ (c.sub-a a b) e = both-left (int_passes a p) (int_passes b p) e
  child-passes _ _ (c.sub-b a b) e = both-right (int_passes a p) (int_passes b p) e
  child-passes _ _ (c.neg a) e = e
  child-passes _ _ (c.scale z a) e = e
  child-passes _ _ (c.card a) e = e
  child-passes _ _ (c.read_set-a a b) e = both-left (field_passes a p) (term_passes b p) e
  child-passes _ _ (c.read_set-b a b) e = both-right (field_passes a p) (term_passes b p) e
  child-passes _ _ (c.single a) e = e
  child-passes _ _ (c.union-a a b) e = both-left (set_passes a p) (set_passes b p) e
  child-passes _ _ (c.union-b a b) e = both-right (set_passes a p) (set_passes b p) e
  child-passes _ _ (c.inter-a a b) e = both-left (set_passes a p) (set_passes b p) e
  child-passes _ _ (c.inter-b a b) e = both-right (set_passes a p) (set_passes b p) e
  child-passes _ _ (c.diff-a a b) e = both-left (set_passes a p) (set_passes b p) e
  child-passes _ _ (c.diff-b a b) e = both-right (set_passes a p) (set_passes b p) e
  child-passes _ _ (c.compl a) e = e
  child-passes _ _ (c.compr a) e = e
  child-passes _ _ (c.update-a a b c) e = both-left (field_passes a p) (term_passes b p) (both-left (field_passes a p && term_passes b p) (value_passes c p) e)
  child-passes _ _ (c.update-b a b c) e = both-right (field_passes a p) (term_passes b p) (both-left (field_passes a p && term_passes b p) (value_passes c p) e)
  child-passes _ _ (c.update-c a b c) e = both-right (field_passes a p && term_passes b p) (value_passes c p) e
  child-passes _ _ (c.read_truth-a a b) e = both-left (field_passes a p) (term_passes b p) e
  child-passes _ _ (c.read_truth-b a b) e = both-right (field_passes a p) (term_passes b p) e
  child-passes _ _ (c.negation a) e = e
  child-passes _ _ (c.and-a a b) e = both-left (formula_passes a p) (formula_passes b p) e
  child-passes _ _ (c.and-b a b) e = both-right (formula_passes a p) (formula_passes b p) e
  child-passes _ _ (c.or-a a b) e = both-left (formula_passes a p) (formula_passes b p) e
  child-passes _ _ (c.or-b a b) e = both-right (formula_passes a p) (formula_passes b p) e
  child-passes _ _ (c.implies-a a b) e = both-left (formula_passes a p) (formula_passes b p) e
  child-passes _ _ (c.implies-b a b) e = both-right (formula_passes a p) (formula_passes b p) e
  child-passes _ _ (c.iff-a a b) e = both-left (formula_passes a p) (formula_passes b p) e
  child-passes _ _ (c.iff-b a b) e = both-right (formula_passes a p) (formula_passes b p) e
  child-passes _ _ (c.all a) e = e
  child-passes _ _ (c.ex a) e = e
  child-passes _ _ (c.eq_object-a a b) e = both-left (term_passes a p) (term_passes b p) e
  child-passes _ _ (c.eq_object-b a b) e = both-right (term_passes a p) (term_passes b p) e
  child-passes _ _ (c.eq_number-a a b) e = both-left (int_passes a p) (int_passes b p) e
  child-passes _ _ (c.eq_number-b a b) e = both-right (int_passes a p) (int_passes b p) e
  child-passes _ _ (c.eq_set-a a b) e = both-left (set_passes a p) (set_passes b p) e
  child-passes _ _ (c.eq_set-b a b) e = both-right (set_passes a p) (set_passes b p) e
  child-passes _ _ (c.less-a a b) e = both-left (int_passes a p) (int_passes b p) e
  child-passes _ _ (c.less-b a b) e = both-right (int_passes a p) (int_passes b p) e
  child-passes _ _ (c.less_equal-a a b) e = both-left (int_passes a p) (int_passes b p) e
  child-passes _ _ (c.less_equal-b a b) e = both-right (int_passes a p) (int_passes b p) e
  child-passes _ _ (c.divides z a) e = e
  child-passes _ _ (c.member-a a b) e = both-left (term_passes a p) (set_passes b p) e
  child-passes _ _ (c.member-b a b) e = both-right (term_passes a p) (set_passes b p) e
  child-passes _ _ (c.subset-a a b) e = both-left (set_passes a p) (set_passes b p) e
  child-passes _ _ (c.subset-b a b) e = both-right (set_passes a p) (set_passes b p) e
  child-passes _ _ (c.reach-field f fs a b h) e = among-passes f fs h (both-left (fields_passes fs p) (term_passes a p) (both-left (fields_passes fs p && term_passes a p) (term_passes b p) e))
  child-passes _ _ (c.reach-a fs a b) e = both-right (fields_passes fs p) (term_passes a p) (both-left (fields_passes fs p && term_passes a p) (term_passes b p) e)
  child-passes _ _ (c.reach-b fs a b) e = both-right (fields_passes fs p && term_passes a p) (term_passes b p) e
  child-passes _ _ (c.tree-field f fs h) e = among-passes f fs h e
  child-passes _ _ (c.mark k a) e = e

  pub part-passes : (w v : ValueTree) → IsPart w v → value_passes v p ≡ true → value_passes w p ≡ true
  part-passes w v (child _ _ h) e = child-passes w v h e
  part-passes w v (within _ b _ inner h) e = part-passes w b inner (child-passes b v h e)
