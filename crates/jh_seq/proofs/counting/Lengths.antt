-- The number of goals is the length of the list of sequents.
use Rattle.std.proofs.Common.{◌≡◌, refl, ap, ◌∙◌, ℕ, suc, ◌+◌, arith, if◌then◌else◌, List, [], ◌∷◌, ◌++◌, length, length-append, Option, None, Some, is_some}
use Rattle.std.specs.List.{flat_map}
use Rattle.jh_name.specs.declared.naming.Name.{Name}
use Rattle.jh_name.specs.declared.place.MethodId.{MethodId}
use Rattle.jh_form.specs.declared.mark.Mark.{Mark}
use Rattle.jh_form.specs.Tree.{FormulaTree, FieldTree, FieldTrees}
use Rattle.jh_form.specs.Tree as t
use Rattle.jh_wp.specs.jh_boxed.Mapped.{LeafMap, mapped_fields}
use Rattle.jh_seq.specs.sequent.Sequents.{HypTree, SequentTree}
use Rattle.jh_seq.specs.splitting.Forests.{no_cycles, one_sources, apart_from, all_apart, forest_goals}
use Rattle.jh_seq.specs.splitting.Split.{closing, constant, facts_next, facts_of, true_goal, split_over, whole_forest, split}
use Rattle.jh_seq.specs.counting.Goals.{goals, ones, field_count, forest_count}

pub field_count-mapped : (fs : FieldTrees) (l : LeafMap) (d : ℕ) → field_count (mapped_fields fs l d) ≡ field_count fs
unfolding mapped_fields
field_count-mapped t.none l d = refl
field_count-mapped (t.more f fs) l d = ap suc (field_count-mapped fs l d)

module _ (method : MethodId) (mark : Option Mark) (hs : List HypTree) (k : ℕ) where
  abbrev sequents : List FormulaTree → List SequentTree
  sequents gs = flat_map (λ a. split_over whole_forest a method mark hs [] k) gs

  sequents-both : (gs us : List FormulaTree) → length (sequents (gs ++ us)) ≡ length (sequents gs) + length (sequents us)
  sequents-both [] us = omega arith
  sequents-both (g ∷ gs) us =
      omega (arith, length-append (split_over whole_forest g method mark hs [] k) (sequents (gs ++ us)), length-append (split_over whole_forest g method mark hs [] k) (sequents gs), sequents-both gs us)

  no_cycles-length : (fs rest : FieldTrees) → length (sequents (no_cycles fs rest)) ≡ field_count rest
  no_cycles-length fs t.none = refl
  no_cycles-length fs (t.more f rest) = ap suc (no_cycles-length fs rest)

  one_sources-length : (fs : FieldTrees) → length (sequents (one_sources fs)) ≡ field_count fs
  one_sources-length t.none = refl
  one_sources-length (t.more f fs) = ap suc (one_sources-length fs)

  apart_from-length : (f : FieldTree) (fs : FieldTrees) → length (sequents (apart_from f fs)) ≡ field_count fs
  apart_from-length f t.none = refl
  apart_from-length f (t.more g fs) = ap suc (apart_from-length f fs)

  all_apart-length : (fs : FieldTrees) → length (sequents (all_apart fs)) + (field_count fs + field_count fs) ≡ forest_count (field_count fs)
  all_apart-length t.none = refl
  all_apart-length (t.more f fs) = omega (arith, sequents-both (apart_from f fs) (all_apart fs), apart_from-length f fs, all_apart-length fs)

  forest-length : (fs : FieldTrees) → length (sequents (forest_goals fs)) ≡ forest_count (field_count fs)
  forest-length fs =
      omega (arith, sequents-both (no_cycles fs fs) (one_sources fs ++ all_apart fs), sequents-both (one_sources fs) (all_apart fs), no_cycles-length fs fs, one_sources-length fs, all_apart-length fs)

module _ (method : MethodId) where
  true-length : (mark : Option Mark) (hs : List HypTree) → length (true_goal method mark hs) ≡ (if is_some mark then 1 else 0)
  true-length None hs = refl
  true-length (Some m) hs = refl

  pub split-length : (a : FormulaTree) (mark : Option Mark) (hs : List HypTree) (ws : List Name) (k : ℕ) → length (split a method mark hs ws k) ≡ goals a ones (is_some mark)
  unfolding goals
  split-length (t.mark m a) mark hs ws k = split-length a (Some m) hs ws k
  split-length (t.and a b) mark hs ws k =
      length-append (split a method mark hs ws k) (split b method mark hs ws k) ∙ (λ i. split-length a mark hs ws k i + split-length b mark hs ws k i)
  split-length (t.implies a b) mark hs ws k = split-length b mark (hs ++ facts_of a None ws k) ws (facts_next a k)
  split-length (t.iff a b) mark hs ws k =
      length-append (split b method mark (hs ++ facts_of a None ws k) ws (facts_next a k)) (split a method mark (hs ++ facts_of b None ws k) ws (facts_next b k))
      ∙ (λ i. split-length b mark (hs ++ facts_of a None ws k) ws (facts_next a k) i + split-length a mark (hs ++ facts_of b None ws k) ws (facts_next b k) i)
  split-length (t.all a) mark hs ws k = split-length a mark hs (constant k ∷ ws) (suc k)
  split-length (t.tree fs) mark hs ws k = forest-length method mark hs k (mapped_fields fs (closing ws) 0) ∙ ap forest_count (field_count-mapped fs (closing ws) 0)
  split-length t.true_formula mark hs ws k = true-length mark hs
  split-length a mark hs ws k = refl
