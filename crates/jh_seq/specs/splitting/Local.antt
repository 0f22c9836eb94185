-- The shape of sequents whose quantifiers are put at the terms that stand in them: no updates, no comprehensions and no
-- operations on sets; each field is a name.
use Rattle.std.specs.Prelude.{Bool, true, false, ◌&&◌}
use Rattle.std.specs.List.{list_all}
use Rattle.jh_form.specs.Tree.{TermTree, IntTree, SetTree, FieldTree, FieldTrees, FormulaTree}
use Rattle.jh_form.specs.Tree as t
use Rattle.jh_seq.specs.sequent.Sequents.{SequentTree}

abbrev pub is_field_name : FieldTree → Bool
is_field_name (t.free_field x) = true
is_field_name (t.update f a v) = false

abbrev pub are_field_names : FieldTrees → Bool
are_field_names t.none = true
are_field_names (t.more f fs) = is_field_name f && are_field_names fs

abbrev pub is_local_term : TermTree → Bool
is_local_term (t.bound k) = true
is_local_term (t.free_object x) = true
is_local_term t.null = true
is_local_term (t.read_object f a) = is_field_name f && is_local_term a

-- a constant, a name or a read
abbrev pub is_local_number : IntTree → Bool
is_local_number (t.const z) = true
is_local_number (t.free_number x) = true
is_local_number (t.read_number f a) = is_field_name f && is_local_term a
is_local_number _ = false

-- a name or a read
abbrev pub is_local_set : SetTree → Bool
is_local_set (t.free_set x) = true
is_local_set (t.read_set f a) = is_field_name f && is_local_term a
is_local_set _ = false

-- A formula has local shape where each atom of it is True, False, a truth name or read, an equation of objects, of
-- numbers that are constants, names or reads, a membership in a set name or read, a `reach` or a `tree`.
abbrev pub has_local_shape : FormulaTree → Bool
has_local_shape t.true_formula = true
has_local_shape t.false_formula = true
has_local_shape (t.free_truth x) = true
has_local_shape (t.read_truth f a) = is_field_name f && is_local_term a
has_local_shape (t.negation a) = has_local_shape a
has_local_shape (t.and a b) = has_local_shape a && has_local_shape b
has_local_shape (t.or a b) = has_local_shape a && has_local_shape b
has_local_shape (t.implies a b) = has_local_shape a && has_local_shape b
has_local_shape (t.iff a b) = has_local_shape a && has_local_shape b
has_local_shape (t.all a) = has_local_shape a
has_local_shape (t.ex a) = has_local_shape a
has_local_shape (t.eq_object a b) = is_local_term a && is_local_term b
has_local_shape (t.eq_number a b) = is_local_number a && is_local_number b
has_local_shape (t.member a b) = is_local_term a && is_local_set b
has_local_shape (t.reach fs a b) = are_field_names fs && is_local_term a && is_local_term b
has_local_shape (t.tree fs) = are_field_names fs
has_local_shape (t.mark m a) = has_local_shape a
has_local_shape _ = false

-- A sequent has local shape where its hypotheses and its goal do.
abbrev pub is_local : SequentTree → Bool
is_local s = list_all (λ h. has_local_shape h.fact) s.hyps && has_local_shape s.goal
