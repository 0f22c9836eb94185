-- Instances that have local shape: And and Or of atoms and negated atoms.
use Rattle.std.specs.Prelude.{Bool, true, false, ◌&&◌}
use Rattle.jh_form.specs.Tree.{FormulaTree}
use Rattle.jh_form.specs.Tree as t
use Rattle.jh_derivation_rules.specs.jh_seq.splitting.Local.{is_field_name, are_field_names, is_local_term, is_local_number, is_local_set}

abbrev pub is_local_atom : FormulaTree → Bool
is_local_atom t.true_formula = true
is_local_atom t.false_formula = true
is_local_atom (t.free_truth x) = true
is_local_atom (t.read_truth f a) = is_field_name f && is_local_term a
is_local_atom (t.eq_object a b) = is_local_term a && is_local_term b
is_local_atom (t.eq_number a b) = is_local_number a && is_local_number b
is_local_atom (t.member a b) = is_local_term a && is_local_set b
is_local_atom (t.reach fs a b) = are_field_names fs && is_local_term a && is_local_term b
is_local_atom (t.tree fs) = are_field_names fs
is_local_atom _ = false

abbrev pub is_local_instance : FormulaTree → Bool
is_local_instance (t.and a b) = is_local_instance a && is_local_instance b
is_local_instance (t.or a b) = is_local_instance a && is_local_instance b
is_local_instance (t.negation a) = is_local_atom a
is_local_instance a = is_local_atom a
