-- Whether two atoms are the same.
use Rattle.std.specs.Prelude.{◌==◌, Bool, true, false, ◌&&◌}
use Rattle.std.specs.Ordering.{int_eq}
use Rattle.jh_query.specs.queries.Tree.{SetExprTree, NumTree, CondTree}
use Rattle.jh_query.specs.queries.Tree as t

abbrev pub same_set : SetExprTree → SetExprTree → Bool
same_set (t.var i) (t.var j) = i == j
same_set t.empty t.empty = true
same_set t.all t.all = true
same_set (t.one i) (t.one j) = i == j
same_set (t.union a b) (t.union c d) = same_set a c && same_set b d
same_set (t.inter a b) (t.inter c d) = same_set a c && same_set b d
same_set (t.diff a b) (t.diff c d) = same_set a c && same_set b d
same_set (t.compl a) (t.compl c) = same_set a c
same_set _ _ = false

abbrev pub same_num : NumTree → NumTree → Bool
same_num (t.const i) (t.const j) = int_eq i j
same_num (t.number i) (t.number j) = i == j
same_num (t.add a b) (t.add c d) = same_num a c && same_num b d
same_num (t.sub a b) (t.sub c d) = same_num a c && same_num b d
same_num (t.neg a) (t.neg c) = same_num a c
same_num (t.scale i a) (t.scale j c) = int_eq i j && same_num a c
same_num (t.card a) (t.card c) = same_set a c
same_num _ _ = false

-- what is no atom is the same as nothing
abbrev pub same_atom : CondTree → CondTree → Bool
same_atom (t.flag i) (t.flag j) = i == j
same_atom (t.same_element i j) (t.same_element k l) = i == k && j == l
same_atom (t.member i a) (t.member k c) = i == k && same_set a c
same_atom (t.equal_set a b) (t.equal_set c d) = same_set a c && same_set b d
same_atom (t.within a b) (t.within c d) = same_set a c && same_set b d
same_atom (t.equal_num a b) (t.equal_num c d) = same_num a c && same_num b d
same_atom (t.less_num a b) (t.less_num c d) = same_num a c && same_num b d
same_atom (t.divides i a) (t.divides j c) = int_eq i j && same_num a c
same_atom _ _ = false
