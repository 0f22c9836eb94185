-- Queries without memory.
use Rattle.std.specs.Prelude.{ℕ, ℤ, List}

pub data SetExprTree : Type 0 where
  var : ℕ → SetExprTree
  empty : SetExprTree
  all : SetExprTree
  one : ℕ → SetExprTree
  union : SetExprTree → SetExprTree → SetExprTree
  inter : SetExprTree → SetExprTree → SetExprTree
  diff : SetExprTree → SetExprTree → SetExprTree
  compl : SetExprTree → SetExprTree

pub data NumTree : Type 0 where
  const : ℤ → NumTree
  number : ℕ → NumTree
  add : NumTree → NumTree → NumTree
  sub : NumTree → NumTree → NumTree
  neg : NumTree → NumTree
  scale : ℤ → NumTree → NumTree
  card : SetExprTree → NumTree

pub data CondTree : Type 0 where
  yes : CondTree
  no : CondTree
  flag : ℕ → CondTree
  same_element : ℕ → ℕ → CondTree
  member : ℕ → SetExprTree → CondTree
  equal_set : SetExprTree → SetExprTree → CondTree
  within : SetExprTree → SetExprTree → CondTree
  equal_num : NumTree → NumTree → CondTree
  less_num : NumTree → NumTree → CondTree
  divides : ℤ → NumTree → CondTree
  negation : CondTree → CondTree
  and : CondTree → CondTree → CondTree
  or : CondTree → CondTree → CondTree
  implies : CondTree → CondTree → CondTree
  iff : CondTree → CondTree → CondTree

pub record QueryTree : Type 0 where
  pub sets : ℕ
  pub elements : ℕ
  pub numbers : ℕ
  pub flags : ℕ
  pub hyps : List CondTree
  pub goal : CondTree
