-- Sizes and truths of queries, worked by hand.
use Rattle.std.proofs.Common.{◌≡◌, refl, ℕ, true, false, [], ◌∷◌, pos, ◌+◌}
use Rattle.jh_query.specs.queries.Tree.{SetExprTree, CondTree, QueryTree}
use Rattle.jh_query.specs.queries.Tree as t
use Rattle.jh_query.specs.queries.Sizing.{Sizing}
use Rattle.jh_query.specs.queries.Truth.{query_true, set_size}
use Rattle.jh_query.specs.queries.Size.{query_size}

-- a counter that is 0, goes on where it isn't 3, and is 0 again after one more
abbrev counter : QueryTree
counter = record {
  sets = 0;
  elements = 1;
  numbers = 1;
  flags = 0;
  hyps = t.equal_num (t.number 0) (t.const (pos 0)) ∷ t.negation (t.equal_num (t.number 0) (t.const (pos 3))) ∷ [];
  goal = t.equal_num (t.add (t.number 0) (t.const (pos 1))) (t.const (pos 0));
}

counter_size : query_size counter ≡ 149940
counter_size = refl

-- a new node in a list whose length is counted: set 0 is the content before, set 1 the content after
abbrev push : QueryTree
push = record {
  sets = 2;
  elements = 2;
  numbers = 1;
  flags = 0;
  hyps = t.negation (t.member 1 (t.var 0)) ∷ t.equal_num (t.card (t.var 0)) (t.number 0) ∷ t.equal_set (t.var 1) (t.union (t.var 0) (t.one 1)) ∷ [];
  goal = t.equal_num (t.card (t.var 1)) (t.add (t.number 0) (t.const (pos 1)));
}

push_size : query_size push ≡ 281880
push_size = refl

-- two members of a set of so many objects are one
abbrev pair : ℕ → QueryTree
pair n = record {
  sets = 1;
  elements = 3;
  numbers = 0;
  flags = 0;
  hyps = t.equal_num (t.card (t.var 0)) (t.const (pos n)) ∷ t.member 1 (t.var 0) ∷ t.member 2 (t.var 0) ∷ [];
  goal = t.same_element 1 2;
}

pair_of_two_size : query_size (pair 2) ≡ 2016
pair_of_two_size = refl

pair_of_one_size : query_size (pair 1) ≡ 1824
pair_of_one_size = refl

-- null outside the set, and two members of it
abbrev two_members : Sizing
two_members = record { rest = 0 ∷ 0 ∷ []; spots = record { class = 0; region = 0 } ∷ record { class = 1; region = 1 } ∷ record { class = 2; region = 1 } ∷ []; numbers = []; flags = [] }

two_members_are_two : set_size two_members (t.var 0) ≡ 2
two_members_are_two = refl

pair_of_two_refuted : query_true (pair 2) two_members ≡ false
pair_of_two_refuted = refl

pair_of_one_not_refuted : query_true (pair 1) two_members ≡ true
pair_of_one_not_refuted = refl

-- in a universe of one object each object is null
abbrev alone : QueryTree
alone = record {
  sets = 0;
  elements = 2;
  numbers = 0;
  flags = 0;
  hyps = t.equal_num (t.card t.all) (t.const (pos 1)) ∷ [];
  goal = t.same_element 1 0;
}

alone_size : query_size alone ≡ 102
alone_size = refl

-- a chain of inclusions
abbrev step : ℕ → CondTree
step k = t.within (t.var k) (t.var (k + 1))

six_sets_size : query_size (record {
  sets = 6;
  elements = 1;
  numbers = 0;
  flags = 0;
  hyps = step 0 ∷ step 1 ∷ step 2 ∷ step 3 ∷ step 4 ∷ [];
  goal = t.within (t.var 0) (t.var 5);
}) ≡ 8320
six_sets_size = refl

seven_sets_size : query_size (record {
  sets = 7;
  elements = 1;
  numbers = 0;
  flags = 0;
  hyps = step 0 ∷ step 1 ∷ step 2 ∷ step 3 ∷ step 4 ∷ step 5 ∷ [];
  goal = t.within (t.var 0) (t.var 6);
}) ≡ 33024
seven_sets_size = refl

-- an atom that is wanted both ways counts as true, and one that stands twice counts once
both_ways_size : query_size (record {
  sets = 0;
  elements = 1;
  numbers = 0;
  flags = 2;
  hyps = t.flag 0 ∷ t.negation (t.flag 0) ∷ t.or (t.flag 1) (t.flag 1) ∷ [];
  goal = t.no;
}) ≡ 4
both_ways_size = refl

-- a number of which a part leaves `i128`
wide_size : query_size (record {
  sets = 1;
  elements = 1;
  numbers = 0;
  flags = 0;
  hyps = [];
  goal = t.divides (pos 2) (t.scale (pos 9223372036854775807) (t.scale (pos 9223372036854775807) (t.scale (pos 9223372036854775807) (t.card (t.var 0)))));
}) ≡ 340282366920938463463374607431768211455
wide_size = refl
