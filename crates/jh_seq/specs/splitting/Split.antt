-- The sequents of a formula. A goal is split with its innermost label and the hypotheses so far.
use Rattle.std.specs.Prelude.{◌-◌, ℕ, suc, zero, nat_lt, Bool, if◌then◌else◌, List, [], ◌∷◌, ◌++◌, Option, None, Some, codes}
use Rattle.std.specs.List.{flat_map}
use Rattle.jh_name.specs.declared.naming.Name.{Name}
use Rattle.jh_name.specs.declared.place.MethodId.{MethodId}
use Rattle.jh_name.specs.declared.place.Sort as place
use Rattle.jh_form.specs.declared.mark.Mark.{Mark}
use Rattle.jh_form.specs.declared.mark.MarkKind.TheVariants as kind
use Rattle.jh_form.specs.Tree.{TermTree, FormulaTree, FieldTrees}
use Rattle.jh_form.specs.Tree as t
use Rattle.jh_wp.specs.jh_boxed.Mapped.{LeafMap, unchanged, mapped_formula, mapped_fields}
use Rattle.jh_seq.specs.sequent.Sequents.{HypTree, SequentTree}
use Rattle.jh_seq.specs.splitting.Forests.{forest_goals}

-- The constants that stand for the variables of the binders that were passed, the innermost binder's first. No
-- formula that is split has a variable of further binders; null stands for one.
abbrev pub constant_at : List Name → ℕ → TermTree
constant_at [] i = t.null
constant_at (w ∷ ws) zero = t.free_object w
constant_at (w ∷ ws) (suc i) = constant_at ws i

abbrev pub closing : List Name → LeafMap
closing ws = record unchanged { bound_at = λ k d. if nat_lt k d then t.bound k else constant_at ws (k - d) }

abbrev pub closed_by : FormulaTree → List Name → FormulaTree
closed_by a ws = mapped_formula a (closing ws) 0

-- the constant of number k
abbrev pub constant : ℕ → Name
constant k = record { text = codes "c"; turn = k }

abbrev pub hyp_of : Option Name → FormulaTree → HypTree
hyp_of name fact = record { name = name; fact = fact }

-- the number behind those of the constants of an assumption
abbrev pub facts_next : FormulaTree → ℕ → ℕ
facts_next (t.and a b) k = facts_next b (facts_next a k)
facts_next (t.ex a) k = facts_next a (suc k)
facts_next (t.mark m a) k = facts_next a k
facts_next _ k = k

-- the facts of an assumption, each under the name of its innermost label
abbrev pub facts_of : FormulaTree → Option Name → List Name → ℕ → List HypTree
facts_of (t.and a b) name ws k = facts_of a name ws k ++ facts_of b name ws (facts_next a k)
facts_of (t.ex a) name ws k = facts_of a name (constant k ∷ ws) (suc k)
facts_of (t.mark m a) name ws k = facts_of a m.name ws k
facts_of a name ws k = hyp_of name (closed_by a ws) ∷ []

-- the label of a goal that stands under none
abbrev pub no_mark : Mark
no_mark = record { kind = kind.Assert; place = record { line = 0; column = 0 }; name = None; from = [] }

abbrev pub mark_of : Option Mark → Mark
mark_of None = no_mark
mark_of (Some m) = m

-- the sequent of a goal that isn't split
abbrev pub goal_of : MethodId → Option Mark → List HypTree → FormulaTree → List SequentTree
goal_of method mark hyps goal = record { method = method; mark = mark_of mark; hyps = hyps; goal = goal } ∷ []

-- True asks nothing but where it stands under a label
abbrev pub true_goal : MethodId → Option Mark → List HypTree → List SequentTree
true_goal method None hyps = []
true_goal method (Some m) hyps = goal_of method (Some m) hyps t.true_formula

-- What a goal `tree` gives under a label and hypotheses, where constants from a number on are free.
abbrev pub Forest : Type 0
Forest = FieldTrees → MethodId → Option Mark → List HypTree → ℕ → List SequentTree

-- The sequents of a goal under a label and hypotheses, behind binders that have constants, the first free constant
-- being of number k. A variable of `all` gets a constant, an implication adds its facts, an equivalence is both of
-- its implications; what is none of these is a sequent.
abbrev pub split_over : Forest → FormulaTree → MethodId → Option Mark → List HypTree → List Name → ℕ → List SequentTree
split_over forest (t.mark m a) method mark hs ws k = split_over forest a method (Some m) hs ws k
split_over forest (t.and a b) method mark hs ws k = split_over forest a method mark hs ws k ++ split_over forest b method mark hs ws k
split_over forest (t.implies a b) method mark hs ws k = split_over forest b method mark (hs ++ facts_of a None ws k) ws (facts_next a k)
split_over forest (t.iff a b) method mark hs ws k =
    split_over forest b method mark (hs ++ facts_of a None ws k) ws (facts_next a k) ++ split_over forest a method mark (hs ++ facts_of b None ws k) ws (facts_next b k)
split_over forest (t.all a) method mark hs ws k = split_over forest a method mark hs (constant k ∷ ws) (suc k)
split_over forest (t.tree fs) method mark hs ws k = forest (mapped_fields fs (closing ws) 0) method mark hs k
split_over forest t.true_formula method mark hs ws k = true_goal method mark hs
split_over forest a method mark hs ws k = goal_of method mark hs (closed_by a ws)

-- a goal `tree` that isn't split; none stands in the goals of another
abbrev pub whole_forest : Forest
whole_forest fs method mark hs k = goal_of method mark hs (t.tree fs)

-- those of `tree` are split in turn
abbrev pub split_forest : Forest
split_forest fs method mark hs k = flat_map (λ a. split_over whole_forest a method mark hs [] k) (forest_goals fs)

abbrev pub split : FormulaTree → MethodId → Option Mark → List HypTree → List Name → ℕ → List SequentTree
split = split_over split_forest

-- The sequents of a formula of a method, where constants from number k on are free.
abbrev pub split_of : MethodId → FormulaTree → ℕ → List SequentTree
split_of method a k = split a method None [] [] k

-- The test that the turn of a name is before k. Where all names of a formula pass it, constants from k on are free.
abbrev pub before : ℕ → Name → place.Sort → Bool
before k x s = nat_lt x.turn k
