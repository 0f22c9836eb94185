-- How many instances there can be at most, found without making them.
use Rattle.std.specs.Prelude.{ℕ, zero, suc, ◌+◌, ◌*◌, ◌^◌, ◌==◌, if◌then◌else◌, List, [], ◌∷◌, ◌++◌, length, replicate, slice_index}
use Rattle.jh_form.specs.Tree.{TermTree, FormulaTree}
use Rattle.jh_form.specs.Tree as t
use Rattle.jh_seq.specs.sequent.Sequents.{SequentTree}
use Rattle.jh_inst.specs.instances.Witnesses.{witnessed}
use Rattle.jh_inst.specs.instances.Prenex.{prenex, in_front}
use Rattle.jh_inst.specs.instances.Terms.{object_terms}
use Rattle.jh_inst.specs.instances.Entries.{Entry}
use Rattle.jh_inst.specs.instances.Rounds.{Progress, put_at, begun}
use Rattle.jh_inst.specs.instances.Instances.{normal_facts}

-- the numbers that a function gives, added up
abbrev pub total : {X : Type 0} → (X → ℕ) → List X → ℕ
total f [] = 0
total f (x ∷ xs) = f x + total f xs

-- A universal is put at n terms for each of its variables. So a term with one bound variable, as `f x`, gives n closed ones, one
-- without gives none. A term has local shape, so at most one variable stands in it, at its end. The variable of an `ex` becomes
-- another constant at each put: it counts as all the variables of `all`s round it. The powers are for the binders round the
-- term, the innermost binder's first: 1 for an `all`, and the number of the `all`s round it for an `ex`.
abbrev pub term_weight : ℕ → List ℕ → TermTree → ℕ
term_weight n powers (t.bound k) = n ^ slice_index powers k
term_weight n powers (t.read_object f a) = term_weight n powers a
term_weight n powers _ = 0

-- those of all object terms of a formula, each as often as it stands, m being the number of the `all`s round it
abbrev pub weight : ℕ → FormulaTree → List ℕ → ℕ → ℕ
weight n (t.negation a) powers m = weight n a powers m
weight n (t.and a b) powers m = weight n a powers m + weight n b powers m
weight n (t.or a b) powers m = weight n a powers m + weight n b powers m
weight n (t.all a) powers m = weight n a (1 ∷ powers) (suc m)
weight n (t.ex a) powers m = weight n a (m ∷ powers) m
weight n a powers m = total (term_weight n powers) (object_terms a)

-- so many universals of one shape
pub record Group : Type 0 where
  pub formula : FormulaTree
  pub many : ℕ

-- none, where the formula has no variables in front
abbrev pub group : FormulaTree → ℕ → List Group
group a n = if in_front a == 0 then [] else record { formula = a; many = n } ∷ []

abbrev pub groups : List Entry → List Group
groups [] = []
groups (e ∷ es) = group e.formula 1 ++ groups es

-- how many puts of a group there are at n terms
abbrev pub group_puts : ℕ → Group → ℕ
group_puts n g = g.many * n ^ in_front g.formula

-- What a put leaves, which has one shape whatever the terms are: so as at null for each variable.
abbrev pub left_by : FormulaTree → FormulaTree
left_by a = prenex (witnessed (put_at a (replicate (in_front a) t.null)) [] 0)

-- one universal a put, where it leaves `all`s
abbrev pub group_left : ℕ → Group → List Group
group_left n g = group (left_by g.formula) (group_puts n g)

abbrev pub all_left : ℕ → List Group → List Group
all_left n [] = []
all_left n (g ∷ gs) = group_left n g ++ all_left n gs

-- how many terms it adds
abbrev pub group_terms : ℕ → Group → ℕ
group_terms n g = g.many * weight n g.formula [] 0

-- how many puts so far, how many universals at hand, and how many terms
pub record Tally : Type 0 where
  pub puts : ℕ
  pub at_hand : List Group
  pub terms : ℕ

abbrev pub tally : Progress → Tally
tally p = record { puts = 0; at_hand = groups p.entries; terms = length p.terms }

abbrev pub tally_round : Tally → Tally
tally_round c = record {
  puts = c.puts + total (group_puts c.terms) c.at_hand;
  at_hand = c.at_hand ++ all_left c.terms c.at_hand;
  terms = c.terms + total (group_terms c.terms) c.at_hand;
}

abbrev pub tally_rounds : ℕ → Tally → Tally
tally_rounds zero c = c
tally_rounds (suc r) c = tally_rounds r (tally_round c)

-- the last pass: those of one variable at each term
abbrev pub last_count : ℕ → Group → ℕ
last_count n g = if in_front g.formula == 1 then g.many * n else 0

abbrev pub tally_end : Tally → ℕ
tally_end c = c.puts + total (last_count c.terms) c.at_hand

abbrev pub count_all : List FormulaTree → ℕ → ℕ → ℕ
count_all facts k r = tally_end (tally_rounds r (tally (begun facts k)))

abbrev pub count : SequentTree → ℕ → ℕ → ℕ
count s k r = count_all (normal_facts s) k r
