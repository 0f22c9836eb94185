-- Instances: universals put at terms, round by round.
use Rattle.std.specs.Prelude.{ℕ, zero, suc, ◌+◌, ◌==◌, if◌then◌else◌, List, [], ◌∷◌, ◌++◌, map, filter, length}
use Rattle.jh_form.specs.Tree.{TermTree, FormulaTree}
use Rattle.jh_form.specs.Tree as t
use Rattle.jh_boxed_operations.specs.substitution.Opened.{opened}
use Rattle.jh_inst.specs.instances.Witnesses.{witnesses, witnessed, constants_from}
use Rattle.jh_inst.specs.instances.Prenex.{prenex, in_front}
use Rattle.jh_inst.specs.instances.Terms.{with_terms_of}
use Rattle.jh_inst.specs.instances.Choices.{new_choices}
use Rattle.jh_inst.specs.instances.Entries.{Entry, of_entry, formulas, taken, all_witnesses}

-- A universal at hand, its place in the list, and the terms of the last round: it was put at all choices of these, and at none
-- yet where there are no such terms.
pub record AtHand : Type 0 where
  pub place : ℕ
  pub formula : FormulaTree
  pub old : List TermTree

-- a universal with terms for the variables in front, the outermost variable's first
abbrev pub put_at : FormulaTree → List TermTree → FormulaTree
put_at a [] = a
put_at (t.all a) (w ∷ ws) = put_at (opened a w) ws
put_at a (w ∷ ws) = a

-- What comes of it: each `ex` under no `all` becomes a constant, and each `all` that is then under no `ex` goes to the front.
abbrev pub put : AtHand → List TermTree → ℕ → Entry
put h c k = record {
  formula = prenex (witnessed (put_at h.formula c) [] k);
  source = of_entry h.place;
  terms = c;
  fresh = constants_from k (witnesses (put_at h.formula c));
}

-- how many constants were made for entries that were put
abbrev pub made_constants : List Entry → ℕ
made_constants [] = 0
made_constants (e ∷ es) = length e.fresh + made_constants es

-- a universal put at choices, and universals one after another at each choice of terms at which they weren't put before
abbrev pub puts : AtHand → List (List TermTree) → ℕ → List Entry
puts h [] k = []
puts h (c ∷ cs) k = put h c k ∷ puts h cs (k + witnesses (put_at h.formula c))

abbrev pub new_puts : AtHand → List TermTree → ℕ → List Entry
new_puts h ts k = puts h (new_choices (in_front h.formula) ts h.old) k

abbrev pub all_puts : List AtHand → List TermTree → ℕ → List Entry
all_puts [] ts k = []
all_puts (h ∷ hs) ts k = new_puts h ts k ++ all_puts hs ts (k + made_constants (new_puts h ts k))

-- the universals among entries, of which the first has place n
abbrev pub universals : ℕ → List Entry → List AtHand
universals n [] = []
universals n (e ∷ es) =
    if in_front e.formula == 0 then universals (suc n) es
    else record { place = n; formula = e.formula; old = [] } ∷ universals (suc n) es

-- what was made so far, the universals at hand, the terms, and the number of the first free constant
pub record Progress : Type 0 where
  pub entries : List Entry
  pub at_hand : List AtHand
  pub terms : List TermTree
  pub next : ℕ

-- at the beginning: the facts, and null with their closed terms
abbrev pub begun_with : List Entry → ℕ → Progress
begun_with es k = record { entries = es; at_hand = universals 0 es; terms = with_terms_of (t.null ∷ []) (formulas es); next = k }

abbrev pub begun : List FormulaTree → ℕ → Progress
begun facts k = begun_with (taken facts 0 k) (k + all_witnesses facts)

-- A round: each universal at hand is put at all choices of terms at which it wasn't put before. What comes of it that is a
-- universal is at hand from the next round on, and its closed terms are added.
abbrev pub put_before : List TermTree → List AtHand → List AtHand
put_before ts hs = map (λ (h : AtHand). record { place = h.place; formula = h.formula; old = ts }) hs

abbrev pub with_puts : Progress → List Entry → Progress
with_puts p es = record {
  entries = p.entries ++ es;
  at_hand = put_before p.terms p.at_hand ++ universals (length p.entries) es;
  terms = with_terms_of p.terms (formulas es);
  next = p.next + made_constants es;
}

abbrev pub round : Progress → Progress
round p = with_puts p (all_puts p.at_hand p.terms p.next)

abbrev pub rounds : ℕ → Progress → Progress
rounds zero p = p
rounds (suc r) p = rounds r (round p)

-- the last pass: the universals of one variable alone
abbrev pub of_one : List AtHand → List AtHand
of_one hs = filter (λ (h : AtHand). in_front h.formula == 1) hs

abbrev pub ended : Progress → List Entry
ended p = p.entries ++ all_puts (of_one p.at_hand) p.terms p.next

-- All entries: the facts, in negation normal form, and what r rounds and the last pass put. Constants from number k on are free.
abbrev pub all_made : List FormulaTree → ℕ → ℕ → List Entry
all_made facts k r = ended (rounds r (begun facts k))
