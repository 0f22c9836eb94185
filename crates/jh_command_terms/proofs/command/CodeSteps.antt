-- Commands over a table: an equation for each variant, and how they stay while the table grows.
use Rattle.std.proofs.Common.{◌≡◌, refl, sym, ap, ◌∙◌, ℕ, suc, ◌<◌, ◌≤◌, ◌+◌, zero, arith, Bool, true, ◌&&◌, List, [], ◌∷◌, length, drop, get_or, add-one, drop-cons, slice_get, Option, Some, None, is_some}
use Rattle.std.proofs.lemmas.Bool.{true≢false}
use Rattle.std.proofs.lemmas.List.{drop_all}
use Rattle.jh_name.specs.declared.naming.Name.{Name}
use Rattle.jh_form.specs.Tree.{ValueTree, FormulaTree, of_truth}
use Rattle.jh_form.proofs.ClosedLemmas.{both-left, both-right}
use Rattle.jh_arena.specs.table.Entries.{Listing, is_truth, the_truth, the_value}
use Rattle.jh_arena.specs.table.Growth.{Grows, Extends}
use Rattle.jh_arena.specs.table.Nodes.{nodes}
use Rattle.jh_guard.specs.jh_wp.Command.{CommandTree, CommandTrees, assume, assert, assign, havoc, leave, stop, seq, choice, none, more}
use Rattle.jh_command_terms.specs.declared.command.command.Command.{Command, Row_of-Command, end_of-Command, more_of-Command, items-the_row-Command, items_hidden-the_row-Command-0}
use Rattle.jh_command_terms.specs.declared.command.command.Command.TheBlock.{hidden-the_row-Command-0}
use Rattle.jh_command_terms.specs.declared.command.command.Command.TheVariants as c
use Rattle.jh_command_terms.specs.command.Code.{truth_at, is_truth_at, value_at, is_at, IsTruth, command_in, commands_in, command_fits, row_fits, list_in, list_fits}

module _ (t : Listing) where
  -- a row is the list of its items
  commands_in-items : {n : _} (cs : Row_of-Command n) → commands_in t cs ≡ list_in t (items-the_row-Command n cs)
  unfolding commands_in
  commands_in-items end_of-Command = refl
  commands_in-items (more_of-Command a cs) = ap (more (command_in t a)) (commands_in-items cs)

  row_fits-items : {n : _} (cs : Row_of-Command n) → row_fits t cs ≡ list_fits t (items-the_row-Command n cs)
  unfolding row_fits
  row_fits-items end_of-Command = refl
  row_fits-items (more_of-Command a cs) = ap (λ b. command_fits t a && b) (row_fits-items cs)

  pub command_in-Assume : (n : ℕ) → command_in t (c.Assume n) ≡ assume (truth_at t n)
  unfolding command_in
  command_in-Assume n = refl

  pub command_in-Assert : (n : ℕ) → command_in t (c.Assert n) ≡ assert (truth_at t n)
  unfolding command_in
  command_in-Assert n = refl

  pub command_in-Assign : (x : Name) (n : ℕ) → command_in t (c.Assign x n) ≡ assign x (value_at t n)
  unfolding command_in
  command_in-Assign x n = refl

  pub command_in-Havoc : (x y : Name) → command_in t (c.Havoc x y) ≡ havoc x y
  unfolding command_in
  command_in-Havoc x y = refl

  pub command_in-Leave : command_in t c.Leave ≡ leave
  unfolding command_in
  command_in-Leave = refl

  pub command_in-Stop : command_in t c.Stop ≡ stop
  unfolding command_in
  command_in-Stop = refl

  pub command_in-Seq : (cs : List Command) → command_in t (c.Seq cs) ≡ seq (list_in t cs)
  unfolding command_in
  command_in-Seq cs = ap seq (commands_in-items (hidden-the_row-Command-0 cs) ∙ ap (list_in t) (items_hidden-the_row-Command-0 cs))

  pub command_in-Choice : (i j : _) (a b : Command) → command_in t (c.Choice' i a j b) ≡ choice (command_in t a) (command_in t b)
  unfolding command_in
  command_in-Choice i j a b = refl

  pub command_fits-Seq : (cs : List Command) → command_fits t (c.Seq cs) ≡ list_fits t cs
  unfolding command_fits
  command_fits-Seq cs = row_fits-items (hidden-the_row-Command-0 cs) ∙ ap (list_fits t) (items_hidden-the_row-Command-0 cs)

  pub command_fits-Assume : (n : ℕ) → command_fits t (c.Assume n) ≡ is_truth_at t n
  unfolding command_fits
  command_fits-Assume n = refl

  pub command_fits-Assert : (n : ℕ) → command_fits t (c.Assert n) ≡ is_truth_at t n
  unfolding command_fits
  command_fits-Assert n = refl

  pub command_fits-Assign : (x : Name) (n : ℕ) → command_fits t (c.Assign x n) ≡ is_at t n
  unfolding command_fits
  command_fits-Assign x n = refl

  pub command_fits-Choice : (i j : _) (a b : Command) → command_fits t (c.Choice' i a j b) ≡ (command_fits t a && command_fits t b)
  unfolding command_fits
  command_fits-Choice i j a b = refl

-- what is listed stays where it is
grown_of : (old new : List ValueTree) (k : ℕ) (o : Option ValueTree) → Grows old new → slice_get old k ≡ o → is_some o ≡ true → slice_get new k ≡ slice_get old k
grown_of old new k (Some v) g e h = g.keeps k v e ∙ sym e
grown_of old new k None g e h = absurd (true≢false (sym h))

truth-some : (o : Option ValueTree) → is_truth o ≡ true → is_some o ≡ true
unfolding is_truth
truth-some (Some v) h = refl
truth-some None h = h

module _ (t u : Listing) (g : Extends t u) where
  pub node-same : (n : ℕ) → is_at t n ≡ true → slice_get (nodes u) n ≡ slice_get (nodes t) n
  node-same n h = grown_of (nodes t) (nodes u) n (slice_get (nodes t) n) g.nodes refl h

  pub truth-same : (n : ℕ) → is_truth_at t n ≡ true → slice_get (nodes u) n ≡ slice_get (nodes t) n
  truth-same n h = node-same n (truth-some (slice_get (nodes t) n) h)

  pub is_truth-grows : (n : ℕ) → is_truth_at t n ≡ true → is_truth_at u n ≡ true
  is_truth-grows n h = ap is_truth (truth-same n h) ∙ h

  pub truth-grows : (n : ℕ) → is_truth_at t n ≡ true → truth_at u n ≡ truth_at t n
  truth-grows n h = ap the_truth (truth-same n h)

  mutual
    unfolding command_in commands_in command_fits row_fits

    pub command-grows : (a : Command) → command_fits t a ≡ true → command_in u a ≡ command_in t a
    command-grows (c.Assume n) h = ap assume (truth-grows n h)
    command-grows (c.Assert n) h = ap assert (truth-grows n h)
    command-grows (c.Assign x n) h = ap (λ o. assign x (the_value o)) (node-same n h)
    command-grows (c.Havoc x y) h = refl
    command-grows c.Leave h = refl
    command-grows c.Stop h = refl
    command-grows (c.Seq' shape cs) h = ap seq (row-grows cs h)
    command-grows (c.Choice' i a j b) h =
        λ k. choice (command-grows a (both-left (command_fits t a) (command_fits t b) h) k) (command-grows b (both-right (command_fits t a) (command_fits t b) h) k)

    row-grows : {n : _} (cs : Row_of-Command n) → row_fits t cs ≡ true → commands_in u cs ≡ commands_in t cs
    row-grows end_of-Command h = refl
    row-grows (more_of-Command a cs) h =
        λ k. more (command-grows a (both-left (command_fits t a) (row_fits t cs) h) k) (row-grows cs (both-right (command_fits t a) (row_fits t cs) h) k)

  mutual
    unfolding command_fits row_fits

    pub fitting-grows : (a : Command) → command_fits t a ≡ true → command_fits u a ≡ true
    fitting-grows (c.Assume n) h = is_truth-grows n h
    fitting-grows (c.Assert n) h = is_truth-grows n h
    fitting-grows (c.Assign x n) h = ap is_some (node-same n h) ∙ h
    fitting-grows (c.Havoc x y) h = refl
    fitting-grows c.Leave h = refl
    fitting-grows c.Stop h = refl
    fitting-grows (c.Seq' shape cs) h = row-fitting cs h
    fitting-grows (c.Choice' i a j b) h =
        λ k. fitting-grows a (both-left (command_fits t a) (command_fits t b) h) k && fitting-grows b (both-right (command_fits t a) (command_fits t b) h) k

    row-fitting : {n : _} (cs : Row_of-Command n) → row_fits t cs ≡ true → row_fits u cs ≡ true
    row-fitting end_of-Command h = refl
    row-fitting (more_of-Command a cs) h =
        λ k. fitting-grows a (both-left (command_fits t a) (row_fits t cs) h) k && row-fitting cs (both-right (command_fits t a) (row_fits t cs) h) k

  pub list-fits-grows : (cs : List Command) → list_fits t cs ≡ true → list_fits u cs ≡ true
  list-fits-grows [] h = refl
  list-fits-grows (a ∷ cs) h =
      λ k. fitting-grows a (both-left (command_fits t a) (list_fits t cs) h) k && list-fits-grows cs (both-right (command_fits t a) (list_fits t cs) h) k

-- a formula that is listed
listed : (o : Option ValueTree) → is_truth o ≡ true → o ≡ Some (of_truth (the_truth o))
unfolding is_truth the_truth
listed (Some (of_truth a)) e = refl
listed _ e = absurd (true≢false (sym e))

pub truth-listed : (t : Listing) (n : ℕ) → is_truth_at t n ≡ true → IsTruth t n (truth_at t n)
truth-listed t n h = listed (slice_get (nodes t) n) h

pub listed-truth : (t : Listing) (n : ℕ) (a : FormulaTree) → IsTruth t n a → truth_at t n ≡ a
unfolding the_truth
listed-truth t n a h = ap the_truth h

pub listed-is_truth : (t : Listing) (n : ℕ) (a : FormulaTree) → IsTruth t n a → is_truth_at t n ≡ true
unfolding is_truth
listed-is_truth t n a h = ap is_truth h

-- the parts of a command that fits
pub choice-left : (t : Listing) (i j : _) (a b : Command) → command_fits t (c.Choice' i a j b) ≡ true → command_fits t a ≡ true
unfolding command_fits
choice-left t i j a b h = both-left (command_fits t a) (command_fits t b) h

pub choice-right : (t : Listing) (i j : _) (a b : Command) → command_fits t (c.Choice' i a j b) ≡ true → command_fits t b ≡ true
unfolding command_fits
choice-right t i j a b h = both-right (command_fits t a) (command_fits t b) h

pub seq-fits : (t : Listing) (cs : List Command) → command_fits t (c.Seq cs) ≡ true → list_fits t cs ≡ true
seq-fits t cs h = sym (command_fits-Seq t cs) ∙ h

pub step-fits : (t : Listing) (cs : List Command) (i : ℕ) (d : Command) → list_fits t cs ≡ true → i < length cs → command_fits t (get_or cs i d) ≡ true
step-fits t [] i d h lt = absurd (omega arith)
step-fits t (a ∷ cs) zero d h lt = both-left (command_fits t a) (list_fits t cs) h
step-fits t (a ∷ cs) (suc i) d h lt = step-fits t cs i d (both-right (command_fits t a) (list_fits t cs) h) (omega arith)

-- what is left of a list from a place on
pub rest-at : (t : Listing) (cs : List Command) (j : ℕ) (a : Command) → j < length cs → a ≡ get_or cs j a → list_in t (drop j cs) ≡ more (command_in t a) (list_in t (drop (j + 1) cs))
rest-at t cs j a lt e =
    rw add-one (ap (list_in t) (drop-cons cs j a lt) ∙ ap (λ b. more (command_in t b) (list_in t (drop (suc j) cs))) (sym e))

pub rest-end : (t : Listing) (cs : List Command) (j : ℕ) → length cs ≤ j → list_in t (drop j cs) ≡ none
rest-end t cs j h = ap (list_in t) (drop_all j cs h)

pub ruleset code_steps = (command_in-Assume, command_in-Assert, command_in-Assign, command_in-Havoc, command_in-Leave, command_in-Stop, command_in-Seq, command_in-Choice, command_fits-Assume, command_fits-Assert, command_fits-Assign, truth-listed)

pub ruleset part_steps = (choice-left, choice-right, seq-fits, fitting-grows, is_truth-grows)
