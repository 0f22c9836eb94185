-- Steps of commands that several statements have.
use Rattle.std.specs.Prelude.{ℕ, suc, ◌+◌, List, [], ◌∷◌, ◌++◌, map, filter, length, None, Some}
use Rattle.std.specs.Option.{option_map_or}
use Rattle.jh_name.specs.declared.naming.Name.{Name}
use Rattle.jh_name.specs.declared.place.Place.{Place}
use Rattle.jh_form.specs.declared.mark.Mark.{Mark}
use Rattle.jh_form.specs.declared.mark.MarkKind.{MarkKind}
use Rattle.jh_form.specs.declared.mark.MarkKind.TheVariants as kind
use Rattle.jh_form.specs.Tree.{FormulaTree, ValueTree, TermTree}
use Rattle.jh_form.specs.Tree as t
use Rattle.jh_semantics.specs.jh_vars.Resolved.{own}
use Rattle.jh_wp.specs.Command.{CommandTree, CommandTrees}
use Rattle.jh_wp.specs.Command as w
use Rattle.jh_semantics.specs.Code.{Text, ObjectCode, Target, Claim}
use Rattle.jh_semantics.specs.Code as c
use Rattle.jh_semantics.specs.State.{named}
use Rattle.jh_guard.specs.Terms.{Check, object_checks, receiver_checks, object_term}
use Rattle.jh_guard.specs.Items.{Item, Sorted, item_text, is_of_objects, free_of}

-- commands as one list
abbrev pub steps : List CommandTree → CommandTrees
steps [] = w.none
steps (c ∷ cs) = w.more c (steps cs)

abbrev pub sequence : List CommandTree → CommandTree
sequence cs = w.seq (steps cs)

-- a name of a text with a turn
abbrev pub fresh : Text → ℕ → Name
fresh x k = own x k

abbrev pub mark_without_name : MarkKind → Place → Mark
mark_without_name kind place = record { kind = kind; place = place; name = None; from = [] }

-- the mark of a formula of the source, with its label
abbrev pub mark_of : MarkKind → Claim → Mark
mark_of kind claim = record { kind = kind; place = claim.place; name = claim.label; from = claim.from }

abbrev pub assert_check : Check → CommandTree
assert_check check = w.assert (t.mark (mark_without_name kind.Null check.place) check.fact)

abbrev pub assert_checks : List Check → List CommandTree
assert_checks checks = map assert_check checks

abbrev pub assert_claim : MarkKind → Claim → CommandTree
assert_claim kind claim = w.assert (t.mark (mark_of kind claim) claim.formula)

abbrev pub assert_claims : MarkKind → List Claim → List CommandTree
assert_claims kind claims = map (assert_claim kind) claims

-- a fact that has a name, at a place
abbrev pub named_fact : Text → Place → FormulaTree → FormulaTree
named_fact x place f = t.mark (record { kind = kind.Fact; place = place; name = Some (named x); from = [] }) f

abbrev pub assume_named : Text → Place → FormulaTree → CommandTree
assume_named x place f = w.assume (named_fact x place f)

-- a formula of the source as a fact, under its label where it has one
abbrev pub claim_fact : Claim → FormulaTree
claim_fact claim = option_map_or (λ x. t.mark (record { kind = kind.Fact; place = claim.place; name = Some x; from = [] }) claim.formula) claim.label claim.formula

abbrev pub assume_claims : List Claim → List CommandTree
assume_claims claims = map (λ claim. w.assume (claim_fact claim)) claims

-- `v@k := v` for each of these names
abbrev pub copies : List Sorted → ℕ → List CommandTree
copies xs k = map (λ (x : Sorted). w.assign (fresh x.text k) (free_of x.sort (named x.text))) xs

-- the first turn after copies at a turn: where there are none, the turn stays free
abbrev pub after_copies : List Sorted → ℕ → ℕ
after_copies [] k = k
after_copies (x ∷ xs) k = suc k

-- each of these names takes the value of a fresh one, with a turn of its own
abbrev pub havocs : List Sorted → ℕ → List CommandTree
havocs [] k = []
havocs (x ∷ xs) k = w.havoc (named x.text) (fresh x.text k) ∷ havocs xs (suc k)

abbrev pub after_havocs : List Sorted → ℕ → ℕ
after_havocs xs k = length xs + k

-- the copies and then the havocs
abbrev pub changed : List Sorted → ℕ → List CommandTree
changed xs k = copies xs k ++ havocs xs (after_copies xs k)

abbrev pub after_changed : List Sorted → ℕ → ℕ
after_changed xs k = after_havocs xs (after_copies xs k)

-- that the sets of objects among these only grew since the copies at a turn
abbrev pub growth : ℕ → List Item → List CommandTree
growth k xs = map (λ (x : Item). w.assume (t.subset (t.free_set (fresh (item_text x) k)) (t.free_set (named (item_text x))))) (filter is_of_objects xs)

-- the checks of the receiver of a target
abbrev pub target_checks : Target → List Check
target_checks (c.to_field f r p) = object_checks r
target_checks _ = []

-- a field takes another value at an object
abbrev pub put_field : Text → TermTree → ValueTree → CommandTree
put_field f a v = w.assign (named f) (t.of_field (t.update (t.free_field (named f)) a v))

-- a value goes to its target
abbrev pub put : Target → ValueTree → List CommandTree
put c.nowhere v = []
put (c.to_new x) v = w.assign (named x.text) v ∷ []
put (c.to_name x) v = w.assign (named x) v ∷ []
put (c.to_field f r p) v = assert_checks (receiver_checks r p) ++ put_field f (object_term r) v ∷ []
