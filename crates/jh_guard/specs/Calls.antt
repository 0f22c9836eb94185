-- The command of a call, which is cut at the contract of the method that is called. The contract speaks of its own parameters, of `this`,
-- of `result` and of the state at its entry: at a call fresh names stand for these.
use Rattle.std.specs.Prelude.{ℕ, suc, ◌+◌, ◌==◌, Bool, true, false, if◌then◌else◌, List, [], ◌∷◌, ◌++◌, map, length, Option, None, Some, codes, is_some}
use Rattle.jh_name.specs.declared.naming.Name.{Name}
use Rattle.jh_name.specs.declared.place.Place.{Place}
use Rattle.jh_form.specs.declared.mark.MarkKind.TheVariants as kind
use Rattle.jh_form.specs.Tree.{FormulaTree, ValueTree, TermTree, SetTree}
use Rattle.jh_form.specs.Tree as t
use Rattle.jh_semantics.specs.jh_boxed.Mapped.{LeafMap, unchanged, mapped_formula}
use Rattle.jh_rules.specs.Words.{same_text}
use Rattle.jh_rules.specs.declared.types.Ty.{Ty}
use Rattle.jh_rules.specs.Kinds.{kind_of, is_void}
use Rattle.jh_semantics.specs.jh_vars.state_names.States.{sort_of}
use Rattle.jh_semantics.specs.jh_vars.Written.{Callee}
use Rattle.jh_wp.specs.Command.{CommandTree}
use Rattle.jh_wp.specs.Command as w
use Rattle.jh_semantics.specs.Code.{Text, ObjectCode, AnyCode, Local, Target, Claim}
use Rattle.jh_semantics.specs.Code as c
use Rattle.jh_semantics.specs.Program.{Program, Method}
use Rattle.jh_semantics.specs.State.{named}
use Rattle.jh_semantics.specs.WellFormed.{lies_in}
use Rattle.jh_semantics.specs.Entry.{owed}
use Rattle.jh_guard.specs.Terms.{Check, is_not_null, object_term, value_term, object_checks, receiver_checks, value_checks}
use Rattle.jh_guard.specs.Items.{Item, Sorted, sorted_item, items_where, free_of}
use Rattle.jh_guard.specs.Writes.{Writes}
use Rattle.jh_guard.specs.Frames.{frame_facts}
use Rattle.jh_guard.specs.Steps.{fresh, mark_without_name, assert_checks, assert_claims, assume_claims, assume_named, changed, after_changed, growth, target_checks, put_field}

-- A formula with other names, at every sort. All stand for their names at once.
abbrev pub renaming_by : (Name → Name) → LeafMap
renaming_by f = record unchanged {
  object_at = λ z d. t.free_object (f z);
  number_at = λ z d. t.free_number (f z);
  truth_at = λ z d. t.free_truth (f z);
  set_at = λ z d. t.free_set (f z);
  field_at = λ z d. t.free_field (f z);
}

abbrev pub renamed_by : (Name → Name) → FormulaTree → FormulaTree
renamed_by f a = mapped_formula a (renaming_by f) 0

abbrev pub this_text : Text
this_text = codes "this"

abbrev pub result_text : Text
result_text = codes "result"

abbrev pub target_text : Text
target_text = codes "target"

-- The fresh names of a call: the turns of the receiver, of the first argument, of the target's receiver, of the copies and of the
-- result. What isn't there takes no turn.
pub record CallTurns : Type 0 where
  pub receiver : ℕ
  pub args : ℕ
  pub target : ℕ
  pub copies : ℕ
  pub result : ℕ
  pub next : ℕ

abbrev pub target_count : Target → ℕ
target_count (c.to_field f r p) = 1
target_count _ = 0

abbrev pub call_turns : Target → Option ObjectCode → ℕ → List Sorted → Ty → ℕ → CallTurns
call_turns target receiver arg_count written result k =
    let first_arg : ℕ = (if is_some receiver then 1 else 0) + k in
    let at_target : ℕ = arg_count + first_arg in
    let at_copies : ℕ = target_count target + at_target in
    let at_result : ℕ = after_changed written at_copies in
    record { receiver = k; args = first_arg; target = at_target; copies = at_copies; result = at_result; next = (if is_void result then 0 else 1) + at_result }

-- The name at a call for a name of the contract: a parameter's argument, or the name itself.
abbrev pub argument_name : List Local → ℕ → Text → Name
argument_name [] k x = named x
argument_name (y ∷ ys) k x = if same_text y.text x then fresh x k else argument_name ys (suc k) x

-- `this` and the parameters at turn 0; a name at turn 1 is one of the state at entry: its copy where the method may write it, and
-- else the name itself, which has the value that it had
abbrev pub at_call : CallTurns → List Local → (Text → Bool) → Name → Name
at_call turns params written z =
    if z.turn == 0 then (if same_text z.text this_text then fresh this_text turns.receiver else if same_text z.text result_text then fresh result_text turns.result else argument_name params turns.args z.text)
    else if written z.text then fresh z.text turns.copies else named z.text

-- the receiver is checked and goes into a fresh name
abbrev pub receiver_value_checks : Option ObjectCode → List Check
receiver_value_checks None = []
receiver_value_checks (Some r) = object_checks r

abbrev pub called_checks : Option ObjectCode → Place → List Check
called_checks None p = []
called_checks (Some r) p = receiver_checks r p

abbrev pub all_checks : List AnyCode → List Check
all_checks [] = []
all_checks (e ∷ es) = value_checks e ++ all_checks es

abbrev pub keep_receiver : Option ObjectCode → ℕ → List CommandTree
keep_receiver None k = []
keep_receiver (Some r) k = w.assign (fresh this_text k) (t.of_object (object_term r)) ∷ []

abbrev pub keep_args : List Local → List AnyCode → ℕ → List CommandTree
keep_args (x ∷ xs) (e ∷ es) k = w.assign (fresh x.text k) (value_term e) ∷ keep_args xs es (suc k)
keep_args _ _ k = []

abbrev pub keep_target : Target → ℕ → List CommandTree
keep_target (c.to_field f r p) k = w.assign (fresh target_text k) (t.of_object (object_term r)) ∷ []
keep_target _ k = []

-- `requires` is asserted at the call's statement
abbrev pub assert_requires : (Name → Name) → Place → Option Claim → List CommandTree
assert_requires f q None = []
assert_requires f q (Some claim) = w.assert (t.mark (mark_without_name kind.Pre q) (renamed_by f claim.formula)) ∷ []

-- and `ensures` is a fact from there on
abbrev pub assume_ensures : (Name → Name) → Option Claim → List CommandTree
assume_ensures f None = []
assume_ensures f (Some claim) = assume_named (codes "post") claim.place (renamed_by f claim.formula) ∷ []

-- the result, at its turn
abbrev pub result_value : Ty → ℕ → ValueTree
result_value type k = free_of (sort_of (kind_of type)) (fresh result_text k)

-- a result goes to its target; the receiver of a field stands under its fresh name, and is not null unless it is `this`
abbrev pub kept_checks : ObjectCode → Place → ℕ → List Check
kept_checks c.this p k = []
kept_checks r p k = record { place = p; fact = is_not_null (t.free_object (fresh target_text k)) } ∷ []

abbrev pub put_result : Target → ℕ → ValueTree → List CommandTree
put_result c.nowhere k v = []
put_result (c.to_new x) k v = w.assign (named x.text) v ∷ []
put_result (c.to_name x) k v = w.assign (named x) v ∷ []
put_result (c.to_field f r p) k v = assert_checks (kept_checks r p k) ++ put_field f (t.free_object (fresh target_text k)) v ∷ []

-- the set of all objects that there were at the call
abbrev pub old_alloc : (Text → Bool) → ℕ → SetTree
old_alloc written k = if written (codes "alloc") then t.free_set (fresh (codes "alloc") k) else t.free_set (named (codes "alloc"))

module _ (p : Program) (ws : Writes) (wf : FormulaTree) where
  -- the state that a method may write, in the order of the state
  abbrev pub written_items : Callee → List Item
  written_items m = items_where p (ws.written m)

  abbrev pub written_sorted : Callee → List Sorted
  written_sorted m = map sorted_item (written_items m)

  abbrev pub turns_of : Target → Option ObjectCode → Callee → Method → List AnyCode → ℕ → CallTurns
  turns_of target receiver m x args k = call_turns target receiver (length x.params) (written_sorted m) x.result k

  -- Receiver and arguments are checked and kept; `requires` and, of a public method, the invariants are asserted.
  abbrev pub before_call : Place → Target → Option ObjectCode → Place → Callee → Method → List AnyCode → CallTurns → List CommandTree
  before_call q target receiver r m x args turns =
      assert_checks (target_checks target ++ receiver_value_checks receiver ++ all_checks args ++ called_checks receiver r)
      ++ keep_receiver receiver turns.receiver ++ keep_args x.params args turns.args ++ keep_target target turns.target
      ++ assert_requires (at_call turns x.params (ws.written m)) q x.requires
      ++ assert_claims kind.Inv (owed p x)

  -- What the method may write takes any value. Then the state is well formed, the sets of objects only grew, what `modifies` doesn't name is
  -- as it was, and `ensures` and, of a public method, the invariants are true, with a result in its type, which goes to its target.
  abbrev pub after_call : Place → Target → Callee → Method → CallTurns → List CommandTree
  after_call q target m x turns =
      changed (written_sorted m) turns.copies
      ++ (assume_named (codes "wf") q wf ∷ growth turns.copies (written_items m))
      ++ map (λ f. w.assume f) (frame_facts p ws m (old_alloc (ws.written m) turns.copies) turns.copies)
      ++ assume_ensures (at_call turns x.params (ws.written m)) x.ensures
      ++ assume_claims (owed p x)
      ++ map (λ f. w.assume f) (lies_in p.classes x.result (t.free_object (fresh result_text turns.result)))
      ++ put_result target turns.target (result_value x.result turns.result)

  abbrev pub call_commands : Place → Target → Option ObjectCode → Place → Callee → Method → List AnyCode → CallTurns → List CommandTree
  call_commands q target receiver r m x args turns = before_call q target receiver r m x args turns ++ after_call q target m x turns
