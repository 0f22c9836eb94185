-- Statements that were paid.
use Rattle.std.specs.Prelude.{◌⊎◌, ℕ, List, [], ◌∷◌, Some, None}
use Rattle.jh_name.specs.declared.place.Place.{Place}
use Rattle.jh_form.specs.Tree.{TermTree, ValueTree}
use Rattle.jh_form.specs.Meaning.{an_object, datum, term_value}
use Rattle.jh_semantics.specs.Code.{Text, Target, Stmt}
use Rattle.jh_semantics.specs.Code as c
use Rattle.jh_semantics.specs.Program.{Program}
use Rattle.jh_semantics.specs.State.{shown, stored}
use Rattle.jh_semantics.specs.Values.{truth_of, value_of}
use Rattle.jh_semantics.specs.Objects.{created, pick, target_of, put}
use Rattle.jh_semantics.specs.Progress.{Configuration, Progress, goes_on, returns, with_value, choose, goes_on_in}
use Rattle.jh_semantics.specs.Execution.{asked, ghost_stored, with_values, receiver_of, called_on, back, exec, exec_all, loop, call}
use Rattle.jh_machine.specs.continuation.Assigning.{assigned_by}
use Rattle.jh_machine.specs.continuation.Overflows.{DoneOverflows}
use Rattle.jh_machine.specs.continuation.Todos.{Todo, StackOverflows}

-- where a new object leads
abbrev pub made_by : Place → Target → Text → Configuration → Progress
made_by q target class r = with_value (target_of target r.now) (λ a. pick q r.picks r (λ x r. put target a (an_object x) (record r { now = created r.now class x })))

-- where a ghost assignment to a field leads
abbrev pub ghost_by : Place → Text → Text → TermTree → ValueTree → Configuration → Progress
ghost_by l class f a v r = ghost_stored l class f (term_value a (shown r.now r.entry) []) (datum v (shown r.now r.entry) []) r

-- where a statement leads that was paid
unfoldable pub done : Program → Stmt → Configuration → Progress
done p c.empty r = goes_on r
done p (c.block body) r = exec_all (call p) body r
done p (c.assign target e) r = assigned_by target e r
done p (c.new_object q target class) r = made_by q target class r
done p (c.call q target receiver l m args) r =
    with_value (target_of target r.now) (λ a. with_value (receiver_of receiver r.now) (λ x. with_values args r.now (λ ds.
    with_value (called_on receiver l x) (λ this. back r target a (call p m this ds r)))))
done p (c.branch q e a b) r = with_value (truth_of e r.now) (λ t. choose t (λ r. exec (call p) a r) (λ r. exec_all (call p) b r) r)
done p (c.loop q invariants e body) r = loop e (λ r. exec (call p) body r) r
done p c.return_nothing r = returns r None
done p (c.return_value e) r = with_value (value_of e r.now) (λ d. returns r (Some d))
done p (c.assert claim) r = asked claim r
done p (c.note claim) r = asked claim r
done p (c.ghost x q v) r = goes_on_in r (stored r.now x (datum v (shown r.now r.entry) []))
done p (c.ghost_at l class f a q v) r = ghost_by l class f a v r

-- something overflows in a statement that was paid, or in what is to be done behind it
abbrev pub Else : Program → Stmt → Configuration → List Todo → Place → Type 0
Else p s u ks place = DoneOverflows p place s u ⊎ StackOverflows p place ks (done p s u)
