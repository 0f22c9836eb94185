use Rattle.std.proofs.Common.{◌≡◌, ◌<◌, ℕ, false}
use Rattle.jh_form.specs.Meaning.{edge, reaches}
use Rattle.jh_sem.specs.Graphs.{listed_fields}
use Rattle.jh_sem.proofs.forest.is_free.Given as goal

abbrev pub invariant-loop-place : goal.invariant-loop-place
invariant-loop-place l = (i : ℕ) → i < l.place → false ≡ reaches l.last (listed_fields l.fields) (edge (listed_fields l.fields) i l.at) l.at
