use Rattle.std.proofs.Common.{◌≡◌, filter}
use Rattle.jh_semantics.specs.State.{alloc_name}
use Rattle.jh_semantics.specs.Objects.{is_free, below}
use Rattle.jh_store.specs.memory.Held.{state_of, IsNamed}
use Rattle.jh_exec.proofs.interpreter.run.free_objects.Given as goal

-- the free objects so far
abbrev pub invariant-loop-object : goal.invariant-loop-object
invariant-loop-object l = IsNamed l.memory l.all alloc_name → l.objects.items ≡ filter (is_free (state_of l.memory)) (below l.object)
