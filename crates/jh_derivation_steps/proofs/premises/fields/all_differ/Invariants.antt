use Rattle.std.proofs.Common.{◌≡◌, drop}
use Rattle.jh_derivation_steps.specs.premises.Apart.{all_apart}
use Rattle.jh_derivation_steps.proofs.premises.fields.all_differ.Given as goal

-- no node so far is another one
abbrev pub invariant-loop-place : goal.invariant-loop-place
invariant-loop-place l = all_apart (drop l.place l.fields) ≡ all_apart l.fields
