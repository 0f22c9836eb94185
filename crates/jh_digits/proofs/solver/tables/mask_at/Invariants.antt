use Rattle.std.proofs.Common.{◌≡◌, ◌<◌, ◌^◌, cond}
use Rattle.jh_digits.specs.systems.Solution.{need_of}
use Rattle.jh_digits.specs.solver.Cells.{names, code, radix}
use Rattle.jh_digits.proofs.solver.tables.mask_at.Given as goal

abbrev pub invariant-loop-place : goal.invariant-loop-place
invariant-loop-place l = record {
  mask : l.mask ≡ code (radix l.system) (λ k. cond (names (need_of l.system k) l.column) 1 0) l.place;
  bit : l.bit ≡ 2 ^ l.place;
  below : l.mask < l.bit;
}
