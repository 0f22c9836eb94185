use Rattle.std.proofs.Common.{◌≡◌, ◌∙◌, arith}
use Rattle.std.proofs.lemmas.Grind.{get_or_default_zero}
use Rattle.jh_digits.specs.solver.Cells.{mask_of}
use Rattle.jh_digits.proofs.solver.Flags.{start_flags, end_flags, take_flags, halve_flags}
use Rattle.jh_digits.proofs.solver.space.flags_after.Goals as goal

pub returns-in-Start : goal.returns-in-Start
returns-in-Start c = rw c.in-Start.is (start_flags c.args.system.now c.args.cell)

pub returns-in-End : goal.returns-in-End
returns-in-End c = rw (c.in-End.is, c.requires.space.flags) (end_flags c.args.system.now c.args.cell)

pub returns-in-Take : goal.returns-in-Take
returns-in-Take c =
    let fits = rw c.in-Take.is at c.requires.step in
    let mask : c.index.result.now ≡ mask_of c.args.system.now c.in-Take.column =
    c.index.ensures
    ∙ get_or_default_zero c.args.space.now.masks.items c.in-Take.column c.index.result.now (omega (arith, c.requires.space.masks_count, fits))
    ∙ c.requires.space.masks c.in-Take.column fits in
    rw (c.in-Take.is, mask, c.requires.space.flags) (take_flags c.args.system.now c.in-Take.column c.args.cell)

pub returns-in-Halve : goal.returns-in-Halve
returns-in-Halve c = rw (c.in-Halve.is, c.requires.space.flags) (halve_flags c.args.system.now c.args.cell)
