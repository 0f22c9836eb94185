use Rattle.std.proofs.Common.{sym}
use Rattle.jh_propagation.proofs.trail.Noting.{no-number, no-literal, other-literal, its-literal}
use Rattle.jh_propagation.proofs.trail.trail.place_in.Goals as goal

pub returns-then-literal-atom : goal.returns-then-literal-atom
returns-then-literal-atom c = its-literal c.args.literals.now c.args.places.now c.requires c.args.atom c.in-Some.place c.in-Some-literal_at.literal (sym c.in-Some.ensures) (sym c.in-Some-literal_at.ensures) c.if-literal-atom.true

pub returns-else-literal-atom : goal.returns-else-literal-atom
returns-else-literal-atom c = other-literal c.args.literals.now c.args.places.now c.requires c.args.atom c.in-Some.place c.in-Some-literal_at.literal (sym c.in-Some.ensures) (sym c.in-Some-literal_at.ensures) c.if-literal-atom.false

pub returns-in-None-literal_at : goal.returns-in-None-literal_at
returns-in-None-literal_at c = no-literal c.args.literals.now c.args.places.now c.requires c.args.atom c.in-Some.place (sym c.in-Some.ensures) (sym c.in-None-literal_at.ensures)

pub returns-in-None : goal.returns-in-None
returns-in-None c = no-number c.args.literals.now c.args.places.now c.requires c.args.atom (sym c.in-None.ensures)
