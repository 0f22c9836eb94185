use Rattle.std.proofs.lemmas.List.{length-map}
use Rattle.jh_query.specs.queries.Sizing.{spelled}
use Rattle.jh_query.proofs.queries.Digits.{both_pass, one_fails}
use Rattle.jh_query.proofs.queries.counting.compares.Goals as goal

pub returns-then-classes : goal.returns-then-classes
returns-then-classes c = both_pass _ _ _ _ (rw c.items.ensures at c.classes_pass-classes.ensures) c.if-classes.true (rw (length-map c.args.sizes.now.rest spelled) (rw c.items-then-classes.ensures at c.rests_pass.ensures))

pub returns-else-classes : goal.returns-else-classes
returns-else-classes c = one_fails _ _ _ (rw c.items.ensures at c.classes_pass-classes.ensures) c.if-classes.false
