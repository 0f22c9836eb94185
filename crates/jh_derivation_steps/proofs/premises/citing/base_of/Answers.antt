use Rattle.jh_derivation_steps.proofs.premises.Cited.{update-there, no-update}
use Rattle.jh_derivation_steps.proofs.premises.citing.base_of.Goals as goal

pub returns-in-Update : goal.returns-in-Update
returns-in-Update c = update-there c.args.table.now c.args.update c.args.place c.in-Update.field c.in-Update.at c.in-Update.value c.shape.result c.requires c.shape.ensures.fits c.shape.ensures.tree c.in-Update.is

pub returns-in_default : goal.returns-in_default
returns-in_default c = no-update c.args.table.now c.args.update c.shape.result c.requires c.shape.ensures.tree c.in_default.not-Update
