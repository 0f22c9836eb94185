use Rattle.jh_arena.specs.table.Nodes.{nodes}
use Rattle.jh_substitution.proofs.rewriting.Passings.{object-named, object-asked, number-named, number-asked, truth-named, truth-asked, set-named, set-asked, field-named, field-asked, bound-asked}
use Rattle.jh_substitution.proofs.rewriting.naming.leaf_passes.Goals as goal

pub name_at-requires : goal.name_at-requires
name_at-requires g c = object-named c.args.table.now.pools (nodes c.args.table.now) (g.T.NameTest.test c.args.test.now) c.args.shape c.in-FreeObject.name c.in-FreeObject.is c.requires.fits

pub returns-in-FreeObject : goal.returns-in-FreeObject
returns-in-FreeObject g c = object-asked c.args.table.now.pools (nodes c.args.table.now) (g.T.NameTest.test c.args.test.now) c.args.shape c.in-FreeObject.name c.name_at.result.now c.passes.result c.in-FreeObject.is c.name_at.ensures c.passes.ensures

pub name_at-requires-in-FreeNumber : goal.name_at-requires-in-FreeNumber
name_at-requires-in-FreeNumber g c = number-named c.args.table.now.pools (nodes c.args.table.now) (g.T.NameTest.test c.args.test.now) c.args.shape c.in-FreeNumber.name c.in-FreeNumber.is c.requires.fits

pub returns-in-FreeNumber : goal.returns-in-FreeNumber
returns-in-FreeNumber g c = number-asked c.args.table.now.pools (nodes c.args.table.now) (g.T.NameTest.test c.args.test.now) c.args.shape c.in-FreeNumber.name c.name_at-in-FreeNumber.result.now c.passes-in-FreeNumber.result c.in-FreeNumber.is c.name_at-in-FreeNumber.ensures c.passes-in-FreeNumber.ensures

pub name_at-requires-in-FreeTruth : goal.name_at-requires-in-FreeTruth
name_at-requires-in-FreeTruth g c = truth-named c.args.table.now.pools (nodes c.args.table.now) (g.T.NameTest.test c.args.test.now) c.args.shape c.in-FreeTruth.name c.in-FreeTruth.is c.requires.fits

pub returns-in-FreeTruth : goal.returns-in-FreeTruth
returns-in-FreeTruth g c = truth-asked c.args.table.now.pools (nodes c.args.table.now) (g.T.NameTest.test c.args.test.now) c.args.shape c.in-FreeTruth.name c.name_at-in-FreeTruth.result.now c.passes-in-FreeTruth.result c.in-FreeTruth.is c.name_at-in-FreeTruth.ensures c.passes-in-FreeTruth.ensures

pub name_at-requires-in-FreeSet : goal.name_at-requires-in-FreeSet
name_at-requires-in-FreeSet g c = set-named c.args.table.now.pools (nodes c.args.table.now) (g.T.NameTest.test c.args.test.now) c.args.shape c.in-FreeSet.name c.in-FreeSet.is c.requires.fits

pub returns-in-FreeSet : goal.returns-in-FreeSet
returns-in-FreeSet g c = set-asked c.args.table.now.pools (nodes c.args.table.now) (g.T.NameTest.test c.args.test.now) c.args.shape c.in-FreeSet.name c.name_at-in-FreeSet.result.now c.passes-in-FreeSet.result c.in-FreeSet.is c.name_at-in-FreeSet.ensures c.passes-in-FreeSet.ensures

pub name_at-requires-in-FreeField : goal.name_at-requires-in-FreeField
name_at-requires-in-FreeField g c = field-named c.args.table.now.pools (nodes c.args.table.now) (g.T.NameTest.test c.args.test.now) c.args.shape c.in-FreeField.name c.in-FreeField.is c.requires.fits

pub returns-in-FreeField : goal.returns-in-FreeField
returns-in-FreeField g c = field-asked c.args.table.now.pools (nodes c.args.table.now) (g.T.NameTest.test c.args.test.now) c.args.shape c.in-FreeField.name c.name_at-in-FreeField.result.now c.passes-in-FreeField.result c.in-FreeField.is c.name_at-in-FreeField.ensures c.passes-in-FreeField.ensures

pub returns-in_default : goal.returns-in_default
returns-in_default g c = bound-asked c.args.table.now.pools (nodes c.args.table.now) (g.T.NameTest.test c.args.test.now) c.args.shape c.requires.leaf c.in_default.not-FreeObject c.in_default.not-FreeNumber c.in_default.not-FreeTruth c.in_default.not-FreeSet c.in_default.not-FreeField
