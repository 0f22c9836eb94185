use Rattle.std.proofs.Common.{refl}
use Rattle.std.proofs.lemmas.Option.{slice_get_within}
use Rattle.jh_propagation.specs.trail.Listing.{decided, StandsAt}
use Rattle.jh_propagation.proofs.trail.Noting.{says-none, says-placed}
use Rattle.jh_propagation.proofs.trail.trail.Trail.said.Goals as goal

pub literal-requires : goal.literal-requires
literal-requires c = let s : StandsAt c.args.self.now c.args.atom c.in-Some.place = (c.in-Some.ensures c.in-Some.place).0 refl in slice_get_within c.args.self.now c.in-Some.place (decided c.args.atom s.0) s.1

pub returns-in-Some : goal.returns-in-Some
returns-in-Some c = says-placed c.args.self.now c.decides_once.ensures c.args.atom c.in-Some.place c.literal.result c.literal.ensures ((c.in-Some.ensures c.in-Some.place).0 refl)

pub returns-in-None : goal.returns-in-None
returns-in-None c = says-none c.args.self.now c.decides_once.ensures c.args.atom c.in-None.ensures
