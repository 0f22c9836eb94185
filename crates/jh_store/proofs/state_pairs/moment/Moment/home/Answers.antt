use Rattle.std.proofs.Common.{◌≡◌, false, Some, slice_get}
use Rattle.std.proofs.lemmas.Option.{slice_get-get_or}
use Rattle.jh_store.specs.declared.state_pairs.moment.Home.{Home}
use Rattle.jh_store.proofs.state_pairs.Sides.{home_there, home_is, home_inside}
use Rattle.jh_store.proofs.state_pairs.moment.Moment.home.Goals as goal

pub returns-clause-home : goal.returns-clause-home
returns-clause-home c =
    let pool = c.args.self.now.table.now.pools.names in
    let names = c.args.self.now.current.now.names in
    let homes = c.args.self.now.homes.now in
    let none : Home = record { number = 0; is_old = false } in
    let known = c.args.self.now.homes_known in
    home_is pool names homes known c.args.name c.requires _ (slice_get-get_or homes c.args.name none (home_there pool names homes known c.args.name c.requires))

pub returns-clause-inside : goal.returns-clause-inside
returns-clause-inside c =
    let pool = c.args.self.now.table.now.pools.names in
    let names = c.args.self.now.current.now.names in
    let homes = c.args.self.now.homes.now in
    let none : Home = record { number = 0; is_old = false } in
    let known = c.args.self.now.homes_known in
    home_inside pool names homes known c.args.name c.requires _ (slice_get-get_or homes c.args.name none (home_there pool names homes known c.args.name c.requires))
