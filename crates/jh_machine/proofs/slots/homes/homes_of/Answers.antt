use Rattle.std.proofs.Common.{◌≡◌, sym, subst, ℕ, suc, ◌+◌, List, arith}
use Rattle.jh_store.specs.declared.state_pairs.moment.Home.{Home}
use Rattle.jh_machine_code.proofs.numbering.Standing.{grows_twice}
use Rattle.jh_machine.proofs.slots.HomeSteps.{AreHomesBelow, home-more}
use Rattle.jh_machine.proofs.slots.homes.homes_of.Goals as goal

pub loop-number-preserved : goal.loop-number-preserved
loop-number-preserved c =
    let known = c.loop-number.invariant in
    let pool = c.args.table.now.pools.names in
    let n = c.loop-number.number in
    let names = c.home_of.new.names in
    let next : suc n ≡ n + 1 = omega arith in
    record {
      names = grows_twice known.names c.home_of.ensures.grows;
      homes = subst (λ (k : ℕ). AreHomesBelow pool names k c.push.new.self.items) next
          (subst (λ (hs : List Home). AreHomesBelow pool names (suc n) hs) (sym c.in_ok-push.ensures.items) (home-more pool c.loop-number.names names n c.loop-number.made.items c.in_ok-home.home c.home_of.ensures.grows known.homes c.in_ok-home.ensures.home));
    }
