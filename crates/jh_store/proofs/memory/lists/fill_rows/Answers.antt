use Rattle.std.proofs.Common.{rules, ◌≡◌, ◌++◌, ◌∷◌, [], arith}
use Rattle.jh_store.proofs.memory.Puts.{one-more}
use Rattle.jh_store.proofs.memory.lists.fill_rows.Goals as goal

-- src/lists.rt
pub loop-place-preserved : goal.loop-place-preserved
loop-place-preserved c =
    let pushed : c.push.new.self.items ≡ c.loop-place.rows.items ++ (c.new.result ∷ []) = search rules in
    (search (rules, arith), one-more c.args.rows.now.items c.loop-place.rows.items c.push.new.self.items c.new.result c.loop-place._place (search (rules, arith)) pushed (search rules) c.loop-place.invariant.1)
