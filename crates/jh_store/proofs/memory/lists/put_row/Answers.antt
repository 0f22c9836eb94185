use Rattle.std.proofs.Common.{rules, ◌≡◌, ◌-◌, ◌++◌, ◌∷◌, [], length, map, replicate, arith}
use Rattle.jh_store.specs.memory.Cells.{items_of}
use Rattle.jh_store.proofs.memory.Puts.{row-within, row-past}
use Rattle.jh_store.proofs.memory.lists.put_row.Goals as goal

-- src/lists.rt
pub returns-then-place-len : goal.returns-then-place-len
returns-then-place-len c = row-within c.args.rows.now.items c.args.place c.args.row (search (rules, arith))

-- src/lists.rt
pub returns-in_ok-push : goal.returns-in_ok-push
returns-in_ok-push c =
    let pushed : c.push.new.self.items ≡ c.fill_rows.new.rows.items ++ (c.args.row ∷ []) = search rules in
    let filled : map items_of c.fill_rows.new.rows.items ≡ map items_of c.args.rows.now.items ++ replicate (c.args.place - length c.args.rows.now.items) [] = search rules in
    row-past c.args.rows.now.items c.fill_rows.new.rows.items c.push.new.self.items c.args.place c.args.row (search (rules, arith)) filled pushed
