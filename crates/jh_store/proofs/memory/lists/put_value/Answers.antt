use Rattle.std.proofs.Common.{rules, ◌≡◌, ◌+◌, ◌-◌, ◌++◌, length, take, replicate, refl, arith}
use Rattle.jh_store.proofs.memory.Puts.{put-within, put-filled}
use Rattle.jh_store.proofs.memory.lists.put_value.Goals as goal

-- src/lists.rt
pub returns-then-place-len-clause-put : goal.returns-then-place-len-clause-put
returns-then-place-len-clause-put g c = put-within c.args.default c.args.values.now.items c.args.place c.args.value (search (rules, arith))

-- src/lists.rt
pub returns-clause-put : goal.returns-clause-put
returns-clause-put g c =
    let xs = c.args.values.now.items in
    let filled : c.resize.new.self.items ≡ take (c.args.place + 1) xs ++ replicate (c.args.place + 1 - length xs) c.args.default = search rules in
    put-filled c.args.default xs c.resize.new.self.items c.args.place (c.args.place + 1) c.args.value (search (rules, arith)) refl filled
