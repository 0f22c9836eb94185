use Rattle.std.proofs.Common.{sym, subst, List, [], ◌∷◌, ◌++◌}
use Rattle.jh_arena.proofs.table.Listed.{extends-trans}
use Rattle.jh_outline.specs.jh_method_commands.environment.Outlines.{program_in, writes_in}
use Rattle.jh_outline.proofs.of_jh_method_commands.environment.OutlineSteps.{outline_grows}
use Rattle.jh_splitting.specs.declared.splitting.Sequents.{Sequents}
use Rattle.jh_obligations.specs.program_sequents.Owed.{AllStand}
use Rattle.jh_outline.proofs.of_jh_effects.written_state.Gathering.{in-map}
use Rattle.jh_obligations.specs.program_sequents.Owing.{owing_in}
use Rattle.jh_obligations.proofs.program_sequents.Shown.{many-here, many-next, owed-next, owed-end, stand-next}
use Rattle.jh_obligations.proofs.program_sequents.listed.all_owed.Goals as goal

-- src/listed.rt
pub owed-requires-clause-outline : goal.owed-requires-clause-outline
owed-requires-clause-outline c = outline_grows c.args.table.now c.loop-place.table c.args.outline.now c.requires.outline c.loop-place.invariant.grows

-- src/listed.rt
pub owed-requires-clause-there : goal.owed-requires-clause-there
owed-requires-clause-there c = c.requires.there (owing_in c.owner_at-owner.result) (c.loop-place.place, in-map owing_in c.args.owners.now c.owner_at-owner.result c.loop-place.place c.owner_at-owner.ensures)

-- src/listed.rt
pub returns-in-Err-clause-why : goal.returns-in-Err-clause-why
returns-in-Err-clause-why c =
    many-here (program_in c.args.outline.now) (writes_in c.args.outline.now) c.args.owners.now c.loop-place.place c.owner_at-owner.result c.owner_at-owner.ensures c.loop-place.invariant.many c.in-Err.fault c.in-Err.ensures.why

-- src/listed.rt
pub returns-in-Err-clause-grows : goal.returns-in-Err-clause-grows
returns-in-Err-clause-grows c = extends-trans c.args.table.now c.loop-place.table c.owed.new.table c.loop-place.invariant.grows c.owed.ensures.grows

-- src/listed.rt
pub returns-in_err-push-in-Ok-clause-grows : goal.returns-in_err-push-in-Ok-clause-grows
returns-in_err-push-in-Ok-clause-grows c = extends-trans c.args.table.now c.loop-place.table c.owed.new.table c.loop-place.invariant.grows c.owed.ensures.grows

-- src/listed.rt
pub loop-place-preserved : goal.loop-place-preserved
loop-place-preserved c =
    let q = program_in c.args.outline.now in
    let ws = writes_in c.args.outline.now in
    let owners = c.args.owners.now in
    let n = c.loop-place.place in
    let old = c.loop-place.invariant in
    let h = c.in-Ok.ensures.owed in
    let u = c.owed.new.table in
    record {
      grows = extends-trans c.args.table.now c.loop-place.table u old.grows c.owed.ensures.grows;
      debts = old.debts ++ h.0 ∷ [];
      stand =
          subst (λ (xs : List Sequents). AllStand u xs (old.debts ++ h.0 ∷ [])) (sym c.in_ok-push-in-Ok.ensures.items)
          (stand-next c.loop-place.table u c.owed.ensures.grows c.loop-place.made.items old.debts c.in-Ok.one h.0 old.stand h.2);
      rest = owed-next q ws owners n c.owner_at-owner.result c.owner_at-owner.ensures old.debts h.0 h.1 old.rest;
      many = many-next q ws owners n c.owner_at-owner.result c.owner_at-owner.ensures h.0 h.1 old.many;
    }

-- src/listed.rt
pub returns-clause-owed : goal.returns-clause-owed
returns-clause-owed c =
    let old = c.loop-place.invariant in
    (old.debts, owed-end (program_in c.args.outline.now) (writes_in c.args.outline.now) c.args.owners.now c.loop-place.place old.debts c.loop-place-test.false old.rest, old.stand)
