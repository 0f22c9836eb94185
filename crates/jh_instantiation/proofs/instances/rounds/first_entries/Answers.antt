use Rattle.std.proofs.Common.{◌≡◌, sym, ◌∙◌, arith}
use Rattle.jh_inst.specs.instances.Rounds as rounds
use Rattle.jh_instantiation.proofs.instances.Passes.{few-capped}
use Rattle.jh_instantiation.proofs.instances.Progresses.{progress-grows}
use Rattle.jh_instantiation.proofs.instances.rounds.first_entries.Goals as goal

pub count_begun-requires : goal.count_begun-requires
count_begun-requires c = let f = c.requires.there in record { there = (f.0, c.args.first, c.in_ok-progress.ensures.made f.0 f.1) }

pub all_rounds-requires : goal.all_rounds-requires
all_rounds-requires c =
    let f = c.requires.there in
    record { there = (rounds.begun f.0 c.args.first, progress-grows c.begun.new.table c.count_begun.new.table c.count_begun.ensures.grows c.in_ok-progress.progress (rounds.begun f.0 c.args.first) (c.in_ok-progress.ensures.made f.0 f.1)) }

pub returns-clause-made : goal.returns-clause-made
returns-clause-made c = λ fs hf.
    c.in_ok-all_rounds.ensures.made (rounds.begun fs c.args.first) (progress-grows c.begun.new.table c.count_begun.new.table c.count_begun.ensures.grows c.in_ok-progress.progress (rounds.begun fs c.args.first) (c.in_ok-progress.ensures.made fs hf))

pub returns-clause-few : goal.returns-clause-few
returns-clause-few c = λ fs hf.
    let is = c.in_ok-count.ensures.count fs c.args.first (c.in_ok-progress.ensures.made fs hf) in
    few-capped _ c.in_ok-count.count is (c.is_too_many.ensures.few c.if-is_too_many.false)

pub returns-then-is_too_many-clause-too_many : goal.returns-then-is_too_many-clause-too_many
returns-then-is_too_many-clause-too_many c = λ fs n hf is.
    let same : c.in_ok-count.count ≡ n = cc in
    (sym same ∙ c.in_ok-count.ensures.count fs c.args.first (c.in_ok-progress.ensures.made fs hf), omega (arith, same, c.is_too_many.ensures.more c.if-is_too_many.true))
