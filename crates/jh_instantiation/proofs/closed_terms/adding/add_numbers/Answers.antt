use Rattle.std.proofs.lemmas.Result.{on_ok_weaker}
use Rattle.jh_instantiation.proofs.closed_terms.Additions.{adds-two}
use Rattle.jh_instantiation.proofs.closed_terms.adding.add_numbers.Goals as goal

pub returns : goal.returns
returns c = λ p q e f.
    on_ok_weaker c.add_number-2.result (adds-two c.args.table.now c.args.terms.now.nodes.keys c.add_number.new.terms.nodes.keys c.add_number-2.new.terms.nodes.keys _ _ (c.in_ok-add_number.ensures p e)) (c.add_number-2.ensures q f)
