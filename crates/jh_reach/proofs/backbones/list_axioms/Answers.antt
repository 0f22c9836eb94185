use Rattle.std.proofs.Common.{sym, refl, ap, ◌∙◌, ◌++◌}
use Rattle.jh_reach.specs.Axioms.{first_of_list, last_of_list, axioms_of_list}
use Rattle.jh_reach.proofs.Standings.{fields-grow, formulas-grow, formulas-append, formulas-as, along-grows}
use Rattle.jh_reach.proofs.backbones.list_axioms.Goals as goal

pub last_axioms-requires : goal.last_axioms-requires
last_axioms-requires c = record { along = along-grows c.args.table.now c.first_axioms.new.table c.args.list c.args.fields.now c.first_axioms.ensures.grows c.requires.along }

pub returns-clause-nodes : goal.returns-clause-nodes
returns-clause-nodes c = λ fs h.
    let all =
    formulas-append c.last_axioms.new.table c.in_ok-first.first c.in_ok-last.last (first_of_list fs) (last_of_list fs)
    (formulas-grow c.first_axioms.new.table c.last_axioms.new.table c.in_ok-first.first (first_of_list fs) c.last_axioms.ensures.grows (c.in_ok-first.ensures.nodes fs h))
    (c.in_ok-last.ensures.nodes fs (fields-grow c.args.table.now c.first_axioms.new.table c.args.fields.now fs c.first_axioms.ensures.grows h)) in
    formulas-as c.last_axioms.new.table (c.in_ok-first.first ++ c.in_ok-last.last) c.extend_from_slice-2.new.self.items (axioms_of_list fs) (axioms_of_list fs) all
    (sym (c.in_ok-extend_from_slice-2.ensures.items ∙ ap (λ zs. zs ++ c.in_ok-last.last) (c.in_ok-extend_from_slice.ensures.items ∙ ap (λ zs. zs ++ c.in_ok-first.first) c.new-made.ensures.items))) refl
