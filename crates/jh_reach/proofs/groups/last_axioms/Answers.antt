-- Written by tools/reach.py.
use Rattle.jh_form.specs.Tree.{of_truth}
use Rattle.jh_arena.specs.table.Nodes.{nodes}
use Rattle.jh_arena.proofs.table.Listed.{extends-trans}
use Rattle.jh_reach.specs.Axioms.{ways_compare, null_reaches_null, no_way_back, one_parent}
use Rattle.jh_reach.specs.Standing.{AreFormulas}
use Rattle.jh_reach.proofs.Standings.{fields-grow, along-grows}
use Rattle.jh_reach.proofs.groups.last_axioms.Goals as goal

pub ways_compare-requires : goal.ways_compare-requires
ways_compare-requires c = record { along = c.requires.along }

pub returns-in_err-compare-clause-grows : goal.returns-in_err-compare-clause-grows
returns-in_err-compare-clause-grows c = c.ways_compare.ensures.grows

pub null_reaches_null-requires : goal.null_reaches_null-requires
null_reaches_null-requires c = record { along = (along-grows c.args.table.now c.ways_compare.new.table c.args.list c.args.fields.now c.ways_compare.ensures.grows c.requires.along) }

pub returns-in_err-null-clause-grows : goal.returns-in_err-null-clause-grows
returns-in_err-null-clause-grows c = (extends-trans c.args.table.now c.ways_compare.new.table c.null_reaches_null.new.table c.ways_compare.ensures.grows c.null_reaches_null.ensures.grows)

pub no_way_back-requires : goal.no_way_back-requires
no_way_back-requires c = record { along = (along-grows c.ways_compare.new.table c.null_reaches_null.new.table c.args.list c.args.fields.now c.null_reaches_null.ensures.grows (along-grows c.args.table.now c.ways_compare.new.table c.args.list c.args.fields.now c.ways_compare.ensures.grows c.requires.along)) }

pub returns-in_err-back-clause-grows : goal.returns-in_err-back-clause-grows
returns-in_err-back-clause-grows c = (extends-trans c.args.table.now c.null_reaches_null.new.table c.no_way_back.new.table (extends-trans c.args.table.now c.ways_compare.new.table c.null_reaches_null.new.table c.ways_compare.ensures.grows c.null_reaches_null.ensures.grows) c.no_way_back.ensures.grows)

pub one_parent-requires : goal.one_parent-requires
one_parent-requires c = record { along = (along-grows c.null_reaches_null.new.table c.no_way_back.new.table c.args.list c.args.fields.now c.no_way_back.ensures.grows (along-grows c.ways_compare.new.table c.null_reaches_null.new.table c.args.list c.args.fields.now c.null_reaches_null.ensures.grows (along-grows c.args.table.now c.ways_compare.new.table c.args.list c.args.fields.now c.ways_compare.ensures.grows c.requires.along))) }

pub returns-in_err-parent-clause-grows : goal.returns-in_err-parent-clause-grows
returns-in_err-parent-clause-grows c = (extends-trans c.args.table.now c.no_way_back.new.table c.one_parent.new.table (extends-trans c.args.table.now c.null_reaches_null.new.table c.no_way_back.new.table (extends-trans c.args.table.now c.ways_compare.new.table c.null_reaches_null.new.table c.ways_compare.ensures.grows c.null_reaches_null.ensures.grows) c.no_way_back.ensures.grows) c.one_parent.ensures.grows)

pub returns-clause-nodes : goal.returns-clause-nodes
unfolding AreFormulas
returns-clause-nodes c = λ fs h_list. ((c.one_parent.ensures.grows.nodes.keeps c.in_ok-compare.compare (of_truth (ways_compare fs)) (c.no_way_back.ensures.grows.nodes.keeps c.in_ok-compare.compare (of_truth (ways_compare fs)) (c.null_reaches_null.ensures.grows.nodes.keeps c.in_ok-compare.compare (of_truth (ways_compare fs)) (c.in_ok-compare.ensures.node fs h_list)))), ((c.one_parent.ensures.grows.nodes.keeps c.in_ok-null.null (of_truth (null_reaches_null fs)) (c.no_way_back.ensures.grows.nodes.keeps c.in_ok-null.null (of_truth (null_reaches_null fs)) (c.in_ok-null.ensures.node fs (fields-grow c.args.table.now c.ways_compare.new.table c.args.fields.now fs c.ways_compare.ensures.grows h_list)))), ((c.one_parent.ensures.grows.nodes.keeps c.in_ok-back.back (of_truth (no_way_back fs)) (c.in_ok-back.ensures.node fs (fields-grow c.ways_compare.new.table c.null_reaches_null.new.table c.args.fields.now fs c.null_reaches_null.ensures.grows (fields-grow c.args.table.now c.ways_compare.new.table c.args.fields.now fs c.ways_compare.ensures.grows h_list)))), ((c.in_ok-parent.ensures.node fs (fields-grow c.null_reaches_null.new.table c.no_way_back.new.table c.args.fields.now fs c.no_way_back.ensures.grows (fields-grow c.ways_compare.new.table c.null_reaches_null.new.table c.args.fields.now fs c.null_reaches_null.ensures.grows (fields-grow c.args.table.now c.ways_compare.new.table c.args.fields.now fs c.ways_compare.ensures.grows h_list)))), tt))))

pub returns-clause-grows : goal.returns-clause-grows
returns-clause-grows c = (extends-trans c.args.table.now c.no_way_back.new.table c.one_parent.new.table (extends-trans c.args.table.now c.null_reaches_null.new.table c.no_way_back.new.table (extends-trans c.args.table.now c.ways_compare.new.table c.null_reaches_null.new.table c.ways_compare.ensures.grows c.null_reaches_null.ensures.grows) c.no_way_back.ensures.grows) c.one_parent.ensures.grows)
