use Rattle.std.proofs.Common.{sym, ap, ◌∙◌, subst, ℕ}
use Rattle.std.specs.declared.alloc.Global.{Global}
use Rattle.std.specs.declared.vec.Vec.{Vec}
use Rattle.jh_arena.specs.table.Nodes.{nodes}
use Rattle.jh_cong.specs.classes.Saying.{Asserted}
use Rattle.jh_cong.proofs.classes.Oks.{on-ok}
use Rattle.jh_models.specs.ground_models.GroundModel.{IsMet}
use Rattle.jh_propagation.specs.declared.trail.decided.Decided.{Decided}
use Rattle.jh_propagation.specs.trail.Saying.{literals_at}
use Rattle.jh_propagation.specs.declared.propagation.branch.Reason.{Reason}
use Rattle.jh_propagation.specs.propagation.Speaking.{AreSpoken}
use Rattle.jh_propagation.specs.propagation.Branches.{parts_of}
use Rattle.jh_propagation.proofs.propagation.Levels.{level-parts}
use Rattle.jh_propagation.proofs.propagation.cutting.cut.Goals as goal

pub tell_again-requires-clause-met : goal.tell_again-requires-clause-met
tell_again-requires-clause-met c = subst IsMet (λ i. literals_at (nodes c.args.problem.now.table) (sym c.shorten.ensures.trail i)) c.requires.level.met

pub returns-clause-branch : goal.returns-clause-branch
returns-clause-branch c =
    on-ok c.tell_again.result
    (λ spoken. level-parts c.args.problem.now (parts_of c.args.branch.now) (parts_of c.tell_again.new.branch) c.args.count c.args.at c.requires.level
    (ap (λ (v : Vec Decided Global). v.items) c.tell_again.ensures.decisions ∙ c.shorten.ensures.decisions)
    (c.tell_again.ensures.table ∙ ap (λ (a : Asserted). a.table) c.shorten.ensures.classes)
    (subst (λ X. X) (λ i. AreSpoken (nodes (c.shorten.ensures.classes i).table) (nodes c.args.problem.now.table) (c.shorten.ensures.trail i) c.tell_again.new.branch.classes.said) spoken)
    (c.tell_again.ensures.trail ∙ c.shorten.ensures.trail)
    (ap (λ (v : Vec Reason Global). v.items) c.tell_again.ensures.reasons ∙ c.shorten.ensures.reasons)
    (ap (λ (v : Vec ℕ Global). v.items) c.tell_again.ensures.waiting ∙ c.shorten.ensures.waiting)
    (c.tell_again.ensures.head ∙ c.shorten.ensures.head))
    c.tell_again.ensures.spoken
