use Rattle.std.proofs.Common.{rules, ◌≡◌, ap, sym, ◌∙◌, ◌++◌, ◌+◌, [], ◌∷◌, true, false, drop, arith}
use Rattle.jh_vars.specs.Written.{front_before}
use Rattle.jh_vars.specs.state_names.Pieces.{piece_of, pieces_in}
use Rattle.jh_vars.proofs.state_names.Lists.{snoc, nothing}
use Rattle.jh_vars.proofs.state_names.Merges.{one-item, pieces-push, front-none, rest-whole, front-more, rest-more, front-end, rest-end}
use Rattle.jh_vars.proofs.state_names.pieces.push_before.Goals as goal

pub returns-then-not-stands_before-clause-pieces : goal.returns-then-not-stands_before-clause-pieces
returns-then-not-stands_before-clause-pieces c =
    let no : c.stands_before.result ≡ false = search rules in
    sym (nothing (pieces_in c.loop-end.made.items))
    ∙ ap (λ us. pieces_in c.loop-end.made.items ++ us) (sym (front-none (piece_of c.args.next.now) c.args.others.now c.loop-end.end c.index-others-end.result c.loop-end-test.true c.index-others-end.is c.stands_before.result c.stands_before.ensures no))
    ∙ c.loop-end.invariant.pieces

pub returns-then-not-stands_before-clause-rest : goal.returns-then-not-stands_before-clause-rest
returns-then-not-stands_before-clause-rest c =
    let no : c.stands_before.result ≡ false = search rules in
    sym (rest-whole (piece_of c.args.next.now) c.args.others.now c.loop-end.end c.index-others-end.result c.loop-end-test.true c.index-others-end.is c.stands_before.result c.stands_before.ensures no)
    ∙ c.loop-end.invariant.rest

pub loop-end-preserved : goal.loop-end-preserved
loop-end-preserved c =
    let x = piece_of c.args.next.now in
    let others = c.args.others.now in
    let end = c.loop-end.end in
    let w = c.index-others-end.result in
    let yes : c.stands_before.result ≡ true = search rules in
    let test = c.stands_before.ensures in
    let same : c.index-others-end-in-loop-end.result ≡ w = one-item others end c.index-others-end-in-loop-end.result w c.loop-end-test.true c.index-others-end-in-loop-end.is c.index-others-end.is in
    let tail = front_before x (pieces_in (drop (end + 1) others)) in
    record {
      inside = omega arith;
      pieces = ap (λ us. pieces_in us ++ tail) (c.in_ok-push.ensures.items ∙ ap (λ v. c.loop-end.made.items ++ v ∷ []) same)
          ∙ ap (λ us. us ++ tail) (pieces-push c.loop-end.made.items w)
          ∙ snoc (pieces_in c.loop-end.made.items) (piece_of w) tail
          ∙ ap (λ us. pieces_in c.loop-end.made.items ++ us) (sym (front-more x others end w c.loop-end-test.true c.index-others-end.is c.stands_before.result test yes))
          ∙ c.loop-end.invariant.pieces;
      rest = sym (rest-more x others end w c.loop-end-test.true c.index-others-end.is c.stands_before.result test yes) ∙ c.loop-end.invariant.rest;
    }

pub returns-clause-pieces : goal.returns-clause-pieces
returns-clause-pieces c =
    sym (nothing (pieces_in c.loop-end.made.items))
    ∙ ap (λ us. pieces_in c.loop-end.made.items ++ us) (sym (front-end (piece_of c.args.next.now) c.args.others.now c.loop-end.end (omega arith)))
    ∙ c.loop-end.invariant.pieces

pub returns-clause-rest : goal.returns-clause-rest
returns-clause-rest c = sym (rest-end (piece_of c.args.next.now) c.args.others.now c.loop-end.end (omega arith)) ∙ c.loop-end.invariant.rest
