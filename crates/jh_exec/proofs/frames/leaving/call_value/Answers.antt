use Rattle.std.proofs.Common.{◌≡◌, sym, ap, arith, rules, Some, None}
use Rattle.jh_operands.specs.Scalars.{datum_of, IsInside}
use Rattle.jh_semantics.specs.Execution.{result_of}
use Rattle.jh_exec.specs.declared.frames.frames.Way.{Way}
use Rattle.jh_exec.specs.declared.frames.frames.Way.TheVariants as way
use Rattle.jh_exec.specs.frames.Frames.{way_value}
use Rattle.jh_exec.proofs.frames.Called.{some_inside}
use Rattle.jh_exec.proofs.frames.leaving.call_value.Goals as goal

pub returns-in-On-clause-value : goal.returns-in-On-clause-value
unfolding way_value datum_of
returns-in-On-clause-value c = ap (λ (w : Way). result_of (way_value w)) (sym c.in-On.is)

pub returns-in-On-clause-inside : goal.returns-in-On-clause-inside
unfolding IsInside
returns-in-On-clause-inside c = λ last h. omega arith

pub returns-in-Return-None-clause-value : goal.returns-in-Return-None-clause-value
unfolding way_value datum_of
returns-in-Return-None-clause-value c =
    let is : c.args.way ≡ way.Return None = search rules in
    ap (λ (w : Way). result_of (way_value w)) (sym is)

pub returns-in-Return-None-clause-inside : goal.returns-in-Return-None-clause-inside
unfolding IsInside
returns-in-Return-None-clause-inside c = λ last h. omega arith

pub returns-in-Return-Some-clause-value : goal.returns-in-Return-Some-clause-value
unfolding way_value
returns-in-Return-Some-clause-value c =
    let is : c.args.way ≡ way.Return (Some c.in-Return-Some.value) = search rules in
    ap (λ (w : Way). result_of (way_value w)) (sym is)

pub returns-in-Return-Some-clause-inside : goal.returns-in-Return-Some-clause-inside
returns-in-Return-Some-clause-inside c = λ last h.
    let is : c.args.way ≡ way.Return (Some c.in-Return-Some.value) = search rules in
    some_inside last c.args.way c.in-Return-Some.value is h
