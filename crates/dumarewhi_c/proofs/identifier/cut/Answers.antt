use Rattle.std.proofs.Common.{take_all}
use Rattle.std.proofs.lemmas.List.{take_rest}
use Rattle.dumarewhi_c.proofs.Points.{first_component, no_point_more, one_component}
use Rattle.dumarewhi_c.proofs.identifier.cut.Goals as goal

pub loop-at-preserved : goal.loop-at-preserved
loop-at-preserved c = no_point_more c.args.text.now c.loop-at.at c.loop-at-test.true c.if-octet-eq-POINT.false c.loop-at.invariant

pub returns-then-octet-eq-POINT : goal.returns-then-octet-eq-POINT
returns-then-octet-eq-POINT c =
    rw take_rest (first_component c.args.text.now c.loop-at.at c.loop-at-test.true c.if-octet-eq-POINT.true c.loop-at.invariant)

pub returns : goal.returns
returns c = one_component _ (rw (take_all _ _ c.loop-at-test.false) at c.loop-at.invariant)
