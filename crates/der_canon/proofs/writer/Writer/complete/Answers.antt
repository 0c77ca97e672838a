use Rattle.std.proofs.Common.{refl, ◌∙◌, arith}
use Rattle.der_canon.specs.Contents.{stay}
use Rattle.der_canon.proofs.Buffers.{ended_one}
use Rattle.der_canon.proofs.writer.Writer.complete.Goals as goal

pub completing-init : goal.completing-init
completing-init c = (refl, λ xs x h. (xs, x, h, λ ys y d. d))

pub completing-preserved : goal.completing-preserved
completing-preserved c = (
  c.end_content.ensures.size ∙ c.completing.invariant.0,
  λ xs x h.
      let so = c.completing.invariant.1 xs x h in
      ended_one c.args.depth xs so.0 x so.1 c.completing.self _ _ c.completing.out _ _ so.2 so.3 (omega (arith, c.len.ensures.value)) c.in-Some.ensures.items refl c.end_content.ensures,
)

pub returns-clause-few : goal.returns-clause-few
returns-clause-few c = omega (arith, c.len.ensures.value)

pub returns-clause-complete : goal.returns-clause-complete
returns-clause-complete c = λ xs x h.
    let so = c.completing.invariant.1 xs x h in
    (so.0, so.1, so.3 so.0 so.1 (stay (omega (arith, so.2.count, c.len.ensures.value)) refl refl), so.2)
