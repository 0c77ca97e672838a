use Rattle.std.proofs.Common.{◌-◌, arith, codes, sym, subst}
use Rattle.bstr.specs.Find.{OccursAt}
use Rattle.der_input.proofs.Lines.{in_rest, in_whole}
use Rattle.der_input.proofs.pem.next_begin.Goals as goal

pub returns-in_err-distance : goal.returns-in_err-distance
returns-in_err-distance c =
    let text = c.args.text.now in
    let from = c.args.from in
    rw c.from_residual.ensures (λ k low high there.
    let inside = subst (λ w. OccursAt w (codes "-----BEGIN ") (k - from)) (sym c.rest_from-rest.ensures) (in_rest text (codes "-----BEGIN ") from k low there) in
    c.in_err-distance.ensures (k - from) (omega arith) (omega (arith, inside.fits)) inside)

pub returns : goal.returns
returns c =
    let text = c.args.text.now in
    let from = c.args.from in
    let distance = c.in_ok-distance.distance in
    let same = c.rest_from-rest.ensures in
    let found = c.in_ok-distance.ensures in
    let there = in_whole text (codes "-----BEGIN ") from distance (omega arith) (subst (λ w. OccursAt w (codes "-----BEGIN ") distance) same found.1) in (
      record {
        low = omega arith;
        high = omega (arith, there.fits);
        before = λ k low high occurs.
            found.0.before (k - from) (omega arith) (omega arith) (subst (λ w. OccursAt w (codes "-----BEGIN ") (k - from)) (sym same) (in_rest text (codes "-----BEGIN ") from k low occurs));
      },
      there,
    )
