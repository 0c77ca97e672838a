use Rattle.std.proofs.Common.{◌-◌, ap, arith, length, length-drop, subst, sym}
use Rattle.memchr.specs.Find.{Passes, is_byte}
use Rattle.der_input.proofs.Searches.{passes_in_rest, passes_in_whole}
use Rattle.der_input.proofs.search.next_place.Goals as goal

pub returns-in_err-distance : goal.returns-in_err-distance
returns-in_err-distance c =
    let text = c.args.text.now in
    let from = c.args.from in
    let same = c.rest_from.ensures in
    rw c.from_residual.ensures (λ k low high is.
    c.in_err-distance.ensures (k - from) (omega arith) (omega (arith, ap length same, length-drop from text))
    (subst (λ w. Passes (is_byte c.args.octet) w (k - from)) (sym same) (passes_in_rest (is_byte c.args.octet) text from k low is)))

pub returns : goal.returns
returns c =
    let text = c.args.text.now in
    let from = c.args.from in
    let same = c.rest_from.ensures in
    let distance = c.in_ok-distance.distance in
    let found = c.in_ok-distance.ensures in (
      record {
        low = omega arith;
        high = omega (arith, found.0.high, ap length same, length-drop from text);
        before = λ k low high is.
            found.0.before (k - from) (omega arith) (omega arith) (subst (λ w. Passes (is_byte c.args.octet) w (k - from)) (sym same) (passes_in_rest (is_byte c.args.octet) text from k low is));
      },
      passes_in_whole (is_byte c.args.octet) text from distance (subst (λ w. Passes (is_byte c.args.octet) w distance) same found.1),
    )
