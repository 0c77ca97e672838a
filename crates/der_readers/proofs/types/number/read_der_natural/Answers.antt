use Rattle.std.proofs.Common.{sym, ◌∙◌, ◌++◌, inr, pos, arith}
use Rattle.std.specs.Prelude.{◌<ℤ◌}
use Rattle.std.proofs.lemmas.Int.{ints}
use Rattle.std.proofs.lemmas.Result.{err_from_is_err_and}
use Rattle.der_base.specs.Header.{class_of, is_constructed, number_of}
use Rattle.der_base.specs.Inner.Integers.{der_header_tests}
use Rattle.der_base.specs.LeafRefusal.{integer_tests}
use Rattle.der_base.specs.Numbers.{unsigned, sign_tests}
use Rattle.der_base.specs.Octets.{integer_value}
use Rattle.der_base.specs.Refusal.{refusal}
use Rattle.der_base.proofs.Leaves.Decided.{never}
use Rattle.der_base.proofs.Leaves.Refusals.{refused_behind}
use Rattle.der_readers.proofs.types.number.read_der_natural.Goals as goal

pub returns-in_err-check_fewest_octets : goal.returns-in_err-check_fewest_octets
returns-in_err-check_fewest_octets c =
    let h = c.in_ok-rest.any.header in
    let w = c.in_ok-rest.any.bytes.now in
    let is = c.in_ok-check_header.ensures in
    let e = refusal c.in_err-check_fewest_octets.field-0.0 in
    let natural = c.is_negative.ensures.natural c.if-is_negative.false in
    let not_below : ¬ (integer_value w <ℤ pos 0) = λ l. omega (arith, ints, l, natural) in
    let form = refused_behind (sign_tests (unsigned 64) w) (integer_tests w) e (not_below, tt) c.in_err-check_fewest_octets.ensures in
    let r = refused_behind (der_header_tests (is_constructed h) (number_of h)) (sign_tests (unsigned 64) w ++ integer_tests w) e ((λ n. n is.0), ((λ p. never (sym is.1 ∙ p)), tt)) form in
    let q = err_from_is_err_and c.from_residual-in_err-check_fewest_octets.result c.from_residual-in_err-check_fewest_octets.ensures.1 in
    rw (q.1, q.2) (inr (class_of h, is_constructed h, number_of h, w, c.in_ok-rest.rest.now, c.in_ok-rest.ensures.found.begins, r))
