use Rattle.std.proofs.Common.{sym, ◌∙◌, inr}
use Rattle.std.proofs.lemmas.Result.{err_from_is_err_and}
use Rattle.der_base.specs.Header.{class_of, is_constructed, number_of}
use Rattle.der_base.specs.Inner.Integers.{der_header_tests}
use Rattle.der_base.specs.LeafRefusal.{integer_tests}
use Rattle.der_base.specs.Refusal.{refusal}
use Rattle.der_base.proofs.Leaves.Decided.{never}
use Rattle.der_base.proofs.Leaves.Refusals.{refused_behind}
use Rattle.der_readers.proofs.types.number.read_der_integer.Goals as goal

pub returns-in_err-check_fewest_octets : goal.returns-in_err-check_fewest_octets
returns-in_err-check_fewest_octets c =
    let h = c.in_ok-rest.any.header in
    let w = c.in_ok-rest.any.bytes.now in
    let is = c.in_ok-check_header.ensures in
    let r = refused_behind (der_header_tests (is_constructed h) (number_of h)) (integer_tests w) (refusal c.in_err-check_fewest_octets.field-0.0)
    ((λ n. n is.0), ((λ p. never (sym is.1 ∙ p)), tt)) c.in_err-check_fewest_octets.ensures in
    let q = err_from_is_err_and c.from_residual-in_err-check_fewest_octets.result c.from_residual-in_err-check_fewest_octets.ensures.1 in
    rw (q.1, q.2) (inr (class_of h, is_constructed h, number_of h, w, c.in_ok-rest.rest.now, c.in_ok-rest.ensures.found.begins, r))
