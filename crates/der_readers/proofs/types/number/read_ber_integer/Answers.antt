use Rattle.std.proofs.Common.{inl, inr}
use Rattle.std.proofs.lemmas.Result.{err_from_is_err_and}
use Rattle.der_base.specs.Header.{class_of, is_constructed, number_of}
use Rattle.der_readers.proofs.types.number.read_ber_integer.Goals as goal

pub returns-in_err-assert_primitive : goal.returns-in_err-assert_primitive
returns-in_err-assert_primitive c =
    let h = c.in_ok-rest.any.header in
    let w = c.in_ok-rest.any.bytes.now in
    let q = err_from_is_err_and c.from_residual-in_err-assert_primitive.result c.from_residual-in_err-assert_primitive.ensures.1 in
    rw (q.1, q.2)
    (inr (
      class_of h,
      is_constructed h,
      number_of h,
      w,
      c.in_ok-rest.rest.now,
      c.in_ok-rest.ensures.found.element,
      inr ((λ n. n c.in_ok-assert_tag.ensures), inl c.in_err-assert_primitive.ensures),
    ))
