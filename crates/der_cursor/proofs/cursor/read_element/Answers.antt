use Rattle.std.proofs.Common.{true, false, sym, ◌∙◌}
use Rattle.std.proofs.lemmas.Result.{err_from_is_err_and}
use Rattle.der_cursor.specs.Elements.{other_class, other_number, other_form}
use Rattle.der_cursor.proofs.ElementLaws.{refused_as, apart}
use Rattle.der_cursor.proofs.cursor.read_element.Goals as goal

pub returns-in_err-assert_class : goal.returns-in_err-assert_class
returns-in_err-assert_class c =
    let q = err_from_is_err_and c.from_residual-in_err-assert_class.result c.from_residual-in_err-assert_class.ensures.1 in
    let e = c.in_err-assert_class.ensures in
    rw (q.1, q.2, e.1) (record { found = refused_as _ _ _ _ c.args.i.now (c.in_ok-rest.rest, c.in_ok-rest.any) _ c.in_ok-rest.ensures.found (other_class e.0); marker = tt })

pub returns-in_err-assert_tag : goal.returns-in_err-assert_tag
returns-in_err-assert_tag c =
    let q = err_from_is_err_and c.from_residual-in_err-assert_tag.result c.from_residual-in_err-assert_tag.ensures.1 in
    let e = c.in_err-assert_tag.ensures in
    rw (q.1, q.2, e.1) (record { found = refused_as _ _ _ _ c.args.i.now (c.in_ok-rest.rest, c.in_ok-rest.any) _ c.in_ok-rest.ensures.found (other_number c.in_ok-assert_class.ensures e.0); marker = tt })

pub returns-in_err-assert_constructed : goal.returns-in_err-assert_constructed
returns-in_err-assert_constructed c =
    let q = err_from_is_err_and c.from_residual-in_err-assert_constructed.result c.from_residual-in_err-assert_constructed.ensures.1 in
    let e = c.in_err-assert_constructed.ensures in
    rw (q.1, q.2, e.1, c.if-constructed.true) (record {
      found = refused_as _ _ true _ c.args.i.now (c.in_ok-rest.rest, c.in_ok-rest.any) _ c.in_ok-rest.ensures.found
          (other_form c.in_ok-assert_class.ensures c.in_ok-assert_tag.ensures (λ z. apart (sym e.0 ∙ z)));
      marker = tt;
    })

pub returns-in_err-assert_primitive : goal.returns-in_err-assert_primitive
returns-in_err-assert_primitive c =
    let q = err_from_is_err_and c.from_residual-in_err-assert_primitive.result c.from_residual-in_err-assert_primitive.ensures.1 in
    let e = c.in_err-assert_primitive.ensures in
    rw (q.1, q.2, e.1, c.if-constructed.false) (record {
      found = refused_as _ _ false _ c.args.i.now (c.in_ok-rest.rest, c.in_ok-rest.any) _ c.in_ok-rest.ensures.found
          (other_form c.in_ok-assert_class.ensures c.in_ok-assert_tag.ensures (λ z. apart (sym z ∙ e.0)));
      marker = tt;
    })
