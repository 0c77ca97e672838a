use Rattle.std.proofs.Common.{inl, inr}
use Rattle.std.proofs.lemmas.Result.{err_from_is_err_and}
use Rattle.der_base.specs.declared.header.Class.TheVariants.{Universal}
use Rattle.der_base.specs.Header.{class_of, is_constructed, number_of, length_of}
use Rattle.der_base.proofs.Answers.Answering.{passed_on}
use Rattle.der_readers.specs.Types.TypedReading.{FramesContent, FrameRefuses, FrameLacks}
use Rattle.der_readers.proofs.TypesLaws.ContentsRead.{of_parts}
use Rattle.der_readers.proofs.TypesLaws.TypedLaws.{header_begins, typed_read}
use Rattle.der_readers.proofs.types.typed.read_typed_leaf.Goals as goal

pub returns-in_err-rest : goal.returns-in_err-rest
returns-in_err-rest c =
    let rules = c.args.rules in
    let h = c.in_ok-behind.header in
    let v = c.in_ok-behind.behind.now in
    let found = c.in_ok-behind.ensures in
    let u = c.with_class-universal.result in
    let g = c.with_class-universal.ensures in
    let b = header_begins rules c.args.tag.0 c.args.i.now v h found.0 found.1 in
    let q = err_from_is_err_and c.from_residual-in_err-rest.result c.from_residual-in_err-rest.ensures.1 in
    rw (q.1, q.2) (passed_on _ _ c.in_err-rest.field-0.0 c.in_err-rest.ensures
    (λ e r. inr (class_of h, is_constructed h, length_of h, v, b, inl (of_parts (λ c t l p. FrameRefuses rules l p 50 v e) u Universal (number_of h) (length_of h) (is_constructed h) g r)))
    (λ n r. inr (class_of h, is_constructed h, length_of h, v, b, of_parts (λ c t l p. FrameLacks rules c l p 50 v n) u Universal (number_of h) (length_of h) (is_constructed h) g r))
    (λ m. m))

pub returns-in_err-content : goal.returns-in_err-content
returns-in_err-content c =
    let rules = c.args.rules in
    let h = c.in_ok-behind.header in
    let v = c.in_ok-behind.behind.now in
    let w = c.in_ok-rest.octets.now in
    let rest = c.in_ok-rest.rest.now in
    let found = c.in_ok-behind.ensures in
    let f = of_parts (λ c t l p. FramesContent rules l p 50 v w rest) c.with_class-universal.result Universal (number_of h) (length_of h) (is_constructed h) c.with_class-universal.ensures c.in_ok-rest.ensures in
    let r = (rw c.constructed.ensures at c.in_err-content.ensures) (length_of h) v rest f in
    let q = err_from_is_err_and c.from_residual-in_err-content.result c.from_residual-in_err-content.ensures.1 in
    rw (q.1, q.2) (inr (class_of h, is_constructed h, length_of h, v, header_begins rules c.args.tag.0 c.args.i.now v h found.0 found.1, inr (w, rest, f, r)))

pub returns : goal.returns
returns c =
    let rules = c.args.rules in
    let h = c.in_ok-behind.header in
    let v = c.in_ok-behind.behind.now in
    let w = c.in_ok-rest.octets.now in
    let rest = c.in_ok-rest.rest.now in
    let found = c.in_ok-behind.ensures in
    let f = of_parts (λ c t l p. FramesContent rules l p 50 v w rest) c.with_class-universal.result Universal (number_of h) (length_of h) (is_constructed h) c.with_class-universal.ensures c.in_ok-rest.ensures in
    let k = (rw c.constructed.ensures at c.in_ok-content.ensures) (length_of h) v rest f in
    rw (c.from_header_and_content.ensures.header, c.from_header_and_content.ensures.content)
    (typed_read rules c.args.tag.0 c.args.i.now v rest h c.in_ok-content.content found.0 found.1 k)
