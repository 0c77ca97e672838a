use Rattle.std.proofs.Common.{inl}
use Rattle.std.proofs.lemmas.Result.{err_from_is_err_and}
use Rattle.der_base.specs.Header.{class_of, is_constructed, number_of, length_of}
use Rattle.der_base.proofs.Answers.Answering.{passed_on}
use Rattle.der_base.proofs.Framing.FramingAny.{any_read, any_refused, any_lacks_header, any_lacks_content}
use Rattle.der_base.proofs.any.Any.read_ber.Goals as goal

-- the header is refused or cut
pub returns-in_err-behind : goal.returns-in_err-behind
returns-in_err-behind c =
    let i = c.args.i.now in
    let p = err_from_is_err_and c.from_residual.result c.from_residual.ensures.1 in
    rw (p.1, p.2) (passed_on _ _ c.in_err-behind.field-0.0 c.in_err-behind.ensures.found (λ e h. inl h) (λ n h. any_lacks_header i n h) (λ m. m))

-- the content behind it is
pub returns-in_err-rest : goal.returns-in_err-rest
returns-in_err-rest c =
    let i = c.args.i.now in
    let behind = c.in_ok-behind.behind.now in
    let h = c.in_ok-behind.header in
    let b = c.in_ok-behind.ensures.found.begins in
    let p = err_from_is_err_and c.from_residual-in_err-rest.result c.from_residual-in_err-rest.ensures.1 in
    rw (p.1, p.2) (passed_on _ _ c.in_err-rest.field-0.0 c.in_err-rest.ensures
    (λ e r. any_refused i behind (class_of h) (is_constructed h) (number_of h) (length_of h) e b (rw c.length.ensures at r))
    (λ n r. any_lacks_content i behind (class_of h) (is_constructed h) (number_of h) (length_of h) n b (rw c.length.ensures at r))
    (λ m. m))

pub returns : goal.returns
returns c = any_read c.args.i.now c.in_ok-behind.behind.now c.in_ok-rest.rest.now _ c.in_ok-behind.ensures.found (rw c.length.ensures at c.in_ok-rest.ensures)
