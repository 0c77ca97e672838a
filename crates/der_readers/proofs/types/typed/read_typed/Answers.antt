use Rattle.std.proofs.Common.{inr}
use Rattle.std.proofs.lemmas.Result.{err_from_is_err_and}
use Rattle.der_base.specs.Header.{class_of}
use Rattle.der_base.proofs.Answers.Answering.{passed_on}
use Rattle.der_readers.specs.Types.TypedReading.{BeginsWithHeaderBy}
use Rattle.der_readers.proofs.TypesLaws.TypedLaws.{header_begins}
use Rattle.der_readers.proofs.types.typed.read_typed.Goals as goal

pub returns-in_err-rest : goal.returns-in_err-rest
returns-in_err-rest c =
    let rules = c.args.rules in
    let i = c.args.i.now in
    let t = c.args.tag.0 in
    let h = c.in_ok-behind.header in
    let v = c.in_ok-behind.behind.now in
    let l = c.length-length.result in
    let p = c.constructed-constructed.result in
    let found = c.in_ok-behind.ensures in
    let b : BeginsWithHeaderBy rules i (class_of h) p t l v = rw (c.length-length.ensures, c.constructed-constructed.ensures) (header_begins rules t i v h found.0 found.1) in
    let q = err_from_is_err_and c.from_residual-in_err-rest.result c.from_residual-in_err-rest.ensures.1 in
    rw (q.1, q.2) (passed_on _ _ c.in_err-rest.field-0.0 c.in_err-rest.ensures.found
    (λ e r. inr (class_of h, p, l, v, b, r))
    (λ n r. inr (class_of h, p, l, v, b, r))
    (λ m. (class_of h, p, l, v, b, m)))
