use Rattle.std.proofs.Common.{refl, inl, inr}
use Rattle.std.proofs.lemmas.Result.{err_from_is_err_and}
use Rattle.der_base.specs.Header.{class_of, is_constructed, number_of, length_of}
use Rattle.der_base.proofs.Answers.Answering.{passed_on}
use Rattle.der_readers.specs.Types.TypedReading.{ReadsHeaderBy}
use Rattle.der_readers.proofs.TypesLaws.TypedLaws.{header_found, header_begins}
use Rattle.der_readers.proofs.types.typed.read_header_of.Goals as goal

pub returns-in_err-behind : goal.returns-in_err-behind
returns-in_err-behind c =
    let q = err_from_is_err_and c.from_residual.result c.from_residual.ensures.1 in
    rw (q.1, q.2) (passed_on _ _ c.in_err-behind.field-0.0 (header_found c.args.rules c.args.i.now _ c.in_err-behind.ensures) (λ e r. inl r) (λ n r. r) (λ m. m))

pub returns-in_err-assert_tag : goal.returns-in_err-assert_tag
returns-in_err-assert_tag c =
    let i = c.args.i.now in
    let h = c.in_ok-behind.header in
    let v = c.in_ok-behind.behind.now in
    let found : ReadsHeaderBy c.args.rules i h v = header_found c.args.rules i _ c.in_ok-behind.ensures in
    let other = c.in_err-assert_tag.ensures in
    let q = err_from_is_err_and c.from_residual-in_err-assert_tag.result c.from_residual-in_err-assert_tag.ensures.1 in
    rw (q.1, q.2) (inr (class_of h, is_constructed h, number_of h, length_of h, v, header_begins c.args.rules (number_of h) i v h found refl, other.0, other.1))

pub returns : goal.returns
returns c = (header_found c.args.rules c.args.i.now _ c.in_ok-behind.ensures, c.in_ok-assert_tag.ensures)
