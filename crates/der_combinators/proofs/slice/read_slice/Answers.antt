use Rattle.std.proofs.Common.{inr}
use Rattle.std.proofs.lemmas.Result.{err_from_is_err_and}
use Rattle.der_base.specs.Containers.{unopened}
use Rattle.der_base.specs.Header.{class_of, is_constructed, number_of}
use Rattle.der_values.proofs.LawsLaws.Containers.ContainerLaws.{opens_element}
use Rattle.der_combinators.proofs.Slices.{opened, unopened_slice}
use Rattle.der_combinators.proofs.slice.read_slice.Goals as goal

pub returns-in_err-header : goal.returns-in_err-header
returns-in_err-header c =
    let p = err_from_is_err_and c.from_residual.result c.from_residual.ensures.1 in
    rw (p.1, p.2) (unopened_slice _ (unopened c.in_err-header.ensures.err))

pub returns-in_err-assert_tag : goal.returns-in_err-assert_tag
returns-in_err-assert_tag c =
    let h = c.in_ok-header.header in
    let w = c.in_ok-header.content.now in
    let after = c.in_ok-header.after.now in
    let e = opens_element c.args.rules c.args.i.now w after h c.in_ok-header.ensures.ok in
    let other = c.in_err-assert_tag.ensures in
    let q = err_from_is_err_and c.from_residual-in_err-assert_tag.result c.from_residual-in_err-assert_tag.ensures.1 in
    rw (q.1, q.2) (inr (inr (number_of h, w, after, (class_of h, is_constructed h, e), other.0, other.1)))

pub returns : goal.returns
returns c = opened c.args.rules c.args.tag.0 c.args.i.now _ _ _ (c.in_ok-header.ensures.ok, c.in_ok-assert_tag.ensures)
