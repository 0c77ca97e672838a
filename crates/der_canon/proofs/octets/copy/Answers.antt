use Rattle.std.proofs.Common.{◌++◌, drop, ap, ◌∙◌}
use Rattle.der_canon.proofs.Copies.{front_written}
use Rattle.der_canon.proofs.octets.copy.Goals as goal

pub returns : goal.returns
returns c =
    let out = c.args.out.now in
    let n = c.min-count.result in
    ap (λ v. v ++ drop n out) c.copy_from_slice.ensures.after ∙ front_written out c.args.octets.now n c.min-count.ensures
