use Rattle.std.proofs.Common.{◌≡◌, inl, inr, length, take, sym, ap, subst, ◌∙◌, arith}
use Rattle.der_canon.specs.Errors.{first, string}
use Rattle.der_canon.specs.Same.{AreInDer}
use Rattle.der_canon.proofs.InDer.{in_der}
use Rattle.der_canon.proofs.OneSize.{of_sizes}
use Rattle.der_canon.proofs.SameSizes.{same_size}
use Rattle.der_canon.specs.Contents.{KeepsIn}
use Rattle.der_canon.proofs.elements.write_others.Goals as goal

pub returns-in-Ok-write_pieces-clause-written : goal.returns-in-Ok-write_pieces-clause-written
returns-in-Ok-write_pieces-clause-written c =
    let i = c.args.octets.now in
    let out = c.write_pieces.new.out in
    let n = c.in-Ok.needed in
    let w = c.in-Ok-write_pieces.ensures.written in
    let same : n ≡ length w.0 = of_sizes i n (length w.0) c.in-Ok.ensures.size (same_size (KeepsIn (length out)) i w.0 w.1) in (
      c.in-Ok.ensures.size,
      λ room.
          let form : take n out ≡ w.0 = ap (λ k. take k out) same ∙ w.2 (omega (arith, same, room)) in
          subst (λ z. AreInDer 101 i z) (sym form) (in_der (length out) i w.0 w.1 (omega (arith, same, room))),
    )

pub returns-in-Err-write_pieces-clause-error : goal.returns-in-Err-write_pieces-clause-error
returns-in-Err-write_pieces-clause-error c =
    elim c.in-Err-write_pieces.ensures.error [
      | inl f ↦ first f
      | inr s ↦ string c.in-Ok.ensures.have s
    ]
