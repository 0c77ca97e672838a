use Rattle.std.proofs.Common.{◌≡◌, sym, ◌∙◌, arith}
use Rattle.der_base.specs.declared.header.Length.TheVariants.{Definite}
use Rattle.der_values.proofs.LawsLaws.Containers.BerContainers.{short_behind}
use Rattle.der_base.proofs.Headers.BerHeaders.{ber_header_read}
use Rattle.der_combinators.proofs.opening.short_content.Goals.{in_default-length-via-in-Definite+else-content-n, in_default-length-via-in_default-length}
use Rattle.der_combinators.proofs.opening.short_content.Goals as goal

pub returns-in_default : goal.returns-in_default
returns-in_default c = λ content s.
    ber_header_read c.args.i.now c.in_default.field-0 (record { class = s.0; constructed = s.1; number = s.2; length = Definite s.3; rest = content }) c.in_default.ensures s.4

pub returns-in_default-length : goal.returns-in_default-length
returns-in_default-length c = λ content s.
    let q = short_behind c.args.i.now c.in-Ok.content.now content c.in-Ok.header c.in-Ok.ensures.found s in
    let l = c.length.ensures ∙ q.1 in
    elim c.in_default-length.branch [
      | in_default-length-via-in-Definite+else-content-n w ↦ (let d : Definite w.in-Definite.n ≡ Definite q.0 = sym w.in-Definite.is ∙ l in
          let e : w.in-Definite.n ≡ q.0 = cc in
          omega (arith, e, q.3, w.if-content-n.false))
      | in_default-length-via-in_default-length w ↦ w.in_default-length.not-Definite q.0 l
    ]
