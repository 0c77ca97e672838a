use Rattle.std.proofs.Common.{◌∙◌, arith}
use Rattle.der_writer.proofs.NamedBits.{less, stays, none_left}
use Rattle.der_writer.proofs.named_bits.without_last_zeros.Goals as goal
use Rattle.der_writer.proofs.named_bits.without_last_zeros.Goals.{then-loop-end-test+else-given-end-eq0, else-loop-end-test}

pub loop-end-preserved : goal.loop-end-preserved
loop-end-preserved c =
    let h = c.loop-end.invariant in
    record {
      within = omega (arith, h.within);
      same = less c.loop-end.end c.args.given.now (omega arith) h.within c.if-given-end-eq0.true ∙ h.same;
    }

pub returns : goal.returns
returns c =
    let h = c.loop-end.invariant in
    elim c.loop-end-test.branch [
      | then-loop-end-test+else-given-end-eq0 w ↦ stays c.loop-end.end c.args.given.now (omega (arith, w.loop-end-test.true)) h.within w.if-given-end-eq0.false ∙ h.same
      | else-loop-end-test w ↦ none_left c.loop-end.end c.args.given.now (omega (arith, w.loop-end-test.false)) ∙ h.same
    ]
