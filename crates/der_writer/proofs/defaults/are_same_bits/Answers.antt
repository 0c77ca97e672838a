use Rattle.std.proofs.Common.{◌≡◌, min, rules, sym, ◌∙◌}
use Rattle.std.proofs.lemmas.Bool.{false≢true}
use Rattle.der_writer.proofs.SameBits.{same_bits, same_when}
use Rattle.der_writer.proofs.defaults.are_same_bits.Goals as goal
use Rattle.der_writer.proofs.defaults.are_same_bits.Goals.{then-unused-min-via-then-unused-min, then-unused-min-via-else-unused-min+then-ne}

pub returns-then-unused-min : goal.returns-then-unused-min
returns-then-unused-min c = (
  (λ e. absurd (false≢true e)),
  (λ e.
      let same = same_bits c.args.unused c.args.other_unused _ _ _ _ _ _ c.in-Some.ensures.cases.0 c.in-Some-split_last.ensures.cases.0 e in
      elim c.then-unused-min.branch [
        | then-unused-min-via-then-unused-min w ↦ absurd (w.if-unused-min.true (c.min-unused.ensures ∙ same.0 ∙ sym c.min.ensures))
        | then-unused-min-via-else-unused-min+then-ne w ↦ search (rules, same.1)
      ]),
)

pub returns : goal.returns
returns c =
    let also : c.min-unused.result ≡ min c.args.other_unused 7 = c.if-unused-min.false ∙ c.min.ensures in
    let front : c.in-Some.front.now ≡ c.in-Some-split_last.other_front.now = search rules in
    same_when c.args.unused c.args.other_unused _ _ c.min-unused.result c.clear_bits.result c.clear_bits-2.result _ _ _ _ c.min-unused.ensures also front
    c.in-Some.ensures.cases.0 c.in-Some-split_last.ensures.cases.0 c.clear_bits.ensures c.clear_bits-2.ensures
