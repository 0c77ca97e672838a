use Rattle.std.proofs.Common.{◌∙◌, ◌++◌, ap, append-nil, append_assoc, arith, length, refl, sym}
use Rattle.std.specs.Prelude.{map}
use Rattle.std.specs.List.{concat}
use Rattle.std.proofs.Output.{has_written_append, has_written_of_eq}
use Rattle.der_print.specs.Quotes.{plain_text}
use Rattle.der_print.proofs.text.UnquotedDisplay.fmt.Goals as goal

pub loop-piece-smaller : goal.loop-piece-smaller
loop-piece-smaller g c = omega (arith, ap length c.in-Some.ensures)

pub loop-piece-preserved : goal.loop-piece-preserved
loop-piece-preserved g c = record {
  done = λ plain.
      let done = c.loop-piece.invariant.done plain in
      let text = plain_text c.in-Some.piece in (
        done.0 ++ text,
        done.1 ∙ ap (λ ps. done.0 ++ concat (map plain_text ps)) c.in-Some.ensures ∙ sym (append_assoc done.0 text _),
        has_written_append _ _ _ _ _ _ done.2 (c.in_ok-write_plain.ensures done.2.plain refl),
      );
}

pub returns-clause-writes : goal.returns-clause-writes
returns-clause-writes g c =
    λ plain ok.
    let done = c.loop-piece.invariant.done plain in
    has_written_of_eq _ _ _ _ _ (sym (done.1 ∙ ap (λ ps. done.0 ++ concat (map plain_text ps)) c.in_default.ensures ∙ append-nil done.0)) done.2
