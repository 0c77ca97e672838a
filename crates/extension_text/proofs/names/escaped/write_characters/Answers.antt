use Rattle.std.proofs.Common.{false, ◌++◌, ◌∙◌, ◌||◌, ap, append-nil, append_assoc, arith, length, refl, sym}
use Rattle.std.proofs.Output.{has_written_append, has_written_of_eq}
use Rattle.der_print.specs.Pieces.{pieces_left}
use Rattle.extension_text.specs.Names.Escapes.{escaped, piece_text}
use Rattle.extension_text.proofs.names.escaped.write_characters.Goals as goal

pub loop-piece-smaller : goal.loop-piece-smaller
loop-piece-smaller g c = omega (arith, ap length c.in-Some.ensures)

pub loop-piece-preserved : goal.loop-piece-preserved
loop-piece-preserved g c = record {
  done = λ plain.
      let done = c.loop-piece.invariant.done plain in
      let first = c.loop-piece.first in
      let text = piece_text c.in-Some.piece c.is_outermost.result first in (
        done.0 ++ text,
        done.1 ∙ ap (λ ps. done.0 ++ escaped first ps) c.in-Some.ensures
            ∙ ap (λ o. done.0 ++ (piece_text c.in-Some.piece o first ++ escaped false (pieces_left c.in-Some.rest))) (sym c.is_outermost.ensures)
            ∙ sym (append_assoc done.0 text _),
        has_written_append _ _ _ _ _ _ done.2 (c.in_ok-write_piece.ensures done.2.plain refl),
      );
}

pub returns : goal.returns
returns g c =
    λ plain ok.
    let done = c.loop-piece.invariant.done plain in
    has_written_of_eq _ _ _ _ _ (sym (done.1 ∙ ap (λ ps. done.0 ++ escaped c.loop-piece.first ps) c.in_default.ensures ∙ append-nil done.0)) done.2
