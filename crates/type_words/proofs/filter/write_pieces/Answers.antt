use Rattle.std.proofs.Common.{refl, sym, take}
use Rattle.std.proofs.lemmas.Grind.{put_two}
use Rattle.type_words.specs.Filters.{piece_text, pieces_text}
use Rattle.type_words.proofs.TextLaws.{each_more}
use Rattle.type_words.proofs.filter.write_pieces.Goals as goal

pub loop-piece-preserved : goal.loop-piece-preserved
loop-piece-preserved g c = record {
  done = λ plain.
      let done = c.loop-piece.invariant.done plain in
      let i = c.loop-piece.piece-index in
      let w = c.args.pieces.now in
      put_two _ _ _ _ (pieces_text (take i w)) _ _ done (c.in_ok-write.ensures.writes done.plain refl) (sym (each_more piece_text w i _ c.loop-piece-test.true));
}
