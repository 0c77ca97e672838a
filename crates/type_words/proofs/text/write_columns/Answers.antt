use Rattle.std.proofs.Common.{refl}
use Rattle.std.proofs.lemmas.Grind.{put_two}
use Rattle.type_words.specs.Lines.{columns}
use Rattle.type_words.proofs.TextLaws.{columns_more}
use Rattle.type_words.proofs.text.write_columns.Goals as goal

pub levels-preserved : goal.levels-preserved
levels-preserved g c = record {
  done = λ plain.
      let done = c.levels.invariant.done plain in
      let n = c.levels.counter in
      put_two _ _ _ _ (columns n) _ _ done (c.in_ok-write.ensures.writes done.plain refl) (columns_more n);
}
