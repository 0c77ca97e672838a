use Rattle.std.proofs.Common.{refl, take}
use Rattle.std.proofs.lemmas.Grind.{put_two}
use Rattle.type_words.specs.Filters.{filter_text, part_text}
use Rattle.type_words.proofs.TextLaws.{item_more}
use Rattle.type_words.proofs.filter.write_parts.Goals as goal

pub loop-part-preserved : goal.loop-part-preserved
loop-part-preserved g c = record {
  done = λ plain.
      let done = c.loop-part.invariant.done plain in
      let i = c.loop-part.part-index in
      let w = c.args.parts.now in
      put_two _ _ _ _ (filter_text (take i w)) _ _ done (c.in_ok-write_part.ensures done.plain refl) (item_more part_text w i c.part-item.result c.loop-part-test.true c.part-item.is);
}
