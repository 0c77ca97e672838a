use Rattle.std.proofs.Common.{refl, sym, take}
use Rattle.std.proofs.lemmas.Grind.{put_two}
use Rattle.type_words.specs.Filters.{assertion_text, octet_text}
use Rattle.type_words.proofs.TextLaws.{each_more}
use Rattle.type_words.proofs.filter.write_assertion.Goals as goal

pub loop-octet-preserved : goal.loop-octet-preserved
loop-octet-preserved g c = record {
  done = λ plain.
      let done = c.loop-octet.invariant.done plain in
      let i = c.loop-octet.octet-index in
      let w = c.args.octets.now in
      put_two _ _ _ _ (assertion_text (take i w)) _ _ done (c.in_ok-write_octet.ensures done.plain refl) (sym (each_more octet_text w i _ c.loop-octet-test.true));
}
