use Rattle.std.proofs.Common.{sym, refl, codes, take, get_or}
use Rattle.std.proofs.lemmas.Grind.{put_three}
use Rattle.der_base.specs.Pretty.{hex_pair, spaced_hex}
use Rattle.der_base.proofs.HexTexts.{spaced_more}
use Rattle.der_base.proofs.oid_text.write_further_octets.Goals as goal

pub loop-octet-preserved : goal.loop-octet-preserved
loop-octet-preserved g c = record {
  done = λ plain.
      let done = c.loop-octet.invariant.done plain in
      let i = c.loop-octet.octet-index in
      let w = c.args.octets.now in
      let space = c.in_ok-write.ensures.writes done.plain refl in
      put_three _ _ _ _ _ (spaced_hex (take i w)) (codes " ") (hex_pair (get_or w i 0)) _ done space
      (c.in_ok-write_octet.ensures space.plain refl) (sym (spaced_more w i c.loop-octet-test.true));
}
