use Rattle.std.proofs.Common.{[], ◌∙◌, ap, get_or, refl, sym, take}
use Rattle.std.proofs.Output.{has_written_append, has_written_of_eq}
use Rattle.std.proofs.lemmas.List.{flat_map_more, take_more}
use Rattle.der_actions.specs.Labels.{label_text, octet_text}
use Rattle.der_actions.proofs.label.LabelDisplay.fmt.Goals as goal

pub loop-octet-preserved : goal.loop-octet-preserved
loop-octet-preserved g c = record {
  done = λ plain.
      let done = c.loop-octet.invariant.done plain in
      let i = c.loop-octet.octet-index in
      let w = c.args.self.now.0.now in
      has_written_of_eq _ _ _ _ _ (flat_map_more octet_text [] (take i w) (get_or w i 0) ∙ sym (ap label_text (take_more w i 0 c.loop-octet-test.true)))
      (has_written_append _ _ _ _ _ _ done (c.in_ok-write_octet.ensures done.plain refl));
}
