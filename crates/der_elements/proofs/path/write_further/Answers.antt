use Rattle.std.proofs.Common.{sym, refl, take}
use Rattle.std.proofs.lemmas.Grind.{put_two}
use Rattle.der_elements.specs.Paths.{further_text}
use Rattle.der_elements.proofs.PathTexts.{further_more}
use Rattle.der_elements.proofs.path.write_further.Goals as goal

pub loop-step-preserved : goal.loop-step-preserved
loop-step-preserved g c = record {
  done = λ plain.
      let done = c.loop-step.invariant.done plain in
      let i = c.loop-step.step-index in
      let w = c.args.steps.now in
      put_two _ _ _ _ (further_text (take i w)) _ _ done (c.in_ok-write.ensures.writes done.plain refl) (sym (further_more w i _ c.loop-step-test.true));
}
