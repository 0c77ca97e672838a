use Rattle.std.proofs.Common.{[], ◌++◌, ap, refl, ◌∙◌}
use Rattle.std.proofs.Output.{has_written_append, writes_in_calls_nil}
use Rattle.x509_keys.specs.Request.Lists.{values_left}
use Rattle.extension_text.proofs.NamesLaws.LoopLaws.{goes_end, goes_on, goes_start}
use Rattle.extension_text.proofs.NamesLaws.WriteLaws.{one}
use Rattle.certificate_text.proofs.request.write_values.Goals as goal

pub loop-value-init : goal.loop-value-init
loop-value-init g c = record {
  done = λ plain. ([], goes_start (ap (λ x. values_left x) c.into_iter-value-iterator.ensures.into_iter_gives ∙ c.iter-value-items.ensures.octets), record { wrote = writes_in_calls_nil _ _; plain = plain });
}

pub loop-value-preserved : goal.loop-value-preserved
loop-value-preserved g c = record {
  done = λ plain.
      let done = c.loop-value.invariant.done plain in
      let item = one c.in_ok-write_value.ensures done.2.plain refl in (
        done.0 ++ item.0,
        goes_on done.0 item.0 _ c.in-Some.ensures.steps item.1 done.1,
        has_written_append _ _ _ _ _ _ done.2 item.2,
      );
}

pub returns : goal.returns
returns g c =
    λ plain ok.
    let done = c.loop-value.invariant.done plain in
    (done.0, goes_end c.in-None.ensures.steps.0 done.1, done.2)
