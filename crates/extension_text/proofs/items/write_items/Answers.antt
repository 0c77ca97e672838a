use Rattle.std.proofs.Common.{[], ◌++◌, ap, refl, ◌∙◌}
use Rattle.std.proofs.Output.{has_written_append, writes_in_calls_nil}
use Rattle.der_extensions.specs.Lists.{items_left}
use Rattle.extension_text.proofs.NamesLaws.LoopLaws.{goes_end, goes_on, goes_start}
use Rattle.extension_text.proofs.items.write_items.Goals as goal

pub loop-item-init : goal.loop-item-init
loop-item-init g c = record {
  done = λ plain. ([], goes_start (ap (λ x. items_left x) c.into_iter-item-iterator.ensures.into_iter_gives ∙ c.iter-item-items.ensures.octets), record { wrote = writes_in_calls_nil _ _; plain = plain });
}

pub loop-item-preserved : goal.loop-item-preserved
loop-item-preserved g c = record {
  done = λ plain.
      let done = c.loop-item.invariant.done plain in
      let item = c.in_ok-write.ensures done.2.plain refl in (
        done.0 ++ item.0,
        goes_on done.0 item.0 _ c.in-Some.ensures.steps.found (c.in-Some.item, refl, item.1) done.1,
        has_written_append _ _ _ _ _ _ done.2 item.2,
      );
}

pub returns : goal.returns
returns g c =
    λ plain ok.
    let done = c.loop-item.invariant.done plain in
    (done.0, goes_end c.in-None.ensures.steps.0 done.1, done.2)
