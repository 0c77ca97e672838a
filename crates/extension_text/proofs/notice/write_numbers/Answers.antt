use Rattle.std.proofs.Common.{[], ◌++◌, refl}
use Rattle.std.proofs.Output.{has_written_append, writes_in_calls_nil}
use Rattle.der_base.specs.declared.rules.Rules.TheVariants.{Der}
use Rattle.der_cursor.specs.Formats.{Integer}
use Rattle.der_cursor.proofs.FormatLaws.{required_takes}
use Rattle.extension_text.proofs.NamesLaws.LoopLaws.{goes_end, goes_on, goes_start}
use Rattle.extension_text.proofs.NamesLaws.WriteLaws.{one}
use Rattle.extension_text.proofs.notice.write_numbers.Goals as goal

pub loop-number-init : goal.loop-number-init
loop-number-init g c = record {
  done = λ plain. ([], goes_start refl, record { wrote = writes_in_calls_nil _ _; plain = plain });
}

pub loop-number-preserved : goal.loop-number-preserved
loop-number-preserved g c = record {
  done = λ plain.
      let done = c.loop-number.invariant.done plain in
      let item = one c.in_ok-write_number.ensures done.2.plain refl in (
        done.0 ++ item.0,
        goes_on done.0 item.0 _ c.in-Some.ensures.found item.1 done.1,
        has_written_append _ _ _ _ _ _ done.2 item.2,
      );
}

pub loop-number-smaller : goal.loop-number-smaller
loop-number-smaller g c = required_takes Integer Der _ _ _ c.in-Some.ensures.found

pub returns : goal.returns
returns g c =
    λ plain ok.
    let done = c.loop-number.invariant.done plain in
    (done.0, goes_end c.in_default.ensures done.1, done.2)
