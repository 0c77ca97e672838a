use Rattle.std.proofs.Common.{[], ◌++◌, refl}
use Rattle.std.proofs.Output.{has_written_append, writes_in_calls_nil}
use Rattle.x509_rules.specs.Examined.{signed_of}
use Rattle.x509_rules.specs.Rules.{Breaks}
use Rattle.der_show.proofs.BrokenLines.{kept_end, kept_no_more, kept_start, rules_end, rules_on, rules_start}
use Rattle.der_show.proofs.rules.write_broken.Goals as goal

pub loop-broken-init : goal.loop-broken-init
loop-broken-init g c = record {
  kept = kept_start (λ r. Breaks r (signed_of c.args.certificate.now));
  done = λ plain. ([], rules_start (λ r. Breaks r (signed_of c.args.certificate.now)) c.args.label.now refl, record { wrote = writes_in_calls_nil _ _; plain = plain });
}

pub loop-broken-smaller : goal.loop-broken-smaller
loop-broken-smaller g c = c.in-Some.ensures.fewer

pub loop-broken-preserved : goal.loop-broken-preserved
loop-broken-preserved g c = record {
  kept = kept_no_more (λ r. Breaks r (signed_of c.args.certificate.now)) c.in-Some.ensures c.loop-broken.invariant.kept;
  done = λ plain.
      let done = c.loop-broken.invariant.done plain in
      let item = c.in_ok-write_displayed.ensures done.2.plain refl in (
        done.0 ++ item.0,
        rules_on (λ r. Breaks r (signed_of c.args.certificate.now)) c.args.label.now c.args.rules.now done.0 item.0 c.in-Some.ensures (item.1.0, item.1.2) done.1,
        has_written_append _ _ _ _ _ _ done.2 item.2,
      );
}

pub returns-clause-text : goal.returns-clause-text
returns-clause-text g c =
    λ plain ok.
    let done = c.loop-broken.invariant.done plain in
    (done.0, rules_end (λ r. Breaks r (signed_of c.args.certificate.now)) c.args.label.now c.args.rules.now _ done.0 c.in_default.ensures done.1, done.2)

pub returns-clause-rules : goal.returns-clause-rules
returns-clause-rules g c = kept_end (λ r. Breaks r (signed_of c.args.certificate.now)) c.in_default.ensures c.loop-broken.invariant.kept
