use Rattle.std.proofs.Common.{◌≡◌, ◌+◌, ◌-◌, ◌<◌, [], ◌∷◌, ◌++◌, length, None, rules, arith, subst}
use Rattle.std.proofs.lemmas.List.{nil_from_length}
use Rattle.std.specs.Io.KnownBytes.{append_known}
use Rattle.der_parser.specs.View.{tree}
use Rattle.derdump.specs.Elements.{Elements, none}
use Rattle.derdump.specs.Sinks.{octets_of}
use Rattle.derdump.specs.Words.{rules_of}
use Rattle.derdump.proofs.Reading.{element_behind, elements_left, refused_here, wanting_here}
use Rattle.derdump.proofs.Taking.{took_none, output_pending, outputs_kept, outputs_handed_on}
use Rattle.derdump.proofs.run.print_elements.Goals as goal

pub loop-rest-init : goal.loop-rest-init
loop-rest-init g c = record { in_range = omega arith; printed = ([], none, took_none _ _ c.new-pending.ensures.items); whole = λ all. all }

pub loop-rest-preserved : goal.loop-rest-preserved
loop-rest-preserved g c =
    let (os, front, lines) = c.loop-rest.invariant.printed in
    let answer = rw (c.rules.ensures) at c.in-Ok.ensures.exactly in
    let o = tree c.in-Ok.object in
    let first = octets_of g.W.Write.contents c.args.out.now in
    let before = octets_of g.W.Write.contents c.loop-rest.out in
    let after = octets_of g.W.Write.contents c.hand_on_if_many.new.out in
    let added = c.push_output.new.pending.items in
    record {
      in_range = omega (arith, c.loop-rest.invariant.in_range, c.in-Ok.ensures.shorter);
      printed = (
        os ++ o ∷ [],
        element_behind o front answer.found,
        outputs_kept first (append_known before added) (append_known after c.hand_on_if_many.new.pending.items)
            (output_pending first before c.loop-rest.pending.items added o lines c.in-Ok-push_output.ensures.ok) c.in_ok-hand_on_if_many-in-Ok-push_output.ensures,
      );
      whole = λ all. elements_left (c.in-Ok.after, c.in-Ok.object) answer c.in-Ok.ensures.shorter (c.loop-rest.invariant.whole all);
    }

-- there is no memory for what is written of an object
pub returns-in-Err-push_output-clause-printed : goal.returns-in-Err-push_output-clause-printed
returns-in-Err-push_output-clause-printed g c =
    let (os, front, lines) = c.loop-rest.invariant.printed in
    let rest = c.loop-rest.rest.now in
    let offset = length c.args.input.now - length rest in
    let same : c.deref.result.now ≡ c.loop-rest.pending.items = search (rules, c.in-Err-push_output.ensures.err) in
    let place : offset + length rest ≡ length c.args.input.now = omega (arith, c.loop-rest.invariant.in_range) in
    (os, wanting_here offset front place, outputs_handed_on _ _ _ c.loop-rest.pending.items lines (rw same at c.in_ok-hand_on-in-Err-push_output.ensures.written))

pub returns-in-Err-clause-printed : goal.returns-in-Err-clause-printed
returns-in-Err-clause-printed g c =
    let (os, front, lines) = c.loop-rest.invariant.printed in
    let rest = c.loop-rest.rest.now in
    let offset = length c.args.input.now - length rest in
    let some : 0 < length rest = search rules in
    let same : c.deref-in-Err.result.now ≡ c.loop-rest.pending.items = search rules in
    let place : offset + length rest ≡ length c.args.input.now = omega (arith, c.loop-rest.invariant.in_range) in (
      os,
      refused_here (record { offset = offset; list_end = None; reason = c.in-Err.reason }) front place some c.loop-rest.invariant.whole (rw (c.rules.ensures) at c.in-Err.ensures.exactly),
      outputs_handed_on _ _ _ c.loop-rest.pending.items lines (rw same at c.in_ok-hand_on-in-Err.ensures.written),
    )

-- nothing is left
pub returns-clause-printed : goal.returns-clause-printed
returns-clause-printed g c =
    let (os, front, lines) = c.loop-rest.invariant.printed in
    let end : length c.loop-rest.rest.now ≡ 0 = search rules in
    let same : c.deref-2.result.now ≡ c.loop-rest.pending.items = search rules in
    (os, subst (Elements (rules_of c.args.command) c.args.input.now os) (nil_from_length _ end) front, outputs_handed_on _ _ _ c.loop-rest.pending.items lines (rw same at c.in_ok-hand_on.ensures.written))
