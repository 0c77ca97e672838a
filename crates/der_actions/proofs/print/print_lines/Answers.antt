use Rattle.std.proofs.Common.{◌≡◌, ◌⊎◌, false, inl, true}
use Rattle.std.specs.Io.KnownBytes.{Keeps}
use Rattle.der_actions.specs.Namings.{IsAsAsked}
use Rattle.der_actions.specs.Outputs.{RefusesLines, WritesLines, extras_of}
use Rattle.der_actions.proofs.Printing.{end_reads, end_refuses, ends_refused, printed_all, printed_before, printed_more, printed_none, refused_keeps, refused_reads}
use Rattle.der_actions.proofs.print.print_lines.Goals as goal

pub elements-init : goal.elements-init
elements-init g c = record {
  printed =
      printed_none c.args.lines _ _ (c.keeping_values-walk.ensures _ _ _ c.new.ensures) (c.new-listing.ensures _ _) c.schema_of.ensures c.new-fields.ensures;
}

pub elements-preserved : goal.elements-preserved
elements-preserved g c =
    let p = c.elements.invariant.printed in
    let o = c.args.options.now in
    let i = c.args.octets.now in
    let next = rw c.in-Ok-Some.field-0-is at (c.in-Ok-Some.ensures.visits (extras_of o) o.rules i p.elements p.visited) in
    let named = c.field_of-field.ensures p.schema i p.elements p.named next.3 next.2 in
    record {
      printed =
          printed_more c.args.lines _ _ _ p next.0 next.1 named.0 named.1 (c.in_ok-is_listed-in-Ok-Some.ensures p.schema i o p.elements p.listed p.chosen next.2 named.0)
          c.in_ok-pass-in-Ok-Some.ensures;
    }

pub returns-in-Ok-None-clause-read : goal.returns-in-Ok-None-clause-read
returns-in-Ok-None-clause-read g c =
    let p = c.elements.invariant.printed in
    let o = c.args.options.now in
    let i = c.args.octets.now in
    let all = rw c.in-Ok-None.field-0-is at (c.in-Ok-None.ensures.visits (extras_of o) o.rules i p.elements p.visited) in
    let new = g.W.Write.contents c.report_end.new.out in
    end_reads c.report_end.result ((c.elements.listing.has_some ≡ true) × IsAsAsked o.naming o.rules i) (Keeps (g.W.Write.contents c.elements.out) new)
    (WritesLines c.args.lines o i (g.W.Write.contents c.args.out.now) new) (λ a keeps. printed_all p all a.0 a.1 keeps) c.report_end.ensures.read
    c.report_end.ensures.keeps

pub returns-in-Ok-None-clause-refused : goal.returns-in-Ok-None-clause-refused
returns-in-Ok-None-clause-refused g c =
    let p = c.elements.invariant.printed in
    let o = c.args.options.now in
    let i = c.args.octets.now in
    let all = rw c.in-Ok-None.field-0-is at (c.in-Ok-None.ensures.visits (extras_of o) o.rules i p.elements p.visited) in
    let new = g.W.Write.contents c.report_end.new.out in
    end_refuses c.report_end.result ((c.elements.listing.has_some ≡ false) ⊎ (¬ IsAsAsked o.naming o.rules i)) (Keeps (g.W.Write.contents c.elements.out) new)
    (RefusesLines c.args.lines o i (g.W.Write.contents c.args.out.now) new) (λ a keeps. printed_before p (ends_refused p all a) keeps)
    c.report_end.ensures.refused c.report_end.ensures.keeps

pub returns-in-Err-clause-read : goal.returns-in-Err-clause-read
returns-in-Err-clause-read g c = refused_reads c.report_refusal.result _ c.report_refusal.ensures.refused

pub returns-in-Err-clause-refused : goal.returns-in-Err-clause-refused
returns-in-Err-clause-refused g c =
    let p = c.elements.invariant.printed in
    let o = c.args.options.now in
    let i = c.args.octets.now in
    let refused = c.in-Err.ensures.visits (extras_of o) o.rules i p.elements p.visited in
    let new = g.W.Write.contents c.report_refusal.new.out in
    refused_keeps c.report_refusal.result (Keeps (g.W.Write.contents c.elements.out) new) (RefusesLines c.args.lines o i (g.W.Write.contents c.args.out.now) new)
    (λ keeps. printed_before p (inl (_, _, refused)) keeps) c.report_refusal.ensures.keeps
