use Rattle.std.proofs.Common.{◌++◌, ap, refl, sym, ◌∙◌, append_assoc, codes, decimal}
use Rattle.std.proofs.lemmas.Grind.{put_two}
use Rattle.der_base.specs.Pretty.{pointed}
use Rattle.der_values.specs.Identifiers.{u128_arcs_left}
use Rattle.der_print.proofs.identifier.write_further_arcs.Goals as goal

pub loop-arc-preserved : goal.loop-arc-preserved
loop-arc-preserved g c = record {
  done = λ plain.
      let done = c.loop-arc.invariant.done plain in
      let text = codes "." ++ decimal c.in-Some.arc in
      let others = pointed (u128_arcs_left c.next.new.self) in (
        done.0 ++ text,
        done.1 ∙ ap (λ l. done.0 ++ pointed l) c.in-Some.ensures.steps ∙ sym (append_assoc done.0 text others),
        put_two _ _ _ _ done.0 text _ done.2 (c.in_ok-write_arc.ensures done.2.plain refl) refl,
      );
}
