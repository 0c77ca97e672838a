use Rattle.std.proofs.Common.{◌≡◌, ◌<◌, ◌++◌, ◌∙◌, ap, length, rules}
use Rattle.der_text.specs.Looks.{break_text}
use Rattle.der_text.proofs.Looks.{all_parts, no_step, one_part}
use Rattle.der_text.proofs.Printed.{nothing, printed_whole, prints_both, prints_none, prints_then_none}
use Rattle.der_text.proofs.parts.write_octets.Goals as goal

pub loop-rest-init : goal.loop-rest-init
loop-rest-init c = (prints_none c.args.out.now.items c.args.octets.now, no_step c.args.out.now.items c.args.octets.now)

pub loop-rest-preserved : goal.loop-rest-preserved
loop-rest-preserved c =
    let some : 0 < length c.loop-rest.rest.now = search rules in (
      prints_then_none (prints_both c.loop-rest.invariant.0 c.in_ok-rest.ensures.prints) c.in_ok-write_break.ensures.puts,
      one_part c.loop-rest.invariant.1 some c.in_ok-rest.ensures.text c.in_ok-rest.ensures.rest
          (c.in_ok-write_break.ensures.text ∙ ap (λ b. c.write_part.new.out.items ++ break_text b c.args.indent) c.is_broken.ensures),
    )

pub returns-clause-puts : goal.returns-clause-puts
returns-clause-puts c =
    let none : length c.loop-rest.rest.now ≡ 0 = search rules in
    printed_whole c.loop-rest.invariant.0 (nothing c.loop-rest.rest.now none)

pub returns-clause-text : goal.returns-clause-text
returns-clause-text c =
    let none : length c.loop-rest.rest.now ≡ 0 = search rules in
    all_parts c.is_text-text.ensures (nothing c.loop-rest.rest.now none) c.loop-rest.invariant.1
