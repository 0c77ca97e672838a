use Rattle.std.proofs.Common.{◌++◌, ◌∷◌, [], ◌∙◌, ap, append_assoc, refl}
use Rattle.der_text.proofs.Printed.{puts_then_none}
use Rattle.der_text.proofs.printer.write_line.Goals as goal

pub returns-clause-puts : goal.returns-clause-puts
returns-clause-puts c = puts_then_none c.in_ok-write_octets.ensures.puts c.in_ok-write_line_end.ensures.puts

pub returns-clause-text : goal.returns-clause-text
returns-clause-text c =
    let t = c.in_ok-write_octets.ensures.text in
    record {
      text = t.text ++ 10 ∷ [];
      added = c.in_ok-write_line_end.ensures.text ∙ ap (λ x. x ++ 10 ∷ []) t.added
          ∙ append_assoc c.args.out.now.items t.text (10 ∷ []);
      looks = (t.text, t.looks, refl);
    }
