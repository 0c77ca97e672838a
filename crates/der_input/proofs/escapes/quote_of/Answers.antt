use Rattle.std.proofs.Common.{◌∙◌, ap, take}
use Rattle.std.specs.Prelude.{find}
use Rattle.der_input.specs.Escapes.{is_quote}
use Rattle.der_input.proofs.escapes.quote_of.Goals as goal

pub returns-in-Some : goal.returns-in-Some
returns-in-Some c = c.in-Some.ensures ∙ ap (λ n. find is_quote (take n c.args.text.now)) c.offset_of.ensures.first

pub returns-in-None : goal.returns-in-None
returns-in-None c = c.in-None.ensures ∙ ap (λ n. find is_quote (take n c.args.text.now)) c.offset_of.ensures.first
