use Rattle.std.proofs.lemmas.Fmt.{contents_after_writes}
use Rattle.std.proofs.lemmas.Option.{IfSome_then}
use Rattle.der_print.specs.Texts.{octets_in}
use Rattle.der_print.proofs.line_octets.LineOctets.put_text.Goals as goal

pub returns-in-Ok : goal.returns-in-Ok
returns-in-Ok g c =
    IfSome_then (g.D.Display.output c.args.value) c.in-Ok.ensures.writes
    (λ text k. contents_after_writes _ octets_in (λ _ _ _ t. t) _ text _ k)
