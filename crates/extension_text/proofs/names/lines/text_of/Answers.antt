use Rattle.std.proofs.Common.{◌++◌, ◌∙◌, ap}
use Rattle.std.proofs.Output.{if_some_weaken}
use Rattle.std.proofs.lemmas.Fmt.{contents_after_writes}
use Rattle.arrayvec.specs.ArrayString.{ArrayString}
use Rattle.extension_text.proofs.names.lines.text_of.Goals as goal

pub returns : goal.returns
returns g c = if_some_weaken _ _ _ (λ said k. contents_after_writes _ (λ (s : ArrayString). s.bytes) (λ w l v t. t) _ said _ k ∙ ap (λ l. l ++ said) c.new-text.ensures) c.in_ok-write.ensures.writes
