use Rattle.std.proofs.Common.{◌≡◌, ◌++◌, ◌∙◌, ℕ, ap}
use Rattle.std.proofs.lemmas.List.{take-replicate}
use Rattle.der_base.specs.Pretty.{spaces}
use Rattle.der_print.specs.Texts.{octets_in}
use Rattle.der_print.proofs.PartLaws.{ok_then}
use Rattle.der_print.proofs.line_octets.LineOctets.put_spaces.Goals as goal

pub returns : goal.returns
returns c =
    let old = octets_in c.args.self.now in
    let new = octets_in c.put.new.self in
    ok_then c.put.result _ (λ _. new ≡ old ++ spaces c.args.count)
    (λ _ e. e ∙ ap (λ w. old ++ w) (take-replicate {X = ℕ} c.args.count 200 0x20 c.requires)) c.put.ensures
