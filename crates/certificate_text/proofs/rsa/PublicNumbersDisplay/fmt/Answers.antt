use Rattle.std.proofs.Common.{codes}
use Rattle.std.proofs.Output.{has_written_of_eq}
use Rattle.der_print.specs.declared.style.Limit.TheVariants.{Whole}
use Rattle.der_print.specs.Values.{number_text}
use Rattle.certificate_text.specs.RsaKeys.{size_text}
use Rattle.type_words.proofs.TextLaws.{six}
use Rattle.certificate_text.proofs.rsa.PublicNumbersDisplay.fmt.Goals as goal

pub returns-clause-writes : goal.returns-clause-writes
returns-clause-writes g c =
    let n = c.args.self.now.modulus.now in
    let e = c.args.self.now.exponent.now in
    λ plain ok. has_written_of_eq _ _ _ _ _ (six (size_text n) (codes "  Modulus: ") (number_text Whole n) (codes "\n  Public exponent: ") (number_text Whole e) (codes "\n")) (c.write.ensures.writes plain ok)
