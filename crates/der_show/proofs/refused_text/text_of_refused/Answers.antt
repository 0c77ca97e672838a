use Rattle.std.proofs.Common.{inl, inr, refl, rules}
use Rattle.std.proofs.lemmas.Result.{IfOk-weaker}
use Rattle.x509.specs.Partial.Partials.{partial_of}
use Rattle.der_show.proofs.refused_text.text_of_refused.Goals as goal

pub returns-then-not-is_of_certificate : goal.returns-then-not-is_of_certificate
returns-then-not-is_of_certificate c = inr ((λ h. let e = c.is_of_certificate.ensures.1 h in cc), refl)

pub returns : goal.returns
returns c =
    let known = c.is_of_certificate.ensures.0 (search rules) in
    IfOk-weaker _ _ _ (λ found h. inl (known, partial_of c.read_partial_certificate-partial.result, c.read_partial_certificate-partial.ensures.found, h)) c.text_of_certificate.ensures
