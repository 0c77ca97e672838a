-- What is signed, read again.
use Rattle.std.proofs.Common.{◌≡◌, ℕ, true, List, [], ◌++◌, refl, sym, ap, subst, ◌∙◌}
use Rattle.der_base.specs.declared.header.Class.TheVariants.{Universal}
use Rattle.x509.specs.Formats.{spells}
use Rattle.x509.proofs.SignedLaws.{element_alone}
use Rattle.x509_keys.specs.Request.Requests.{Info, SignedOctetsAreRead, request_info}

fields_alone : (i q : List ℕ) (t : Info) (rest : List ℕ) → spells request_info i t rest → i ≡ q ++ rest → spells request_info q t []
fields_alone i q t rest s e = (s.0, [], element_alone Universal true 16 i q s.0 s.1 s.2 (e ∙ ap (λ z. q ++ z) s.3.1), (s.3.0, refl))

pub signed_octets_are_read : SignedOctetsAreRead
signed_octets_are_read i c s =
    let b = s.2.3.0.1 in
    subst (λ z. spells request_info z.octets z.info []) (sym (s.3.3.0 ∙ b.3.3.3.3.0)) (fields_alone _ b.0.0 b.0.1 b.1 b.2.0 b.2.1)
