-- Octets that are one of a certificate, a list and a request are none of the three no more.
use Rattle.std.proofs.Common.{List, ℕ, Some, None, inl, inr}
use Rattle.x509.specs.Crl.Lists.{certificate_list_of, whole_list}
use Rattle.x509_keys.specs.Request.Requests.{request_of, whole_request}
use Rattle.x509.specs.Certificates.{certificate_of, whole_certificate}
use Rattle.der_show.specs.declared.known.Known.{Known}
use Rattle.der_show.specs.Known.{IsKnown, IsKnownList, IsKnownRequest, IsNo}

no_request : (w : List ℕ) → IsKnownRequest w None → IsNo whole_request w
no_request w (inl h) = let e = h.2 in absurd (cc)
no_request w (inr h) = h.0

no_list : (w : List ℕ) → IsKnownList w None → IsNo whole_list w × IsKnownRequest w None
no_list w (inl h) = let e = h.2 in absurd (cc)
no_list w (inr h) = (h.0, h.1)

no_certificate : (w : List ℕ) → IsKnown w None → IsNo whole_certificate w × IsKnownList w None
no_certificate w (inl h) = let e = h.2 in absurd (cc)
no_certificate w (inr h) = (h.0, h.1)

request_known : (w : List ℕ) (known : Known) → IsKnownRequest w (Some known) → IsNo whole_request w → ⊥
request_known w known (inl h) none = none (request_of h.0) h.1
request_known w known (inr h) none = let e = h.1 in absurd (cc)

list_known : (w : List ℕ) (known : Known) → IsKnownList w (Some known) → IsKnownList w None → ⊥
list_known w known (inl h) none = (no_list w none).0 (certificate_list_of h.0) h.1
list_known w known (inr h) none = request_known w known h.1 (no_request w (no_list w none).1)

pub not_known : (w : List ℕ) (known : Known) → IsKnown w (Some known) → IsKnown w None → ⊥
not_known w known (inl h) none = (no_certificate w none).0 (certificate_of h.0) h.1
not_known w known (inr h) none = list_known w known h.1 (no_certificate w none).1
