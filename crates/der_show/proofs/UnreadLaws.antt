-- Which of three errors comes first.
use Rattle.std.proofs.Common.{◌≡◌, ℕ, ◌<◌, ◌≤◌, ◌⊎◌, Bool, true, false, if◌then◌else◌, nat_le, List, Some, refl, inl, inr, arith}
use Rattle.std.proofs.lemmas.Bool.Decides.{nat_tests}
use Rattle.x509.specs.declared.crl.error.CertificateListError.{CertificateListError}
use Rattle.x509.specs.Crl.Lists.{field_fault as list_fault, whole_list}
use Rattle.x509_keys.specs.declared.request.error.CertificationRequestError.{CertificationRequestError}
use Rattle.x509_keys.specs.Request.Requests.{field_fault as request_fault, whole_request}
use Rattle.x509.specs.declared.error.CertificateError.{CertificateError}
use Rattle.x509.specs.Certificates.{whole_certificate}
use Rattle.x509.specs.Readers.{field_fault as certificate_fault}
use Rattle.der_show.specs.declared.refused.Refused.{Refused}
use Rattle.der_show.specs.declared.refused.Refused.TheVariants.{Certificate, CertificateList, CertificationRequest}
use Rattle.der_show.specs.Refused.{ComesFirst, Refuses, further, offset_of, order_of}
use Rattle.der_show.specs.Unread.{IsFurthest, IsWhyNo, IsWhyNoCertificate, IsWhyNoList, IsWhyNoRequest}

-- what comes after the first of two comes after the further one
old_first : (e f x : Refused) (b : Bool) → nat_le (offset_of f) (offset_of e) ≡ b → ComesFirst e x → ComesFirst (if b then e else f) x
old_first e f x true is h = h
old_first e f x false is (inl h) = inl (grind (arith, nat_tests, is, h))
old_first e f x false is (inr h) = inl (grind (arith, nat_tests, is, h.0))

pub keeps_first : (e f x : Refused) → ComesFirst e x → ComesFirst (further e f) x
keeps_first e f x h = old_first e f x _ refl h

-- and so does what has the offset of the second, whose format is no earlier one
new_first : (e f x : Refused) (b : Bool) → nat_le (offset_of f) (offset_of e) ≡ b → order_of e ≤ order_of f → order_of x ≡ order_of f → offset_of x ≡ offset_of f → ComesFirst (if b then e else f) x
new_first e f x true is up k o = below (offset_of x) (offset_of e) (grind (arith, nat_tests, is, o)) (grind (arith, up, k))
  where
    below : (m n : ℕ) → m ≤ n → order_of e ≤ order_of x → (m < n) ⊎ ((m ≡ n) × (order_of e ≤ order_of x))
    below m n le q = grind (arith, le, q)
new_first e f x false is up k o = inr (o, grind (arith, k))

pub takes_first : (e f x : Refused) → order_of e ≤ order_of f → order_of x ≡ order_of f → offset_of x ≡ offset_of f → ComesFirst (further e f) x
takes_first e f x up k o = new_first e f x _ refl up k o

one_of_both : (P : Refused → Type 0) (e f : Refused) (b : Bool) → P e → P f → P (if b then e else f)
one_of_both P e f true p q = p
one_of_both P e f false p q = q

last_order : (e : Refused) → order_of e ≤ 2
last_order (Certificate e) = omega arith
last_order (CertificateList e) = omega arith
last_order (CertificationRequest e) = omega arith

module _ (i : List ℕ) (a : CertificateError) (b : CertificateListError) (c : CertificationRequestError)
    (p : IsWhyNo certificate_fault (λ y. y.refusal.offset) whole_certificate i a)
    (q : IsWhyNo list_fault (λ y. y.refusal.offset) whole_list i b)
    (r : IsWhyNo request_fault (λ y. y.refusal.offset) whole_request i c) where
  abbrev pub of_two : Refused
  of_two = further (Certificate a) (CertificateList b)

  comes_first : (x : Refused) → Refuses i x → ComesFirst (further of_two (CertificationRequest c)) x
  comes_first (Certificate x) h =
      let same : order_of (Certificate a) ≤ order_of (Certificate x) = omega arith in
      keeps_first of_two (CertificationRequest c) (Certificate x) (keeps_first (Certificate a) (CertificateList b) (Certificate x) (inr (p.only x h, same)))
  comes_first (CertificateList x) h =
      let up : order_of (Certificate a) ≤ order_of (CertificateList b) = omega arith in
      keeps_first of_two (CertificationRequest c) (CertificateList x) (takes_first (Certificate a) (CertificateList b) (CertificateList x) up refl (q.only x h))
  comes_first (CertificationRequest x) h = takes_first of_two (CertificationRequest c) (CertificationRequest x) (last_order of_two) refl (r.only x h)

  pub furthest : IsFurthest i (further of_two (CertificationRequest c))
  furthest = record {
    none = inr (p.none, inr (q.none, inr (r.none, refl)));
    refused = one_of_both (Refuses i) of_two (CertificationRequest c) _ (one_of_both (Refuses i) (Certificate a) (CertificateList b) _ p.refused q.refused) r.refused;
    first = comes_first;
  }

-- the furthest of three
pub furthest_of : (i : List ℕ) (a b c e f : Refused) → IsWhyNoCertificate i (Some a) → IsWhyNoList i (Some b) → IsWhyNoRequest i (Some c) → e ≡ further a b → f ≡ further e c → IsFurthest i f
furthest_of i a b c e f p q r s t = rw (t, s, p.1, q.1, r.1) (furthest i p.0 q.0 r.0 p.2 q.2 r.2)
