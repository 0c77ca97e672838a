-- Of a certificate all fields are read.
use Rattle.std.proofs.Common.{◌≡◌, ◌++◌, ℕ, List, [], Some, length, true, refl, sym, ap, subst, ◌∙◌, inl, inr, arith, append-nil, append_assoc}
use Rattle.std.proofs.lemmas.List.{take_at}
use Rattle.der_base.specs.declared.header.Class.{Class}
use Rattle.der_base.specs.declared.header.Class.TheVariants.{ContextSpecific, Universal}
use Rattle.der_base.specs.declared.rules.Rules.TheVariants.{Der}
use Rattle.der_base.specs.Octets.{identifier, shortest_length}
use Rattle.der_cursor.specs.Elements.{BeginsWithTag, SpellsElement}
use Rattle.x509.specs.Certificates.{Tbs, extension, extensions, extensions_to_end, tbs_certificate}
use Rattle.x509.specs.Formats.{Items, each, explicit_or, spells}
use Rattle.x509.specs.Lists.{BeginsWithNone}
use Rattle.x509.proofs.ReaderLaws.{element_less}
use Rattle.x509.specs.Partial.Laws.{CertificatesHaveAll, all_of}
use Rattle.x509.specs.Partial.Openings.{AreFirst, Opens}
use Rattle.x509.specs.Partial.Partials.{AreFields, AreFirstExtensions, IsPartial, OpensExtensions}

-- what is spelled is opened
spelled_opens : (c : Class) (t : ℕ) (i w rest : List ℕ) → SpellsElement Der c true t i (w, rest) → Opens c t i w
spelled_opens c t i w rest s = (length w, w ++ rest, s, sym (take_at w rest (length w) refl))

no_extension : BeginsWithNone extension []
no_extension v rest s = omega (arith, element_less Der Universal true 16 [] (s.0, s.1) s.2)

all_are_first : (w rest : List ℕ) → spells extensions_to_end w tt rest → AreFirst extension w w
all_are_first w rest (u, m, (n, e), (s, z)) =
    ([], sym (append-nil w), subst (λ x. Items (λ y. spells (each extension y)) tt x tt []) e (subst (λ x. Items (λ y. spells (each extension y)) tt m tt x) z s), no_extension)

-- no tag, no extensions
not_opened : (i : List ℕ) → ¬ BeginsWithTag 3 i → (w : List ℕ) → ¬ OpensExtensions i w
not_opened i absent w (x, (n, rest, b, e), o) = absent (shortest_length n ++ rest, b.octets ∙ append_assoc (identifier ContextSpecific true 3) (shortest_length n) rest)

extensions_are : (i w rest : List ℕ) → spells (explicit_or [] 3 extensions) i w rest → AreFirstExtensions (Some i) w
extensions_are i w rest (inl (b, (x, m, s, ((r, (v, a, (l, d, q, (g, h, ((f, y), j), (k, o))), (u, t, z, (p, n)))), c)))) =
    let e : w ≡ l = p ∙ k in
    inl (l, (x, spelled_opens ContextSpecific 3 i x m s, spelled_opens Universal 16 x l d q), subst (λ z. AreFirst extension l z) (sym e) (all_are_first l f y))
extensions_are i w rest (inr (n, (e, q))) = inr (not_opened i n, e)

-- the fields of a tbsCertificate
fields_are : (i : List ℕ) (t : Tbs) (rest : List ℕ) → spells tbs_certificate i t rest → (w : List ℕ) × Opens Universal 16 i w × AreFields (Some w) (all_of t)
fields_are i t rest (w, m, s, ((r, (v1, r1, s1, (v2, r2, s2, (v3, r3, s3, (v4, r4, s4, (v5, r5, s5, (v6, r6, s6, (v7, r7, s7, (v8, r8, s8, (v9, r9, s9, (v10, r10, s10, (u, n, z, (e, q))))))))))))), k)) = (
  w,
  spelled_opens Universal 16 i w m s,
  subst (λ x. AreFields (Some w) (all_of x)) (sym e) (record {
    after_version = Some r1;
    after_serial_number = Some r2;
    after_signature = Some r3;
    after_issuer = Some r4;
    after_validity = Some r5;
    after_subject = Some r6;
    after_key_info = Some r7;
    after_issuer_id = Some r8;
    after_subject_id = Some r9;
    is_version = (r1, refl, s1);
    is_serial_number = (r2, refl, s2);
    is_signature = (r3, refl, s3);
    is_issuer = (r4, refl, s4);
    is_validity = (r5, refl, s5);
    is_subject = (r6, refl, s6);
    is_key_info = (r7, refl, s7);
    is_issuer_id = (Some v8, (r8, refl, s8), refl);
    is_subject_id = (Some v9, (r9, refl, s9), refl);
    are_extensions = extensions_are r9 v10 r10 s10;
  }),
)

pub have_all : CertificatesHaveAll
have_all i c (v, m, (x, m1, s, ((r, (y, m2, (a, b), (al, m3, z, (sg, m4, w, (u, m5, f, (e, g)))))), h)), (u', m6, k, (d, q))) =
    let t = fields_are x y.1 m2 a in
    subst (λ x. IsPartial i (all_of x)) (sym (ap (λ x. x.tbs_certificate) (d ∙ e))) (Some t.0, (x, spelled_opens Universal 16 i x m1 s, t.1), t.2)
