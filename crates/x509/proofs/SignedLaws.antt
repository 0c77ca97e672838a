-- What is signed, read again.
use Rattle.std.proofs.Common.{◌≡◌, ℕ, Bool, true, List, [], ◌++◌, length, refl, sym, ap, subst, ◌∙◌, append_assoc, append-nil}
use Rattle.std.proofs.lemmas.List.{append_cancel_right}
use Rattle.der_base.specs.declared.header.Class.{Class}
use Rattle.der_base.specs.declared.header.Class.TheVariants.{Universal}
use Rattle.der_base.specs.declared.rules.Rules.TheVariants.{Der}
use Rattle.der_base.specs.Octets.{identifier, shortest_length}
use Rattle.der_cursor.specs.Elements.{SpellsElement}
use Rattle.x509.specs.Certificates.{Tbs, tbs_certificate}
use Rattle.x509.specs.Formats.{spells}
use Rattle.x509.specs.Laws.{SignedOctetsAreRead}

-- an element alone, without what follows it
pub element_alone : (c : Class) (p : Bool) (t : ℕ) (i q w rest : List ℕ) → SpellsElement Der c p t i (w, rest) → i ≡ q ++ rest → SpellsElement Der c p t q (w, [])
element_alone c p t i q w rest s e =
    let before = identifier c p t ++ shortest_length (length w) in
    let front = append_cancel_right q (before ++ w) rest (sym e ∙ s.octets ∙ sym (append_assoc before w rest)) in
    record { octets = front ∙ ap (λ z. before ++ z) (sym (append-nil w)); number = s.number; length = s.length }

fields_alone : (i q : List ℕ) (t : Tbs) (rest : List ℕ) → spells tbs_certificate i t rest → i ≡ q ++ rest → spells tbs_certificate q t []
fields_alone i q t rest s e = (s.0, [], element_alone Universal true 16 i q s.0 s.1 s.2 (e ∙ ap (λ z. q ++ z) s.3.1), (s.3.0, refl))

pub signed_octets_are_read : SignedOctetsAreRead
signed_octets_are_read i c s =
    let b = s.2.3.0.1 in
    subst (λ z. spells tbs_certificate z.tbs z.tbs_certificate []) (sym (s.3.3.0 ∙ b.3.3.3.3.0)) (fields_alone _ b.0.0 b.0.1 b.1 b.2.0 b.2.1)
