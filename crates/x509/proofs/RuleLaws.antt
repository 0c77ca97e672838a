-- A certificate is strict or not in one way.
use Rattle.std.proofs.Common.{◌≡◌, ℕ, false, IsTrue, List, [], ◌∷◌, Result, Ok, Err, ap, sym, subst, ◌∙◌, inl, inr}
use Rattle.std.specs.Prelude.{◌↔◌, MatchResult}
use Rattle.std.proofs.lemmas.Bool.{false≢true}
use Rattle.x509.specs.declared.certificate.Certificate.{Certificate}
use Rattle.x509.specs.declared.rules.Rule.{Rule}
use Rattle.x509.specs.declared.rules.StrictError.{StrictError}
use Rattle.x509.specs.Certificates.{Signed, certificate_of, whole_certificate}
use Rattle.x509.specs.Formats.{spells, start}
use Rattle.x509.specs.Rules.{IsFirstBroken, IsFirstWrong, IsStrict, NoneBroken, ReadsStrictly, StrictFault, broken, every_rule, not_read, strict_fault}
use Rattle.x509.proofs.CertificateLaws.{whole_exact}
use Rattle.x509.proofs.FormatLaws.{shows_one}

-- a test that isn't true
pub passed : {P : Type 0} → IsTrue false ↔ P → ¬ P
passed e h = false≢true (e.1 h)

-- none is broken, or one is the first
not_broken : (rs : List Rule) (c : Signed) (r : Rule) → NoneBroken rs c → IsFirstBroken rs c r → ⊥
not_broken [] c r n h = h
not_broken (q ∷ qs) c r n (inl h) = n.0 h.0
not_broken (q ∷ qs) c r n (inr h) = not_broken qs c r n.1 h.1

one_first : (rs : List Rule) (c : Signed) (r s : Rule) → IsFirstBroken rs c r → IsFirstBroken rs c s → r ≡ s
one_first [] c r s g h = absurd g
one_first (q ∷ qs) c r s (inl g) (inl h) = g.1 ∙ sym h.1
one_first (q ∷ qs) c r s (inl g) (inr h) = absurd (h.0 g.0)
one_first (q ∷ qs) c r s (inr g) (inl h) = absurd (g.0 h.0)
one_first (q ∷ qs) c r s (inr g) (inr h) = one_first qs c r s g.1 h.1

one : (i : List ℕ) (c d : Signed) → spells whole_certificate i c [] → spells whole_certificate i d [] → c ≡ d
one i c d s t = ((shows_one whole_certificate whole_exact).one_value i c d [] [] s t).0

not_wrong : (i : List ℕ) (c : Signed) (e : StrictFault) → IsStrict i c → IsFirstWrong i e → ⊥
not_wrong i c (not_read e) s w = (shows_one whole_certificate whole_exact).not_both (start i) c [] e s.0 w
not_wrong i c (broken r) s (d, t, b) = not_broken every_rule c r s.1 (subst (λ x. IsFirstBroken every_rule x r) (one i d c t s.0) b)

one_wrong : (i : List ℕ) (e f : StrictFault) → IsFirstWrong i e → IsFirstWrong i f → e ≡ f
one_wrong i (not_read e) (not_read f) g h = ap not_read ((shows_one whole_certificate whole_exact).one_fault (start i) e f g h)
one_wrong i (not_read e) (broken r) g (c, s, b) = absurd ((shows_one whole_certificate whole_exact).not_both (start i) c [] e s g)
one_wrong i (broken r) (not_read f) (c, s, b) h = absurd ((shows_one whole_certificate whole_exact).not_both (start i) c [] f s h)
one_wrong i (broken r) (broken s) (c, t, b) (d, u, a) = ap broken (one_first every_rule d r s (subst (λ x. IsFirstBroken every_rule x r) (one i c d t u) b) a)

abbrev Found : List ℕ → Result Certificate StrictError → Type 0
Found i result = MatchResult result (λ c. IsStrict i (certificate_of c)) (λ e. IsFirstWrong i (strict_fault e))

only : (i : List ℕ) (result : Result Certificate StrictError) → Found i result → (c : Signed) → IsStrict i c → MatchResult result (λ x. certificate_of x ≡ c) (λ e. ⊥)
only i (Ok x) f c s = one i (certificate_of x) c f.0 s.0
only i (Err e) f c s = not_wrong i c (strict_fault e) s f

refused : (i : List ℕ) (result : Result Certificate StrictError) → Found i result → (e : StrictFault) → IsFirstWrong i e → MatchResult result (λ x. ⊥) (λ x. strict_fault x ≡ e)
refused i (Ok x) f e w = not_wrong i (certificate_of x) e f w
refused i (Err x) f e w = one_wrong i (strict_fault x) e f w

-- what is found is all there is
pub reads_strictly : (i : List ℕ) (result : Result Certificate StrictError) → MatchResult result (λ c. IsStrict i (certificate_of c)) (λ e. IsFirstWrong i (strict_fault e))
    → ReadsStrictly i result
reads_strictly i result f = record { found = f; only = only i result f; refuses = refused i result f }
