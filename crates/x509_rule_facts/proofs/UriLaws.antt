-- Octets that texts begin with, and host names with a final dot.
use Rattle.std.proofs.Common.{◌≡◌, ◌≢◌, ℕ, Bool, true, false, IsTrue, List, [], ◌∷◌, ◌++◌, sym, ap, subst, ◌∙◌}
use mathlib.Core.Bool.{not}
use Rattle.std.specs.Prelude.{◌↔◌}
use Rattle.std.specs.List.{IsLastAndRest}
use Rattle.std.proofs.lemmas.Bool.{false≢true}
use Rattle.std.proofs.lemmas.List.{same_from_push}
use Rattle.x509_rule_facts.specs.HostNames.{is_host_name}
use Rattle.x509_rule_facts.specs.Uris.{IsRootedName}
use Rattle.x509_rule_facts.proofs.MailboxLaws.{no_last}

pub rooted_ends : {w : List ℕ} (name : List ℕ) {last : ℕ} {r : Bool} → IsLastAndRest w last name
    → IsTrue r ↔ ((last ≡ 46) × IsTrue (is_host_name name)) → IsTrue r ↔ IsRootedName w
rooted_ends name {last = last} e t = (
  λ h. let q = t.0 h in (name, e.0 ∙ ap (λ z. name ++ z ∷ []) q.0, q.1),
  λ s. let q = same_from_push name s.0 last 46 (sym e.0 ∙ s.1) in
      t.1 (q.1, subst (λ z. IsTrue (is_host_name z)) (sym q.0) s.2),
)

pub no_root : {w : List ℕ} → w ≡ [] → IsTrue false ↔ IsRootedName w
no_root e = (λ h. absurd (false≢true h), λ s. absurd (no_last s.0 46 (sym e ∙ s.1)))

same_rest : (a : ℕ) (x y : List ℕ) → a ∷ x ≡ a ∷ y → x ≡ y
same_rest a x y e = cc

module _ (P : List ℕ → Type 0) (a : ℕ) {w : List ℕ} where
  -- what follows one octet, if that is first
  pub begins : {x : List ℕ} {r : Bool} → w ≡ a ∷ x → IsTrue r ↔ P x → IsTrue r ↔ ((y : List ℕ) × (w ≡ a ∷ y) × P y)
  begins {x = x} e t = (λ h. (x, e, t.0 h), λ s. t.1 (subst P (same_rest a s.0 x (sym s.1 ∙ e)) s.2))

  pub begins_not : ((x : List ℕ) → w ≢ a ∷ x) → IsTrue false ↔ ((y : List ℕ) × (w ≡ a ∷ y) × P y)
  begins_not n = (λ h. absurd (false≢true h), λ s. absurd (n s.0 s.1))

  -- and two
  pub begins_twice : {x : List ℕ} {r : Bool} → w ≡ a ∷ a ∷ x → IsTrue r ↔ P x → IsTrue r ↔ ((y : List ℕ) × (w ≡ a ∷ a ∷ y) × P y)
  begins_twice {x = x} e t = (λ h. (x, e, t.0 h), λ s. t.1 (subst P (same_rest a s.0 x (same_rest a (a ∷ s.0) (a ∷ x) (sym s.1 ∙ e))) s.2))

  pub begins_twice_not : ((x : List ℕ) → w ≢ a ∷ a ∷ x) → IsTrue false ↔ ((y : List ℕ) × (w ≡ a ∷ a ∷ y) × P y)
  begins_twice_not n = (λ h. absurd (false≢true h), λ s. absurd (n s.0 s.1))

-- the same octets are none of P, where a test says that they are none
pub is_none : (P : List ℕ → Type 0) {x w : List ℕ} {r : Bool} → x ≡ w → IsTrue r ↔ P x → IsTrue (not r) ↔ (P w → ⊥)
is_none P {r = true} e t = (λ h q. absurd (false≢true h), λ n. absurd (n (subst P e (t.0 cc))))
is_none P {r = false} e t = (λ h q. absurd (false≢true (t.1 (subst P (sym e) q))), λ n. cc)
