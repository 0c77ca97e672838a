-- Mailboxes: the literal of an address, and quoted strings.
use Rattle.std.proofs.Common.{◌≡◌, ◌≢◌, ℕ, Bool, false, IsTrue, List, [], ◌∷◌, ◌++◌, ◌<◌, length, arith, refl, sym, ap}
use Rattle.std.proofs.Common.{subst, ◌∙◌, inl, inr}
use Rattle.std.specs.Prelude.{◌↔◌}
use Rattle.std.specs.List.{IsLastAndRest, after_first, before_first, list_all, position_or_len}
use Rattle.std.proofs.lemmas.Bool.{false≢true}
use Rattle.std.proofs.lemmas.List.{same_from_push}
use Rattle.x509_rule_facts.specs.declared.mailbox.LocalCharacters.{LocalCharacters}
use Rattle.x509_rule_facts.specs.declared.mailbox.LocalCharacters.TheVariants.{Ascii, Utf8}
use Rattle.x509_rule_facts.specs.Mailboxes.{Closes, IsLiteralContent, IsDomain, IsPlainMailbox, IsQuoted}
use Rattle.x509_rule_facts.specs.Mailboxes.{QuotedFollows, closed, quoted, is_at, is_dot_string, is_literal_character}
use Rattle.x509_rule_facts.specs.Mailboxes.{is_qtext}

pub literal_ends : {w inside : List ℕ} {last : ℕ} {r : Bool} → IsLastAndRest w last inside
    → IsTrue r ↔ ((last ≡ 93) × (inside ≢ []) × IsTrue (list_all is_literal_character inside)) → IsTrue r ↔ IsLiteralContent w
literal_ends {inside = inside} {last = last} e t = (
  λ h. let q = t.0 h in (inside, e.0 ∙ ap (λ z. inside ++ z ∷ []) q.0, q.1, q.2),
  λ s. let q = same_from_push inside s.0 last 93 (sym e.0 ∙ s.1) in
      t.1 (q.1, (λ z. s.2 (sym q.0 ∙ z)), subst (λ z. IsTrue (list_all is_literal_character z)) (sym q.0) s.3),
)

pub no_last : (inside : List ℕ) (last : ℕ) → [] ≡ inside ++ last ∷ [] → ⊥
no_last [] last e = let q : ⊥ = cc in q
no_last (x ∷ xs) last e = let q : ⊥ = cc in q

pub no_literal : {w : List ℕ} → w ≡ [] → IsTrue false ↔ IsLiteralContent w
no_literal e = (λ h. absurd (false≢true h), λ s. absurd (no_last s.0 93 (sym e ∙ s.1)))

-- what "@" is between
pub at_sign : (s : LocalCharacters) (w : List ℕ) {local domain : List ℕ} {r : Bool}
    → (position_or_len is_at w < length w) × (local ≡ before_first is_at w) × (domain ≡ after_first is_at w)
    → IsTrue r ↔ (IsTrue (is_dot_string s local) × IsDomain domain) → IsTrue r ↔ IsPlainMailbox s w
at_sign s w e t = (
  λ h. let q = t.0 h in (e.0, subst (λ z. IsTrue (is_dot_string s z)) e.1 q.0, subst IsDomain e.2 q.1),
  λ m. t.1 (subst (λ z. IsTrue (is_dot_string s z)) (sym e.1) m.1, subst IsDomain (sym e.2) m.2),
)

pub no_sign : (s : LocalCharacters) (w : List ℕ) → position_or_len is_at w ≡ length w → IsTrue false ↔ IsPlainMailbox s w
no_sign s w e = (λ h. absurd (false≢true h), λ m. absurd (omega (arith, e, m.0)))

-- where the texts say the same
pub record Follows (s : LocalCharacters) (left all : List ℕ) : Type 0 where
  pub back : QuotedFollows s left → QuotedFollows s all
  pub only : QuotedFollows s all → QuotedFollows s left

pub follows_start : {s : LocalCharacters} {left all : List ℕ} → left ≡ all → Follows s left all
follows_start {s = s} e = record { back = subst (QuotedFollows s) e; only = subst (QuotedFollows s) (sym e) }

-- no quoted string has '"' or "\" as it is
no_mark : (s : LocalCharacters) → is_qtext s 34 ≡ false
no_mark Ascii = refl
no_mark Utf8 = refl

no_backslash : (s : LocalCharacters) → is_qtext s 92 ≡ false
no_backslash Ascii = refl
no_backslash Utf8 = refl

never : (s : LocalCharacters) (b c : ℕ) → b ≡ c → is_qtext s c ≡ false → IsTrue (is_qtext s b) → ⊥
never s b c e n t = false≢true (sym n ∙ ap (is_qtext s) (sym e) ∙ t)

same_first : (b c : ℕ) (v w : List ℕ) → b ∷ v ≡ c ∷ w → b ≡ c
same_first b c v w e = cc

-- what begins with such a character doesn't close the string
not_closed : (s : LocalCharacters) {w rest : List ℕ} → IsQuoted s w rest → Closes w → ⊥
not_closed s (inl (b, e, t)) (domain, f, d) = never s b 34 (same_first b 34 _ _ (sym e ∙ f)) (no_mark s) t
not_closed s (inr (b, e, t)) (domain, f, d) = absurd (omega (arith, same_first 92 34 _ _ (sym e ∙ f)))

-- and one rest follows it
same_rest : (s : LocalCharacters) {w rest other : List ℕ} → IsQuoted s w rest → IsQuoted s w other → other ≡ rest
same_rest s (inl (b, e, t)) (inl (c, f, u)) = cc
same_rest s (inl (b, e, t)) (inr (c, f, u)) = let q : b ≡ 92 = cc in absurd (never s b 92 q (no_backslash s) t)
same_rest s (inr (b, e, t)) (inl (c, f, u)) = let q : c ≡ 92 = cc in absurd (never s c 92 q (no_backslash s) u)
same_rest s (inr (b, e, t)) (inr (c, f, u)) = cc

behind : (s : LocalCharacters) {w rest : List ℕ} → IsQuoted s w rest → QuotedFollows s w → QuotedFollows s rest
behind s q (closed c) = absurd (not_closed s q c)
behind s q (quoted other p f) = subst (QuotedFollows s) (same_rest s q p) f

pub passed : {s : LocalCharacters} {left all rest : List ℕ} → IsQuoted s left rest → Follows s left all → Follows s rest all
passed {s = s} {rest = rest} q f = record { back = λ h. f.back (quoted rest q h); only = λ h. behind s q (f.only h) }

ends : (s : LocalCharacters) {w : List ℕ} → ((rest : List ℕ) → ¬ IsQuoted s w rest) → QuotedFollows s w → Closes w
ends s n (closed c) = c
ends s n (quoted rest q f) = absurd (n rest q)

pub stopped : {s : LocalCharacters} {left all : List ℕ} {r : Bool} → ((rest : List ℕ) → ¬ IsQuoted s left rest)
    → Follows s left all → IsTrue r ↔ Closes left → IsTrue r ↔ QuotedFollows s all
stopped {s = s} n f t = (λ h. f.back (closed (t.0 h)), λ h. t.1 (ends s n (f.only h)))
