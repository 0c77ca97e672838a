-- The syntax of mailboxes (RFC 5321 4.1.2, for RFC 5280 4.2.1.6; RFC 6531 3.3, for RFC 9598 3).
use Rattle.std.specs.Prelude.{◌≡◌, ◌≢◌, ℕ, ◌<◌, ◌⊎◌, ◌||◌, ◌&&◌, ◌==◌, not, nat_lt, nat_le, Bool, false, IsTrue, List}
use Rattle.std.specs.Prelude.{[], ◌∷◌, ◌++◌, codes, length}
use Rattle.std.specs.Char.{is_ascii_alphanumeric}
use Rattle.std.specs.List.{after_first, before_first, list_all, list_any, position_or_len, slice_split}
use Rattle.x509_rule_facts.specs.declared.mailbox.LocalCharacters.{LocalCharacters}
use Rattle.x509_rule_facts.specs.declared.mailbox.LocalCharacters.TheVariants.{Ascii, Utf8}
use Rattle.x509_rule_facts.specs.HostNames.{is_host_name}

-- UTF8-non-ascii, where characters beyond ASCII are let in (RFC 6531 3.3)
abbrev pub is_beyond_ascii : LocalCharacters → ℕ → Bool
is_beyond_ascii Ascii b = false
is_beyond_ascii Utf8 b = nat_le 0x80 b

-- atext, of RFC 5322 3.2.3
abbrev pub is_atext : LocalCharacters → ℕ → Bool
is_atext s b = is_ascii_alphanumeric b || list_any (λ a. a == b) (codes "!#$%&'*+-/=?^_`{|}~") || is_beyond_ascii s b

-- Atom = 1*atext
abbrev pub is_atom : LocalCharacters → List ℕ → Bool
is_atom s w = nat_lt 0 (length w) && list_all (is_atext s) w

-- Dot-string = Atom *("." Atom)
abbrev pub is_dot_string : LocalCharacters → List ℕ → Bool
is_dot_string s w = list_all (is_atom s) (slice_split (λ b. b == 46) w)

-- %d32-126
abbrev pub is_printable : ℕ → Bool
is_printable b = nat_le 32 b && nat_le b 126

-- qtextSMTP = %d32-33 / %d35-91 / %d93-126
abbrev pub is_qtext : LocalCharacters → ℕ → Bool
is_qtext s b = (is_printable b && not (b == 34) && not (b == 92)) || is_beyond_ascii s b

-- dcontent = %d33-90 / %d94-126
abbrev pub is_literal_character : ℕ → Bool
is_literal_character b = (nat_le 33 b && nat_le b 90) || (nat_le 94 b && nat_le b 126)

-- address-literal = "[" .. "]", of which the characters alone are asked
abbrev pub IsLiteralContent : List ℕ → Type 0
IsLiteralContent w = (inside : List ℕ) × (w ≡ inside ++ 93 ∷ []) × (inside ≢ [])
    × IsTrue (list_all is_literal_character inside)

abbrev pub IsAddressLiteral : List ℕ → Type 0
IsAddressLiteral w = (rest : List ℕ) × (w ≡ 91 ∷ rest) × IsLiteralContent rest

-- Domain = sub-domain *("." sub-domain), or an address-literal
abbrev pub IsDomain : List ℕ → Type 0
IsDomain w = IsTrue (is_host_name w) ⊎ IsAddressLiteral w

abbrev pub is_at : ℕ → Bool
is_at b = b == 64

-- Dot-string "@" Domain; a Dot-string has no "@"
abbrev pub IsPlainMailbox : LocalCharacters → List ℕ → Type 0
IsPlainMailbox s w = (position_or_len is_at w < length w) × IsTrue (is_dot_string s (before_first is_at w))
    × IsDomain (after_first is_at w)

-- QcontentSMTP = qtextSMTP / quoted-pairSMTP, and what follows it; quoted-pairSMTP = %d92 %d32-126
abbrev pub IsQuoted : LocalCharacters → List ℕ → List ℕ → Type 0
IsQuoted s w rest = ((b : ℕ) × (w ≡ b ∷ rest) × IsTrue (is_qtext s b))
    ⊎ ((b : ℕ) × (w ≡ 92 ∷ b ∷ rest) × IsTrue (is_printable b))

-- DQUOTE "@" Domain
abbrev pub Closes : List ℕ → Type 0
Closes w = (domain : List ℕ) × (w ≡ 34 ∷ 64 ∷ domain) × IsDomain domain

-- *QcontentSMTP DQUOTE "@" Domain
pub data QuotedFollows (s : LocalCharacters) : List ℕ → Type 0 where
  closed : {w : List ℕ} → Closes w → QuotedFollows s w
  quoted : {w : List ℕ} (rest : List ℕ) → IsQuoted s w rest → QuotedFollows s rest → QuotedFollows s w

-- Quoted-string "@" Domain, where Quoted-string = DQUOTE *QcontentSMTP DQUOTE
abbrev pub IsQuotedMailbox : LocalCharacters → List ℕ → Type 0
IsQuotedMailbox s w = (rest : List ℕ) × (w ≡ 34 ∷ rest) × QuotedFollows s rest

-- Mailbox = Local-part "@" Domain, where Local-part = Dot-string / Quoted-string
abbrev pub IsMailbox : LocalCharacters → List ℕ → Type 0
IsMailbox s w = IsPlainMailbox s w ⊎ IsQuotedMailbox s w
