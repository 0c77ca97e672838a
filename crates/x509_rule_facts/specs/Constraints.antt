-- The forms that names have in constraints (RFC 5280 4.2.1.10).
use Rattle.std.specs.Prelude.{◌≡◌, ℕ, ◌/◌, ◌⊎◌, ◌==◌, not, Bool, IsTrue, List, [], ◌∷◌, drop, length}
use Rattle.std.specs.List.{list_all, list_any, position_or_len}
use Rattle.x509_rule_facts.specs.HostNames.{is_host_name}

-- ".example.com"
abbrev pub IsDomainPart : List ℕ → Type 0
IsDomainPart w = (name : List ℕ) × (w ≡ 46 ∷ name) × IsTrue (is_host_name name)

-- "The constraint MUST be specified as a fully qualified domain name and MAY specify a host or a domain."
abbrev pub IsHostOrDomain : List ℕ → Type 0
IsHostOrDomain w = IsTrue (is_host_name w) ⊎ IsDomainPart w

-- bits 1 and then bits 0, one at least
abbrev pub is_edge : ℕ → Bool
is_edge b = list_any (λ e. e == b) (0 ∷ 0x80 ∷ 0xC0 ∷ 0xE0 ∷ 0xF0 ∷ 0xF8 ∷ 0xFC ∷ 0xFE ∷ [])

abbrev pub behind_ones : List ℕ → List ℕ
behind_ones w = drop (position_or_len (λ b. not (b == 255)) w) w

abbrev pub EndsMask : List ℕ → Type 0
EndsMask [] = Unit {0}
EndsMask (b ∷ w) = IsTrue (is_edge b) × IsTrue (list_all (λ z. z == 0) w)

-- a mask of a prefix: bits 1 and then bits 0 (RFC 4632 3.1)
abbrev pub IsMask : List ℕ → Type 0
IsMask w = EndsMask (behind_ones w)

-- the second half of the octets of an address is one
abbrev pub EndsInMask : List ℕ → Type 0
EndsInMask w = IsMask (drop (length w / 2) w)
