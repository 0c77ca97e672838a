-- The syntax of host names (RFC 1034 3.1, 3.5 and RFC 1123 2.1, for RFC 5280 4.2.1.6).
use Rattle.std.specs.Prelude.{◌≡◌, ℕ, ◌-◌, ◌⊎◌, ◌||◌, ◌&&◌, ◌==◌, nat_le, Bool, false, IsTrue, Option, Some, None}
use Rattle.std.specs.Prelude.{List, [], ◌∷◌, length, slice_get}
use Rattle.std.specs.Char.{is_ascii_alphanumeric}
use Rattle.std.specs.List.{list_all, slice_split}

-- <let-dig>
abbrev pub is_let_dig : Option ℕ → Bool
is_let_dig None = false
is_let_dig (Some b) = is_ascii_alphanumeric b

-- <let-dig-hyp> ::= <let-dig> | "-"
abbrev pub is_label_character : ℕ → Bool
is_label_character b = is_ascii_alphanumeric b || (b == 45)

-- <label> ::= <let-dig> [ [ <ldh-str> ] <let-dig> ], "Labels must be 63 characters or less"
-- By RFC 1123 2.1 the first character may be a digit, too.
abbrev pub is_label : List ℕ → Bool
is_label w = nat_le (length w) 63 && list_all is_label_character w && is_let_dig (slice_get w 0)
    && is_let_dig (slice_get w (length w - 1))

-- "the total number of octets that represent a domain name (i.e., the sum of all label octets and label lengths) is
-- limited to 255" (RFC 1034 3.1): the length of the first label and that of the root stand in no character
abbrev pub is_name_size : List ℕ → Bool
is_name_size w = nat_le (length w) 253

-- <subdomain> ::= <label> | <subdomain> "." <label>
abbrev pub is_host_name : List ℕ → Bool
is_host_name w = is_name_size w && list_all is_label (slice_split (λ b. b == 46) w)

-- "*." and a host name: a name that stands for a set of names, which an application may give a meaning (4.2.1.6)
abbrev pub IsWildcardName : List ℕ → Type 0
IsWildcardName w = (name : List ℕ) × (w ≡ 42 ∷ 46 ∷ name) × IsTrue (is_host_name name)

-- <domain> ::= <subdomain> | " ", or a name that stands for a set
abbrev pub IsPreferredName : List ℕ → Type 0
IsPreferredName w = (w ≡ 32 ∷ []) ⊎ IsTrue (is_host_name w) ⊎ (IsTrue (is_name_size w) × IsWildcardName w)
