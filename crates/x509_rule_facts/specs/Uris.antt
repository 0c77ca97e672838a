-- The syntax of identifiers of resources: the host (RFC 3986 3.2, for RFC 5280 4.2.1.6), and the entry that one of LDAP
-- names (RFC 4516 2, for 4.2.1.13, 4.2.2.1 and 4.2.2.2).
use Rattle.std.specs.Prelude.{◌≡◌, ◌≢◌, ℕ, ◌⊎◌, ◌||◌, ◌==◌, Bool, IsTrue, if◌then◌else◌, List, [], ◌∷◌, ◌++◌, codes}
use Rattle.std.specs.Prelude.{map}
use Rattle.std.specs.Char.{is_ascii_digit, to_ascii_lowercase}
use Rattle.std.specs.List.{after_first, before_first, list_all, list_any}
use Rattle.x509_rule_facts.specs.HostNames.{is_host_name}
use Rattle.x509_rule_facts.specs.Mailboxes.{is_at, is_literal_character}

abbrev pub is_colon : ℕ → Bool
is_colon b = b == 58

abbrev pub is_slash : ℕ → Bool
is_slash b = b == 47

abbrev pub is_question : ℕ → Bool
is_question b = b == 63

abbrev pub is_comma : ℕ → Bool
is_comma b = b == 44

abbrev pub is_bracket : ℕ → Bool
is_bracket b = b == 93

-- "The authority component is preceded by a double slash ("//") and is terminated by the next slash ("/"), question
-- mark ("?"), or number sign ("#") character, or by the end of the URI."
abbrev pub ends_authority : ℕ → Bool
ends_authority b = (b == 47) || (b == 63) || (b == 35)

-- "The rightmost domain label of a fully qualified domain name in DNS may be followed by a single "."" (3.2.2)
abbrev pub IsRootedName : List ℕ → Type 0
IsRootedName w = (name : List ℕ) × (w ≡ name ++ 46 ∷ []) × IsTrue (is_host_name name)

-- a host that has a name, [ ":" port ], where port = *DIGIT; an IPv4address is such a name, too
abbrev pub IsNameAndPort : List ℕ → Type 0
IsNameAndPort w = let name = before_first is_colon w in
    (IsTrue (is_host_name name) ⊎ IsRootedName name) × IsTrue (list_all is_ascii_digit (after_first is_colon w))

-- [ ":" port ]
abbrev pub IsPort : List ℕ → Type 0
IsPort w = (w ≡ []) ⊎ ((port : List ℕ) × (w ≡ 58 ∷ port) × IsTrue (list_all is_ascii_digit port))

-- IP-literal = "[" ( IPv6address / IPvFuture  ) "]", of which the characters alone are asked, [ ":" port ]
abbrev pub ClosesLiteral : List ℕ → Type 0
ClosesLiteral w = let inside = before_first is_bracket w in
    IsTrue (list_any is_bracket w) × (inside ≢ []) × IsTrue (list_all is_literal_character inside)
    × IsPort (after_first is_bracket w)

abbrev pub IsLiteralAndPort : List ℕ → Type 0
IsLiteralAndPort w = (rest : List ℕ) × (w ≡ 91 ∷ rest) × ClosesLiteral rest

-- authority = [ userinfo "@" ] host [ ":" port ]
abbrev pub without_user : List ℕ → List ℕ
without_user w = if list_any is_at w then after_first is_at w else w

abbrev pub IsHostAndPort : List ℕ → Type 0
IsHostAndPort w = IsLiteralAndPort w ⊎ IsNameAndPort w

-- behind the scheme is an authority, and its host is neither a name nor an address
abbrev pub IsHostless : List ℕ → Type 0
IsHostless w = ¬ IsHostAndPort (without_user (before_first ends_authority w))

abbrev pub HasNoHost : List ℕ → Type 0
HasNoHost w = (rest : List ℕ) × (after_first is_colon w ≡ 47 ∷ 47 ∷ rest) × IsHostless rest

-- the scheme is "ldap", in letters of any case (RFC 3986 3.1)
abbrev pub IsLdap : List ℕ → Type 0
IsLdap w = IsTrue (list_any is_colon w) × (map to_ascii_lowercase (before_first is_colon w) ≡ codes "ldap")

-- ldapurl = scheme COLON SLASH SLASH [host [COLON port]] [SLASH dn [QUESTION [attributes] ..]]
abbrev pub dn_of : List ℕ → List ℕ
dn_of w = before_first is_question (after_first is_slash w)

abbrev pub attributes_of : List ℕ → List ℕ
attributes_of w = before_first is_question (after_first is_question (after_first is_slash w))

-- there are a dn and attributes
abbrev pub IsEntry : List ℕ → Type 0
IsEntry w = (dn_of w ≢ []) × (attributes_of w ≢ [])

abbrev pub NamesEntry : List ℕ → Type 0
NamesEntry w = (rest : List ℕ) × (after_first is_colon w ≡ 47 ∷ 47 ∷ rest) × IsEntry rest

-- attributes = attrdesc *("," attrdesc), of which there are several
abbrev pub NamesSeveralAttributes : List ℕ → Type 0
NamesSeveralAttributes w = (rest : List ℕ) × (after_first is_colon w ≡ 47 ∷ 47 ∷ rest)
    × IsTrue (list_any is_comma (attributes_of rest))
