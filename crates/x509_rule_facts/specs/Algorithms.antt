-- The parameters of algorithms (RFC 3279, RFC 4055, RFC 5480, RFC 5758, RFC 8410).
use Rattle.std.specs.Prelude.{◌≡◌, ◌≢◌, ◌≤◌, ◌⊎◌, ◌++◌, ◌∷◌, ℕ, List, []}
use Rattle.x509.specs.Certificates.{Algorithm, Signed}
use Rattle.x509_rule_facts.specs.declared.algorithms.AlgorithmRule.{AlgorithmRule}
use Rattle.x509_rule_facts.specs.declared.algorithms.AlgorithmRule.TheVariants as rule

-- the content octets of an identifier that has one more arc than these, from low to high, below 128
abbrev pub IsBelow : List ℕ → ℕ → ℕ → List ℕ → Type 0
IsBelow arcs low high o = (n : ℕ) × (o ≡ arcs ++ n ∷ []) × (low ≤ n) × (n ≤ high)

-- pkcs-1 OBJECT IDENTIFIER ::= { iso(1) member-body(2) us(840) rsadsi(113549) pkcs(1) 1 }
abbrev pub pkcs_1 : List ℕ
pkcs_1 = 42 ∷ 134 ∷ 72 ∷ 134 ∷ 247 ∷ 13 ∷ 1 ∷ 1 ∷ []

-- ansi-X9-62 OBJECT IDENTIFIER ::= { iso(1) member-body(2) us(840) 10045 }, and arcs below it
abbrev pub ansi_x9_62 : List ℕ → List ℕ
ansi_x9_62 arcs = 42 ∷ 134 ∷ 72 ∷ 206 ∷ 61 ∷ arcs

-- an RSA key, or a signature of RSA with MD2, MD5, SHA-1, SHA-256, SHA-384, SHA-512 or SHA-224
abbrev pub IsRsa : List ℕ → Type 0
IsRsa o = IsBelow pkcs_1 1 2 o ⊎ IsBelow pkcs_1 4 5 o ⊎ IsBelow pkcs_1 11 14 o

-- RSASSA-PSS
abbrev pub IsPss : List ℕ → Type 0
IsPss o = IsBelow pkcs_1 10 10 o

-- a signature of DSA with SHA-1 (1.2.840.10040.4.3), or with SHA-224 or SHA-256 (2.16.840.1.101.3.4.3)
abbrev pub IsDsa : List ℕ → Type 0
IsDsa o = IsBelow (42 ∷ 134 ∷ 72 ∷ 206 ∷ 56 ∷ 4 ∷ []) 3 3 o
    ⊎ IsBelow (96 ∷ 134 ∷ 72 ∷ 1 ∷ 101 ∷ 3 ∷ 4 ∷ 3 ∷ []) 1 2 o

-- a signature of ECDSA with SHA-1 (ansi-X9-62 4), or with SHA-224, SHA-256, SHA-384 or SHA-512 (ansi-X9-62 4 3)
abbrev pub IsEcdsa : List ℕ → Type 0
IsEcdsa o = IsBelow (ansi_x9_62 (4 ∷ [])) 1 1 o ⊎ IsBelow (ansi_x9_62 (4 ∷ 3 ∷ [])) 1 4 o

-- X25519, X448, Ed25519 or Ed448 (1.3.101)
abbrev pub IsEdwards : List ℕ → Type 0
IsEdwards o = IsBelow (43 ∷ 101 ∷ []) 110 113 o

-- a key of an elliptic curve: id-ecPublicKey (ansi-X9-62 2), id-ecDH or id-ecMQV (1.3.132.1)
abbrev pub IsCurve : List ℕ → Type 0
IsCurve o = IsBelow (ansi_x9_62 (2 ∷ [])) 1 1 o ⊎ IsBelow (43 ∷ 129 ∷ 4 ∷ 1 ∷ []) 12 13 o

-- an element that is an OBJECT IDENTIFIER
abbrev pub BeginsIdentifier : List ℕ → Type 0
BeginsIdentifier e = (rest : List ℕ) × (e ≡ 6 ∷ rest)

-- the algorithm has other parameters than the rule says
abbrev pub BreaksParameters : AlgorithmRule → Algorithm → Type 0
BreaksParameters rule.NullOfRsa a = IsRsa a.algorithm × (a.parameters ≢ 5 ∷ 0 ∷ [])
BreaksParameters rule.NoneOfSignature a = (IsDsa a.algorithm ⊎ IsEcdsa a.algorithm) × (a.parameters ≢ [])
BreaksParameters rule.NoneOfEdwards a = IsEdwards a.algorithm × (a.parameters ≢ [])
BreaksParameters rule.NamedCurve a = IsCurve a.algorithm × (¬ BeginsIdentifier a.parameters)
BreaksParameters rule.SomeOfPss a = IsPss a.algorithm × (a.parameters ≡ [])

-- the algorithm of a signature does
abbrev pub BreaksInSignature : AlgorithmRule → Signed → Type 0
BreaksInSignature r c = BreaksParameters r c.algorithm ⊎ BreaksParameters r c.tbs_certificate.signature

-- that of the key does
abbrev pub BreaksInKey : AlgorithmRule → Signed → Type 0
BreaksInKey r c = BreaksParameters r c.tbs_certificate.key_info.algorithm

-- the certificate breaks the rule
abbrev pub BreaksAlgorithm : AlgorithmRule → Signed → Type 0
BreaksAlgorithm rule.NullOfRsa c = BreaksInSignature rule.NullOfRsa c ⊎ BreaksInKey rule.NullOfRsa c
BreaksAlgorithm rule.NoneOfSignature c = BreaksInSignature rule.NoneOfSignature c
BreaksAlgorithm rule.NoneOfEdwards c = BreaksInSignature rule.NoneOfEdwards c ⊎ BreaksInKey rule.NoneOfEdwards c
BreaksAlgorithm rule.NamedCurve c = BreaksInKey rule.NamedCurve c
BreaksAlgorithm rule.SomeOfPss c = BreaksInSignature rule.SomeOfPss c
