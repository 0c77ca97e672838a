-- The names of the known types, in the documents that define them.
use Rattle.std.specs.Prelude.{ℕ, List, [], ◌∷◌, ◌++◌, codes}

-- certificates and requests (RFC 5280, RFC 2986)
abbrev pub certificate_names : List (List ℕ)
certificate_names = codes "Certificate" ∷ codes "CertificateList" ∷ codes "CertificationRequest" ∷ []

-- keys (RFC 5958, RFC 5280, RFC 8017, RFC 5915), and PKCS #12 (RFC 7292)
abbrev pub key_names : List (List ℕ)
key_names =
    codes "PrivateKeyInfo" ∷ codes "SubjectPublicKeyInfo" ∷ codes "RSAPrivateKey" ∷ codes "ECPrivateKey"
    ∷ codes "PFX" ∷ codes "EncryptedPrivateKeyInfo" ∷ []

-- messages of CMS (RFC 5652), the status of certificates (RFC 6960), time stamps (RFC 3161)
abbrev pub message_names : List (List ℕ)
message_names =
    codes "ContentInfo" ∷ codes "OCSPRequest" ∷ codes "OCSPResponse" ∷ codes "TimeStampReq"
    ∷ codes "TimeStampResp" ∷ []

-- SNMP (RFC 1157, RFC 3412), LDAP (RFC 4511), Kerberos (RFC 4120)
abbrev pub protocol_names : List (List ℕ)
protocol_names =
    codes "Message" ∷ codes "SNMPv3Message" ∷ codes "LDAPMessage" ∷ codes "AS-REQ" ∷ codes "AS-REP"
    ∷ codes "TGS-REQ" ∷ codes "TGS-REP" ∷ codes "Ticket" ∷ codes "AP-REQ" ∷ codes "AP-REP" ∷ codes "KRB-SAFE"
    ∷ codes "KRB-PRIV" ∷ codes "KRB-CRED" ∷ codes "KRB-ERROR" ∷ []

-- the types that are tried last: RSA public keys (RFC 8017), attribute certificates (RFC 5755)
abbrev pub last_names : List (List ℕ)
last_names = codes "RSAPublicKey" ∷ codes "AttributeCertificate" ∷ []

-- the order in which types are tried
abbrev pub known_names : List (List ℕ)
known_names = certificate_names ++ key_names ++ message_names ++ protocol_names ++ last_names
