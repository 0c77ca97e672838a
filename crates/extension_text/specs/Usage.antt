-- What a key is for (RFC 5280 4.2.1.3), and reasons of revocation (4.2.1.13).
use Rattle.std.specs.Prelude.{ℕ, Bool, if◌then◌else◌, List, [], ◌++◌, codes}
use Rattle.der_values.specs.Kinds.{is_bit_set}

-- the name of a bit that is set
abbrev pub use_text : Bool → List ℕ → List ℕ
use_text is_set name = if is_set then codes " " ++ name else []

-- KeyUsage ::= BIT STRING { digitalSignature (0), .., decipherOnly (8) }
abbrev pub uses_text : List ℕ → List ℕ
uses_text w =
    use_text (is_bit_set 0 w) (codes "digitalSignature")
    ++ (use_text (is_bit_set 1 w) (codes "nonRepudiation")
    ++ (use_text (is_bit_set 2 w) (codes "keyEncipherment")
    ++ (use_text (is_bit_set 3 w) (codes "dataEncipherment")
    ++ (use_text (is_bit_set 4 w) (codes "keyAgreement")
    ++ (use_text (is_bit_set 5 w) (codes "keyCertSign")
    ++ (use_text (is_bit_set 6 w) (codes "cRLSign")
    ++ (use_text (is_bit_set 7 w) (codes "encipherOnly")
    ++ use_text (is_bit_set 8 w) (codes "decipherOnly"))))))))

abbrev pub usage_text : List ℕ → List ℕ
usage_text w = codes "      Uses:" ++ (uses_text w ++ codes "\n")

-- ReasonFlags ::= BIT STRING { unused (0), keyCompromise (1), .., aACompromise (8) }
abbrev pub flags_text : List ℕ → List ℕ
flags_text w =
    use_text (is_bit_set 0 w) (codes "unused")
    ++ (use_text (is_bit_set 1 w) (codes "keyCompromise")
    ++ (use_text (is_bit_set 2 w) (codes "cACompromise")
    ++ (use_text (is_bit_set 3 w) (codes "affiliationChanged")
    ++ (use_text (is_bit_set 4 w) (codes "superseded")
    ++ (use_text (is_bit_set 5 w) (codes "cessationOfOperation")
    ++ (use_text (is_bit_set 6 w) (codes "certificateHold")
    ++ (use_text (is_bit_set 7 w) (codes "privilegeWithdrawn")
    ++ use_text (is_bit_set 8 w) (codes "aACompromise"))))))))

abbrev pub reasons_text : List ℕ → List ℕ → List ℕ
reasons_text label w = label ++ (flags_text w ++ codes "\n")
