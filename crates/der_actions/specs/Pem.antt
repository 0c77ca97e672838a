-- PEM blocks that are written (RFC 7468).
use Rattle.std.specs.Prelude.{◌≡◌, ◌<◌, ℕ, min, List, [], ◌++◌, codes, length}
use Rattle.base64.specs.Engines.{standard}
use Rattle.base64.specs.GeneralPurpose.{encode_of}
use Rattle.der_actions.specs.Labels.{label_text}

-- a text in lines of 64 characters; the last line may have fewer (RFC 7468 2)
pub data InLines : List ℕ → List ℕ → Type 0 where
  no_line : InLines [] []
  one_more_line : {rest lines : List ℕ} (line : List ℕ) → 0 < length line → length line ≡ min 64 (length (line ++ rest))
      → InLines rest lines → InLines (line ++ rest) (line ++ codes "\n" ++ lines)

-- octets as a block with this label
pub record IsPem (label w text : List ℕ) : Type 0 where
  pub lines : List ℕ
  pub in_lines : InLines (encode_of standard w) lines
  pub whole : text ≡ codes "-----BEGIN " ++ label_text label ++ codes "-----\n" ++ lines
      ++ codes "-----END " ++ label_text label ++ codes "-----\n"
