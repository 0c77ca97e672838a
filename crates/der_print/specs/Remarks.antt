-- What is said of a value that breaks its type.
use Rattle.std.specs.Prelude.{◌≡◌, ℕ, ◌⊎◌, ◌==◌, not, if◌then◌else◌, Bool, true, false, Option, Some, None}
use Rattle.std.specs.Prelude.{IsSome, List, [], ◌++◌, codes, decimal, find}
use Rattle.der_base.specs.declared.rules.Rules.TheVariants.{Ber}
use Rattle.der_base.specs.Text.{is_ia5, is_numeric, is_printable, is_visible}
use Rattle.der_contents.specs.ContentErrors.{rule_text}
use Rattle.der_contents.specs.ContentRules.{IsContent, IsFirstBroken, content_rules}
use Rattle.der_contents.specs.declared.content_error.ContentError.{ContentError}
use Rattle.der_print.specs.declared.remark.BrokenRule.{BrokenRule}
use Rattle.der_print.specs.declared.remark.Remark.{Remark}
use Rattle.der_print.specs.declared.remark.Remark.TheVariants.{Rule, Inside}
use Rattle.der_print.specs.Quotes.{octet_text}
use Rattle.der_elements.specs.Inside.{IsFaultInside}
use Rattle.der_elements.specs.Visits.{Visited}

-- whether an octet may be in a string of the type with this number; any is in one of another type
abbrev pub is_of_type : ℕ → ℕ → Bool
is_of_type t b =
    if t == 18 then is_numeric b else if t == 19 then is_printable b else if t == 22 then is_ia5 b
    else if t == 26 then is_visible b else true

-- the first octet outside of the character set
abbrev pub fault_text : Option ℕ → List ℕ
fault_text (Some b) = codes ": " ++ octet_text b
fault_text None = []

-- the rule that a content breaks, with the first octet outside of the character set of its type
abbrev pub rule_of_content : ContentError → ℕ → List ℕ → List ℕ
rule_of_content e t w = (rule_text e).0 ++ fault_text (find (λ b. not (is_of_type t b)) w)
    ++ codes " (X.690 " ++ (rule_text e).1 ++ codes ")"

abbrev pub rule_of : BrokenRule → List ℕ
rule_of r = rule_of_content r.error r.number r.octets.now

-- the offset where a list inside a string is at fault
abbrev pub inside_text : ℕ → List ℕ
inside_text n = codes "holding BER broken at " ++ decimal n

abbrev pub remark_text : Remark → List ℕ
remark_text (Rule r) = rule_of r
remark_text (Inside n) = inside_text n

-- what is said of an element with this content: the first rule of BER that it breaks, if it is one that breaks its
-- type, and else where a list inside is at fault, if none of it is visited
abbrev pub IsRemark : Visited → List ℕ → Option (List ℕ) → Type 0
IsRemark v w (Some text) = ((v.breaks_its_type ≡ true) × (e : ContentError)
    × IsFirstBroken (content_rules Ber v.number w) e × (text ≡ rule_of_content e v.number w))
    ⊎ ((v.breaks_its_type ≡ false) × (v.holds ≡ None) × (n : ℕ) × IsFaultInside v w n × (text ≡ inside_text n))
IsRemark v w None = ((v.breaks_its_type ≡ true) × IsContent Ber v.number w)
    ⊎ ((v.breaks_its_type ≡ false) × (IsSome v.holds ⊎ ((n : ℕ) → ¬ IsFaultInside v w n)))
