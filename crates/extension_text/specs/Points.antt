-- Where lists of revoked certificates are, in words (RFC 5280 4.2.1.13), and what one is about (5.2.5).
use Rattle.std.specs.Prelude.{ℕ, Option, Some, None, List, [], ◌++◌, codes}
use Rattle.der_base.specs.declared.rules.Rules.TheVariants.{Der}
use Rattle.der_cursor.specs.Formats.{Required}
use Rattle.der_extensions.specs.Extensions.{DistributionPoint, PointNameValue, PointValue, full_name}
use Rattle.der_extensions.specs.Extensions.{name_relative_to_issuer}
use Rattle.der_extensions.specs.Revocation.{IssuingPointValue}
use Rattle.extension_text.specs.Names.Names.{IsRelativeName}
use Rattle.extension_text.specs.Names.Pieces.{Each, Exactly, ◌⨾◌}
use Rattle.extension_text.specs.Names.Values.{true_line}
use Rattle.extension_text.specs.GeneralNames.{AreGeneralNames}
use Rattle.extension_text.specs.Usage.{reasons_text}

-- CRLDistributionPoints (4.2.1.13)
abbrev pub IsRelativeLine : List ℕ → List ℕ → Type 0
IsRelativeLine i = Exactly (codes "        Name after the issuer's: ") ⨾ (IsRelativeName i ⨾ Exactly (codes "\n"))

abbrev pub IsPointName : PointNameValue → List ℕ → Type 0
IsPointName (full_name i) = AreGeneralNames (codes "        ") i
IsPointName (name_relative_to_issuer i) = IsRelativeLine i

abbrev pub IsOptionalPointName : Option PointNameValue → List ℕ → Type 0
IsOptionalPointName (Some v) = IsPointName v
IsOptionalPointName None = Exactly []

abbrev pub optional_reasons : List ℕ → Option (ℕ × List ℕ) → List ℕ
optional_reasons label (Some v) = reasons_text label v.1
optional_reasons label None = []

abbrev pub AreOptionalNames : Option (List ℕ) → List ℕ → Type 0
AreOptionalNames (Some i) = Exactly (codes "        Issuer of the list:\n") ⨾ AreGeneralNames (codes "          ") i
AreOptionalNames None = Exactly []

abbrev pub IsPoint : PointValue → List ℕ → Type 0
IsPoint p = Exactly (codes "      Distribution point:\n")
    ⨾ (IsOptionalPointName p.0
    ⨾ (Exactly (optional_reasons (codes "        Reasons:") p.1.0) ⨾ AreOptionalNames p.1.1.0))

abbrev pub ArePoints : List ℕ → List ℕ → Type 0
ArePoints i = Each (Required DistributionPoint Der) IsPoint i

-- IssuingDistributionPoint (5.2.5)
abbrev pub IsIssuingName : Option PointNameValue → List ℕ → Type 0
IsIssuingName (Some v) = Exactly (codes "      Distribution point:\n") ⨾ IsPointName v
IsIssuingName None = Exactly []

abbrev pub issuing_text : IssuingPointValue → List ℕ
issuing_text p = true_line (codes "      Only user certificates: ") p.1.0
    ++ (true_line (codes "      Only CA certificates: ") p.1.1.0
    ++ (optional_reasons (codes "      Only some reasons:") p.1.1.1.0
    ++ (true_line (codes "      Indirect CRL: ") p.1.1.1.1.0
    ++ true_line (codes "      Only attribute certificates: ") p.1.1.1.1.1.0)))

abbrev pub IsIssuingPoint : IssuingPointValue → List ℕ → Type 0
IsIssuingPoint p = IsIssuingName p.0 ⨾ Exactly (issuing_text p)
