-- The rules of RFC 5280 that a certificate or CRL breaks, as lines.
use Rattle.std.specs.Prelude.{◌≡◌, ℕ, ◌⊎◌, IsOk, List, [], Result, codes}
use Rattle.std.specs.Fmt.{HasWritten, IsPlainFormatter}
use Rattle.std.specs.declared.fmt.Error.{Error}
use Rattle.std.specs.declared.fmt.Formatter.{Formatter}
use Rattle.x509.specs.Crl.Lists.{Signed as SignedList}
use Rattle.x509.specs.Certificates.{Signed}
use Rattle.x509_rules.specs.declared.certificate.TheConstants.{MUST_RULES, SHOULD_RULES}
use Rattle.x509_rules.specs.declared.crl.revoked.TheConstants.{MUST_LIST_RULES, SHOULD_LIST_RULES}
use Rattle.x509_rules.specs.Crl.ListRules.{BreaksList}
use Rattle.x509_rules.specs.Rules.{Breaks}
use Rattle.extension_text.specs.Names.Pieces.{InOrder, ◌⨾◌}
use Rattle.extension_text.specs.Names.Values.{line}

-- as `WritesOne`, of a call that returns a value too
abbrev pub WritesText : {W T : Type 0} → (W → List ℕ → W → Type 0) → Formatter W → Result T Error
    → (List ℕ → Type 0) → Formatter W → Type 0
WritesText took f r right g = IsPlainFormatter f → IsOk r → (text : List ℕ) × right text × HasWritten took f text g

-- a line of a label and a text
abbrev pub IsLine : List ℕ → List ℕ → Type 0
IsLine label text = (t : List ℕ) × (text ≡ line label t)

-- A line for a broken rule, and nothing for another one. Neither x509_rules nor x509_rules::crl promises the text of a
-- rule.
abbrev pub IsRule : {R : Type 0} → (R → Type 0) → List ℕ → R → List ℕ → Type 0
IsRule IsBroken label r text = (IsBroken r × IsLine label text) ⊎ ((¬ IsBroken r) × (text ≡ []))

-- the lines of the broken rules among these, in order
abbrev pub AreBroken : {R : Type 0} → (R → Type 0) → List ℕ → List R → List ℕ → Type 0
AreBroken IsBroken label rules = InOrder (IsRule IsBroken label) rules

-- the lines of the MUST rules, and then those of the SHOULD rules
abbrev pub AreBrokenOf : {R : Type 0} → (R → Type 0) → List R → List R → List ℕ → Type 0
AreBrokenOf IsBroken must should = AreBroken IsBroken (codes "  Broken rule: ") must
    ⨾ AreBroken IsBroken (codes "  Broken recommendation: ") should

abbrev pub AreRules : Signed → List ℕ → Type 0
AreRules c = AreBrokenOf (λ r. Breaks r c) MUST_RULES.now SHOULD_RULES.now

abbrev pub AreListRules : SignedList → List ℕ → Type 0
AreListRules l = AreBrokenOf (λ r. BreaksList r l) MUST_LIST_RULES.now SHOULD_LIST_RULES.now
