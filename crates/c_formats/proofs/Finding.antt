-- A walk over the items of a list that looks for the first for which something holds.
use Rattle.std.proofs.Common.{◌≡◌, true, ℕ, ◌<◌, Some, None, Option, List, length, ap, sym, subst, ◌∙◌}
use Rattle.der_base.specs.declared.header.Class.TheVariants.{Universal}
use Rattle.der_base.specs.declared.rules.Rules.TheVariants.{Der}
use Rattle.der_extensions.proofs.KnownLaws.{one_extension}
use Rattle.x509.specs.Certificates.{ExtensionValue, extension}
use Rattle.x509.specs.Formats.{spells}
use Rattle.x509.proofs.ReaderLaws.{element_less}
use Rattle.c_formats.specs.Found.{Finds, passed}
use Rattle.c_formats.specs.Items.{IsExtensionKind, kind_number}

-- what is found in the octets that are left is found in all
abbrev pub IsAhead : {V : Type 0} → (List ℕ → V → List ℕ → Type 0) → (V → Type 0) → List ℕ → List ℕ → Type 0
IsAhead {V} Item P i left = (r : Option (V × List ℕ)) → Finds Item P left r → Finds Item P i r

pub still_ahead : {V : Type 0} {Item : List ℕ → V → List ℕ → Type 0} {P : V → Type 0} {i left rest : List ℕ} (v : V) → IsAhead Item P i left → Item left v rest → ¬ P v → IsAhead Item P i rest
still_ahead v ahead is n = λ r f. ahead r (passed v is n f)

-- an extension has octets
pub extension_less : {i rest : List ℕ} {v : ExtensionValue} → spells extension i v rest → length rest < length i
extension_less {i = i} {rest = rest} s = subst (λ z. length z < length i) (sym s.3.1) (element_less Der Universal true 16 i (s.0, s.1) s.2)

-- an identifier is of one kind
pub one_kind : (w : List ℕ) {m n : ℕ} → IsExtensionKind w m → IsExtensionKind w n → m ≡ n
one_kind w (Some j, is, e) (Some k, is', e') = e ∙ ap kind_number (one_extension j k (sym is ∙ is')) ∙ sym e'
one_kind w (None, is, e) (None, is', e') = e ∙ sym e'
one_kind w (Some j, is, e) (None, is', e') = absurd (is' j is)
one_kind w (None, is, e) (Some k, is', e') = absurd (is k is')
