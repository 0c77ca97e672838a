-- The statements of the laws in `src/laws.rt`.
use Rattle.std.specs.Prelude.{ℕ, ◌↔◌, List}
use Rattle.der_base.specs.declared.rules.Rules.TheVariants.{Der}
use Rattle.der_cursor.specs.Formats.{Required}
use Rattle.der_extensions.specs.GeneralNames.{Name}
use Rattle.x509.specs.Certificates.{name}
use Rattle.x509.specs.Formats.{spells}

-- octets begin with a Name by the words of fields exactly where they begin with one by those of certificates
abbrev pub SameNames : Type 0
SameNames = (i v rest : List ℕ) → (Required Name Der i v rest ↔ spells name i v rest)
