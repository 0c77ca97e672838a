-- The texts of faults of an input.
use Rattle.std.specs.Prelude.{ℕ, ◌==◌, ◌&&◌, not, Bool, if◌then◌else◌, List, codes}
use Rattle.der_input.specs.Marks.{begins_with}
use Rattle.c_values.specs.declared.error_text.TheConstants.{PEM_INPUT}
use Rattle.c_values.specs.declared.fault.DmFault.{DmFault}

-- the input isn't read, and begins as PEM does (RFC 7468 2)
abbrev pub is_pem : DmFault → List ℕ → Bool
is_pem f i = not (f.status == 0) && begins_with i (codes "-----BEGIN")

-- the text of a fault, which of PEM says that it is PEM
abbrev pub found_text : DmFault → List ℕ → List ℕ → List ℕ
found_text f i words = if is_pem f i then PEM_INPUT.now else words
