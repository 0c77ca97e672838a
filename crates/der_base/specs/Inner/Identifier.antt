-- Identifier octets that are read, and fronts of them (X.690 8.1.2).
use Rattle.std.specs.Prelude.{◌≡◌, ◌≢◌, ℕ, ◌^◌, ◌<◌, Bool, List, [], ◌++◌}
use Rattle.der_base.specs.declared.header.Class.{Class}
use Rattle.der_base.specs.declared.identifier.Identifier.{Identifier}
use Rattle.der_base.specs.Fault.{HasBadTag}
use Rattle.der_base.specs.Octets.{identifier}

-- i begins with the identifier octets x, whose tag number fits, and rest follows
pub record ReadsIdentifier (i : List ℕ) (x : Identifier) (rest : List ℕ) : Type 0 where
  pub octets : i ≡ identifier x.class x.constructed x.tag.0 ++ rest
  pub number : x.tag.0 < 2 ^ 32
  pub raw : x.octets.now ≡ identifier x.class x.constructed x.tag.0

-- i is a proper front of identifier octets, whose tag number may have any size, and shows no bad tag
pub record IsCutIdentifier (i : List ℕ) : Type 0 where
  pub class : Class
  pub constructed : Bool
  pub number : ℕ
  pub missing : List ℕ
  pub some : missing ≢ []
  pub octets : i ++ missing ≡ identifier class constructed number
  pub no_bad_tag : ¬ HasBadTag i
