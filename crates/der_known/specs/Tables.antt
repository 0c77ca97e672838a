-- The known types.
use Rattle.std.specs.Prelude.{◌≡◌, ℕ, ◌+◌, Option, Some, List, codes, map, slice_get}
use Rattle.std.specs.Option.{option_map}
use Rattle.der_known.specs.declared.known.KnownTypes.{KnownTypes}
use Rattle.der_known.specs.Names.{known_names}
use Rattle.der_schema.specs.declared.schema.Component.{Component}
use Rattle.der_schema.specs.Meaning.{all_types}

-- the name of the type with this number
abbrev pub name_at : List Component → ℕ → Option (List ℕ)
name_at types n = option_map (λ c. c.name.now) (slice_get types n)

-- the types of private keys have this number and the next two (RFC 8017 A.1.2, RFC 5915 3, RFC 5958 2)
pub record HasKeys (number : ℕ) (types : List Component) : Type 0 where
  pub rsa : name_at types number ≡ Some (codes "rsaPrivateKey")
  pub curve : name_at types (number + 1) ≡ Some (codes "ecPrivateKey")
  pub any : name_at types (number + 2) ≡ Some (codes "privateKeyInfo")

-- the known types have the names in the documents, and private keys have the numbers by which others refer to them
pub record AreKnown (types : KnownTypes) : Type 0 where
  pub names : map (λ k. k.name.now) types.known.now ≡ known_names
  pub keys : HasKeys 13 (all_types types.types)
