-- The state of the names of fields in a walk.
use Rattle.std.specs.Prelude.{◌≡◌, ℕ, Option, Some, None, List, map}
use Rattle.der_actions.specs.declared.fields.Field.{Field}
use Rattle.der_actions.specs.declared.fields.Fields.{Fields}
use Rattle.der_actions.specs.Namings.{IsExposedBy, field_in}
use Rattle.der_actions.specs.Paths.{labelled, labels_of}
use Rattle.text_json.specs.declared.fields.secrets.Secrets.{Secrets}
use Rattle.text_json.specs.Fields.Secrets.{Follows}
use Rattle.der_schema.specs.declared.name_path.NameStep.{NameStep}
use Rattle.der_schema.specs.declared.namer.Namer.{Namer}
use Rattle.der_schema.specs.declared.schema.Schema.{Schema}
use Rattle.der_schema.specs.Meaning.{root_of}
use Rattle.der_schema.specs.Named.{HasNamed}
use Rattle.der_elements.specs.Visits.{Visited}

-- the namer has named these elements of i, if there is a type
abbrev pub HasNamedSo : Option Schema → Option Namer → List ℕ → List Visited → Type 0
HasNamedSo None None i vs = Unit {0}
HasNamedSo None (Some n) i vs = ⊥
HasNamedSo (Some schema) None i vs = ⊥
HasNamedSo (Some schema) (Some n) i vs = HasNamed (root_of schema) i vs n

-- these are the steps of the path to the last of these elements, if there is a type
abbrev pub HasStepsSo : Option Schema → List ℕ → List Visited → List NameStep → Type 0
HasStepsSo None i vs steps = Unit {0}
HasStepsSo (Some schema) i vs steps = map labelled steps ≡ labels_of (root_of schema) i vs

-- the secret elements among these were followed, if there is a type
abbrev pub HasFollowedSo : Option Schema → List ℕ → List Visited → Secrets → Type 0
HasFollowedSo None i vs secrets = Unit {0}
HasFollowedSo (Some schema) i vs secrets = Follows (root_of schema) i vs secrets

pub record HasNamedBy (s : Option Schema) (i : List ℕ) (vs : List Visited) (f : Fields) : Type 0 where
  pub named : HasNamedSo s f.namer i vs
  pub steps : HasStepsSo s i vs f.path.steps.items
  pub followed : HasFollowedSo s i vs f.secrets

-- what the type tells about the next element
pub record IsFieldIn (s : Option Schema) (i : List ℕ) (before : List Visited) (v : Visited) (f : Field) : Type 0 where
  pub name : f.name.now ≡ field_in s i before v
  pub exposure : IsExposedBy s i before v f.exposure
