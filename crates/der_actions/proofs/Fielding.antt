-- A walk whose elements are named, if there is a type.
use Rattle.std.proofs.Common.{◌≡◌, ◌∙◌, ℕ, Option, Some, None, List, [], ◌∷◌, ◌++◌, ap, refl, subst, take}
use Rattle.der_actions.specs.declared.fields.Field.{Field}
use Rattle.der_actions.specs.FieldNames.{HasFollowedSo, HasNamedSo, HasStepsSo, IsFieldIn}
use Rattle.der_actions.specs.Namings.{IsExposedBy, field_in}
use Rattle.text_json.specs.declared.fields.secrets.Exposure.TheVariants.{Full}
use Rattle.der_actions.proofs.NamePaths.{steps_more}
use Rattle.text_json.specs.declared.fields.secrets.Secrets.{Secrets}
use Rattle.text_json.specs.Fields.Fields.{label_after, label_text}
use Rattle.text_json.specs.Fields.Secrets.{Follows, IsExposure}
use Rattle.der_schema.specs.declared.matching.Name.{Name}
use Rattle.der_schema.specs.declared.name_path.NameStep.{NameStep}
use Rattle.der_schema.specs.declared.namer.Namer.{Namer}
use Rattle.der_schema.specs.declared.schema.Schema.{Schema}
use Rattle.der_schema.specs.Meaning.{Root, root_of}
use Rattle.der_schema.specs.Named.{HasNamed, NamesNext}
use Rattle.der_schema.specs.NamePaths.{name_step}
use Rattle.der_schema.specs.Steps.{label_of}
use Rattle.der_elements.specs.Visits.{Visited}
use Rattle.der_elements.specs.Walked.{index_in}

-- what is known after one more element
pub record IsNamedNext (s : Option Schema) (i : List ℕ) (vs : List Visited) (v : Visited) (n : Option Namer)
    (steps : List NameStep) (secrets : Secrets) (f : Field) : Type 0 where
  pub named : HasNamedSo s n i (vs ++ v ∷ [])
  pub has_steps : HasStepsSo s i (vs ++ v ∷ []) steps
  pub followed : HasFollowedSo s i (vs ++ v ∷ []) secrets
  pub field : IsFieldIn s i vs v f

-- one more element is named
pub named_next : (s : Option Schema) (i : List ℕ) (vs : List Visited) (v : Visited) (was : Option Namer) (n n' : Namer)
    (said : Option Name) (was_in now_in : Secrets) (f : Field) (old new : List NameStep) (k : ℕ) → was ≡ Some n
    → HasNamedSo s was i vs
    → ((sc : Root) (j : List ℕ) (us : List Visited) → HasNamed sc j us n → NamesNext sc j us v n' said)
    → f.name.now ≡ label_text (label_of said) → HasFollowedSo s i vs was_in
    → ((sc : Root) → Follows sc i vs was_in → label_of said ≡ label_after sc i vs v
    → Follows sc i (vs ++ v ∷ []) now_in × IsExposure sc i vs v f.exposure)
    → HasStepsSo s i vs old → k ≡ index_in v.depth vs
    → new ≡ take v.depth old ++ name_step said k v ∷ [] → IsNamedNext s i vs v (Some n') new now_in f
named_next None i vs v None n n' said was_in now_in f old new k e h next is fol pass path index entered = absurd (cc)
named_next None i vs v (Some m) n n' said was_in now_in f old new k e h next is fol pass path index entered = absurd h
named_next (Some schema) i vs v None n n' said was_in now_in f old new k e h next is fol pass path index entered = absurd h
named_next (Some schema) i vs v (Some m) n n' said was_in now_in f old new k e h next is fol pass path index entered =
    let same : m ≡ n = cc in
    let more = next (root_of schema) i vs (subst (HasNamed (root_of schema) i vs) same h) in
    let exposed = pass (root_of schema) fol more.name in
    record {
      named = more.named;
      has_steps = steps_more (root_of schema) i vs v old new said k path more.name index entered;
      followed = exposed.0;
      field = record { name = is ∙ ap label_text more.name; exposure = exposed.1 };
    }

pub record IsUnnamedNext (s : Option Schema) (i : List ℕ) (vs : List Visited) (v : Visited) (n : Option Namer)
    (steps : List NameStep) (secrets : Secrets) : Type 0 where
  pub named : HasNamedSo s n i (vs ++ v ∷ [])
  pub has_steps : HasStepsSo s i (vs ++ v ∷ []) steps
  pub followed : HasFollowedSo s i (vs ++ v ∷ []) secrets
  pub name : [] ≡ field_in s i vs v
  pub exposure : IsExposedBy s i vs v Full

-- where there is no namer no element has a name
pub unnamed_next : (s : Option Schema) (i : List ℕ) (vs : List Visited) (v : Visited) (n : Option Namer)
    (steps : List NameStep) (secrets : Secrets) → n ≡ None → HasNamedSo s n i vs → IsUnnamedNext s i vs v n steps secrets
unnamed_next None i vs v None steps secrets e h =
    record { named = tt; has_steps = tt; followed = tt; name = refl; exposure = refl }
unnamed_next None i vs v (Some m) steps secrets e h = absurd (cc)
unnamed_next (Some schema) i vs v None steps secrets e h = absurd h
unnamed_next (Some schema) i vs v (Some m) steps secrets e h = absurd (cc)

-- before the first element
pub followed_none : (s : Option Schema) (i : List ℕ) (secrets : Secrets)
    → ((sc : Root) (j : List ℕ) → Follows sc j [] secrets) → HasFollowedSo s i [] secrets
followed_none None i secrets h = tt
followed_none (Some schema) i secrets h = h (root_of schema) i
