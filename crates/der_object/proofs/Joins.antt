-- Octets that join the spellings of objects, with one more object at the end.
use Rattle.std.proofs.Common.{◌≡◌, ◌≢◌, ℕ, List, [], ◌∷◌, ◌++◌, refl, sym, ap, ◌∙◌, append_assoc}
use Rattle.std.proofs.lemmas.List.{append-nil}
use Rattle.der_base.specs.Fault.{DerJoins}
use Rattle.der_base.specs.Spelling.{end_marker, BerSpellsAs, Joins, OpenJoins, DerSpells}
use Rattle.der_object.specs.declared.object.BerObject.{BerObject}
use Rattle.der_object.specs.HeaderFacts.{form_of, forms_of}
use Rattle.der_object.specs.View.{tree, trees}

first : (w b : List ℕ) → w ≡ [] → w ++ b ≡ b ++ []
first w b e = ap (λ v. v ++ b) e ∙ sym (append-nil b)

pub joins_push : (os : List BerObject) (w b : List ℕ) (o : BerObject) (d k : ℕ)
    → Joins w (trees os) (forms_of os) d k → BerSpellsAs b (tree o) (form_of o) d k
    → Joins (w ++ b) (trees (os ++ o ∷ [])) (forms_of (os ++ o ∷ [])) d k
joins_push [] w b o d k e s = (b, [], first w b e, s, refl)
joins_push (x ∷ os) w b o d k (c, rest, e, r, j) s = (c, rest ++ b, ap (λ v. v ++ b) e ∙ append_assoc c rest b, r, joins_push os rest b o d k j s)

pub open_joins_push : (os : List BerObject) (w b : List ℕ) (o : BerObject) (d k : ℕ)
    → OpenJoins w (trees os) (forms_of os) d k → b ≢ end_marker → BerSpellsAs b (tree o) (form_of o) d k
    → OpenJoins (w ++ b) (trees (os ++ o ∷ [])) (forms_of (os ++ o ∷ [])) d k
open_joins_push [] w b o d k e n s = (b, [], first w b e, n, s, refl)
open_joins_push (x ∷ os) w b o d k (c, rest, e, m, r, j) n s =
    (c, rest ++ b, ap (λ v. v ++ b) e ∙ append_assoc c rest b, m, r, open_joins_push os rest b o d k j n s)

pub der_joins_push : (os : List BerObject) (w b : List ℕ) (o : BerObject) (d : ℕ)
    → DerJoins w (trees os) d → DerSpells b (tree o) d → DerJoins (w ++ b) (trees (os ++ o ∷ [])) d
der_joins_push [] w b o d e s = (b, [], first w b e, s, refl)
der_joins_push (x ∷ os) w b o d (c, rest, e, r, j) s = (c, rest ++ b, ap (λ v. v ++ b) e ∙ append_assoc c rest b, r, der_joins_push os rest b o d j s)
