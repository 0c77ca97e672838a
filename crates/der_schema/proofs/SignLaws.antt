-- The signs of a type, and the content octets of one of the elements of an input.
use Rattle.std.proofs.Common.{◌≡◌, ◌≤◌, ℕ, Bool, true, false, ◌&&◌, Some, None, List, [], ◌∷◌, ◌++◌, ap, append_assoc}
use Rattle.std.proofs.Common.{length, sym, ◌∙◌}
use Rattle.std.specs.List.{list_all, slice_get}
use Rattle.std.specs.Option.{option_map}
use Rattle.std.proofs.lemmas.List.{nil_from_length}
use Rattle.std.proofs.lemmas.Option.{slice_get-map, slice_get_past}
use Rattle.der_base.specs.declared.rules.Rules.{Rules}
use Rattle.der_elements.specs.Visits.{Visited, Visits}
use Rattle.der_schema.specs.declared.sign.Sign.{Sign}
use Rattle.der_schema.specs.Encodings.{encoding_in}
use Rattle.der_schema.specs.Known.{all_extras}
use Rattle.der_schema.specs.Signs.{contents_in, has_sign}
use Rattle.der_schema.proofs.Passed.{slice_get_seam}

-- those of the element after some
pub content_here : (i : List ℕ) (vs us ws : List Visited) (v : Visited) (n : ℕ) (os : List ℕ) → n ≡ length vs
    → us ≡ (vs ++ v ∷ []) ++ ws → os ≡ (encoding_in i v).content → Some os ≡ slice_get (contents_in i us) n
content_here i vs us ws v n os en e eo =
    let content = λ (w : Visited). (encoding_in i w).content in
    sym
    (slice_get-map content us n
    ∙ ap (λ (l : List Visited). option_map content (slice_get l n)) (e ∙ append_assoc vs (v ∷ []) ws)
    ∙ ap (λ (k : ℕ). option_map content (slice_get (vs ++ v ∷ ws) k)) en
    ∙ ap (option_map content) (slice_get_seam vs v ws) ∙ ap Some (sym eo))

-- there are none after the last element
pub content_past : (i : List ℕ) (vs us : List Visited) (n : ℕ) → us ≡ vs → length vs ≤ n
    → None ≡ slice_get (contents_in i us) n
content_past i vs us n e le =
    let content = λ (w : Visited). (encoding_in i w).content in
    sym
    (slice_get-map content us n ∙ ap (λ (l : List Visited). option_map content (slice_get l n)) e
    ∙ ap (option_map content) (slice_get_past vs n le))

-- an input has all signs if it has those that are left
abbrev pub SignsLeft : Rules → List ℕ → List Sign → List Sign → Type 0
SignsLeft r i all ahead = (vs : List Visited) → Visits all_extras r 101 0 0 i vs
    → list_all (has_sign (contents_in i vs)) ahead ≡ list_all (has_sign (contents_in i vs)) all

-- what is found of a sign
abbrev pub Finds : Rules → List ℕ → Sign → Bool → Type 0
Finds r i s found = (vs : List Visited) → Visits all_extras r 101 0 0 i vs → found ≡ has_sign (contents_in i vs) s

first_decides : (cs : List (List ℕ)) (s : Sign) (ahead rest : List Sign) (found : Bool) → ahead ≡ s ∷ rest
    → found ≡ has_sign cs s → (found && list_all (has_sign cs) rest) ≡ list_all (has_sign cs) ahead
first_decides cs s ahead rest found e is =
    ap (λ (b : Bool). b && list_all (has_sign cs) rest) is ∙ sym (ap (list_all (has_sign cs)) e)

pub sign_there : (r : Rules) (i : List ℕ) (all ahead rest : List Sign) (s : Sign) (found : Bool)
    → SignsLeft r i all ahead → ahead ≡ s ∷ rest → Finds r i s found → found ≡ true → SignsLeft r i all rest
sign_there r i all ahead rest s found left e finds there vs visits =
    let f = has_sign (contents_in i vs) in
    sym (ap (λ (b : Bool). b && list_all f rest) there)
    ∙ first_decides (contents_in i vs) s ahead rest found e (finds vs visits) ∙ left vs visits

pub sign_lacks : (r : Rules) (i : List ℕ) (all ahead rest : List Sign) (s : Sign) (found : Bool)
    → SignsLeft r i all ahead → ahead ≡ s ∷ rest → Finds r i s found → found ≡ false
    → (vs : List Visited) → Visits all_extras r 101 0 0 i vs → false ≡ list_all (has_sign (contents_in i vs)) all
sign_lacks r i all ahead rest s found left e finds lacks vs visits =
    let f = has_sign (contents_in i vs) in
    sym (ap (λ (b : Bool). b && list_all f rest) lacks)
    ∙ first_decides (contents_in i vs) s ahead rest found e (finds vs visits) ∙ left vs visits

pub signs_there : (r : Rules) (i : List ℕ) (all ahead : List Sign) → SignsLeft r i all ahead → length ahead ≡ 0
    → (vs : List Visited) → Visits all_extras r 101 0 0 i vs → true ≡ list_all (has_sign (contents_in i vs)) all
signs_there r i all ahead left none vs visits =
    sym (ap (list_all (has_sign (contents_in i vs))) (nil_from_length ahead none)) ∙ left vs visits
