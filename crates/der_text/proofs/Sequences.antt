-- The steps of items, one after another.
use Rattle.std.proofs.Common.{◌≡◌, inl, inr, List, [], ◌∷◌, ◌++◌, refl, sym, ap, ◌∙◌, append_assoc}
use Rattle.std.specs.Prelude.{Result, Ok, Err}
use Rattle.der_text.specs.declared.error.Fault.{Fault}
use Rattle.der_text.specs.declared.item.Item.{Item}
use Rattle.der_text.specs.Encoded.{◌>>=◌, Faults, Following, all_before, before, encoded, following, whole}

pub bind_ok : {A E : Type 0} (r : Result A E) → r ≡ (r >>= λ x. Ok x)
bind_ok (Ok x) = refl
bind_ok (Err e) = refl

pub bind_assoc : {A B C E : Type 0} (r : Result A E) (f : A → Result B E) (g : B → Result C E)
    → ((r >>= f) >>= g) ≡ (r >>= λ x. f x >>= g)
bind_assoc (Ok x) f g = refl
bind_assoc (Err e) f g = refl

pub all_before_append : (is js : List Item) (s : Following) → all_before (is ++ js) s ≡ (all_before js s >>= all_before is)
all_before_append [] js s = bind_ok (all_before js s)
all_before_append (i ∷ is) js s =
    ap (λ r. r >>= before i) (all_before_append is js s) ∙ bind_assoc (all_before js s) (all_before is) (before i)

pub last_before : (others : List Item) (item : Item) (s t : Following) → before item s ≡ Ok t
    → all_before (others ++ item ∷ []) s ≡ all_before others t
last_before others item s t e = all_before_append others (item ∷ []) s ∙ ap (λ r. r >>= all_before others) e

pub last_faults : (others : List Item) (item : Item) (s : Following) (e : Fault) → before item s ≡ Err e
    → all_before (others ++ item ∷ []) s ≡ Err e
last_faults others item s e h = all_before_append others (item ∷ []) s ∙ ap (λ r. r >>= all_before others) h

pub all_fault : (is others : List Item) (item : Item) (s : Following) (e : Fault)
    → all_before is (following [] []) ≡ all_before (others ++ item ∷ []) s → Faults (before item s) e → Faults (encoded is) e
all_fault is others item s e same (inl memory) = inl memory
all_fault is others item s e same (inr h) = inr (ap (λ r. r >>= whole) (same ∙ last_faults others item s e h))

-- items before those of a result
abbrev pub joined : List Item → Result (List Item) Fault → Result (List Item) Fault
joined is r = r >>= λ js. Ok (is ++ js)

pub joined_append : (is js : List Item) (r : Result (List Item) Fault) → joined is (joined js r) ≡ joined (is ++ js) r
joined_append is js (Ok ks) = ap Ok (sym (append_assoc is js ks))
joined_append is js (Err e) = refl

pub joined_nil : (r : Result (List Item) Fault) → r ≡ joined [] r
joined_nil (Ok ks) = refl
joined_nil (Err e) = refl
