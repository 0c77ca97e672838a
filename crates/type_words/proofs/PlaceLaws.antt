-- The places after one more element.
use Rattle.std.proofs.Common.{◌≡◌, ℕ, List, [], ◌∷◌, ◌++◌, append_assoc, ap, map, sym, take, ◌∙◌}
use Rattle.std.proofs.lemmas.List.{map-append, take-map}
use Rattle.type_words.specs.declared.places.Place.{Place as Kept}
use Rattle.type_words.specs.Items.{Place}
use Rattle.type_words.specs.Places.{place_of}

pub pushed : (ks : List Kept) (d : ℕ) (a b : Kept) → map place_of ((take d ks ++ a ∷ []) ++ b ∷ [])
    ≡ take d (map place_of ks) ++ place_of a ∷ place_of b ∷ []
pushed ks d a b =
    ap (map place_of) (append_assoc (take d ks) (a ∷ []) (b ∷ [])) ∙ map-append place_of (take d ks) (a ∷ b ∷ [])
    ∙ ap (λ (ps : List Place). ps ++ place_of a ∷ place_of b ∷ []) (sym (take-map place_of d ks))
