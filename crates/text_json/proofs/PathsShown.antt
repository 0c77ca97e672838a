-- The texts of paths, step by step.
use Rattle.std.proofs.Common.{◌≡◌, ◌∙◌, ℕ, zero, suc, ◌-◌, Option, Some, None, List, [], ◌∷◌, ◌++◌, ap, append-nil, append_assoc, arith, codes, length, refl, sym, take}
use Rattle.std.proofs.lemmas.List.{length-map, map-append, take-map}
use Rattle.std.specs.Borrow.{Bor}
use Rattle.std.specs.Option.{unwrap_or}
use Rattle.std.specs.Prelude.{map, option_map, slice_get}
use Rattle.text_json.specs.PathTexts.{text_after, texts_from}
use Rattle.der_elements.specs.declared.path.Step.{Step}
use Rattle.der_elements.specs.Paths.{further_text, path_text, step_text}

-- the texts of a front are the front of the texts
pub texts_front : (n : ℕ) (before steps : List Step) → texts_from before (take n steps) ≡ take n (texts_from before steps)
texts_front zero before [] = refl
texts_front zero before (s ∷ steps) = refl
texts_front (suc n) before [] = refl
texts_front (suc n) before (s ∷ steps) = ap (λ ts. path_text (before ++ s ∷ []) ∷ ts) (texts_front n (before ++ s ∷ []) steps)

-- one step more
texts_more : (before steps : List Step) (s : Step) → texts_from before (steps ++ s ∷ []) ≡ texts_from before steps ++ path_text ((before ++ steps) ++ s ∷ []) ∷ []
texts_more before [] s = ap (λ w. path_text (w ++ s ∷ []) ∷ []) (sym (append-nil before))
texts_more before (u ∷ steps) s =
    ap (λ ts. path_text (before ++ u ∷ []) ∷ ts)
    (texts_more (before ++ u ∷ []) steps s
    ∙ ap (λ w. texts_from (before ++ u ∷ []) steps ++ path_text (w ++ s ∷ []) ∷ []) (append_assoc before (u ∷ []) steps))

-- the last text is that of the path
last_text : (before : List Step) (s : Step) (steps : List Step)
    → slice_get (texts_from before (s ∷ steps)) (length (texts_from before (s ∷ steps)) - 1) ≡ Some (path_text (before ++ s ∷ steps))
last_text before s [] = refl
last_text before s (u ∷ steps) =
    let e : length (texts_from before (s ∷ u ∷ steps)) - 1 ≡ suc (length (texts_from (before ++ s ∷ []) (u ∷ steps)) - 1) = omega arith in
    ap (slice_get (texts_from before (s ∷ u ∷ steps))) e ∙ last_text (before ++ s ∷ []) u steps
    ∙ ap (λ w. Some (path_text w)) (append_assoc before (s ∷ []) (u ∷ steps))

-- the text of a path, if it has a step
abbrev text_in : List Step → Option (List ℕ)
text_in [] = None
text_in (s ∷ steps) = Some (path_text (s ∷ steps))

last_is : (path : List Step) → slice_get (texts_from [] path) (length (texts_from [] path) - 1) ≡ text_in path
last_is [] = refl
last_is (s ∷ steps) = last_text [] s steps

further_last : (steps : List Step) (s : Step) → further_text (steps ++ s ∷ []) ≡ further_text steps ++ (codes "." ++ step_text s)
further_last [] s = append-nil (codes "." ++ step_text s)
further_last (u ∷ steps) s =
    ap (λ t. (codes "." ++ step_text u) ++ t) (further_last steps s) ∙ sym (append_assoc (codes "." ++ step_text u) (further_text steps) (codes "." ++ step_text s))

after_text : (path : List Step) (s : Step) → text_after (text_in path) s ≡ path_text (path ++ s ∷ [])
after_text [] s = sym (append-nil (step_text s))
after_text (u ∷ steps) s =
    append_assoc (step_text u) (further_text steps) (codes "." ++ step_text s) ∙ ap (λ t. step_text u ++ t) (sym (further_last steps s))

-- the texts of the front of a path
pub texts_cut : {X : Type 0} (f : X → List ℕ) (n : ℕ) (xs ys : List X) (path : List Step) → ys ≡ take n xs → map f xs ≡ texts_from [] path
    → map f ys ≡ texts_from [] (take n path)
texts_cut f n xs ys path e h = ap (map f) e ∙ sym (take-map f n xs) ∙ ap (take n) h ∙ sym (texts_front n [] path)

last_at : {X : Type 0} (f : X → List ℕ) (xs ys : List X) (last : Option (List ℕ)) → xs ≡ ys → last ≡ slice_get (map f xs) (length xs - 1)
    → last ≡ slice_get (map f ys) (length (map f ys) - 1)
last_at f xs ys last e l =
    l ∙ ap (λ zs. slice_get (map f zs) (length zs - 1)) e ∙ ap (λ n. slice_get (map f ys) (n - 1)) (sym (length-map ys f))

-- the last text before a step, if there is one
last_is_that : {X : Type 0} (f : X → List ℕ) (xs ys : List X) (path : List Step) (last : Option (List ℕ)) → xs ≡ ys → map f ys ≡ texts_from [] path
    → last ≡ slice_get (map f xs) (length xs - 1) → last ≡ text_in path
last_is_that f xs ys path last e h l = last_at f xs ys last e l ∙ ap (λ us. slice_get us (length us - 1)) h ∙ last_is path

-- the texts of a path with one more step, whose text is made of the last one
pub texts_entered : {X : Type 0} (f : X → List ℕ) (xs ys zs : List X) (x : X) (path : List Step) (s : Step) (last : Option (List ℕ))
    → xs ≡ ys → zs ≡ ys ++ x ∷ [] → map f ys ≡ texts_from [] path → last ≡ slice_get (map f xs) (length xs - 1) → f x ≡ text_after last s
    → map f zs ≡ texts_from [] (path ++ s ∷ [])
texts_entered f xs ys zs x path s last e more h l t =
    let whole : f x ≡ path_text (path ++ s ∷ []) = t ∙ ap (λ o. text_after o s) (last_is_that f xs ys path last e h l) ∙ after_text path s in
    ap (map f) more ∙ map-append f ys (x ∷ []) ∙ ap (λ us. us ++ f x ∷ []) h ∙ ap (λ u. texts_from [] path ++ u ∷ []) whole ∙ sym (texts_more [] path s)

abbrev or_none : Option (List ℕ) → List ℕ
or_none (Some text) = text
or_none None = []

now_or : (r : Option (Bor (List ℕ))) (d : Bor (List ℕ)) → d.now ≡ [] → (unwrap_or r d).now ≡ or_none (option_map (λ t. t.now) r)
now_or (Some t) d e = refl
now_or None d e = e

text_or_none : (path : List Step) → or_none (text_in path) ≡ path_text path
text_or_none [] = refl
text_or_none (s ∷ steps) = refl

-- the last text, and none before the first step
pub last_shown : {X : Type 0} (f : X → List ℕ) (xs ys : List X) (path : List Step) (r : Option (Bor (List ℕ))) (d : Bor (List ℕ)) → d.now ≡ [] → xs ≡ ys
    → map f ys ≡ texts_from [] path → option_map (λ t. t.now) r ≡ slice_get (map f xs) (length xs - 1) → (unwrap_or r d).now ≡ path_text path
last_shown f xs ys path r d none e h l = now_or r d none ∙ ap or_none (last_is_that f xs ys path (option_map (λ t. t.now) r) e h l) ∙ text_or_none path

-- a step is known by its parts
pub step_is : (s t : Step) → s.name.class ≡ t.name.class → s.name.number ≡ t.name.number → s.index ≡ t.index → s ≡ t
step_is s t c n i =
    ap (λ x. record { name = record { class = x; number = s.name.number }; index = s.index }) c
    ∙ ap (λ x. record { name = record { class = t.name.class; number = x }; index = s.index }) n
    ∙ ap (λ x. record { name = t.name; index = x }) i
