-- The words that are inside of a line, and those after it.
use Rattle.std.proofs.Common.{◌≡◌, ℕ, suc, ◌+◌, ◌<◌, true, false, cond, List, [], ◌∷◌, ◌++◌, drop, take, map, refl, sym, ap, ◌∙◌, arith}
use Rattle.std.specs.Prelude.{nat_lt}
use Rattle.std.specs.List.{prefix_len, take_while}
use Rattle.std.proofs.lemmas.Bool.Decides.{nat_tests}
use Rattle.std.proofs.lemmas.List.{append_assoc, map-append}
use Rattle.serde_json.specs.Data.{Data}
use Rattle.serde_json.specs.declared.value.Value.{Value}
use Rattle.serde_json.specs.View.{view}
use Rattle.text_json.specs.declared.shown.line.Line.{Line as Made}
use Rattle.text_json.specs.declared.shown.words.Word.{Word}
use Rattle.text_json.specs.Shown.Lines.{Line, Placed, is_deeper}
use Rattle.text_json.specs.Shown.Words.{IsFirstBeside, line_view, placed_of}

abbrev pub inside : ℕ → List Word → List Data
inside n ws = map (λ w. w.word) (take_while (is_deeper n) (map placed_of ws))

abbrev pub after : ℕ → List Word → List Placed
after n ws = drop (prefix_len (is_deeper n) (map placed_of ws)) (map placed_of ws)

one_more : (i : ℕ) → 1 + i ≡ suc i
one_more i = omega arith

more : (n : ℕ) (w : Word) (ws : List Word) → n < w.indent → prefix_len (is_deeper n) (map placed_of (w ∷ ws)) ≡ suc (prefix_len (is_deeper n) (map placed_of ws))
more n w ws deeper =
    let t : nat_lt n w.indent ≡ true = grind (arith, nat_tests) in
    ap (λ b. cond b (1 + prefix_len (is_deeper n) (map placed_of ws)) 0) t ∙ one_more (prefix_len (is_deeper n) (map placed_of ws))

none : (n : ℕ) (ws : List Word) → IsFirstBeside n ws → prefix_len (is_deeper n) (map placed_of ws) ≡ 0
none n [] beside = refl
none n (w ∷ ws) beside =
    let t : nat_lt n w.indent ≡ false = grind (arith, nat_tests) in
    ap (λ b. cond b (1 + prefix_len (is_deeper n) (map placed_of ws)) 0) t

pub inside_more : (n : ℕ) (w : Word) (ws : List Word) → n < w.indent → inside n (w ∷ ws) ≡ view w.value ∷ inside n ws
inside_more n w ws deeper = ap (λ k. map (λ x. x.word) (take k (map placed_of (w ∷ ws)))) (more n w ws deeper)

pub inside_none : (n : ℕ) (ws : List Word) → IsFirstBeside n ws → inside n ws ≡ []
inside_none n ws beside = ap (λ k. map (λ x. x.word) (take k (map placed_of ws))) (none n ws beside)

pub after_more : (n : ℕ) (w : Word) (ws : List Word) → n < w.indent → after n (w ∷ ws) ≡ after n ws
after_more n w ws deeper = ap (λ k. drop k (map placed_of (w ∷ ws))) (more n w ws deeper)

pub after_none : (n : ℕ) (ws : List Word) → IsFirstBeside n ws → after n ws ≡ map placed_of ws
after_none n ws beside = ap (λ k. drop k (map placed_of ws)) (none n ws beside)

-- one more is taken
pub moved : (taken new : List Value) (v : Value) (old ws all : List Data) → new ≡ taken ++ v ∷ [] → old ≡ view v ∷ ws → map view taken ++ old ≡ all
    → map view new ++ ws ≡ all
moved taken new v old ws all n o h =
    ap (λ l. map view l ++ ws) n ∙ ap (λ l. l ++ ws) (map-append view taken (v ∷ [])) ∙ append_assoc (map view taken) (view v ∷ []) ws
    ∙ ap (λ l. map view taken ++ l) (sym o) ∙ h

-- one more line is done
pub line_done : (old new : List Made) (line : Made) (done all : List Line) → old ≡ new ++ line ∷ [] → map line_view old ++ done ≡ all
    → map line_view new ++ line_view line ∷ done ≡ all
line_done old new line done all n h =
    sym (append_assoc (map line_view new) (line_view line ∷ []) done) ∙ ap (λ l. l ++ done) (sym (map-append line_view new (line ∷ [])))
    ∙ ap (λ l. map line_view l ++ done) (sym n) ∙ h
