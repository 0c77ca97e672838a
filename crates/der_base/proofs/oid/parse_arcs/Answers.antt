use Rattle.std.proofs.Common.{◌≡◌, ℕ, zero, suc, ◌<◌, ◌&&◌, if◌then◌else◌, Bool, true, false, List, [], ◌∷◌, length, map, get_or, refl, sym, ap, ◌∙◌, inr, arith, rules, lit<}
use Rattle.std.specs.Prelude.{IsTrue, Some, None}
use Rattle.std.specs.List.{list_all}
use Rattle.std.specs.Str.Parse.{digits_value}
use Rattle.std.proofs.lemmas.Iterator.Consumers.{YieldsList-turn, YieldsList-end}
use Rattle.std.proofs.lemmas.Iterator.Splits.{YieldsList-from_str_split}
use Rattle.der_base.specs.OidArcs.{components, is_arc, dotted_arcs}
use Rattle.der_base.proofs.oid.parse_arcs.Goals as goal

map_map : {A : Type 0} (f : List ℕ → ℕ) (view : A → List ℕ) (xs : List A) → map f (map view xs) ≡ map (λ x. f (view x)) xs
map_map f view [] = refl
map_map f view (x ∷ xs) = ap (λ l. f (view x) ∷ l) (map_map f view xs)

all_map : {A : Type 0} (test : List ℕ → Bool) (view : A → List ℕ) (xs : List A) → list_all test (map view xs) ≡ list_all (λ x. test (view x)) xs
all_map test view [] = refl
all_map test view (x ∷ xs) = ap (λ b. test (view x) && b) (all_map test view xs)

written : {A : Type 0} (view : A → List ℕ) (xs : List A) (text arcs : _) → map view xs ≡ components text
    → list_all (λ x. is_arc (view x)) xs ≡ true → arcs ≡ map (λ x. digits_value 10 (view x)) xs → dotted_arcs text ≡ Some arcs
written view xs text arcs e all numbers =
    ap (λ cs. if list_all is_arc cs then Some (map (digits_value 10) cs) else None) (sym e)
    ∙ ap (λ b. if b then Some (map (digits_value 10) (map view xs)) else None) (all_map is_arc view xs ∙ all)
    ∙ ap Some (map_map (digits_value 10) view xs ∙ sym numbers)

false_and : (b : Bool) → (b && false) ≡ false
false_and true = refl
false_and false = refl

one_fails : (xs : List (List ℕ)) (i : ℕ) (d : List ℕ) → i < length xs → is_arc (get_or xs i d) ≡ false → list_all is_arc xs ≡ false
one_fails [] i d h e = absurd (omega arith)
one_fails (x ∷ xs) zero d h e = ap (λ b. b && list_all is_arc xs) e
one_fails (x ∷ xs) (suc i) d h e = ap (λ b. is_arc x && b) (one_fails xs i d (omega arith) e) ∙ false_and (is_arc x)

not_true : (b : Bool) → ¬ (b ≡ true) → b ≡ false
not_true true h = absurd (h refl)
not_true false h = refl

refused : (text component : List ℕ) (i : ℕ) → (i < length (components text)) × (component ≡ get_or (components text) i component) → ¬ (IsTrue (is_arc component)) → dotted_arcs text ≡ None
refused text component i h fault =
    ap (λ b. if b then Some (map (digits_value 10) (components text)) else None)
    (one_fails (components text) i component h.0 (ap is_arc (sym h.1) ∙ not_true (is_arc component) fault))

pub returns-in_default : goal.returns-in_default
returns-in_default c =
    let turn = YieldsList-turn (YieldsList-from_str_split {s = c.into_iter-component-iterator.result} 46 c.args.text.now (lit< tt) (search rules) (search rules) (search rules))
    c.loop-component.yielded _ c.loop-component.yielded_by _ _ c.in-Some.component c.in-Some.is c.next.ensures.steps in
    inr (refl, refused c.args.text.now c.in-Some.component.now (length c.loop-component.yielded) turn c.in_default.ensures)

pub returns : goal.returns
returns c =
    let all = YieldsList-end (YieldsList-from_str_split {s = c.into_iter-component-iterator.result} 46 c.args.text.now (lit< tt) (search rules) (search rules) (search rules))
    c.loop-component.yielded _ c.loop-component.yielded_by _ _ c.in-None.is c.next.ensures.steps in
    written (λ x. x.now) c.loop-component.yielded c.args.text.now c.loop-component.arcs.items all.0 c.loop-component.invariant.all c.loop-component.invariant.numbers
