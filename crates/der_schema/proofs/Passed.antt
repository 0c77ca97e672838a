-- What the steps of a namer do to the contents that are open.
use Rattle.std.proofs.Common.{Bool, true, ◌&&◌, drop, ◌≡◌, ℕ, ◌+◌, ◌<◌, Option, Some, List, [], ◌∷◌, ◌++◌, length, map, take, refl, sym, ◌∙◌, ap}
use Rattle.std.proofs.Common.{arith, length-append}
use Rattle.std.specs.List.{list_all, slice_get}
use Rattle.std.specs.Option.{option_map}
use Rattle.std.proofs.Math.Seq.{get_or-append_seam}
use Rattle.std.proofs.lemmas.List.{map-append, take-map, drop-map}
use Rattle.std.proofs.lemmas.Option.{slice_get-map, slice_get-get_or}
use Rattle.der_elements.specs.Visits.{Visited}
use Rattle.der_schema.specs.declared.level.Level.{Level}
use Rattle.der_schema.specs.declared.levels.Levels.{Levels}
use Rattle.der_schema.specs.declared.matching.Step.{Step}
use Rattle.der_schema.specs.declared.schema.Component.{Component}
use Rattle.der_schema.specs.Encodings.{all_seen, encoding_in, seen_in}
use Rattle.der_schema.specs.Ends.{level_ends, may_end, whole_at, whole_past, whole_by}
use Rattle.der_schema.specs.Levels.{states_in}
use Rattle.der_schema.specs.Meaning.{Encoding, Label, Passed, Root, State, expected_of, has_items, past, state_of}
use Rattle.der_schema.specs.Opened.{Seen, seen, opened_after, opened_at, opened_past, name_after, name_at, name_in, of_input, opened_by}
use Rattle.der_schema.specs.Steps.{items_at, label_by, passed_of}

level_at : (ts : List Component) (ls : List Level) (k : ℕ) (l : Level) → slice_get ls k ≡ Some l
    → slice_get (map (state_of ts) ls) k ≡ Some (state_of ts l)
level_at ts ls k l get = slice_get-map (state_of ts) ls k ∙ ap (option_map (state_of ts)) get

pub pass_name : (ts : List Component) (ls : List Level) (k : ℕ) (l : Level) (x : Encoding) (st : Step)
    → slice_get ls k ≡ Some l → passed_of ts (has_items (expected_of l.expected)) st ≡ past (state_of ts l) x
    → label_by (items_at (slice_get ls k)) st.called ≡ name_in (map (state_of ts) ls) (seen k x)
pass_name ts ls k l x st get step =
    ap (λ (o : Option Level). label_by (items_at o) st.called) get
    ∙ ap (λ (p : Passed). p.name) step ∙ sym (ap (λ (o : Option State). name_at o x) (level_at ts ls k l get))

pushed : (ts : List Component) (ls : List Level) (k : ℕ) (l m : Level) → map (state_of ts) (take k ls ++ l ∷ m ∷ [])
    ≡ take k (map (state_of ts) ls) ++ state_of ts l ∷ state_of ts m ∷ []
pushed ts ls k l m =
    map-append (state_of ts) (take k ls) (l ∷ m ∷ [])
    ∙ ap (λ (ss : List State). ss ++ state_of ts l ∷ state_of ts m ∷ []) (sym (take-map (state_of ts) k ls))

pub pass_opened : (ts : List Component) (ls ls' : List Level) (k : ℕ) (l : Level) (x : Encoding) (st : Step)
    → slice_get ls k ≡ Some l → passed_of ts (has_items (expected_of l.expected)) st ≡ past (state_of ts l) x
    → ls' ≡ take k ls ++ st.after ∷ st.inside ∷ []
    → map (state_of ts) ls' ≡ opened_past (map (state_of ts) ls) (seen k x)
pass_opened ts ls ls' k l x st get step put =
    ap (map (state_of ts)) put ∙ pushed ts ls k st.after st.inside
    ∙ ap (opened_after (map (state_of ts) ls) k) step
    ∙ sym (ap (λ (o : Option State). opened_at o (map (state_of ts) ls) (seen k x)) (level_at ts ls k l get))

pub opened_by-append : (ss : List State) (vs us : List Seen) → opened_by ss (vs ++ us) ≡ opened_by (opened_by ss vs) us
opened_by-append ss [] us = refl
opened_by-append ss (v ∷ vs) us = opened_by-append (opened_past ss v) vs us

pub slice_get_seam : {A : Type 0} (xs : List A) (y : A) (ys : List A) → slice_get (xs ++ y ∷ ys) (length xs) ≡ Some y
slice_get_seam {A} xs y ys =
    let within : length xs < length (xs ++ y ∷ ys) = simp length-append (omega arith) in
    slice_get-get_or (xs ++ y ∷ ys) (length xs) y within ∙ ap Some (get_or-append_seam xs y ys y)

pub whole_by-append : (ok : Bool) (ss : List State) (vs us : List Seen)
    → whole_by ok ss (vs ++ us) ≡ whole_by (whole_by ok ss vs) (opened_by ss vs) us
whole_by-append ok ss [] us = refl
whole_by-append ok ss (v ∷ vs) us = whole_by-append (whole_past ok ss v) (opened_past ss v) vs us

-- the contents of a namer may end as those of their states
pub all_end : (ts : List Component) (ls : List Level) → list_all level_ends ls ≡ list_all may_end (map (state_of ts) ls)
all_end ts [] = refl
all_end ts (l ∷ ls) = ap (λ (b : Bool). level_ends l && b) (all_end ts ls)

pub pass_whole : (ts : List Component) (ls : List Level) (k : ℕ) (l : Level) (x : Encoding) (ok : Bool)
    → slice_get ls k ≡ Some l
    → (ok && list_all level_ends (drop (k + 1) ls)) ≡ whole_past ok (map (state_of ts) ls) (seen k x)
pass_whole ts ls k l x ok get =
    ap (λ (b : Bool). ok && b) (all_end ts (drop (k + 1) ls))
    ∙ ap (λ (ss : List State). ok && list_all may_end ss) (sym (drop-map (state_of ts) (k + 1) ls))
    ∙ sym (ap (λ (o : Option State). whole_at o ok (map (state_of ts) ls) k) (level_at ts ls k l get))

-- after one more element that is visited, with its name
pub record Next (sc : Root) (i : List ℕ) (vs : List Visited) (v : Visited) (levels : Levels) (said : Option Label)
    : Type 0 where
  pub opened : states_in sc.types levels ≡ opened_by (of_input sc ∷ []) (all_seen i (vs ++ v ∷ []))
  pub whole : levels.whole ≡ whole_by true (of_input sc ∷ []) (all_seen i (vs ++ v ∷ []))
  pub name : said ≡ name_after sc (all_seen i vs) (seen_in i v)

pub named_next : (sc : Root) (i j : List ℕ) (vs : List Visited) (v : Visited) (ts : List Component) (old new : Levels)
    (x : Encoding) (name : Option Label) → ts ≡ sc.types → j ≡ i → x ≡ encoding_in j v
    → states_in sc.types old ≡ opened_by (of_input sc ∷ []) (all_seen i vs)
    → old.whole ≡ whole_by true (of_input sc ∷ []) (all_seen i vs)
    → states_in ts new ≡ opened_past (states_in ts old) (seen v.depth x)
    → new.whole ≡ whole_past old.whole (states_in ts old) (seen v.depth x)
    → name ≡ name_in (states_in ts old) (seen v.depth x) → Next sc i vs v new name
named_next sc i j vs v ts old new x name et ej ex opened whole opens wholes named =
    let start = of_input sc ∷ [] in
    let us = all_seen i vs in
    let u = seen_in i v in
    let seen_same : seen v.depth x ≡ u =
    ap (λ (y : Encoding). seen v.depth y) (ex ∙ ap (λ (l : List ℕ). encoding_in l v) ej) in
    let states : states_in ts old ≡ opened_by start us = ap (λ (t : List Component). states_in t old) et ∙ opened in
    let more : us ++ u ∷ [] ≡ all_seen i (vs ++ v ∷ []) = sym (map-append (seen_in i) vs (v ∷ [])) in
    record {
      opened = ap (λ (t : List Component). states_in t new) (sym et) ∙ opens
          ∙ ap (λ (ss : List State). opened_past ss (seen v.depth x)) states
          ∙ ap (opened_past (opened_by start us)) seen_same
          ∙ sym (opened_by-append start us (u ∷ [])) ∙ ap (opened_by start) more;
      whole = wholes ∙ ap (λ (ss : List State). whole_past old.whole ss (seen v.depth x)) states
          ∙ ap (whole_past old.whole (opened_by start us)) seen_same
          ∙ ap (λ (ok : Bool). whole_past ok (opened_by start us) u) whole
          ∙ sym (whole_by-append true start us (u ∷ [])) ∙ ap (whole_by true start) more;
      name = named ∙ ap (λ (ss : List State). name_in ss (seen v.depth x)) states
          ∙ ap (name_in (opened_by start us)) seen_same;
    }
