-- A namer names the elements of a tree, in preorder.
use Rattle.std.proofs.Common.{Bool, true, false, ◌&&◌, drop, ◌≡◌, ℕ, ◌+◌, suc, Option, List, [], ◌∷◌, ◌++◌, length, refl, sym, ◌∙◌, ap}
use Rattle.std.proofs.Common.{arith, length-append, append_assoc}
use Rattle.std.specs.List.{list_all, slice_get}
use Rattle.std.proofs.Math.Seq.{drop-append-add, take-append_seam}
use Rattle.der_schema.specs.Meaning.{Encoding, Label, Root, State, past}
use Rattle.der_schema.specs.Opened.{Forest, no_elements, one_more, names, of_input, Seen, seen, preorder}
use Rattle.der_schema.specs.Opened.{opened_at, opened_past, name_at, name_in, opened_by, NamesInPreorder}
use Rattle.der_schema.specs.Ends.{may_end, is_whole, whole_at, whole_past, whole_by, WholeInPreorder}
use Rattle.der_schema.proofs.Passed.{opened_by-append, slice_get_seam, whole_by-append}

-- the names of elements, one after another
abbrev pub names_by : List State → List Seen → List (Option Label)
names_by ss [] = []
names_by ss (v ∷ vs) = name_in ss v ∷ names_by (opened_past ss v) vs

pub names_by-append : (ss : List State) (vs us : List Seen)
    → names_by ss (vs ++ us) ≡ names_by ss vs ++ names_by (opened_by ss vs) us
names_by-append ss [] us = refl
names_by-append ss (v ∷ vs) us = ap (λ ns. name_in ss v ∷ ns) (names_by-append (opened_past ss v) vs us)

length-names_by : (ss : List State) (vs : List Seen) → length (names_by ss vs) ≡ length vs
length-names_by ss [] = refl
length-names_by ss (v ∷ vs) = ap suc (length-names_by (opened_past ss v) vs)

name_here : (outer : List State) (s : State) (inner : List State) (x : Encoding)
    → name_in (outer ++ s ∷ inner) (seen (length outer) x) ≡ (past s x).name
name_here outer s inner x = ap (λ (o : Option State). name_at o x) (slice_get_seam outer s inner)

opened_here : (outer : List State) (s : State) (inner : List State) (x : Encoding)
    → opened_past (outer ++ s ∷ inner) (seen (length outer) x)
    ≡ outer ++ (past s x).after ∷ (past s x).inside ∷ []
opened_here outer s inner x =
    ap (λ (o : Option State). opened_at o (outer ++ s ∷ inner) (seen (length outer) x)) (slice_get_seam outer s inner)
    ∙ ap (λ (o : List State). o ++ (past s x).after ∷ (past s x).inside ∷ []) (take-append_seam outer (s ∷ inner))

and_true : (a : Bool) → (a && true) ≡ a
and_true true = refl
and_true false = refl

and_assoc : (a b c : Bool) → ((a && b) && c) ≡ (a && (b && c))
and_assoc true b c = refl
and_assoc false b c = refl

and_swap : (a b c : Bool) → (a && (b && c)) ≡ ((a && c) && b)
and_swap false b c = refl
and_swap true true true = refl
and_swap true true false = refl
and_swap true false true = refl
and_swap true false false = refl

drop_past : (outer : List State) (s : State) (inner : List State)
    → drop (length outer + 1) (outer ++ s ∷ inner) ≡ inner
drop_past outer s inner = drop-append-add outer (s ∷ inner) 1

whole_here : (ok : Bool) (outer : List State) (s : State) (inner : List State) (x : Encoding)
    → whole_past ok (outer ++ s ∷ inner) (seen (length outer) x) ≡ (ok && list_all may_end inner)
whole_here ok outer s inner x =
    ap (λ (o : Option State). whole_at o ok (outer ++ s ∷ inner) (length outer)) (slice_get_seam outer s inner)
    ∙ ap (λ (w : List State). ok && list_all may_end w) (drop_past outer s inner)

-- After a content, only what is expected in it has changed, and what is open inside it.
record Goes (outer : List State) (s : State) (inner : List State) (f : Forest) : Type 0 where
  s' : State
  inner' : List State
  opened : opened_by (outer ++ s ∷ inner) (preorder (length outer) f) ≡ outer ++ s' ∷ inner'
  named : names_by (outer ++ s ∷ inner) (preorder (length outer) f) ≡ names s f
  whole : (ok : Bool) → (whole_by ok (outer ++ s ∷ inner) (preorder (length outer) f)
      && list_all may_end (s' ∷ inner')) ≡ ((ok && list_all may_end inner) && is_whole s f)

-- the same inside an element
record GoesInside (outer : List State) (s t : State) (f : Forest) : Type 0 where
  t' : State
  inner' : List State
  opened : opened_by (outer ++ s ∷ t ∷ []) (preorder (suc (length outer)) f) ≡ outer ++ s ∷ t' ∷ inner'
  named : names_by (outer ++ s ∷ t ∷ []) (preorder (suc (length outer)) f) ≡ names t f
  whole : (ok : Bool) → (whole_by ok (outer ++ s ∷ t ∷ []) (preorder (suc (length outer)) f)
      && list_all may_end (t' ∷ inner')) ≡ (ok && is_whole t f)

one_deeper : (outer : List State) (s : State) → length (outer ++ s ∷ []) ≡ suc (length outer)
one_deeper outer s = simp length-append (omega arith)

inside_of : (outer : List State) (s t : State) (f : Forest) → Goes (outer ++ s ∷ []) t [] f → GoesInside outer s t f
inside_of outer s t f g = record {
  t' = g.s';
  inner' = g.inner';
  opened = ap (λ (w : List State). opened_by w (preorder (suc (length outer)) f)) (sym (append_assoc outer (s ∷ []) (t ∷ [])))
      ∙ ap (λ (n : ℕ). opened_by ((outer ++ s ∷ []) ++ t ∷ []) (preorder n f)) (sym (one_deeper outer s))
      ∙ g.opened ∙ append_assoc outer (s ∷ []) (g.s' ∷ g.inner');
  named = ap (λ (w : List State). names_by w (preorder (suc (length outer)) f)) (sym (append_assoc outer (s ∷ []) (t ∷ [])))
      ∙ ap (λ (n : ℕ). names_by ((outer ++ s ∷ []) ++ t ∷ []) (preorder n f)) (sym (one_deeper outer s))
      ∙ g.named;
  whole = λ ok.
      ap (λ (w : List State). whole_by ok w (preorder (suc (length outer)) f) && list_all may_end (g.s' ∷ g.inner'))
      (sym (append_assoc outer (s ∷ []) (t ∷ [])))
      ∙ ap (λ (n : ℕ). whole_by ok ((outer ++ s ∷ []) ++ t ∷ []) (preorder n f) && list_all may_end (g.s' ∷ g.inner'))
      (sym (one_deeper outer s))
      ∙ g.whole ok ∙ ap (λ (b : Bool). b && is_whole t f) (and_true ok);
}

one_goes : (outer : List State) (s : State) (inner : List State) (x : Encoding) (inside after : Forest)
    → (i : GoesInside outer (past s x).after (past s x).inside inside)
    → Goes outer (past s x).after (i.t' ∷ i.inner') after → Goes outer s inner (one_more x inside after)
one_goes outer s inner x inside after i a =
    let ss = outer ++ s ∷ inner in
    let next = outer ++ (past s x).after ∷ (past s x).inside ∷ [] in
    let us = preorder (suc (length outer)) inside in
    let ws = preorder (length outer) after in
    let begin : opened_past ss (seen (length outer) x) ≡ next = opened_here outer s inner x in
    record {
      s' = a.s';
      inner' = a.inner';
      opened = ap (λ (w : List State). opened_by w (us ++ ws)) begin ∙ opened_by-append next us ws
          ∙ ap (λ (w : List State). opened_by w ws) i.opened ∙ a.opened;
      named = ap (λ (n : Option Label). n ∷ names_by (opened_past ss (seen (length outer) x)) (us ++ ws))
          (name_here outer s inner x)
          ∙ ap (λ (ns : List (Option Label)). (past s x).name ∷ ns)
          (ap (λ (w : List State). names_by w (us ++ ws)) begin ∙ names_by-append next us ws
          ∙ ap (λ (ns : List (Option Label)). ns ++ names_by (opened_by next us) ws) i.named
          ∙ ap (λ (w : List State). names (past s x).inside inside ++ names_by w ws) i.opened
          ∙ ap (λ (ns : List (Option Label)). names (past s x).inside inside ++ ns) a.named);
      whole = λ ok.
          let ok' : Bool = ok && list_all may_end inner in
          let v = seen (length outer) x in
          let ends = list_all may_end (a.s' ∷ a.inner') in
          ap (λ (b : Bool). whole_by b (opened_past ss v) (us ++ ws) && ends) (whole_here ok outer s inner x)
          ∙ ap (λ (w : List State). whole_by ok' w (us ++ ws) && ends) begin
          ∙ ap (λ (b : Bool). b && ends) (whole_by-append ok' next us ws)
          ∙ ap (λ (w : List State). whole_by (whole_by ok' next us) w ws && ends) i.opened
          ∙ a.whole (whole_by ok' next us)
          ∙ ap (λ (b : Bool). b && is_whole (past s x).after after) (i.whole ok')
          ∙ and_assoc ok' (is_whole (past s x).inside inside) (is_whole (past s x).after after);
    }

goes : (outer : List State) (s : State) (inner : List State) (f : Forest) → Goes outer s inner f
goes outer s inner no_elements = record {
  s' = s;
  inner' = inner;
  opened = refl;
  named = refl;
  whole = λ ok. and_swap ok (may_end s) (list_all may_end inner);
}
goes outer s inner (one_more x inside after) =
    let i = inside_of outer (past s x).after (past s x).inside inside
    (goes (outer ++ (past s x).after ∷ []) (past s x).inside [] inside) in
    one_goes outer s inner x inside after i (goes outer (past s x).after (i.t' ∷ i.inner') after)

pub names_in_preorder : NamesInPreorder
names_in_preorder sc f vs us v e =
    let start = of_input sc ∷ [] in
    let rest = names_by (opened_past (opened_by start vs) v) us in
    let whole : names (of_input sc) f ≡ names_by start vs ++ name_in (opened_by start vs) v ∷ rest =
    sym (goes [] (of_input sc) [] f).named ∙ ap (names_by start) e ∙ names_by-append start vs (v ∷ us) in
    ap (λ (ns : List (Option Label)). slice_get ns (length vs)) whole
    ∙ ap (λ (n : ℕ). slice_get (names_by start vs ++ name_in (opened_by start vs) v ∷ rest) n)
    (sym (length-names_by start vs))
    ∙ slice_get_seam (names_by start vs) (name_in (opened_by start vs) v) rest

pub whole_in_preorder : WholeInPreorder
whole_in_preorder sc f =
    let g = goes [] (of_input sc) [] f in
    ap (λ (w : List State). whole_by true (of_input sc ∷ []) (preorder 0 f) && list_all may_end w) g.opened
    ∙ g.whole true

-- the names of a tree, one after another
pub names_of_tree : (sc : Root) (f : Forest) → names_by (of_input sc ∷ []) (preorder 0 f) ≡ names (of_input sc) f
names_of_tree sc f = (goes [] (of_input sc) [] f).named
