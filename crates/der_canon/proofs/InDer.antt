-- What is written is the elements bs DER writes them.
use Rattle.std.proofs.Common.{◌≡◌, ℕ, suc, ◌+◌, ◌<◌, ◌≤◌, Bool, true, false, not, Option, Some, None, List, [], ◌∷◌, ◌++◌, length, drop, refl, sym, ap, subst, ◌∙◌, inl, inr, arith, append_assoc}
use Rattle.std.specs.Prelude.{if◌then◌else◌}
use Rattle.std.proofs.lemmas.Bool.{and_parts, cases_Bool, lt-ltb, ltb-true}
use Rattle.std.proofs.lemmas.List.{append-nil}
use Rattle.der_base.specs.declared.header.Class.{Class}
use Rattle.der_base.specs.declared.rules.Rules.TheVariants.{Ber, Der}
use Rattle.der_base.specs.declared.header.Class.TheVariants.{Universal}
use Rattle.der_contents.specs.ContentRules.{IsContent}
use Rattle.der_base.specs.Encoding.{element}
use Rattle.der_base.specs.Octets.{identifier, shortest_length}
use Rattle.der_base.specs.Spelling.{end_marker}
use Rattle.der_elements.specs.Check.Elements.{MayBeConstructed, MayHaveContent}
use Rattle.der_elements.specs.Visits.{Visited, Visits, VisitsOne, visited, none, one_more, primitive, broken, string, constructed, indefinite}
use Rattle.der_elements.proofs.Between.{between_front, drop_front}
use Rattle.der_canon.specs.Contents.{AreWritten, Completes, Contents, KeepsIn, KeepsString, Writes, WritesAll, no_contents, sized, start_of, with_part_of, stay, close}
use Rattle.der_canon.specs.Contents.{part as writes_part, primitive as writes_primitive, constructed as writes_constructed}
use Rattle.der_canon.specs.Same.{AreInDer, AreJoined, IsConstructed, IsInDer, IsPartJoined, content_of, is_in_parts, is_part, is_string, is_string_of, no_extras, parts_of, string_start, with_part}
use Rattle.der_canon.specs.Same.{no_parts, one_more_part, primitive_part, constructed_part}
use Rattle.der_canon.specs.Same.{none as no_elements, one_more as one_more_element, primitive as primitive_in, constructed as constructed_in, string as string_in}
use Rattle.der_canon.specs.Values.{content_in_der, is_universal, value_in_der}
use Rattle.der_canon.proofs.Completions.{onward, splits, stays, through}
use Rattle.der_canon.proofs.Growth.{completes_within, kept_all}

differ : {A : Type 0} → true ≡ false → A
differ e = absurd (cc)

-- what is k deep is no part of the string
abbrev IsOutside : ℕ → Option ℕ → Type 0
IsOutside k None = Unit {0}
IsOutside k (Some n) = k ≤ n

wider : (k : ℕ) (s : Option ℕ) → IsOutside (suc k) s → IsOutside k s
wider k None h = tt
wider k (Some n) h = omega (arith, h)

never_part : (s : Option ℕ) (v : Visited) → IsOutside v.depth s → is_part s v ≡ true → ⊥
never_part None v out h = differ (sym h)
never_part (Some n) v out h = absurd (omega (arith, out, ltb-true n v.depth h))

always_part : (n : ℕ) (s : Option ℕ) (v : Visited) → s ≡ Some n → n < v.depth → is_part s v ≡ false → ⊥
always_part n s v e l h = differ (sym (lt-ltb n v.depth l) ∙ subst (λ z. is_part z v ≡ false) e h)

-- a part of a string
part_of : (i : List ℕ) (n : ℕ) (s : Contents) (v : Visited) (m : Contents) → s.string ≡ Some n → n < v.depth → Writes KeepsString i s v m
    → (m.string ≡ s.string) × (m.around ≡ s.around) × (m.here ≡ with_part_of v.constructed v.number (content_of i v) s.here)
    × (m.number ≡ s.number)
part_of i n s v m e l (writes_part inner a b c number) = (a, b, c, number)
part_of i n s v m e l (writes_primitive g free a comp con here form kept) = absurd (always_part n s.string v e l free)
part_of i n s v m e l (writes_constructed gs g free a comp con around here number kept) = absurd (always_part n s.string v e l free)

-- another element, whose content is in the innermost one that goes on
primitive_of : (i : List ℕ) (s : Contents) (v : Visited) (m : Contents) (xs : List (List ℕ)) (x : List ℕ) → IsOutside v.depth s.string → v.constructed ≡ false
    → length xs ≡ v.depth → Completes v.depth s.around s.here xs x → Writes KeepsString i s v m
    → (m.string ≡ parts_of v) × (m.around ≡ xs) × (m.here ≡ x ++ element v.class false v.number (value_in_der v.class v.number (content_of i v)))
    × (v.class ≡ Universal → IsContent Der v.number (content_in_der v.number (content_of i v)))
primitive_of i s v m xs x out plain len done (writes_part inner a b c n) = absurd (never_part s.string v out inner)
primitive_of i s v m xs x out plain len done (writes_constructed gs g free a comp con around here number kept) = differ (sym con ∙ plain)
primitive_of i s v m xs x out plain len done (writes_primitive g free a comp con here form kept) =
    let same = stays v.depth xs m.around x g (omega (arith, len)) (through v.depth v.depth s.around xs m.around s.here x g (omega arith) done comp) in
    (a, same.0, here ∙ ap (λ z. z ++ element v.class false v.number (value_in_der v.class v.number (content_of i v))) same.1, form)

constructed_of : (i : List ℕ) (s : Contents) (v : Visited) (m : Contents) (xs : List (List ℕ)) (x : List ℕ) → IsOutside v.depth s.string → v.constructed ≡ true
    → length xs ≡ v.depth → Completes v.depth s.around s.here xs x → Writes KeepsString i s v m
    → (m.string ≡ parts_of v) × (m.around ≡ (x ++ identifier v.class (not (is_in_parts v)) v.number) ∷ xs) × (m.here ≡ start_of v) × (m.number ≡ v.number)
constructed_of i s v m xs x out is len done (writes_part inner a b c n) = absurd (never_part s.string v out inner)
constructed_of i s v m xs x out is len done (writes_primitive g free a comp con here form kept) = differ (sym is ∙ con)
constructed_of i s v m xs x out is len done (writes_constructed gs g free a comp con around here number kept) =
    let same = stays v.depth xs gs x g (omega (arith, len)) (through v.depth v.depth s.around xs gs s.here x g (omega arith) done comp) in
    (a, around ∙ ap (λ z. (z ++ identifier v.class (not (is_in_parts v)) v.number) ∷ gs) same.1 ∙ ap (λ zs. (x ++ identifier v.class (not (is_in_parts v)) v.number) ∷ zs) same.0, here, number)

-- the parts b were written
abbrev HasJoined : List ℕ → Contents → Contents → Type 0
HasJoined b s t = (t.string ≡ s.string) × (t.around ≡ s.around) × AreJoined b s.here t.here × (t.number ≡ s.number)

abbrev HasPart : List ℕ → Contents → Contents → Type 0
HasPart b s t = (t.string ≡ s.string) × (t.around ≡ s.around) × IsPartJoined b s.here t.here × (t.number ≡ s.number)

-- where the octets of an element are in the input, so is its content
inner : (i r : List ℕ) (a : ℕ) (b h w : List ℕ) → drop a i ≡ b ++ r → b ≡ h ++ w → drop (a + length h) i ≡ w ++ r
inner i r a b h w at e = drop_front i a h (w ++ r) (at ∙ ap (λ z. z ++ r) e ∙ append_assoc h w r)

inner_marked : (i r : List ℕ) (a : ℕ) (b h w : List ℕ) → drop a i ≡ b ++ r → b ≡ h ++ w ++ end_marker → drop (a + length h) i ≡ w ++ (end_marker ++ r)
inner_marked i r a b h w at e = drop_front i a h (w ++ (end_marker ++ r)) (at ∙ ap (λ z. z ++ r) e ∙ append_assoc (h ++ w) end_marker r ∙ append_assoc h w (end_marker ++ r))

mutual
  parts : {d k a : ℕ} {b : List ℕ} {vs : List Visited} (i r : List ℕ) (n : ℕ) (s t : Contents) → Visits no_extras Ber d k a b vs → drop a i ≡ b ++ r → n < k
      → s.string ≡ Some n → WritesAll KeepsString i s vs t → HasJoined b s t
  parts i r n s t none at l e h =
      (ap (λ (c : Contents). c.string) (sym h), ap (λ (c : Contents). c.around) (sym h), no_parts refl (ap (λ (c : Contents). c.here) (sym h)), ap (λ (c : Contents). c.number) (sym h))
  parts {a = a} i r n s t (one_more b rest us ws ei ev is more) at l e h =
      let q = splits KeepsString i s us ws t (subst (λ vs. WritesAll KeepsString i s vs t) ev h) in
      let here = at ∙ ap (λ z. z ++ r) ei ∙ append_assoc b rest r in
      let first = part_one i (rest ++ r) n s q.0 is here l e q.1 in
      let others = parts i r n q.0 t more (drop_front i a b (rest ++ r) here) l (first.0 ∙ e) q.2 in
      (others.0 ∙ first.0, others.1 ∙ first.1, one_more_part b rest q.0.here ei first.2 others.2, others.3 ∙ first.3)

  part_one : {d k a : ℕ} {b : List ℕ} {vs : List Visited} (i r : List ℕ) (n : ℕ) (s t : Contents) → VisitsOne no_extras Ber d k a b vs → drop a i ≡ b ++ r → n < k
      → s.string ≡ Some n → WritesAll KeepsString i s vs t → HasPart b s t
  part_one {k = k} {a = a} {b = b} i r n s t (primitive c u h w is eb may out ev) at l e all =
      let v = visited a k c false u h (Some (length w)) in
      let q = subst (λ vs. WritesAll KeepsString i s vs t) ev all in
      let p = part_of i n s v q.0 e l q.1 in
      let content : content_of i v ≡ w = between_front i (a + length h) w r (inner i r a b h w at eb) in
      subst (λ (m : Contents). HasPart b s m) q.2 (p.0, p.1, primitive_part c u h w is eb (p.2 ∙ ap (λ z. with_part u z s.here) content), p.3)
  part_one i r n s t (broken u h w is eb keeps er it never ev) at l e all = absurd (cc)
  part_one i r n s t (string m u h w x y us is eb value enters holds first vis ev) at l e all = absurd (cc)
  part_one {k = k} {a = a} {b = b} i r n s t (constructed c u h w us is eb may vis ev) at l e all =
      let q = subst (λ vs. WritesAll KeepsString i s vs t) ev all in
      let p = part_of i n s (visited a k c true u h (Some (length w))) q.0 e l q.1 in
      let more = parts i r n q.0 t vis (inner i r a b h w at eb) (omega (arith, l)) (p.0 ∙ e) q.2 in
      (more.0 ∙ p.0, more.1 ∙ p.1, constructed_part c u w (h, inl (is, eb)) (subst (λ z. AreJoined w z t.here) p.2 more.2), more.3 ∙ p.3)
  part_one {k = k} {a = a} {b = b} i r n s t (indefinite c u h w us is eb may vis ev) at l e all =
      let q = subst (λ vs. WritesAll KeepsString i s vs t) ev all in
      let p = part_of i n s (visited a k c true u h None) q.0 e l q.1 in
      let more = parts i (end_marker ++ r) n q.0 t vis (inner_marked i r a b h w at eb) (omega (arith, l)) (p.0 ∙ e) q.2 in
      (more.0 ∙ p.0, more.1 ∙ p.1, constructed_part c u w (h, inr (is, eb)) (subst (λ z. AreJoined w z t.here) p.2 more.2), more.3 ∙ p.3)

-- After the elements b the contents up to depth k are xs and x, with what is written for b.
abbrev HasForms : ℕ → ℕ → List ℕ → List (List ℕ) → List ℕ → Contents → Type 0
HasForms d k b xs x t = (o : List ℕ) × (KeepsString t → AreInDer d b o) × Completes k t.around t.here xs (x ++ o) × IsOutside k t.string

abbrev HasForm : ℕ → ℕ → List ℕ → List (List ℕ) → List ℕ → Contents → Type 0
HasForm d k b xs x t = (o : List ℕ) × (KeepsString t → IsInDer d b o) × Completes k t.around t.here xs (x ++ o) × IsOutside k t.string

-- a content that ends is that of an element
ends : (k : ℕ) (bs : List (List ℕ)) (c : Class) (p : Bool) (u : ℕ) (xs : List (List ℕ)) (x o : List ℕ) → length xs ≡ k → bs ≡ (x ++ identifier c p u) ∷ xs
    → Completes k bs o xs (x ++ element c p u o)
ends k bs c p u xs x o len e =
    close (x ++ identifier c p u) xs e (omega (arith, len))
    (stay (omega (arith, len)) refl (ap (λ z. x ++ z) (append_assoc (identifier c p u) (shortest_length (length o)) o) ∙ sym (append_assoc x (identifier c p u) (sized o))))

-- a constructed element that is no string, after its content
as_element : (d k : ℕ) (b : List ℕ) (c : Class) (u : ℕ) (w : List ℕ) (xs : List (List ℕ)) (x : List ℕ) (t : Contents) → length xs ≡ k → IsConstructed c u b w → MayBeConstructed Ber c u
    → is_string_of c u ≡ false → HasForms d (suc k) w ((x ++ identifier c true u) ∷ xs) [] t → HasForm (suc d) k b xs x t
as_element d k b c u w xs x t len is may plain (o, form, comp, out) = (
  element c true u o,
  λ keeps. constructed_in c u w o is may plain (form keeps) refl,
  onward k (suc k) t.around ((x ++ identifier c true u) ∷ xs) xs t.here o (x ++ element c true u o) (omega arith) comp (ends k ((x ++ identifier c true u) ∷ xs) c true u xs x o len refl),
  wider k t.string out,
)

-- the content of a string
no_zero : (t : ℕ) → is_string t ≡ true → t ≡ 0 → ⊥
no_zero t h e = differ (sym (subst (λ z. is_string z ≡ true) e h))

string_content : (c : Class) (u : ℕ) (x : List ℕ) → is_string_of c u ≡ true → IsContent Der u x → MayHaveContent Der c u x
string_content c u x h k = λ universal. (no_zero u (and_parts (is_universal c) (is_string u) h).1, k)

primitive_content : (c : Class) (u : ℕ) (w : List ℕ) → MayHaveContent Ber c u w → (c ≡ Universal → IsContent Der u (content_in_der u w)) → MayHaveContent Der c u (value_in_der c u w)
primitive_content c u w may form = λ universal. ((may universal).0, subst (λ z. IsContent Der u (value_in_der z u w)) (sym universal) (form universal))

-- a string in parts, after them
as_string : (d k : ℕ) (b : List ℕ) (c : Class) (u : ℕ) (w : List ℕ) (xs : List (List ℕ)) (x : List ℕ) (m t : Contents) → length xs ≡ k → IsConstructed c u b w
    → is_string_of c u ≡ true → m.string ≡ Some k → m.around ≡ (x ++ identifier c false u) ∷ xs → m.here ≡ string_start u → m.number ≡ u → HasJoined w m t → HasForm (suc d) k b xs x t
as_string d k b c u w xs x m t len is parts es ea eh en (js, ja, jh, jn) = (
  element c false u t.here,
  λ keeps. string_in c u w t.here is parts (subst (λ z. AreJoined w z t.here) eh jh) (string_content c u t.here parts (subst (λ z. IsContent Der z t.here) (jn ∙ en) (keeps k (js ∙ es)))) refl,
  ends k t.around c false u xs x t.here len (ja ∙ ea),
  subst (λ z. IsOutside k z) (sym (js ∙ es)) (omega arith),
)

-- the element that is visited first is as deep as the others beside it
first_deep : {d k a : ℕ} {b : List ℕ} {us : List Visited} → VisitsOne no_extras Ber d k a b us → (v : Visited) × (vs : List Visited) × (us ≡ v ∷ vs) × (k ≡ v.depth)
first_deep {k = k} {a = a} (primitive c u h w is eb may never ev) = (visited a k c false u h (Some (length w)), [], ev, refl)
first_deep (broken u h w is eb keeps er it never ev) = absurd (cc)
first_deep (string m u h w y z us is eb value enters holds first vis ev) = absurd (cc)
first_deep {k = k} {a = a} (constructed c u h w us is eb may vis ev) = (visited a k c true u h (Some (length w)), us, ev, refl)
first_deep {k = k} {a = a} (indefinite c u h w us is eb may vis ev) = (visited a k c true u h None, us, ev, refl)

kept_at : (i : List ℕ) (s : Contents) (v : Visited) (m : Contents) → IsOutside v.depth s.string → Writes KeepsString i s v m → KeepsString s
kept_at i s v m out (writes_part inner a b c number) = absurd (never_part s.string v out inner)
kept_at i s v m out (writes_primitive g free a comp con here form kept) = kept
kept_at i s v m out (writes_constructed gs g free a comp con around here number kept) = kept

-- a string before others keeps the rules
keeps_before : {d k a : ℕ} {b : List ℕ} {vs : List Visited} (i : List ℕ) (m t : Contents) → Visits no_extras Ber d k a b vs → IsOutside k m.string
    → WritesAll KeepsString i m vs t → KeepsString t → KeepsString m
keeps_before i m t none out h keeps = subst KeepsString (sym h) keeps
keeps_before i m t (one_more b rest us ws ei ev is more) out h keeps =
    let f = first_deep is in
    let all = subst (λ vs. WritesAll KeepsString i m vs t) (ev ∙ ap (λ z. z ++ ws) f.2) h in
    kept_at i m f.0 all.0 (subst (λ z. IsOutside z m.string) f.3 out) all.1

-- one element, and others after it
then_others : (d k : ℕ) (i b rest : List ℕ) (xs : List (List ℕ)) (x : List ℕ) (m t : Contents) → i ≡ b ++ rest → (first : HasForm d k b xs x m)
    → HasForms d k rest xs (x ++ first.0) t → (KeepsString t → KeepsString m) → HasForms d k i xs x t
then_others d k i b rest xs x m t e (p, one, done, out) (q, more, comp, left) before =
    (p ++ q, λ keeps. one_more_element b rest p q e refl (one (before keeps)) (more keeps), subst (λ z. Completes k t.around t.here xs z) (append_assoc x p q) comp, left)

mutual
  elements : {d k a : ℕ} {b : List ℕ} {vs : List Visited} (i r : List ℕ) (s t : Contents) (xs : List (List ℕ)) (x : List ℕ) → Visits no_extras Ber d k a b vs → drop a i ≡ b ++ r
      → IsOutside k s.string → WritesAll KeepsString i s vs t → length xs ≡ k → Completes k s.around s.here xs x → HasForms d k b xs x t
  elements {d = d} {k = k} i r s t xs x none at out h len done =
      subst (λ (c : Contents). HasForms d k [] xs x c) h ([], (λ keeps. no_elements refl refl), subst (λ z. Completes k s.around s.here xs z) (sym (append-nil x)) done, out)
  elements {d = d} {k = k} {a = a} {b = all} i r s t xs x (one_more b rest us ws ei ev is more) at out h len done =
      let q = splits KeepsString i s us ws t (subst (λ vs. WritesAll KeepsString i s vs t) ev h) in
      let here = at ∙ ap (λ z. z ++ r) ei ∙ append_assoc b rest r in
      let first = element_one i (rest ++ r) s q.0 xs x is here out q.1 len done in
      then_others d k all b rest xs x q.0 t ei first (elements i r q.0 t xs (x ++ first.0) more (drop_front i a b (rest ++ r) here) first.3 q.2 len first.2) (keeps_before i q.0 t more first.3 q.2)

  element_one : {d k a : ℕ} {b : List ℕ} {vs : List Visited} (i r : List ℕ) (s t : Contents) (xs : List (List ℕ)) (x : List ℕ) → VisitsOne no_extras Ber d k a b vs → drop a i ≡ b ++ r
      → IsOutside k s.string → WritesAll KeepsString i s vs t → length xs ≡ k → Completes k s.around s.here xs x → HasForm d k b xs x t
  element_one {k = k} {a = a} {b = b} i r s t xs x (primitive {d = d} c u h w is eb may never ev) at out all len done =
      let v = visited a k c false u h (Some (length w)) in
      let q = subst (λ vs. WritesAll KeepsString i s vs t) ev all in
      let p = primitive_of i s v q.0 xs x out refl len done q.1 in
      let content : content_of i v ≡ w = between_front i (a + length h) w r (inner i r a b h w at eb) in
      let here : q.0.here ≡ x ++ element c false u (value_in_der c u w) = p.2 ∙ ap (λ z. x ++ element c false u (value_in_der c u z)) content in
      subst (λ (m : Contents). HasForm (suc d) k b xs x m) q.2 (
        element c false u (value_in_der c u w),
        (λ keeps. primitive_in c u h w is eb may (primitive_content c u w may (λ z. subst (λ y. IsContent Der u (content_in_der u y)) content (p.3 z))) refl),
        stay (omega (arith, len, ap length p.1)) (sym p.1) (sym here),
        subst (λ z. IsOutside k z) (sym p.0) tt,
      )
  element_one i r s t xs x (broken u h w is eb keeps er it never ev) at out all len done = absurd (cc)
  element_one i r s t xs x (string m u h w y z us is eb value enters holds first vis ev) at out all len done = absurd (cc)
  element_one {k = k} {a = a} {b = b} i r s t xs x (constructed {d = d} c u h w us is eb may vis ev) at out all len done =
      let q = subst (λ vs. WritesAll KeepsString i s vs t) ev all in
      let m = q.0 in
      let p = constructed_of i s (visited a k c true u h (Some (length w))) m xs x out refl len done q.1 in
      let here = inner i r a b h w at eb in
      elim (cases_Bool (is_string_of c u)) [
        | inl e ↦ as_string d k b c u w xs x m t len (h, inl (is, eb)) e
            (p.0 ∙ ap (λ z. if z then Some k else None) e) (p.1 ∙ ap (λ z. (x ++ identifier c (not z) u) ∷ xs) e) (p.2 ∙ ap (λ z. if z then string_start u else []) e) p.3
            (parts i r k m t vis here (omega arith) (p.0 ∙ ap (λ z. if z then Some k else None) e) q.2)
        | inr e ↦ (
            let around : m.around ≡ (x ++ identifier c true u) ∷ xs = p.1 ∙ ap (λ z. (x ++ identifier c (not z) u) ∷ xs) e in
            as_element d k b c u w xs x t len (h, inl (is, eb)) may e
            (elements i r m t ((x ++ identifier c true u) ∷ xs) [] vis here
            (subst (λ z. IsOutside (suc k) z) (sym (p.0 ∙ ap (λ z. if z then Some k else None) e)) tt) q.2 (ap suc len)
            (stay (omega (arith, len, ap length around)) (sym around) (sym (p.2 ∙ ap (λ z. if z then string_start u else []) e))))
            )
      ]
  element_one {k = k} {a = a} {b = b} i r s t xs x (indefinite {d = d} c u h w us is eb may vis ev) at out all len done =
      let q = subst (λ vs. WritesAll KeepsString i s vs t) ev all in
      let m = q.0 in
      let p = constructed_of i s (visited a k c true u h None) m xs x out refl len done q.1 in
      let here = inner_marked i r a b h w at eb in
      elim (cases_Bool (is_string_of c u)) [
        | inl e ↦ as_string d k b c u w xs x m t len (h, inr (is, eb)) e
            (p.0 ∙ ap (λ z. if z then Some k else None) e) (p.1 ∙ ap (λ z. (x ++ identifier c (not z) u) ∷ xs) e) (p.2 ∙ ap (λ z. if z then string_start u else []) e) p.3
            (parts i (end_marker ++ r) k m t vis here (omega arith) (p.0 ∙ ap (λ z. if z then Some k else None) e) q.2)
        | inr e ↦ (
            let around : m.around ≡ (x ++ identifier c true u) ∷ xs = p.1 ∙ ap (λ z. (x ++ identifier c (not z) u) ∷ xs) e in
            as_element d k b c u w xs x t len (h, inr (is, eb)) may e
            (elements i (end_marker ++ r) m t ((x ++ identifier c true u) ∷ xs) [] vis here
            (subst (λ z. IsOutside (suc k) z) (sym (p.0 ∙ ap (λ z. if z then Some k else None) e)) tt) q.2 (ap suc len)
            (stay (omega (arith, len, ap length around)) (sym around) (sym (p.2 ∙ ap (λ z. if z then string_start u else []) e))))
            )
      ]

pub in_der : (room : ℕ) (i o : List ℕ) → AreWritten (KeepsIn room) i o → length o ≤ room → AreInDer 101 i o
in_der room i o (vs, t, vis, all, done, kept) fits =
    let within = completes_within room t o done fits in
    let f = elements i [] no_contents t [] [] vis (sym (append-nil i)) tt (kept_all room i no_contents vs t within all) refl (stay (omega arith) refl refl) in
    let same = stays 0 [] [] f.0 o (omega arith) (through 0 0 t.around [] [] t.here f.0 o (omega arith) f.2 done) in
    subst (λ z. AreInDer 101 i z) (sym same.1) (f.1 (kept within))
