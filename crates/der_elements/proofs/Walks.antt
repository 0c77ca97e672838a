-- What the functions of the walk keep of what was visited.
use Rattle.std.proofs.Common.{◌≡◌, ℕ, suc, ◌+◌, ◌-◌, ◌^◌, ◌<◌, ◌≤◌, Bool, false, if◌then◌else◌, List, [], ◌∷◌, ◌++◌, length, Option, Some, None, refl, sym, ap, subst, ◌∙◌, arith, append_assoc, length-append, inl, inr}
use Rattle.std.specs.Borrow.{Bor}
use Rattle.std.specs.Prelude.{IfSome, is_some}
use Rattle.std.proofs.lemmas.List.{nil_from_length}
use Rattle.der_base.specs.declared.rules.Rules.{Rules}
use Rattle.der_elements.specs.declared.content.Open.{Open}
use Rattle.der_elements.specs.declared.element.Element.{Element}
use Rattle.der_elements.specs.declared.walk.Walk.{Walk}
use Rattle.der_elements.specs.Visits.{Visited, Extras, Visits, VisitsOne, none, one_more, primitive, broken, string, constructed, indefinite}
use Rattle.std.specs.Prelude.{IsSomeAnd}
use Rattle.der_elements.specs.Ends.{between, end_in, end_of, here_of, limit_of, IsEndOf, IsWithin}
use Rattle.der_elements.specs.Walked.{visited_of, index_in, EndsAt, HasWalked, outermost, inside, HasVisited, HasOctets}
use Rattle.der_elements.specs.Reading.{extras_of, front_of, string_front_of, EndsHere, IsRead, whole, list, Passes, ReadsHere}
use Rattle.der_elements.specs.Reading.{string as read_string}
use Rattle.der_elements.proofs.Between.{between_none, between_all, length-between, middle_between}
use Rattle.der_elements.proofs.Ends.{limit_size, reached}
use Rattle.der_elements.proofs.Next.{Reads, front_length, moved, passes}
use Rattle.der_elements.proofs.Steps.{close, within}

-- at the start
pub first_walked : (x : Extras) (r : Rules) (i : List ℕ) (opens : List Open) (s : Rules) (e : Option ℕ) (m : Bool) (at : ℕ) → opens ≡ [] → s ≡ r → e ≡ None → m ≡ false → at ≡ 0 → HasWalked x r i 101 opens s e m at []
first_walked x r i opens s e m at eo es he hm ea =
    outermost refl eo es he hm (omega (arith, ea)) (subst (λ n. Visits x r 101 0 0 (between i 0 n) []) (sym ea) (subst (λ l. Visits x r 101 0 0 l []) (sym (between_none i 0)) none))

-- an element is visited itself
one_some : {x : Extras} {r : Rules} {d k a : ℕ} {b : List ℕ} {vs : List Visited} → VisitsOne x r d k a b vs → 1 ≤ length vs
one_some (primitive c t h w is e has out ev) = omega (arith, ap length ev)
one_some (broken t h w is e keeps er it never ev) = omega (arith, ap length ev)
one_some (string m t h w u v us is e has en holds first vis ev) = omega (arith, ap length ev)
one_some (constructed c t h w us is e may vis ev) = omega (arith, ap length ev)
one_some (indefinite c t h w us is e may vis ev) = omega (arith, ap length ev)

-- where nothing was visited, nothing depends on what is visited besides
nothing_visited : {x : Extras} (z : Extras) {r : Rules} {d k a : ℕ} {b : List ℕ} {vs : List Visited} → Visits x r d k a b vs → vs ≡ [] → Visits z r d k a b vs
nothing_visited z none e = none
nothing_visited z (one_more b rest us ws ei ev one more) e = absurd (omega (arith, ap length (sym ev ∙ e), length-append us ws, one_some one))

pub nothing_walked : {x : Extras} (z : Extras) {r : Rules} {i : List ℕ} {d : ℕ} {opens : List Open} {s : Rules} {e : Option ℕ} {m : Bool} {at : ℕ} {vs : List Visited} → HasWalked x r i d opens s e m at vs → vs ≡ []
    → HasWalked z r i d opens s e m at vs
nothing_walked z (outermost ed eo es he hm ha v) q = outermost ed eo es he hm ha (nothing_visited z v q)
nothing_walked z (inside outer o start first before us v eo w is he hf ha hl vis ev el em ef es) q = absurd (omega (arith, ap length (sym ev ∙ q), length-append before (v ∷ us)))

-- at the end
pub all_visited : {x : Extras} {r : Rules} {i : List ℕ} {d : ℕ} {opens : List Open} {s : Rules} {e : Option ℕ} {m : Bool} {at : ℕ} {vs : List Visited} → HasWalked x r i d opens s e m at vs → opens ≡ []
    → length (between i at (limit_of (length i) e)) ≡ 0 → Visits x r 101 0 0 i vs
all_visited {x} {r} {i} {d} {opens} {s} {e} {m} {at} {vs} (outermost ed eo es he hm ha v) q z =
    let limit : limit_of (length i) e ≡ length i = ap (λ q. limit_of (length i) q) he in
    let ended : length i ≤ at = omega (arith, z, limit, length-between i at (limit_of (length i) e) (limit_size (length i) e)) in
    subst (λ l. Visits x r 101 0 0 l vs) (between_all i at ended) (subst (λ n. Visits x r n 0 0 (between i 0 at) vs) ed v)
all_visited (inside outer o start first before us v eo w is he hf ha hl vis ev el em ef es) q z = absurd (omega (arith, ap length (sym eo ∙ q), length-append outer (o ∷ [])))

pub ended : (x : Extras) (r : Rules) (i : List ℕ) (vs : List Visited) (w : Walk) → HasVisited x r i w vs → length (here_of w) ≡ 0 → length w.opened.items ≡ 0 → Visits x r 101 0 0 i vs
ended x r i vs w has z n =
    let same : here_of w ≡ between i w.at (limit_of (length i) (end_in (length i) w.content.end)) = ap (λ l. between l w.at (limit_of (length l) (end_in (length l) w.content.end))) has.input in
    all_visited has.walked (nil_from_length w.opened.items n) (sym (ap length same) ∙ z)

-- what is read lies in the input
pub length-here : (w : Walk) → length (here_of w) ≡ limit_of (length w.input.now) (end_of w) - w.at
length-here w = length-between w.input.now w.at (limit_of (length w.input.now) (end_of w)) (limit_size (length w.input.now) (end_of w))

pub here_within : (w : Walk) (here : List ℕ) (e : Element) → here ≡ here_of w → ReadsHere w here e → 0 < length here → e.offset + e.header ≤ length w.input.now
here_within w here e eh reads some =
    let short = limit_size (length w.input.now) (end_of w) in
    omega (arith, ap length eh, length-here w, some, reads.fits, reads.offset, short)

-- after the innermost element
pub closed : (x : Extras) (r : Rules) (i : List ℕ) (vs : List Visited) (w w' : Walk) (outer : List Open) (o : Open) (after : ℕ) → HasVisited x r i w vs → EndsHere w after → w.opened.items ≡ outer ++ o ∷ []
    → w'.input.now ≡ w.input.now → w'.enters_strings ≡ w.enters_strings → w'.keeps_values ≡ w.keeps_values → w'.opened.items ≡ outer → w'.content ≡ o.around → w'.at ≡ after → HasVisited x r i w' vs
closed x r i vs w w' outer o after has ends eo e1 e2 e3 e4 e5 e6 = of ends
  where
    e : Option ℕ
    e = end_in (length i) w.content.end

    same : end_of w ≡ e
    same = ap (λ l. end_in (length l) w.content.end) has.input

    -- those that stay open were so before
    opened : (before inner : List Open) (p : Open) → w'.opened.items ≡ before ++ p ∷ inner → w.opened.items ≡ before ++ p ∷ (inner ++ o ∷ [])
    opened before inner p q = eo ∙ ap (λ l. l ++ o ∷ []) (sym e4 ∙ q) ∙ append_assoc before (p ∷ inner) (o ∷ [])

    at_end : EndsAt i e w.content.has_marker w.at after → after ≤ length i → IsWithin after e → w.at ≤ after → HasVisited x r i w' vs
    at_end ends h1 h2 h3 =
        let opens = ap length e4 in
        record {
          input = e1 ∙ has.input;
          enters = e2 ∙ has.enters;
          keeps = e3 ∙ has.keeps;
          depth = suc has.depth;
          walked = moved x r i (suc has.depth) outer w'.opened.items o.around.rules w'.content.rules (end_in (length i) o.around.end) (end_in (length i) w'.content.end) o.around.has_marker w'.content.has_marker after w'.at vs e4 (ap (λ c. c.rules) e5) (ap (λ c. end_in (length i) c.end) e5)
              (ap (λ c. c.has_marker) e5) e6 (close outer o after eo has.walked ends h1 h2 h3);
          counts = ap (λ c. c.visited) e5 ∙ has.counts_around outer [] o eo ∙ ap (λ k. index_in k vs) (sym opens);
          counts_around = λ before inner p q. has.counts_around before (inner ++ o ∷ []) p (opened before inner p q);
          end = subst (λ z. IsEndOf (length i) z) (sym (ap (λ c. c.end) e5)) (has.ends_around outer [] o eo);
          ends_around = λ before inner p q. has.ends_around before (inner ++ o ∷ []) p (opened before inner p q);
          few = omega (arith, has.few, h3, e6);
        }

    of : EndsHere w after → HasVisited x r i w' vs
    of (inl (m, le, ea)) =
        let q = within has.walked in
        let is : e ≡ Some w.at = reached w.at (length i) e (subst (λ f. IsSomeAnd f (λ n. n ≤ w.at)) same le) q.1 in
        at_end (inl (m, is, ea)) (omega (arith, ea, q.0)) (subst (λ n. IsWithin n e) (sym ea) q.1) (omega (arith, ea))
    of (inr (m, ea, h1, h2, eb)) = at_end (inr (m, ea, ap (λ z. between z w.at after) (sym has.input) ∙ eb)) (omega (arith, h2, ap length has.input)) (subst (λ f. IsWithin after f) same h1) (omega (arith, ea))

pub extras_same : (x : Extras) (w : Walk) → w.enters_strings ≡ x.enters_strings → w.keeps_values ≡ x.keeps_values → extras_of w ≡ x
extras_same x w e k =
    let f : Bool → Bool → Extras = λ a b. record { enters_strings = a; keeps_values = b } in
    ap (λ a. f a w.keeps_values) e ∙ ap (λ b. f x.enters_strings b) k

-- what is required to pass the element
pub fits_front : (w : Walk) (here : List ℕ) (e : Element) → here ≡ here_of w → ReadsHere w here e → 0 < length here → length w.input.now < 2 ^ 64 → e.offset + e.header + front_of e < 2 ^ 64
fits_front w here e eh reads some size = of reads.read
  where
    within : e.offset + e.header ≤ length w.input.now
    within = here_within w here e eh reads some

    no_front : e.holds ≡ None → e.offset + e.header + front_of e < 2 ^ 64
    no_front t =
        let z : front_of e ≡ 0 = ap (λ b. if is_some b then string_front_of e.number else 0) t in
        omega (arith, z, within, size)

    of : IsRead (extras_of w) w.content.rules (100 - e.depth) here e → e.offset + e.header + front_of e < 2 ^ 64
    of (whole h b rest split eh el ep ed one) = no_front ed
    of (list h rest split eh ep ed eo is may) = no_front ed
    of (read_string s h b rest u v split eb el ep ed eo ec is has en holds first) =
        let fl = front_length e s (100 - e.depth) b u v ed holds in
        let total = ap length holds.parts ∙ length-append u v in
        let short = limit_size (length w.input.now) (end_of w) in
        omega (arith, fl, total, ap length split, length-append h (b ++ rest), length-append b rest, eb, ap length eh, length-here w, some, reads.offset, short, size)

-- the walk goes on after an element
pub visited_next : (x : Extras) (r : Rules) (i : List ℕ) (vs : List Visited) (w w' : Walk) (here : List ℕ) (e : Element) → length w.input.now < 2 ^ 64 → HasVisited x r i w vs → here ≡ here_of w → ReadsHere w here e → Passes w e w'
    → HasVisited x r i w' (vs ++ visited_of e ∷ []) × HasOctets i e × (e.index ≡ index_in e.depth vs) × (e.depth ≤ 100)
visited_next x r i vs w w' here e size has eh reads pass =
    subst (λ l. HasVisited x r l w' (vs ++ visited_of e ∷ []) × HasOctets l e × (e.index ≡ index_in e.depth vs) × (e.depth ≤ 100)) has.input
    (passes x r w w' vs e size here_has known pass, octets, reads.index ∙ has.counts ∙ ap (λ k. index_in k vs) (sym reads.depth), reads.shallow)
  where
    here_has : HasVisited x r w.input.now w vs
    here_has = subst (λ l. HasVisited x r l w vs) (sym has.input) has

    limit : ℕ
    limit = limit_of (length w.input.now) (end_of w)

    known : Reads x w e
    known = record {
      offset = reads.offset;
      depth = reads.depth;
      shallow = reads.shallow;
      some = reads.some;
      index = reads.index;
      room = reads.room;
      read = subst (λ z. IsRead z w.content.rules (100 - e.depth) (here_of w) e) (extras_same x w has.enters has.keeps) (subst (λ l. IsRead (extras_of w) w.content.rules (100 - e.depth) l e) eh reads.read);
    }

    contents : (c : Option (Bor (List ℕ))) → IfSome c (λ b. (h rest : List ℕ) × (here ≡ h ++ (b.now ++ rest)) × (e.header ≡ length h) × (e.length ≡ Some (length b.now)))
        → IfSome c (λ b. (e.length ≡ Some (length b.now)) × (b.now ≡ between w.input.now (e.offset + e.header) (e.offset + e.header + length b.now)))
    contents None z = tt
    contents (Some b) (h, rest, split, el, len) =
        let p : w.at + length h ≡ e.offset + e.header = omega (arith, el, reads.offset) in
        (len, sym (ap (λ n. between w.input.now n (n + length b.now)) (sym p) ∙ middle_between w.input.now w.at limit h b.now rest (sym eh ∙ split)))

    octets : HasOctets w.input.now e
    octets = record { identifier = reads.octets.identifier; content = contents e.content reads.octets.content; primitive = reads.octets.primitive }
