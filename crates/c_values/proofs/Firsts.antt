-- The first element of an input, by its header.
use Rattle.std.proofs.Common.{◌≡◌, ℕ, ◌+◌, ◌-◌, ◌≤◌, List, ◌∷◌, ◌++◌, length, Ok, Err, MatchResult, refl, ap, ◌∙◌, arith, append_assoc, length-append, inl, inr, if◌then◌else◌}
use Rattle.std.specs.Borrow.{Bor}
use Rattle.der_base.specs.declared.any.Any.{Any}
use Rattle.der_base.specs.declared.error.Err.{Err as Refused}
use Rattle.der_base.specs.declared.error.Err.TheVariants.{Incomplete, Error, Failure, OutOfMemory}
use Rattle.der_base.specs.declared.error.Error.{Error as BerError}
use Rattle.der_base.specs.declared.error.Needed.TheVariants.{Unknown, Size}
use Rattle.der_base.specs.declared.header.Header.{Header}
use Rattle.der_base.specs.declared.header.Length.TheVariants.{Definite, Indefinite}
use Rattle.der_base.specs.Any.{AnyAnswer, AnswersAny, AnswersDerAny, ReadsAny, ReadsDerAny}
use Rattle.der_base.specs.Header.{class_of, is_constructed, number_of}
use Rattle.der_base.specs.Headers.{LeadingHeader, ReadsDerHeader, ReadsHeader, SpellsDerHeader, SpellsHeader, leading_header}
use Rattle.der_base.specs.Octets.{identifier, shortest_length}
use Rattle.der_base.specs.Spelling.{BeginsWithElement, end_marker, framing_budget}
use Rattle.der_base.proofs.Headers.BerHeaders.{ber_header_shows_one}
use Rattle.der_base.proofs.Headers.DerHeaders.{der_header_shows_one}
use Rattle.c_values.specs.declared.element.DmElement.{DmElement}
use Rattle.c_values.specs.Elements.{first_slot, is_definite, kept_slot, marker_size}
use Rattle.c_values.specs.Laws.{IsWithin, DerFirstLiesWithin, BerFirstLiesWithin}
use Rattle.c_values.specs.Outcomes.{KeepsFirst, refused_outcome}

four_parts : (a b c d : List ℕ) → a ++ b ++ c ++ d ≡ a ++ (b ++ (c ++ d))
four_parts a b c d = append_assoc (a ++ b) c d ∙ append_assoc a b (c ++ d)

-- the content, an end marker and the rest follow the header, and no more than the input
record Follows (n behind content marker rest : ℕ) : Type 0 where
  size : behind ≡ content + (marker + rest)
  within : behind ≤ n

ber_follows : (i w rest : List ℕ) (y : Bor (List ℕ) × Header) → ReadsHeader i y.1 y.0.now → BeginsWithElement i framing_budget (class_of y.1) (is_constructed y.1) (number_of y.1) w rest
    → Follows (length i) (length y.0.now) (length w) (marker_size y.1) (length rest)
ber_follows i w rest y r (ht, hk, inl (s, hs, e)) =
    let a = identifier (class_of y.1) (is_constructed y.1) (number_of y.1) in
    let parts = e ∙ four_parts a s w rest in
    let v : LeadingHeader = record { class = class_of y.1; constructed = is_constructed y.1; number = number_of y.1; length = Definite (length w); rest = w ++ rest } in
    let spelled : SpellsHeader i v = record { following = s ++ (w ++ rest); octets = parts; number = ht; length = (s, hs, refl) } in
    let same : leading_header y ≡ v = (ber_header_shows_one i).one_value y v r spelled in
    let behind : length y.0.now ≡ length (w ++ rest) = ap (λ u. length u.rest) same in
    let none : marker_size y.1 ≡ 0 = ap (λ u. if is_definite u.length then 0 else 2) same in
    let all : length i ≡ length (a ++ (s ++ (w ++ rest))) = ap length parts in
    record {
      size = omega (arith, behind, none, length-append w rest);
      within = omega (arith, behind, all, length-append a (s ++ (w ++ rest)), length-append s (w ++ rest));
    }
ber_follows i w rest y r (ht, hk, inr (ep, h2, raw, e)) =
    let a = identifier (class_of y.1) (is_constructed y.1) (number_of y.1) in
    let parts = e ∙ four_parts a (128 ∷ w) end_marker rest in
    let v : LeadingHeader = record { class = class_of y.1; constructed = is_constructed y.1; number = number_of y.1; length = Indefinite; rest = w ++ (end_marker ++ rest) } in
    let spelled : SpellsHeader i v = record { following = 128 ∷ (w ++ (end_marker ++ rest)); octets = parts; number = ht; length = (ep, refl) } in
    let same : leading_header y ≡ v = (ber_header_shows_one i).one_value y v r spelled in
    let behind : length y.0.now ≡ length (w ++ (end_marker ++ rest)) = ap (λ u. length u.rest) same in
    let two : marker_size y.1 ≡ 2 = ap (λ u. if is_definite u.length then 0 else 2) same in
    let marker : length (end_marker ++ rest) ≡ 2 + length rest = length-append end_marker rest in
    let all : length i ≡ length (a ++ (128 ∷ (w ++ (end_marker ++ rest)))) = ap length parts in
    record {
      size = omega (arith, behind, two, marker, length-append w (end_marker ++ rest));
      within = omega (arith, behind, all, length-append a (128 ∷ (w ++ (end_marker ++ rest))));
    }

der_follows : (i rest : List ℕ) (a : Any) (y : Bor (List ℕ) × Header) → ReadsDerHeader i y.1 y.0.now → ReadsDerAny i a rest
    → Follows (length i) (length y.0.now) (length a.bytes.now) 0 (length rest)
der_follows i rest a y r any =
    let w = a.bytes.now in
    let v : LeadingHeader = record { class = class_of a.header; constructed = is_constructed a.header; number = number_of a.header; length = Definite (length w); rest = w ++ rest } in
    let spelled : SpellsDerHeader i v = (length w, refl, any.begins) in
    let same : leading_header y ≡ v = (der_header_shows_one i).one_value y v r spelled in
    let behind : length y.0.now ≡ length (w ++ rest) = ap (λ u. length u.rest) same in
    let front = identifier (class_of a.header) (is_constructed a.header) (number_of a.header) ++ shortest_length (length w) in
    let all : length i ≡ length (front ++ (w ++ rest)) = ap length any.begins.octets in
    record {
      size = omega (arith, behind, length-append w rest);
      within = omega (arith, behind, all, length-append front (w ++ rest));
    }

no_marker : (i rest : List ℕ) (a : Any) → ReadsDerAny i a rest → marker_size a.header ≡ 0
no_marker i rest a any = ap (λ l. if is_definite l then 0 else 2) any.length

der_keeps : (i : List ℕ) (x : Bor (List ℕ) × Any) (new : DmElement) → ReadsDerAny i x.1 x.0.now → new ≡ kept_slot (length i) x → KeepsFirst ReadsDerHeader i x.1 new
der_keeps i x new any e =
    let h = x.1.header in
    let w = x.1.bytes.now in
    let rest = x.0.now in
    let none = no_marker i rest x.1 any in
    let begin : length i - length rest - marker_size h - length w ≡ length i - length (w ++ rest) = omega (arith, none, length-append w rest) in
    (w ++ rest, record { size = length w; begins = any.begins; length = any.length; raw_tag = any.raw_tag }, e ∙ ap (λ k. first_slot h k (length w)) begin)

ber_keeps : (i : List ℕ) (x : Bor (List ℕ) × Any) (new : DmElement) → ReadsAny i x.1 x.0.now → new ≡ kept_slot (length i) x → KeepsFirst ReadsHeader i x.1 new
ber_keeps i x new any e =
    let h = x.1.header in
    let w = x.1.bytes.now in
    let follows = ber_follows i w x.0.now (record x.0 { now = any.behind }, h) any.header any.element in
    let begin : length i - length x.0.now - marker_size h - length w ≡ length i - length any.behind = omega (arith, follows.size) in
    (any.behind, any.header, e ∙ ap (λ k. first_slot h k (length w)) begin)

pub der_first : (i : List ℕ) (found : AnyAnswer) (old new : DmElement) → AnswersDerAny i found → MatchResult found (λ x. new ≡ kept_slot (length i) x) (λ e. new ≡ old)
    → MatchResult found (λ x. KeepsFirst ReadsDerHeader i x.1 new) (λ e. new ≡ old)
der_first i (Ok x) old new a k = der_keeps i x new a.found k
der_first i (Err e) old new a k = k

pub ber_first : (i : List ℕ) (found : AnyAnswer) (old new : DmElement) → AnswersAny i found → MatchResult found (λ x. new ≡ kept_slot (length i) x) (λ e. new ≡ old)
    → MatchResult found (λ x. KeepsFirst ReadsHeader i x.1 new) (λ e. new ≡ old)
ber_first i (Ok x) old new a k = ber_keeps i x new a.found k
ber_first i (Err e) old new a k = k

-- within the input

not_read : (e : Refused BerError) → (refused_outcome e 0).status ≡ 0 → ⊥
not_read (Error e) h = absurd (omega (arith, h))
not_read (Incomplete (Size n)) h = absurd (omega (arith, h))
not_read (Incomplete Unknown) h = absurd (omega (arith, h))
not_read (Failure e) h = absurd (omega (arith, h))
not_read OutOfMemory h = absurd (omega (arith, h))

within_if_follows : (n behind content marker rest : ℕ) (h : Header) (e : DmElement) → Follows n behind content marker rest → e ≡ first_slot h (n - behind) content → IsWithin n e
within_if_follows n behind content marker rest h e f is =
    let begins : e.content ≡ n - behind = ap (λ v. v.content) is in
    let ends : e.end ≡ n - behind + content = ap (λ v. v.end) is in
    let starts : e.header ≡ 0 = ap (λ v. v.header) is in
    (omega (arith, starts), omega (arith, begins, ends), omega (arith, ends, f.size, f.within))

pub der_first_lies_within : DerFirstLiesWithin
der_first_lies_within i old new o (Ok x, a, eo, (behind, reads, is)) h =
    within_if_follows (length i) (length behind) (length x.1.bytes.now) 0 (length x.0.now) x.1.header new (der_follows i x.0.now x.1 (record x.0 { now = behind }, x.1.header) reads a.found) is
der_first_lies_within i old new o (Err e, a, eo, k) h = absurd (not_read e (let s : o.status ≡ (refused_outcome e 0).status = ap (λ v. v.status) eo in cc))

pub ber_first_lies_within : BerFirstLiesWithin
ber_first_lies_within i old new o (Ok x, a, eo, (behind, reads, is)) h =
    within_if_follows (length i) (length behind) (length x.1.bytes.now) (marker_size x.1.header) (length x.0.now) x.1.header new
    (ber_follows i x.1.bytes.now x.0.now (record x.0 { now = behind }, x.1.header) reads a.found.element) is
ber_first_lies_within i old new o (Err e, a, eo, k) h = absurd (not_read e (let s : o.status ≡ (refused_outcome e 0).status = ap (λ v. v.status) eo in cc))
