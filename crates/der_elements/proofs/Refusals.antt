-- What is at fault where a walk is refused.
use Rattle.std.proofs.Common.{◌≡◌, ◌≢◌, ℕ, ◌+◌, ◌-◌, ◌<◌, ◌≤◌, ◌⊎◌, ◌==◌, if◌then◌else◌, Bool, true, false, List, [], ◌++◌, length, take, Option, Some, None, Ok, Err, refl, sym, ap, subst, ◌∙◌, arith, length-append, inl, inr}
use Rattle.std.specs.Borrow.{Bor}
use Rattle.std.specs.Prelude.{IfSome, IsSomeAnd}
use Rattle.std.proofs.Math.Seq.{take-append_seam}
use Rattle.der_base.specs.declared.error.Err.{Err as Refused}
use Rattle.der_base.specs.declared.error.Err.TheVariants.{Incomplete, Error, Failure, OutOfMemory}
use Rattle.der_base.specs.declared.error.Error.{Error as BerError}
use Rattle.der_base.specs.declared.error.Needed.TheVariants.{Unknown, Size}
use Rattle.der_base.specs.declared.header.Header.{Header}
use Rattle.der_base.specs.declared.header.Length.{Length}
use Rattle.der_base.specs.declared.header.Length.TheVariants.{Definite, Indefinite}
use Rattle.der_base.specs.declared.rules.Rules.TheVariants.{Ber}
use Rattle.der_base.specs.Header.{length_of}
use Rattle.der_base.specs.Headers.{LeadingHeader, leading_header}
use Rattle.der_base.specs.Rules.{AnswersHeader, SpellsHeaderBy}
use Rattle.der_base.specs.Spelling.{end_marker}
use Rattle.der_elements.specs.Check.Elements.{MayBeConstructed}
use Rattle.der_elements.proofs.CheckLaws.HeadersBy.{header_read, header_refused}
use Rattle.der_contents.specs.ContentRules.{IsFirstBroken, content_rules}
use Rattle.der_contents.specs.declared.content_error.ContentError.{ContentError}
use Rattle.der_elements.specs.declared.cause.Cause.{Cause}
use Rattle.der_elements.specs.declared.cause.Cause.TheVariants.{Cut, PastEnd, TooDeep}
use Rattle.der_elements.specs.declared.content.End.{End}
use Rattle.der_elements.specs.declared.content.End.TheVariants.{At, After, Unlimited}
use Rattle.der_elements.specs.declared.element.Element.{Element}
use Rattle.der_elements.specs.declared.path.Step.{Step}
use Rattle.der_elements.specs.declared.error.ElementError.{ElementError}
use Rattle.der_elements.specs.declared.walk.Walk.{Walk}
use Rattle.der_elements.specs.Ends.{between, end_of, here_of, limit_of, overrun, IsWithin}
use Rattle.der_elements.specs.Faults.{Position, HasRoom, IsReached, IsLastStep, IsStep, ended, header, content, too_deep, string, constructed, marker, value, cause_of_content, cause_of_end, cause_of_header, cause_of_lack, content_at, end_at, ends_inside, missing_in, place_of}
use Rattle.der_elements.specs.Walked.{position_of}
use Rattle.der_elements.specs.Reading.{FindsContent, FailsCheck, FailsConstructed, FailsPrimitive, LacksContent, Refuses, StartsWith, definite_of, octets_or_none}
use Rattle.der_elements.proofs.Between.{between_more}
use Rattle.der_elements.proofs.ElementReads.{Leaf, leaf_of}
use Rattle.der_elements.proofs.Ends.{limit_least, no_overrun}
use Rattle.der_elements.proofs.FaultsHere.{same_length, same_size}
use Rattle.der_elements.proofs.Headers.{header_two}

-- where it is refused
at_lack : (p : Position) (n : ℕ) → place_of p (cause_of_lack p n) ≡ p.at
at_lack p n = of p.end
  where
    of : (e : End) → place_of p (if ends_inside e then PastEnd n else Cut (missing_in p n)) ≡ p.at
    of (At m) = refl
    of (After m) = refl
    of Unlimited = refl

at_header : (p : Position) (e : Refused BerError) → place_of p (cause_of_header p e) ≡ p.at
at_header p (Error e) = refl
at_header p (Failure e) = refl
at_header p (Incomplete (Size n)) = at_lack p n
at_header p (Incomplete Unknown) = at_lack p 1
at_header p OutOfMemory = at_lack p 1

at_content : (p : Position) (end n : ℕ) → place_of p (cause_of_content p end n) ≡ p.at
at_content p end n = of (overrun end (end_at p) == 0)
  where
    of : (b : Bool) → place_of p (if b then Cut (missing_in p n) else PastEnd (overrun end (end_at p))) ≡ p.at
    of true = refl
    of false = refl

placed : (p : Position) (f : ElementError) (c : Cause) → place_of p c ≡ p.at → f.cause ≡ c → f.offset ≡ p.at → f.offset ≡ place_of p f.cause
placed p f c h e q = q ∙ sym h ∙ ap (λ z. place_of p z) (sym e)

-- without a header
pub refuses_header : (d : ℕ) (w : Walk) (here : List ℕ) (e : Refused BerError) (f : ElementError) → here ≢ [] → AnswersHeader w.content.rules here (Err e) → f.cause ≡ cause_of_header (position_of w) e → f.offset ≡ w.at → f.step ≡ None → Refuses d w here f
refuses_header d w here e f some a ec eo es = record {
  fault = header e some a ec;
  place = placed (position_of w) f (cause_of_header (position_of w) e) (at_header (position_of w) e) ec eo;
  step = subst (λ q. IsLastStep (position_of w) here q) (sym es) (λ v spells. header_refused w.content.rules here e v a spells);
}

-- without octets
pub refuses_end : (d : ℕ) (w : Walk) (here : List ℕ) (f : ElementError) → here ≡ [] → f.cause ≡ cause_of_end (position_of w) → f.offset ≡ place_of (position_of w) f.cause → f.step ≡ None → Refuses d w here f
refuses_end d w here f e ec eo es = record {
  fault = ended e ec;
  place = eo;
  step = subst (λ q. IsLastStep (position_of w) here q) (sym es) (λ v spells. absurd (omega (arith, ap length e, header_two w.content.rules here v spells)));
}

definite_back : (l : Length) (n : ℕ) → definite_of l ≡ Some n → l ≡ Definite n
definite_back (Definite m) n e = (cc)
definite_back Indefinite n e = absurd (cc)

module _ (d : ℕ) (w : Walk) (here : List ℕ) (y : Bor (List ℕ) × Header) (e : Element) (f : ElementError) (a : AnswersHeader w.content.rules here (Ok y)) (s : StartsWith y.1 (length here - length y.0.now) w.at (length w.opened.items) w.content.visited e)
  where
    abbrev v : LeadingHeader
    v = leading_header y

    abbrev at_w : Position
    at_w = position_of w

    spells : SpellsHeaderBy w.content.rules here v
    spells = header_read w.content.rules here y a

    at : e.offset + e.header ≡ content_at at_w here v
    at = (let o = s.offset in let h = s.header in omega (arith, o, h))

    step_of : (o : Option Step) → IsSomeAnd o (λ z. IsStep z e.class e.number e.index) → IsLastStep at_w here o
    step_of None z = absurd z
    step_of (Some z) g = (v, spells, record { class = g.class ∙ s.class; number = g.number ∙ s.number; index = g.index ∙ s.index })

    -- a content that ends too late
    pub refuses_content : LacksContent w y.0.now e f → Refuses d w here f
    refuses_content l =
        let is : length_of y.1 ≡ Definite l.size = definite_back (length_of y.1) l.size (sym s.length ∙ l.length_is) in
        let cause = l.cause ∙ ap (λ n. cause_of_content at_w (n + l.size) (l.size - length y.0.now)) at in
        record {
          fault = content v l.size spells is l.lacks (λ p z. l.past (s.constructed ∙ p) (ap (λ n. overrun (n + l.size) (end_of w)) at ∙ z)) cause;
          place = placed at_w f _ (at_content at_w (content_at at_w here v + l.size) (l.size - length y.0.now)) cause (l.offset ∙ s.offset);
          step = step_of f.step l.step;
        }

    has_room : (o : Option (Bor (List ℕ))) → FindsContent e y.0.now o → IfSome e.length (λ n. IsWithin (e.offset + e.header + n) (end_of w)) → HasRoom at_w here v
    has_room o found room n is lacks = of o found
      where
        size : e.length ≡ Some n
        size = s.length ∙ ap definite_of is

        ends : overrun (content_at at_w here v + n) (end_of w) ≡ 0
        ends =
            let inside = subst (λ l. IfSome l (λ m. IsWithin (e.offset + e.header + m) (end_of w))) size room in
            subst (λ p. overrun (p + n) (end_of w) ≡ 0) at (no_overrun (e.offset + e.header + n) (end_of w) inside)

        of : (o : Option (Bor (List ℕ))) → FindsContent e y.0.now o → (v.constructed ≡ true) × (overrun (content_at at_w here v + n) (end_of w) ≡ 0)
        of None (inl t) = (sym s.constructed ∙ t, ends)
        of None (inr z) = absurd (cc)
        of (Some c) (rest, split, len) =
            let q : n ≡ length c.now = same_size n (length c.now) (sym size ∙ len) in
            absurd (omega (arith, q, lacks, ap length split, length-append c.now rest))

    -- an element that is too deep
    pub refuses_depth : (o : Option (Bor (List ℕ))) → FindsContent e y.0.now o → IfSome e.length (λ n. IsWithin (e.offset + e.header + n) (end_of w)) → d ≤ e.depth → f.cause ≡ TooDeep → f.offset ≡ e.offset → IsSomeAnd f.step (λ z. IsStep z e.class e.number e.index) → Refuses d w here f
    refuses_depth o found room deep ec eo es = record {
      fault = too_deep v spells (has_room o found room) (let g = s.depth in omega (arith, g, deep)) ec;
      place = placed at_w f TooDeep refl ec (eo ∙ s.offset);
      step = step_of f.step es;
    }

    list_of : MayBeConstructed w.content.rules v.class v.number → MayBeConstructed w.content.rules e.class e.number
    list_of may = subst (λ c. MayBeConstructed w.content.rules c e.number) (sym s.class) (subst (λ n. MayBeConstructed w.content.rules v.class n) (sym s.number) may)

    ber_list : MayBeConstructed Ber v.class v.number → MayBeConstructed Ber e.class e.number
    ber_list may = subst (λ c. MayBeConstructed Ber c e.number) (sym s.class) (subst (λ n. MayBeConstructed Ber v.class n) (sym s.number) may)

    of_list : MayBeConstructed Ber e.class e.number → MayBeConstructed Ber v.class v.number
    of_list may = subst (λ c. MayBeConstructed Ber c v.number) s.class (subst (λ n. MayBeConstructed Ber e.class n) s.number may)

    -- the content of a primitive element
    module _ (found : FindsContent e y.0.now e.content) (p : e.constructed ≡ false)
      where
        g : Leaf w.content.rules here y.0.now e
        g = leaf_of w.content.rules here y w.at (length w.opened.items) w.content.visited e a s found p

        size_is : v.length ≡ Definite (length g.content.now)
        size_is = definite_back (length_of y.1) (length g.content.now) (sym s.length ∙ g.length_is)

        taken : (n : ℕ) → v.length ≡ Definite n → take n v.rest ≡ octets_or_none e.content
        taken n l =
            ap (λ k. take k v.rest) (same_length n (length g.content.now) (sym l ∙ size_is)) ∙ ap (λ l. take (length g.content.now) l) g.behind_is ∙ take-append_seam g.content.now g.rest ∙ sym (ap octets_or_none g.content_is)

        first_broken : (c : ContentError) → IsFirstBroken (content_rules w.content.rules e.number (octets_or_none e.content)) c → IsFirstBroken (content_rules w.content.rules v.number (take (length g.content.now) v.rest)) c
        first_broken c first =
            subst (λ l. IsFirstBroken (content_rules w.content.rules v.number l) c) (sym (taken (length g.content.now) size_is)) (subst (λ n. IsFirstBroken (content_rules w.content.rules n (octets_or_none e.content)) c) s.number first)

    -- an element that is refused itself
    pub refuses_check : FindsContent e y.0.now e.content → IfSome e.length (λ n. IsWithin (e.offset + e.header + n) (end_of w)) → e.depth < d → FailsCheck w e f → Refuses d w here f
    refuses_check found room shallow g = of g.fails
      where
        reached : IsReached d at_w here v
        reached = record { header = spells; room = has_room e.content found room; shallow = (let q = s.depth in omega (arith, q, shallow)) }

        at_e : f.offset ≡ w.at
        at_e = g.offset ∙ s.offset

        of : FailsConstructed w.content.rules e f.cause ⊎ FailsPrimitive w e f.cause → Refuses d w here f
        of (inl (p, bad, inl (may, ec))) = record {
          fault = string v reached (sym s.constructed ∙ p) (λ m. bad (list_of m)) (of_list may) ec;
          place = placed at_w f _ refl ec at_e;
          step = step_of f.step g.step;
        }
        of (inl (p, bad, inr (never, ec))) = record {
          fault = constructed v reached (sym s.constructed ∙ p) (λ m. never (ber_list m)) ec;
          place = placed at_w f _ refl ec at_e;
          step = step_of f.step g.step;
        }
        of (inr (p, eu, inl (en, ec))) = record {
          fault = marker v reached (sym s.constructed ∙ p) (sym s.class ∙ eu) (sym s.number ∙ en) ec;
          place = placed at_w f _ refl ec at_e;
          step = step_of f.step g.step;
        }
        of (inr (p, eu, inr (some, never, c, first, ec))) = record {
          fault = value v _ c reached (sym s.constructed ∙ p) (λ k b. never (k, b)) (sym s.class ∙ eu) (λ z. some (s.number ∙ z)) (size_is found p) (first_broken found p c first) ec;
          place = placed at_w f _ refl ec at_e;
          step = step_of f.step g.step;
        }

-- where an end marker is
pub marker_here : (w : Walk) (after : ℕ) → after ≡ w.at + 2 → IsWithin after (end_of w) → after ≤ length w.input.now → between w.input.now w.at after ≡ end_marker → (z : List ℕ) × (here_of w ≡ end_marker ++ z)
marker_here w after ea hw hl eb =
    let limit = limit_of (length w.input.now) (end_of w) in
    let n = limit_least after (length w.input.now) (end_of w) hl hw in
    (between w.input.now after limit, sym (between_more w.input.now w.at after limit (omega (arith, ea)) n) ∙ ap (λ l. l ++ between w.input.now after limit) eb)
