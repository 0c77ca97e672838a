-- One line after others, and the content of an element.
use Rattle.std.proofs.Common.{◌≡◌, ℕ, ◌+◌, Bool, true, false, Option, Some, None, IfSome, IsSome, List, [], ◌∷◌, ◌++◌, length, MatchBool, MatchOption, refl, sym, ap, ◌∙◌, subst, append_assoc, append-nil}
use Rattle.std.specs.Borrow.{Bor}
use Rattle.std.specs.Option.{unwrap_or}
use Rattle.der_base.specs.declared.rules.Rules.{Rules}
use Rattle.der_print.specs.declared.style.Style.{Style}
use Rattle.der_print.specs.Lines.{AreNamedLines, IsLineOf, IsNamedLine, IsValueSaid, content_in, holding_text, limit_of, no_lines, one_more_line}
use Rattle.der_print.specs.Texts.{content_of, octets_or_none}
use Rattle.der_elements.specs.declared.element.Element.{Element}
use Rattle.der_elements.specs.Ends.{between}
use Rattle.der_elements.specs.Visits.{Visited}
use Rattle.der_elements.specs.Walked.{HasOctets, visited_of}
use Rattle.oid_names.specs.OwnNames.{Named}

pub lines_more : {own : Option (List Named)} {style : Style} {i : List ℕ} {vs : List Visited} {text : List ℕ} (v : Visited) (line : List ℕ) → AreNamedLines own style i vs text
    → IsNamedLine own style v (content_in i v) line → AreNamedLines own style i (vs ++ v ∷ []) (text ++ line)
lines_more {own} {style} {i} v line no_lines l = subst (AreNamedLines own style i (v ∷ [])) (append-nil line) (one_more_line line [] l no_lines)
lines_more {own} {style} {i} v line (one_more_line {v = u} {vs = vs} first rest k ks) l =
    subst (AreNamedLines own style i (u ∷ vs ++ v ∷ [])) (sym (append_assoc first rest line)) (one_more_line first (rest ++ line) k (lines_more v line ks l))

-- a constructed element's content isn't looked at
ending_of : (P : Type 0) (h : Option Rules) (Q : Rules → Type 0) (p : Bool) (B : List ℕ → Type 0) (w w' : List ℕ) → (p ≡ false → w ≡ w') → MatchOption h (MatchBool p P (B w)) Q → MatchOption h (MatchBool p P (B w')) Q
ending_of P (Some s) Q p B w w' same x = x
ending_of P None Q true B w w' same x = x
ending_of P None Q false B w w' same x = subst B (same refl) x

pub line_of : {own : Option (List Named)} {field : List ℕ} (style : Style) (v : Visited) (w w' line : List ℕ) → (v.constructed ≡ false → w ≡ w') → IsLineOf own field style v w line → IsLineOf own field style v w' line
line_of {own} {field} style v w w' line same l = record {
  value = l.value;
  shown = l.shown;
  ending = ending_of (l.value ≡ []) v.holds (λ s. l.value ≡ holding_text s) v.constructed (λ u. IsValueSaid own (limit_of style.limit field v) v u l.value) w w' same l.ending;
  whole = l.whole;
}

content_at : (i : List ℕ) (p : ℕ) (content : Option (Bor (List ℕ))) (n : Option ℕ) → IsSome content
    → IfSome content (λ w. (n ≡ Some (length w.now)) × (w.now ≡ between i p (p + length w.now))) → octets_or_none content ≡ between i p (p + unwrap_or n 0)
content_at i p (Some w) n some h = h.1 ∙ ap (λ m. between i p (p + unwrap_or m 0)) (sym h.0)
content_at i p None n some h = cc

-- the content octets of an element are those in the input
pub content_is : (i : List ℕ) (e : Element) → HasOctets i e → e.constructed ≡ false → content_of e ≡ content_in i (visited_of e)
content_is i e h primitive = content_at i (e.offset + e.header) e.content e.length (h.primitive primitive) h.content
