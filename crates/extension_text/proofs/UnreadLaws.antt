-- Values that aren't of their type, and the element that is refused.
use Rattle.std.proofs.Common.{◌≡◌, List, ℕ, Ok, subst}
use Rattle.der_base.specs.declared.any.Any.{Any}
use Rattle.der_base.specs.declared.error.Error.{Error as BerError}
use Rattle.der_base.specs.declared.rules.Rules.TheVariants.{Der}
use Rattle.der_cursor.specs.declared.cursor.Cursor.{Cursor}
use Rattle.der_cursor.specs.declared.error.ReadError.{ReadError}
use Rattle.der_cursor.specs.Cursors.{StartsAt, octets_left, rules_of}
use Rattle.der_cursor.specs.Elements.{element_of}
use Rattle.der_cursor.specs.Formats.{AnyElement, Never, ReadsField}
use Rattle.extension_text.specs.declared.why.Why.{Why}
use Rattle.extension_text.specs.Unread.{IsUnread, IsUnreadBy, IsWhyIn}

-- the element that is read
pub begins_with : {i : List ℕ} {old new : Cursor} {x : Any} → StartsAt Der i old
    → ReadsField {E = ReadError BerError} AnyElement element_of Never old (Ok x) new
    → (rest : List ℕ) × AnyElement Der i (element_of x) rest
begins_with {i} {old} {new} {x} s r =
    let q = (r s.4).found.0 in
    let rest = octets_left new in
    let by = subst (λ j. AnyElement (rules_of old) j (element_of x) rest) s.0 q in
    (rest, subst (λ k. AnyElement k i (element_of x) rest) s.3 by)

-- the text of an error, of which this can be said
pub unread_text : {indent w text : List ℕ} {r e : ReadError BerError} {why : Why} → r ≡ e → IsWhyIn w e why
    → IsUnreadBy indent w r why text → IsUnread indent w e text
unread_text {indent} {w} {text} {why = why} s h x = (why, h, subst (λ r. IsUnreadBy indent w r why text) s x)
