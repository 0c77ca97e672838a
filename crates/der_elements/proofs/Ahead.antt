-- A walk goes on in its input.
use Rattle.std.proofs.Common.{◌≡◌, ℕ, ◌+◌, ◌<◌, ◌≤◌, Option, Some, None, List, length, ap, arith, inl, inr}
use Rattle.der_elements.specs.declared.element.Element.{Element}
use Rattle.der_elements.specs.declared.walk.Walk.{Walk}
use Rattle.der_elements.specs.Ends.{end_from, end_of, here_of, limit_of, octets_ahead}
use Rattle.der_elements.specs.Reading.{EndsHere, Passes, ReadsHere}
use Rattle.der_elements.proofs.Ends.{limit_size}
use Rattle.der_elements.proofs.Walks.{length-here}

-- what is around goes on here, or after an end marker
pub goes_on_later : (w : Walk) (after : ℕ) → EndsHere w after → w.at ≤ after
goes_on_later w after (inl (m, le, ea)) = omega (arith, ea)
goes_on_later w after (inr (m, ea, within, size, eb)) = omega (arith, ea)

-- a content ends after an offset, if the one around it does
limit_after : (n p a : ℕ) (around l : Option ℕ) → a < p → a < n → a < limit_of n around → a < limit_of n (end_from p around l)
limit_after n p a around (Some m) h1 h2 h3 = omega (arith, h1, h2)
limit_after n p a around None h1 h2 h3 = h3

-- an element that is passed is behind
module _ (w w' : Walk) (here : List ℕ) (e : Element) (eh : here ≡ here_of w) (reads : ReadsHere w here e) (some : 0 < length here)
  where
    limit : w.at < limit_of (length w.input.now) (end_of w)
    limit = omega (arith, ap length eh, length-here w, some)

    inside : w.at < length w.input.now
    inside = omega (arith, limit, limit_size (length w.input.now) (end_of w))

    later : w.at < e.offset + e.header
    later = omega (arith, reads.offset, reads.some)

    pub passes_some : Passes w e w' → octets_ahead w' < octets_ahead w
    passes_some (end, te, ee, inl (kind, into)) = omega (arith, ap length into.input, into.at, later, inside)
    passes_some (end, te, ee, inr (con, holds, on)) =
        let z = limit_after (length w.input.now) (e.offset + e.header) w.at (end_of w) e.length later inside limit in
        omega (arith, ap length on.input, on.at, z, inside)
