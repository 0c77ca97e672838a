-- How many octets the contents come to at most.
use Rattle.std.specs.Borrow.{Bor}
use Rattle.std.proofs.Common.{◌≡◌, ℕ, ◌+◌, ◌*◌, ◌≤◌, Bool, true, false, Option, Some, None, List, [], ◌∷◌, ◌++◌, length, length-append, unwrap_or, ap, ◌∙◌, arith}
use Rattle.std.specs.Prelude.{if◌then◌else◌}
use Rattle.der_base.specs.declared.header.Class.{Class}
use Rattle.der_base.specs.declared.rules.Rules.TheVariants.{Ber}
use Rattle.der_base.specs.Octets.{identifier, SpellsLength}
use Rattle.der_base.specs.Spelling.{end_marker}
use Rattle.der_elements.specs.declared.element.Element.{Element}
use Rattle.der_elements.specs.Visits.{IsHeaderBy, Visited, Visits, VisitsOne, none, one_more, primitive, broken, string, constructed, indefinite}
use Rattle.der_elements.specs.declared.walk.Walk.{Walk}
use Rattle.der_elements.specs.Walked.{HasOctets, HasVisited, visited_of}
use Rattle.der_elements.proofs.Steps.{within}
use Rattle.der_canon.specs.Same.{no_extras}
use Rattle.der_canon.specs.declared.size.Sizes.{Sizes}
use Rattle.der_canon.specs.Sizing.{ComesTo, IsFound, cost, costs, sum}

pub sum_push : (ns : List ℕ) (n : ℕ) → sum (ns ++ n ∷ []) ≡ sum ns + n
sum_push [] n = omega arith
sum_push (k ∷ ns) n = omega (arith, sum_push ns n)

-- the parts of the bound, of contents with one more inside
pub push_parts : (ms ns : List ℕ) (n : ℕ) → ms ≡ ns ++ n ∷ [] → (sum ms ≡ sum ns + n) × (length ms ≡ length ns + 1)
push_parts ms ns n e = (ap sum e ∙ sum_push ns n, ap length e ∙ length-append ns (n ∷ []))

pub costs_append : (vs ws : List Visited) → costs (vs ++ ws) ≡ costs vs + costs ws
costs_append [] ws = omega arith
costs_append (v ∷ vs) ws = omega (arith, costs_append vs ws)

pub costs_push : (vs : List Visited) (v : Visited) → costs (vs ++ v ∷ []) ≡ costs vs + cost v
costs_push vs v = omega (arith, costs_append vs (v ∷ []))

pub comes_more : (n m : ℕ) (b : Sizes) (r : Option (Unit {0})) → n ≤ m → ComesTo n b r → ComesTo m b r
comes_more n m b (Some x) h k = omega (arith, h, k)
comes_more n m b None h k = omega (arith, h, k)

-- an element that a walk found
pub found : (i : List ℕ) (e : Element) → HasOctets i e → e.depth ≤ 100 → IsFound e
found i e g d = record { depth = d; identifier = g.identifier; content = λ w is. (rw is at g.content).0; primitive = g.primitive }

-- what it costs
pub cost_least : (e : Element) → IsFound e → length e.identifier.now + 10 ≤ cost (visited_of e)
cost_least e f = omega (arith, ap length f.identifier)

pub cost_of : (e : Element) (w : Bor (List ℕ)) → IsFound e → e.constructed ≡ false → e.content ≡ Some w
    → cost (visited_of e) ≡ length e.identifier.now + 10 + length w.now
cost_of e w f con is =
    let n : unwrap_or e.length 0 ≡ length w.now = ap (λ l. unwrap_or l 0) (f.content w is) in
    let m : (if e.constructed then 0 else unwrap_or e.length 0) ≡ length w.now = ap (λ p. if p then 0 else unwrap_or e.length 0) con ∙ n in
    omega (arith, ap length f.identifier, m)

-- a walk has visited fewer elements than there are octets
pub few_read : {i : List ℕ} {w : Walk} {vs : List Visited} → HasVisited no_extras Ber i w vs → length vs + length vs ≤ length i
few_read h = let at = within h.walked in omega (arith, h.few, at.0)

-- a header has an octet besides its identifier
some_length : (s : List ℕ) (n : ℕ) → SpellsLength s n → 1 ≤ length s
some_length [] n h = absurd h.1
some_length (b ∷ bs) n h = omega arith

header_costs : (c : Class) (p : Bool) (t : ℕ) (l : Option ℕ) (h : List ℕ) → IsHeaderBy Ber c p t l h → length (identifier c p t) + 1 ≤ length h
header_costs c p t (Some n) h is =
    omega (arith, some_length is.1 n is.2, ap length is.3, length-append (identifier c p t) is.1)
header_costs c p t None h is = omega (arith, ap length is.3, length-append (identifier c p t) (128 ∷ []))

-- what is visited costs ten times its octets at most
mutual
  pub costs_within : {d k a : ℕ} {i : List ℕ} {vs : List Visited} → Visits no_extras Ber d k a i vs → costs vs ≤ 10 * length i
  costs_within none = omega arith
  costs_within (one_more b rest us ws e f is more) =
      omega (arith, ap length e, length-append b rest, ap costs f, costs_append us ws, costs_one is, costs_within more)

  costs_one : {d k a : ℕ} {b : List ℕ} {vs : List Visited} → VisitsOne no_extras Ber d k a b vs → costs vs ≤ 10 * length b
  costs_one (primitive c t h w is e may out ev) =
      omega (arith, header_costs c false t (Some (length w)) h is, ap length e, length-append h w, ap costs ev)
  costs_one (broken t h w is e keeps er it never ev) = absurd (cc)
  costs_one (string m t h w u v us is e value enters holds first vis ev) = absurd (cc)
  costs_one (constructed c t h w us is e may vis ev) =
      omega (arith, header_costs c true t (Some (length w)) h is, ap length e, length-append h w, ap costs ev, costs_within vis)
  costs_one {b = b} (indefinite c t h w us is e may vis ev) =
      let all : length b ≡ length h + (length w + 2) = omega (arith, ap length e, length-append (h ++ w) end_marker, length-append h w) in
      omega (arith, header_costs c true t None h is, all, ap costs ev, costs_within vis)
