-- Walks over the values of a format that octets begin with, one after another.
use Rattle.std.proofs.Common.{◌≡◌, ◌≢◌, ℕ, ◌⊎◌, Bool, true, false, List, [], IsTrue, refl, sym, subst, inl, inr}
use Rattle.std.specs.Prelude.{◌↔◌, not}
use Rattle.std.proofs.lemmas.Bool.{false≢true}
use Rattle.der_base.specs.SetOfOrder.{Descends}
use Rattle.x509.specs.Formats.{Format, sequence, spells, with_octets}
use Rattle.x509.specs.Lists.{BeginsWithNone, Somewhere, here, later}
use Rattle.x509.specs.Rules.{DescendsNext, IsDer, IsFilled, ValueBreaksDer, leading_identifier}
use Rattle.x509.proofs.FormatLaws.{IsExact, shows_one}

-- something is somewhere in what octets begin with, or further on
pub ahead : {E V : Type 0} {f : Format E V} {P : V → List ℕ → Type 0} (x : IsExact f) (v : V) {left rest : List ℕ} → spells f left v rest → Somewhere f P left ↔ (P v rest ⊎ Somewhere f P rest)
ahead {f = f} {P = P} x v {left = left} {rest = rest} b = (on, back)
  where
    on : Somewhere f P left → P v rest ⊎ Somewhere f P rest
    on (here w s p) =
        let e = (shows_one f x).one_value left v w rest _ b s in
        inl (subst (λ z. P z rest) (sym e.0) (subst (λ z. P w z) (sym e.1) p))
    on (later w s p) = let e = (shows_one f x).one_value left v w rest _ b s in inr (subst (λ z. Somewhere f P z) (sym e.1) p)

    back : P v rest ⊎ Somewhere f P rest → Somewhere f P left
    back (inl p) = here v b p
    back (inr s) = later v b s

-- a fact is one of what is left, too
pub record IsStill {E V : Type 0} (f : Format E V) (P : V → List ℕ → Type 0) (i left : List ℕ) : Type 0 where
  pub on : Somewhere f P i → Somewhere f P left
  pub back : Somewhere f P left → Somewhere f P i

pub still_start : {E V : Type 0} {f : Format E V} {P : V → List ℕ → Type 0} {i : List ℕ} → IsStill f P i i
still_start = record { on = λ s. s; back = λ s. s }

module _ {E V : Type 0} {f : Format E V} {P : V → List ℕ → Type 0} (x : IsExact f) (v : V) {left rest : List ℕ} (b : spells f left v rest) where
  -- it is where octets begin, or further on
  further : ¬ P v rest → Somewhere f P left → Somewhere f P rest
  further n s = elim ((ahead x v b).0 s) [ inl p ↦ absurd (n p) | inr t ↦ t ]

  pub still_on : {i : List ℕ} → IsStill f P i left → ¬ P v rest → IsStill f P i rest
  still_on t n = record { on = λ s. further n (t.on s); back = λ s. t.back (later v b s) }

  pub found_here : {i : List ℕ} → IsStill f P i left → P v rest → IsTrue true ↔ Somewhere f P i
  found_here t p = (λ h. t.back (here v b p), λ h. refl)

pub nowhere : {E V : Type 0} {f : Format E V} {P : V → List ℕ → Type 0} {left : List ℕ} → BeginsWithNone f left → Somewhere f P left → ⊥
nowhere n (here w s p) = n w _ s
nowhere n (later w s p) = n w _ s

pub not_found : {E V : Type 0} {f : Format E V} {P : V → List ℕ → Type 0} {i left : List ℕ} → IsStill f P i left → BeginsWithNone f left → IsTrue false ↔ Somewhere f P i
not_found t n = (λ h. absurd (false≢true h), λ s. absurd (nowhere n (t.on s)))

-- the same of other words for a value
pub elsewhere : {E V : Type 0} {f : Format E V} {P Q : V → List ℕ → Type 0} {i : List ℕ} → ((v : V) (rest : List ℕ) → P v rest → Q v rest) → Somewhere f P i → Somewhere f Q i
elsewhere g (here v s p) = here v s (g v _ p)
elsewhere g (later v s p) = later v s (elsewhere g p)

-- the next attribute is one
pub next_descends : {a i : List ℕ} (b : List ℕ × List ℕ) (rest : List ℕ) {r : Bool} → spells (with_octets sequence) i b rest → IsTrue r ↔ Descends a b.0 → IsTrue r ↔ DescendsNext a i
next_descends {a = a} {i = i} b rest s d = (
  λ h. (b, rest, s, d.0 h),
  λ n. d.1 (subst (λ z. Descends a z.0) (sym ((shows_one (with_octets sequence) tt).one_value i b n.0 rest n.1 s n.2).0) n.3),
)

-- the value that follows the identifier is one by DER, or not
pub value_broken : {w v : List ℕ} (x : List ℕ) (b : Bool) → spells leading_identifier w x v → IsTrue b ↔ IsDer v → IsTrue (not b) ↔ ValueBreaksDer w
value_broken {w = w} {v = v} x true s t = (
  λ h. absurd (false≢true h),
  λ n. absurd (n.3 (subst (λ z. IsDer z) ((shows_one leading_identifier tt).one_value w x n.0 v n.1 s n.2).1 (t.0 refl))),
)
value_broken {v = v} x false s t = (λ h. (x, v, s, λ d. false≢true (t.1 d)), λ n. refl)

-- the sequence that octets begin with is all of them, and isn't empty, or not
pub filled : {v rest : List ℕ} (w : List ℕ) {r : Bool} → spells sequence v w rest → IsTrue r ↔ ((rest ≡ []) × (w ≢ [])) → IsTrue r ↔ IsFilled v
filled {v = v} {rest = rest} w s t = (
  λ h. let p = t.0 h in (w, subst (λ z. spells sequence v w z) p.0 s, p.1),
  λ n. let e = (shows_one sequence tt).one_value v w n.0 rest [] s n.1 in t.1 (e.1, subst (λ z. z ≢ []) (sym e.0) n.2),
)

-- it holds nowhere
pub never : {E V : Type 0} {f : Format E V} {P : V → List ℕ → Type 0} {i : List ℕ} → ((v : V) (rest : List ℕ) → ¬ P v rest) → Somewhere f P i → ⊥
never n (here v s p) = n v _ p
never n (later v s p) = never n p
