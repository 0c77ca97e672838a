-- Lists of tests: the refusal of the first test that holds.
use Rattle.std.proofs.Common.{◌≡◌, ◌⊎◌, Bool, true, false, List, [], ◌∷◌, ◌++◌, refl, sym, ◌∙◌, inl, inr}
use Rattle.der_base.specs.LeafRefusal.{Test, IsFirstRefusal, choose}
pub use Rattle.der_base.specs.LeafRefusal.{NoneHolds}
use Rattle.der_base.specs.Refusal.{Refusal}
use Rattle.der_base.proofs.Leaves.Decided.{Decided}

-- tests have one refusal
pub first_refusal_once : (ts : List Test) (e e' : Refusal) → IsFirstRefusal ts e → IsFirstRefusal ts e' → e ≡ e'
first_refusal_once [] e e' h g = absurd h
first_refusal_once (t ∷ ts) e e' (inl h) (inl g) = h.1 ∙ sym g.1
first_refusal_once (t ∷ ts) e e' (inl h) (inr g) = absurd (g.0 h.0)
first_refusal_once (t ∷ ts) e e' (inr h) (inl g) = absurd (h.0 g.0)
first_refusal_once (t ∷ ts) e e' (inr h) (inr g) = first_refusal_once ts e e' h.1 g.1

pub none_refuses : (ts : List Test) (e : Refusal) → NoneHolds ts → ¬ IsFirstRefusal ts e
none_refuses [] e n h = h
none_refuses (t ∷ ts) e n (inl h) = n.0 h.0
none_refuses (t ∷ ts) e n (inr h) = none_refuses ts e n.1 h.1

-- each of the tests can be told
abbrev pub AllDecided : List Test → Type 0
AllDecided [] = Unit {0}
AllDecided (t ∷ ts) = Decided t.holds × AllDecided ts

pub first_or_none : (ts : List Test) → AllDecided ts → ((e : Refusal) × IsFirstRefusal ts e) ⊎ NoneHolds ts
first_or_none [] d = inr tt
first_or_none (t ∷ ts) (inl h, d) = inl (t.tells, inl (h, refl))
first_or_none (t ∷ ts) (inr h, d) = elim (first_or_none ts d) [ inl r ↦ inl (r.0, inr (h, r.1)) | inr n ↦ inr (h, n) ]

-- where there is no refusal, no test holds
pub none_refused : (ts : List Test) → AllDecided ts → ((e : Refusal) → ¬ IsFirstRefusal ts e) → NoneHolds ts
none_refused ts d n = elim (first_or_none ts d) [ inl r ↦ absurd (n r.0 r.1) | inr h ↦ h ]

pub row_decided : (b : Bool) (ts us : List Test) → (b ≡ true → AllDecided ts) → AllDecided us → AllDecided (choose b ts us)
row_decided true ts us f d = f refl
row_decided false ts us f d = d

pub decided_append : (ts us : List Test) → AllDecided ts → AllDecided us → AllDecided (ts ++ us)
decided_append [] us d e = e
decided_append (t ∷ ts) us d e = (d.0, decided_append ts us d.1 e)

pub none_of_front : (ts us : List Test) → NoneHolds (ts ++ us) → NoneHolds ts
none_of_front [] us n = tt
none_of_front (t ∷ ts) us n = (n.0, none_of_front ts us n.1)

pub none_of_back : (ts us : List Test) → NoneHolds (ts ++ us) → NoneHolds us
none_of_back [] us n = n
none_of_back (t ∷ ts) us n = none_of_back ts us n.1

pub none_of_both : (ts us : List Test) → NoneHolds ts → NoneHolds us → NoneHolds (ts ++ us)
none_of_both [] us n m = m
none_of_both (t ∷ ts) us n m = (n.0, none_of_both ts us n.1 m)

-- a refusal in front of further tests, and one behind tests that pass
pub refused_in_front : (ts us : List Test) (e : Refusal) → IsFirstRefusal ts e → IsFirstRefusal (ts ++ us) e
refused_in_front [] us e h = absurd h
refused_in_front (t ∷ ts) us e (inl h) = inl h
refused_in_front (t ∷ ts) us e (inr h) = inr (h.0, refused_in_front ts us e h.1)

pub refused_behind : (ts us : List Test) (e : Refusal) → NoneHolds ts → IsFirstRefusal us e → IsFirstRefusal (ts ++ us) e
refused_behind [] us e n h = h
refused_behind (t ∷ ts) us e n h = inr (n.0, refused_behind ts us e n.1 h)

pub refused_of_back : (ts us : List Test) (e : Refusal) → NoneHolds ts → IsFirstRefusal (ts ++ us) e → IsFirstRefusal us e
refused_of_back [] us e n h = h
refused_of_back (t ∷ ts) us e n (inl h) = absurd (n.0 h.0)
refused_of_back (t ∷ ts) us e n (inr h) = refused_of_back ts us e n.1 h.1
