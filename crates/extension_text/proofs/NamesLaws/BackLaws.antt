-- Relative names one after another, and their text from the last one.
use Rattle.std.proofs.Common.{◌≡◌, ◌≤◌, ◌<◌, ◌+◌, ◌-◌, ◌⊎◌, ◌∙◌, [], ◌∷◌, ◌++◌, List, ℕ, ap, append_assoc, arith, codes, inl, inr, length, length-append, refl, subst, sym, true}
use Rattle.std.proofs.lemmas.List.{nil_from_length}
use Rattle.der_base.specs.declared.header.Class.TheVariants.{Universal}
use Rattle.der_base.specs.declared.rules.Rules.TheVariants.{Der}
use Rattle.x509.specs.Formats.{set, spells}
use Rattle.x509.specs.Lists.{BeginsWithNone}
use Rattle.x509.proofs.FormatLaws.{shows_one}
use Rattle.x509.proofs.ReaderLaws.{element_less}
use Rattle.extension_text.specs.Names.Names.{AreBackwards, Backwards, HasNames, IsName, IsRelativeName, Passes}
use Rattle.extension_text.specs.Names.Pieces.{AreNext, Exactly, Then}

-- names after others
pub joined : (us vs : List (List ℕ)) (i mid end : List ℕ) → AreNext (spells set) us i mid → AreNext (spells set) vs mid end → AreNext (spells set) (us ++ vs) i end
joined [] vs i mid end a b = subst (λ z. AreNext (spells set) vs z end) (sym a) b
joined (u ∷ us) vs i mid end a b = (a.0, a.1, joined us vs a.0 mid end a.2 b)

-- what is left after the first of some names
left_of : (us ws : List (List ℕ)) (i mid end : List ℕ) → length us ≤ length ws → AreNext (spells set) us i mid → AreNext (spells set) ws i end
    → (vs : List (List ℕ)) × AreNext (spells set) vs mid end × (length us + length vs ≡ length ws)
left_of [] ws i mid end le a b = (ws, subst (λ z. AreNext (spells set) ws z end) a b, omega arith)
left_of (u ∷ us) [] i mid end le a b = absurd (omega (arith, le))
left_of (u ∷ us) (w ∷ ws) i mid end le a b =
    let same = (shows_one set tt).one_value i u w a.0 b.0 a.1 b.1 in
    let r = left_of us ws b.0 mid end (omega (arith, le)) (subst (λ z. AreNext (spells set) us z mid) same.1 a.2) b.2 in
    (r.0, r.1, omega (arith, r.2))

-- as many names end where the others do
same_end : (us ws : List (List ℕ)) (i mid end : List ℕ) → length us ≡ length ws → AreNext (spells set) us i mid → AreNext (spells set) ws i end → mid ≡ end
same_end us ws i mid end e a b =
    let r = left_of us ws i mid end (omega (arith, e)) a b in
    let none : length r.0 ≡ 0 = omega (arith, e, r.2) in
    subst (λ z. AreNext (spells set) z mid end) (nil_from_length r.0 none) r.1

no_more : (vs : List (List ℕ)) (i end : List ℕ) → BeginsWithNone set i → AreNext (spells set) vs i end → length vs ≡ 0
no_more [] i end none a = refl
no_more (v ∷ vs) i end none a = absurd (none v a.0 a.1)

-- no more names than octets
few : (ws : List (List ℕ)) (i end : List ℕ) → AreNext (spells set) ws i end → length ws + length end ≤ length i
few [] i end a = let e = ap length a in omega (arith, e)
few (w ∷ ws) i end a =
    let less = element_less Der Universal true 17 i (w, a.0) a.1 in
    let others = few ws a.0 end a.2 in
    omega (arith, less, others)

none_in_nothing : (end : List ℕ) → length end ≡ 0 → BeginsWithNone set end
none_in_nothing end none v rest s = let less = element_less Der Universal true 17 end (v, rest) s in omega (arith, less, none)

all_passed : (ws : List (List ℕ)) (i end : List ℕ) → AreNext (spells set) ws i end → (length ws ≡ length i) ⊎ BeginsWithNone set end → BeginsWithNone set end
all_passed ws i end a (inl e) = let some = few ws i end a in none_in_nothing end (omega (arith, e, some))
all_passed ws i end a (inr none) = none

-- the text of names after others
backwards : (us vs : List (List ℕ)) {t : List ℕ} → 1 ≤ length us → 1 ≤ length vs → Then (Backwards vs) (Then (Exactly (codes ",")) (Backwards us)) t → Backwards (us ++ vs) t
backwards [] vs some more b = absurd (omega (arith, some))
backwards us [] some more b = absurd (omega (arith, more))
backwards (u ∷ []) (v ∷ vs) some more b =
    let x = b.is_second.is_second.is_second in
    record {
      first = b.first;
      second = codes "," ++ x.second;
      is_first = b.is_first;
      is_second = record { first = codes ","; second = x.second; is_first = refl; is_second = x.is_second; whole = refl };
      whole = rw (b.whole, b.is_second.whole, b.is_second.is_first, b.is_second.is_second.whole, b.is_second.is_second.is_first, x.whole, x.is_first) refl;
    }
backwards (u ∷ w ∷ us) (v ∷ vs) some more b =
    let x = b.is_second.is_second in
    record {
      first = b.first ++ (codes "," ++ x.first);
      second = x.second;
      is_first = backwards (w ∷ us) (v ∷ vs) (omega arith) more (record {
        first = b.first;
        second = codes "," ++ x.first;
        is_first = b.is_first;
        is_second = record { first = codes ","; second = x.first; is_first = refl; is_second = x.is_first; whole = refl };
        whole = refl;
      });
      is_second = x.is_second;
      whole = rw (b.whole, b.is_second.whole, b.is_second.is_first, x.whole) (simp append_assoc refl);
    }

-- all names, where no more were passed than there are octets
pub all_names : {i w left : List ℕ} {n : ℕ} {t : List ℕ} → i ≡ w → Passes (length w) i left n → AreBackwards n i t → IsName w t
all_names {i} {w} {left} {n} {t} e p x =
    let end = same_end x.0 p.0 i x.1 left (x.3 ∙ sym p.2) x.2 p.1 in
    let most = ap length e in
    let none = all_passed p.0 i left p.1 (elim p.4 [ inl m ↦ inl (p.2 ∙ m ∙ sym most) | inr m ↦ inr m ]) in
    subst (λ z. IsName z t) e (x.0, x.1, x.2, subst (BeginsWithNone set) (sym end) none, x.4)

-- none, and one
pub no_names : (i : List ℕ) {n : ℕ} {t : List ℕ} → n ≡ 0 → t ≡ [] → AreBackwards n i t
no_names i e x = ([], i, refl, sym e, x)

pub first_alone : (i w rest : List ℕ) {t : List ℕ} → spells set i w rest → IsRelativeName w t → AreBackwards 1 i t
first_alone i w rest {t} s x = (
  w ∷ [],
  rest,
  (rest, s, refl),
  refl,
  record { first = []; second = t; is_first = refl; is_second = record { first = []; second = t; is_first = refl; is_second = x; whole = refl }; whole = refl },
)

pub one_at_least : (i : List ℕ) → HasNames 1 i → BeginsWithNone set i → ⊥
one_at_least i h none = let gone = no_more h.0 i h.1 none h.2 in omega (arith, gone, h.3)

-- so many names are those that were passed, and others
abbrev IsSplit : ℕ → ℕ → List ℕ → List ℕ → Type 0
IsSplit n half i mid = HasNames (n - half) mid × ((us : List (List ℕ)) × AreNext (spells set) us i mid × (length us ≡ half))

pub split : (n half m : ℕ) (i mid : List ℕ) → half < n → HasNames n i → Passes half i mid m → IsSplit n half i mid
split n half m i mid less h p =
    let r = left_of p.0 h.0 i mid h.1 (omega (arith, less, h.3, p.2, p.3)) p.1 h.2 in
    let whole : m ≡ half = elim p.4 [
      | inl e ↦ e
      | inr none ↦ let gone = no_more r.0 mid h.1 none r.1 in absurd (omega (arith, gone, r.2, less, h.3, p.2, p.3))
    ] in
    ((r.0, h.1, r.1, omega (arith, whole, r.2, h.3, p.2)), (p.0, p.1, p.2 ∙ whole))

pub both : (n half : ℕ) (i mid t : List ℕ) → half < n → 1 ≤ half → IsSplit n half i mid → Then (AreBackwards (n - half) mid) (Then (Exactly (codes ",")) (AreBackwards half i)) t → AreBackwards n i t
both n half i mid t less some s x =
    let (vs, end, a, l, b) = x.is_first in
    let (us, end-us, a-us, l-us, b-us) = x.is_second.is_second in
    let e = same_end us s.1.0 i end-us mid (l-us ∙ sym s.1.2) a-us s.1.1 in
    let all = length-append us vs in (
      us ++ vs,
      end,
      joined us vs i mid end (subst (λ z. AreNext (spells set) us i z) e a-us) a,
      omega (arith, all, l, l-us, less),
      backwards us vs (omega (arith, l-us, some)) (omega (arith, l, less)) (record {
        first = x.first;
        second = x.second;
        is_first = b;
        is_second = record {
          first = x.is_second.first;
          second = x.is_second.second;
          is_first = x.is_second.is_first;
          is_second = b-us;
          whole = x.is_second.whole;
        };
        whole = x.whole;
      }),
    )
