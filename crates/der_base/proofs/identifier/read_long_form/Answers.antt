use Rattle.std.proofs.Common.{◌≡◌, ◌≢◌, ℕ, zero, suc, ◌+◌, ◌*◌, ◌^◌, ◌<◌, ◌≤◌, ◌⊎◌, List, [], ◌∷◌, ◌++◌, length, take, drop, get_or, refl, sym, ap, ◌∙◌, inl, inr, arith, add-one, append_assoc}
use Rattle.std.proofs.Math.Seq.{drop-cons, take-suc}
use Rattle.std.proofs.lemmas.List.{take-append-drop, take_rest, take_all, nil_from_length}
use Rattle.std.proofs.lemmas.List.Elements.{All-nil}
use Rattle.der_base.specs.Fault.{HasBadTag}
use Rattle.der_base.specs.Octets.{groups, groups_value}
use Rattle.der_base.proofs.Octets.Identifiers.{head_same}
use Rattle.der_base.proofs.Octets.TagNumbers.{open_groups, open_groups_more, open_high, groups_last, value_open, value-append, cut_open}
use Rattle.der_base.proofs.identifier.read_long_form.Goals as goal
use Rattle.der_base.proofs.identifier.read_long_form.Goals.{then-first-lt31-via-then-first-lt31, then-first-lt31-via-else-first-lt31+then-first}

-- the first k octets of s are the groups of n, and the octet b follows
record IsNext (s : List ℕ) (k n b : ℕ) : Type 0 where
  within : k < length s
  groups : take k s ≡ open_groups n
  octet : get_or s k 0 ≡ b

seam : (s : List ℕ) (k n b : ℕ) → IsNext s k n b → s ≡ open_groups n ++ b ∷ drop (k + 1) s
seam s k n b h =
    sym (take-append-drop k s) ∙ ap (λ l. l ++ drop k s) h.groups ∙ ap (λ l. open_groups n ++ l) (drop-cons s k 0 h.within)
    ∙ ap (λ x. open_groups n ++ x ∷ drop (suc k) s) h.octet ∙ ap (λ m. open_groups n ++ b ∷ drop m s) (sym (add-one k))

-- before any group stands the first octet
begins : (s r : List ℕ) (f k b : ℕ) → s ≡ f ∷ r → IsNext s k 0 b → b ≡ f
begins s r f k b e h = (head_same (sym (seam s k 0 b h) ∙ e)).0

bad_first : (s r : List ℕ) (b : ℕ) → s ≡ b ∷ r → ((b ≡ 128) ⊎ (b < 31)) → HasBadTag (31 ∷ s)
bad_first s r b e (inl h) = (31, b, [], r, ap (λ l. 31 ∷ l) e, refl, All-nil (λ g. 128 ≤ g), inl (refl, h))
bad_first s r b e (inr h) = (31, b, [], r, ap (λ l. 31 ∷ l) e, refl, All-nil (λ g. 128 ≤ g), inr (inl (refl, h)))

bad_next : (s : List ℕ) (k n b : ℕ) → IsNext s k n b → 2 ^ 25 ≤ n → HasBadTag (31 ∷ s)
bad_next s k n b h large = (
  31,
  b,
  open_groups n,
  drop (k + 1) s,
  ap (λ l. 31 ∷ l) (seam s k n b h),
  refl,
  open_high n,
  inr (inr (omega (arith, large, value-append 0 (open_groups n) (b ∷ []), ap (λ m. groups_value m (b ∷ [])) (value_open n)))),
)

last : (s r : List ℕ) (f k n b : ℕ) → s ≡ f ∷ r → 31 ≤ f → IsNext s k n b → b < 128 → (s ≡ groups (n * 128 + b) ++ drop (k + 1) s) × (31 ≤ n * 128 + b)
last s r f k n b e low h small = (
  seam s k n b h ∙ sym (append_assoc (open_groups n) (b ∷ []) (drop (k + 1) s)) ∙ ap (λ l. l ++ drop (k + 1) s) (sym (groups_last n b small)),
  long n h,
)
  where
    long : (m : ℕ) → IsNext s k m b → 31 ≤ m * 128 + b
    long zero g = omega (arith, begins s r f k b e g)
    long (suc m) g = omega arith

more : (s r : List ℕ) (f k n g : ℕ) → s ≡ f ∷ r → f ≢ 128 → IsNext s k n (128 + g) → g < 128 → take (k + 1) s ≡ open_groups (n * 128 + g)
more s r f k n g e no_zeros h small =
    ap (λ m. take m s) (add-one k) ∙ take-suc s k 0 h.within ∙ ap (λ l. l ++ get_or s k 0 ∷ []) h.groups ∙ ap (λ x. open_groups n ++ x ∷ []) h.octet
    ∙ sym (open_groups_more n g small (some n h))
  where
    some : (m : ℕ) → IsNext s k m (128 + g) → 0 < m * 128 + g
    some zero i = omega (arith, begins s r f k (128 + g) e i)
    some (suc m) i = omega arith

pub returns-in_default : goal.returns-in_default
returns-in_default c = (refl, cut_open 0 c.args.i.now (nil_from_length c.args.i.now c.in_default.ensures.cases) (omega arith))

pub returns-then-first-lt31 : goal.returns-then-first-lt31
returns-then-first-lt31 c = (
  bad_first c.args.i.now _ c.in-Some.first.now c.in-Some.ensures.cases.0
      (elim c.then-first-lt31.branch [
        | then-first-lt31-via-then-first-lt31 w ↦ inr w.if-first-lt31.true
        | then-first-lt31-via-else-first-lt31+then-first w ↦ inl w.if-first.true
      ]),
  refl,
)

pub returns-then-number : goal.returns-then-number
returns-then-number c = (
  bad_next c.args.i.now c.loop-index.index c.loop-index.number _ record { within = c.loop-index-test.true; groups = c.loop-index.invariant; octet = refl } (omega arith),
  refl,
)

pub returns-then-octet-lt128 : goal.returns-then-octet-lt128
returns-then-octet-lt128 c =
    let s = c.args.i.now in
    let k = c.loop-index.index in
    let h = last s _ c.in-Some.first.now k c.loop-index.number c.from.result c.in-Some.ensures.cases.0 c.if-first-lt31.false
    record { within = c.loop-index-test.true; groups = c.loop-index.invariant; octet = omega (arith, c.from.ensures) } (omega (arith, c.from.ensures)) in
    (rw (take_rest s (k + 1)) h.0, h.1, omega (arith, c.from.ensures))

pub loop-index-preserved : goal.loop-index-preserved
loop-index-preserved c =
    more c.args.i.now _ c.in-Some.first.now c.loop-index.index c.loop-index.number c.from.result c.in-Some.ensures.cases.0 c.if-first.false
    record { within = c.loop-index-test.true; groups = c.loop-index.invariant; octet = omega (arith, c.from.ensures, c.type_inv.i c.loop-index.index) } (omega (arith, c.from.ensures))

pub returns : goal.returns
returns c = (refl, cut_open c.loop-index.number c.args.i.now (sym (take_all c.loop-index.index c.args.i.now c.loop-index-test.false) ∙ c.loop-index.invariant) (omega arith))
