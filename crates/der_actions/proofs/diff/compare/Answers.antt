use Rattle.std.proofs.Common.{◌≡◌, ◌≢◌, ◌∙◌, Bool, List, ap, false, subst, sym, true, ℕ}
use Rattle.std.specs.Prelude.{map}
use Rattle.der_actions.specs.declared.diff.NamedElement.{NamedElement}
use Rattle.der_actions.specs.declared.options.Options.{Options}
use Rattle.der_actions.specs.Differences.{AreElementsOf, Compared, HasCompared, compared}
use Rattle.der_actions.proofs.diff.compare.Goals as goal

no_truth : {P : Type 0} {b : Bool} → b ≡ false → b ≡ true → P
no_truth p q = cc

same : (o : Options) (i j : List ℕ) (xs ys zs ws : List NamedElement) → HasCompared o i (map compared xs) → HasCompared o j (map compared ys) → zs ≡ xs → ws ≡ ys
    → map compared zs ≡ map compared ws → (cs : List Compared) × HasCompared o i cs × HasCompared o j cs
same o i j xs ys zs ws h k e f alike =
    (map compared xs, h, subst (HasCompared o j) (sym (sym (ap (map compared) e) ∙ alike ∙ ap (map compared) f)) k)

other : (o : Options) (i j : List ℕ) (xs ys zs ws : List NamedElement) → HasCompared o i (map compared xs) → HasCompared o j (map compared ys) → zs ≡ xs → ws ≡ ys
    → map compared zs ≢ map compared ws → (cs ds : List Compared) × HasCompared o i cs × HasCompared o j ds × (cs ≢ ds)
other o i j xs ys zs ws h k e f differ =
    (map compared xs, map compared ys, h, k, λ alike. differ (ap (map compared) e ∙ alike ∙ sym (ap (map compared) f)))

pub returns-then-are_alike-clause-finds : goal.returns-then-are_alike-clause-finds
returns-then-are_alike-clause-finds g c =
    let h = rw c.in-Some.is at c.in_ok-old.ensures in
    let k = rw c.in-Some-2.is at c.in_ok-new.ensures in
    same c.args.options.now c.args.sides.old.now c.args.sides.new.now c.in-Some.old.items c.in-Some-2.new.items c.deref.result.now c.deref-2.result.now h.contents k.contents
    c.deref.ensures.value c.deref-2.ensures.value (c.are_alike.ensures.0 c.if-are_alike.true)

pub returns-clause-finds : goal.returns-clause-finds
returns-clause-finds g c =
    let h = rw c.in-Some.is at c.in_ok-old.ensures in
    let k = rw c.in-Some-2.is at c.in_ok-new.ensures in
    other c.args.options.now c.args.sides.old.now c.args.sides.new.now c.in-Some.old.items c.in-Some-2.new.items c.deref.result.now c.deref-2.result.now h.contents k.contents
    c.deref.ensures.value c.deref-2.ensures.value (λ alike. no_truth c.if-are_alike.false (c.are_alike.ensures.1 alike))

pub returns-clause-writes : goal.returns-clause-writes
returns-clause-writes g c =
    let h = rw c.in-Some.is at c.in_ok-old.ensures in
    let k = rw c.in-Some-2.is at c.in_ok-new.ensures in
    let o = c.args.options.now in (
      c.deref-3.result.now,
      c.deref-4.result.now,
      subst (AreElementsOf o c.args.sides.old.now) (sym c.deref-3.ensures.value) h,
      subst (AreElementsOf o c.args.sides.new.now) (sym c.deref-4.ensures.value) k,
      c.in_ok-write_changes.ensures,
    )
