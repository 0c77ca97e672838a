-- Changes, one after another.
use Rattle.std.proofs.Common.{◌≡◌, ◌∙◌, ◌+◌, ◌-◌, ◌<◌, ◌≤◌, ℕ, List, [], ◌∷◌, ◌++◌, Option, ap, append_assoc, append-nil, arith, codes, drop, get_or, length, length-drop, slice_range, subst, sym, take}
use Rattle.std.proofs.Math.Seq.{take-length}
use Rattle.std.proofs.lemmas.List.{append_cancel_right, get_or-drop, take-append-drop, take_all, take_more}
use Rattle.std.proofs.lemmas.List.Folds.{drop_split}
use Rattle.std.proofs.KnownBytes.{Appends-nil, Appends-trans}
use Rattle.std.specs.Io.KnownBytes.{Appends}
use Rattle.der_actions.specs.declared.diff.NamedElement.{NamedElement}
use Rattle.der_actions.specs.declared.options.Options.{Options}
use Rattle.der_actions.specs.Differences.{Added, AreChangeLines, AreChanges, Change, IsChangeLine, IsLineBehind, Removed, WritesChanges, added, compared, kept, no_lines, none, one_more_line, removed}

changes-append : {es fs gs hs : List NamedElement} {cs ds : List Change} → AreChanges es fs cs → AreChanges gs hs ds → AreChanges (es ++ gs) (fs ++ hs) (cs ++ ds)
changes-append none k = k
changes-append (kept e f same h) k = kept e f same (changes-append h k)
changes-append (removed e h) k = removed e (changes-append h k)
changes-append (added f h) k = added f (changes-append h k)

lines-append : {o : Options} {cs ds : List Change} {text rest : List ℕ} → AreChangeLines o cs text → AreChangeLines o ds rest
    → AreChangeLines o (cs ++ ds) (text ++ rest)
lines-append no_lines k = k
lines-append {o} {ds = ds} {rest = rest} (one_more_line {cs = cs} {text = text} c line l h) k =
    subst (AreChangeLines o (c ∷ cs ++ ds)) (sym (append_assoc line text rest)) (one_more_line c line l (lines-append h k))

-- nothing is written
pub writes_none : (o : Options) (known : Option (List ℕ)) → WritesChanges o [] [] known known
writes_none o known = record { changes = []; are = none; text = []; lines = no_lines; adds = Appends-nil known }

-- nothing is written of elements that are alike
pub writes_kept : (o : Options) (e f : NamedElement) (known : Option (List ℕ)) → compared e ≡ compared f → WritesChanges o (e ∷ []) (f ∷ []) known known
writes_kept o e f known same = record { changes = []; are = kept e f same none; text = []; lines = no_lines; adds = Appends-nil known }

-- a line is written
one_line : (o : Options) (c : Change) (text : List ℕ) → IsChangeLine o c text → AreChangeLines o (c ∷ []) text
one_line o c text l = subst (AreChangeLines o (c ∷ [])) (append-nil text) (one_more_line c text l no_lines)

pub writes_removed : (o : Options) (e : NamedElement) (old new : Option (List ℕ)) (text : List ℕ) → IsLineBehind (codes "- ") o e text → Appends old new text
    → WritesChanges o (e ∷ []) [] old new
writes_removed o e old new text l adds = record {
  changes = Removed e ∷ [];
  are = removed e none;
  text = text;
  lines = one_line o (Removed e) text l;
  adds = adds;
}

pub writes_added : (o : Options) (e : NamedElement) (old new : Option (List ℕ)) (text : List ℕ) → IsLineBehind (codes "+ ") o e text → Appends old new text
    → WritesChanges o [] (e ∷ []) old new
writes_added o e old new text l adds = record {
  changes = Added e ∷ [];
  are = added e none;
  text = text;
  lines = one_line o (Added e) text l;
  adds = adds;
}

-- changes, and further ones
pub writes_both : {o : Options} {es fs gs hs : List NamedElement} {old mid new : Option (List ℕ)} → WritesChanges o es fs old mid → WritesChanges o gs hs mid new
    → WritesChanges o (es ++ gs) (fs ++ hs) old new
writes_both {old = old} {mid = mid} {new = new} p q = record {
  changes = p.changes ++ q.changes;
  are = changes-append p.are q.are;
  text = p.text ++ q.text;
  lines = lines-append p.lines q.lines;
  adds = Appends-trans old mid new p.text q.text p.adds q.adds;
}

-- what is passed, and what follows up to a further index
pub front_more : (xs : List NamedElement) (a b : ℕ) → a ≤ b → take a xs ++ slice_range xs a b ≡ take b xs
front_more xs a b h =
    append_cancel_right (take a xs ++ slice_range xs a b) (take b xs) (drop b xs)
    (append_assoc (take a xs) (slice_range xs a b) (drop b xs) ∙ ap (λ zs. take a xs ++ zs) (sym (drop_split xs a b h)) ∙ take-append-drop a xs ∙ sym (take-append-drop b xs))

-- a range of one more element
pub range_more : (xs : List NamedElement) (a i : ℕ) (d : NamedElement) → a ≤ i → i < length xs → slice_range xs a (i + 1) ≡ slice_range xs a i ++ get_or xs i d ∷ []
range_more xs a i d h k =
    let next : i + 1 - a ≡ (i - a) + 1 = omega arith in
    let same : a + (i - a) ≡ i = omega arith in
    ap (λ n. take n (drop a xs)) next ∙ take_more (drop a xs) (i - a) d (omega (arith, length-drop a xs))
    ∙ ap (λ x. take (i - a) (drop a xs) ++ x ∷ []) (get_or-drop a xs (i - a) d ∙ ap (λ n. get_or xs n d) same)

-- the changes to one more of the new elements
pub writes_front : {o : Options} {old mid new : Option (List ℕ)} (xs : List NamedElement) (i : ℕ) (d : NamedElement) → i < length xs → WritesChanges o [] (take i xs) old mid
    → WritesChanges o [] (get_or xs i d ∷ []) mid new → WritesChanges o [] (take (i + 1) xs) old new
writes_front {o} {old} {mid} {new} xs i d h p q = subst (λ fs. WritesChanges o [] fs old new) (sym (take_more xs i d h)) (writes_both p q)

-- the changes to all of the new elements
pub writes_all : {o : Options} {old new : Option (List ℕ)} (xs : List NamedElement) (i : ℕ) → length xs ≤ i → WritesChanges o [] (take i xs) old new
    → WritesChanges o [] xs old new
writes_all {o} {old} {new} xs i h p = subst (λ fs. WritesChanges o [] fs old new) (take_all i xs h) p

-- the changes to a range and to the element behind it, for which there is a partner
pub writes_range : {o : Options} {e : NamedElement} {old mid new : Option (List ℕ)} (xs : List NamedElement) (a i : ℕ) (d : NamedElement) → a ≤ i → i < length xs
    → WritesChanges o [] (slice_range xs a i) old mid → WritesChanges o (e ∷ []) (get_or xs i d ∷ []) mid new → WritesChanges o (e ∷ []) (slice_range xs a (i + 1)) old new
writes_range {o} {e} {old} {mid} {new} xs a i d h k p q = subst (λ fs. WritesChanges o (e ∷ []) fs old new) (sym (range_more xs a i d h k)) (writes_both p q)

-- the changes from one more of the old elements
pub writes_step : {o : Options} {old mid new : Option (List ℕ)} (es xs : List NamedElement) (i : ℕ) (d : NamedElement) (a b : ℕ) → i < length es → a ≤ b
    → WritesChanges o (take i es) (take a xs) old mid → WritesChanges o (get_or es i d ∷ []) (slice_range xs a b) mid new
    → WritesChanges o (take (i + 1) es) (take b xs) old new
writes_step {o} {old} {mid} {new} es xs i d a b h k p q =
    subst (λ gs. WritesChanges o gs (take b xs) old new) (sym (take_more es i d h))
    (subst (λ fs. WritesChanges o (take i es ++ get_or es i d ∷ []) fs old new) (front_more xs a b k) (writes_both p q))

-- the changes to the rest of the new elements
pub writes_rest : {o : Options} {old mid new : Option (List ℕ)} (es xs : List NamedElement) (i a : ℕ) → length es ≤ i → a ≤ length xs
    → WritesChanges o (take i es) (take a xs) old mid → WritesChanges o [] (slice_range xs a (length xs)) mid new → WritesChanges o es xs old new
writes_rest {o} {old} {mid} {new} es xs i a h k p q =
    subst (λ gs. WritesChanges o gs xs old new) (append-nil (take i es) ∙ take_all i es h)
    (subst (λ fs. WritesChanges o (take i es ++ []) fs old new) (front_more xs a (length xs) k ∙ take-length xs) (writes_both p q))
