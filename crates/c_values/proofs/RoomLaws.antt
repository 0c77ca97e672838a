-- A buffer after several texts.
use Rattle.std.proofs.Common.{◌≡◌, ℕ, ◌-◌, ◌^◌, ◌≤◌, List, [], ◌∷◌, ◌++◌, length, refl, sym, ap, subst, ◌∙◌, arith, append_assoc, append-nil}
use Rattle.std.specs.Fmt.{WritesInCalls}
use Rattle.std.specs.List.{FoldsTo, concat, flat_map}
use Rattle.c_values.specs.declared.room.Room.{Room}
use Rattle.c_values.specs.declared.room.Script.{Script}
use Rattle.c_values.specs.declared.room.Script.TheVariants.{Utf8, Ascii}
use Rattle.c_values.specs.Rooms.{TakesText, ascii, written}
use Rattle.c_values.specs.Texts.{PutsText}
use Rattle.c_values.proofs.Puts.{puts_none, puts_more}

ascii_more : (a b : List ℕ) → flat_map ascii (a ++ b) ≡ flat_map ascii a ++ flat_map ascii b
ascii_more [] b = refl
ascii_more (x ∷ a) b = ap (λ l. ascii x ++ l) (ascii_more a b) ∙ sym (append_assoc (ascii x) (flat_map ascii a) (flat_map ascii b))

written_more : (k : Script) (a b : List ℕ) → written k (a ++ b) ≡ written k a ++ written k b
written_more Utf8 a b = refl
written_more Ascii a b = ascii_more a b

written_none : (k : Script) → written k [] ≡ []
written_none Utf8 = refl
written_none Ascii = refl

after_calls : (r s t : Room) (text : List ℕ) (parts : List (List ℕ)) → length r.octets.now ≤ 2 ^ 64 - 1 → TakesText r text s
    → FoldsTo TakesText s parts t → TakesText r (text ++ concat parts) t
after_calls r s t text [] h p e = subst (λ l. TakesText r l t) (sym (append-nil text)) (subst (TakesText r text) e p)
after_calls r s t text (x ∷ xs) h p c =
    let u = c.0 in
    let k = r.script in
    let next = subst (λ z. PutsText s.octets.now s.length (written z x) u.octets.now u.length) p.1 c.1.2 in
    let both = puts_more _ _ _ (written k text) (written k x) _ _ _ h p.2 next in
    let whole = subst (λ l. PutsText r.octets.now r.length l u.octets.now u.length) (sym (written_more k text x)) both in
    let more : TakesText r (text ++ x) u = (c.1.0 ∙ p.0, c.1.1 ∙ p.1, whole) in
    subst (λ l. TakesText r l t) (append_assoc text x (concat xs)) (after_calls r u t (text ++ x) xs h more c.2)

-- an empty buffer after a text
pub after_writes : (r s : Room) (old text : List ℕ) → length r.octets.now ≤ 2 ^ 64 - 1 → r.octets.now ≡ old → r.length ≡ 0
    → WritesInCalls TakesText r text s
    → (s.octets.ghost_name ≡ r.octets.ghost_name) × PutsText old 0 (written r.script text) s.octets.now s.length
after_writes r s old text h o z k =
    let start : PutsText r.octets.now r.length [] r.octets.now r.length = puts_none r.octets.now r.length (omega (arith, z)) in
    let none : PutsText r.octets.now r.length (written r.script []) r.octets.now r.length = subst (λ l. PutsText r.octets.now r.length l r.octets.now r.length) (sym (written_none r.script)) start in
    let took = subst (λ l. TakesText r l s) k.whole (after_calls r r s [] k.parts h (refl, refl, none) k.calls) in
    let w = written r.script text in
    (took.0, subst (λ n. PutsText old n w s.octets.now s.length) z (subst (λ l. PutsText l r.length w s.octets.now s.length) o took.2))
