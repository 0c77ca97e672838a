-- A buffer after several texts.
use Rattle.std.proofs.Common.{◌≡◌, ℕ, ◌-◌, ◌^◌, ◌≤◌, List, [], ◌∷◌, ◌++◌, length, refl, sym, subst, ◌∙◌, arith, append_assoc, append-nil}
use Rattle.std.specs.Fmt.{WritesInCalls}
use Rattle.std.specs.List.{FoldsTo, concat}
use Rattle.c_values.specs.Texts.{PutsText}
use Rattle.c_values.proofs.Puts.{puts_none, puts_more}
use Rattle.dumarewhi_page.specs.declared.content.room.Room.{Room}
use Rattle.dumarewhi_page.specs.Content.Rooms.{TakesText}

after_calls : (r s t : Room) (text : List ℕ) (parts : List (List ℕ)) → length r.octets.now ≤ 2 ^ 64 - 1 → TakesText r text s
    → FoldsTo TakesText s parts t → TakesText r (text ++ concat parts) t
after_calls r s t text [] h p e = subst (λ l. TakesText r l t) (sym (append-nil text)) (subst (TakesText r text) e p)
after_calls r s t text (x ∷ xs) h p c =
    let more : TakesText r (text ++ x) c.0 = (c.1.0 ∙ p.0, puts_more _ _ _ text x _ _ _ h p.1 c.1.1) in
    subst (λ l. TakesText r l t) (append_assoc text x (concat xs)) (after_calls r c.0 t (text ++ x) xs h more c.2)

-- an empty buffer after a text
pub after_writes : (r s : Room) (old text : List ℕ) → length r.octets.now ≤ 2 ^ 64 - 1 → r.octets.now ≡ old → r.length ≡ 0
    → WritesInCalls TakesText r text s
    → (s.octets.ghost_name ≡ r.octets.ghost_name) × PutsText old 0 text s.octets.now s.length
after_writes r s old text h o z k =
    let none : PutsText r.octets.now r.length [] r.octets.now r.length = puts_none r.octets.now r.length (omega (arith, z)) in
    let took = subst (λ l. TakesText r l s) k.whole (after_calls r r s [] k.parts h (refl, none) k.calls) in
    (took.0, subst (λ n. PutsText old n text s.octets.now s.length) z (subst (λ l. PutsText l r.length text s.octets.now s.length) o took.1))
