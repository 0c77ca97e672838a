-- Octets with spaces in front.
use Rattle.std.proofs.Common.{◌≡◌, ℕ, ◌+◌, ◌-◌, ◌≤◌, List, [], append-nil, ◌++◌, min, take, drop, length, sym, ap, ◌∙◌, arith, append_assoc, drop-drop, take-append-drop, take-take}
use Rattle.std.proofs.lemmas.List.{take-append-le, take-replicate, drop-replicate, drop-append-le, length-replicate, replicate-append-replicate}
use Rattle.der_base.specs.Pretty.{spaces}
use Rattle.der_print.specs.Lines.{at_left, at_right}

-- fewer of them are in front too
pub fewer : (o : List ℕ) (e s : ℕ) → take e o ≡ spaces e → s ≤ e → take s o ≡ spaces s
fewer o e s free below = sym (take-take s e o below) ∙ ap (take s) free ∙ take-replicate {X = ℕ} s e 0x20 below

-- where others follow some of them
pub spaces_then : (o rest : List ℕ) (e s at : ℕ) → take e o ≡ spaces e → s ≤ e → at ≤ s → take at (take s o ++ rest) ≡ spaces at
spaces_then o rest e s at free below within =
    ap (λ w. take at (w ++ rest)) (fewer o e s free below)
    ∙ take-append-le at (spaces s) rest (omega (arith, length-replicate {A = ℕ} s 0x20)) ∙ take-replicate {X = ℕ} at s 0x20 within

pub others_after : (o rest : List ℕ) (e s at : ℕ) → take e o ≡ spaces e → s ≤ e → at ≤ s → drop at (take s o ++ rest) ≡ spaces (s - at) ++ rest
others_after o rest e s at free below within =
    ap (λ w. drop at (w ++ rest)) (fewer o e s free below)
    ∙ drop-append-le at (spaces s) rest (omega (arith, length-replicate {A = ℕ} s 0x20))
    ∙ ap (λ w. w ++ rest) (drop-replicate {X = ℕ} at s 0x20)

pub last_spaces : (o : List ℕ) (e at : ℕ) → take e o ≡ spaces e → at ≤ e → drop at o ≡ spaces (e - at) ++ drop e o
last_spaces o e at free within =
    ap (drop at) (sym (take-append-drop e o)) ∙ others_after o (drop e o) e e at free (omega arith) within

-- octets that follow the first of o
pub written : (o o' rest : List ℕ) (s : ℕ) → take s o' ≡ take s o → drop s o' ≡ rest → o' ≡ take s o ++ rest
written o o' rest s front back = sym (take-append-drop s o') ∙ ap (λ w. w ++ drop s o') front ∙ ap (λ w. take s o ++ w) back

-- a text that ends where the spaces do
pub at_right_of : (o text : List ℕ) (e s at columns : ℕ) → take e o ≡ spaces e → s + length text ≡ e → columns ≤ e → at ≡ min s (e - columns)
    → drop at (take s o ++ (text ++ drop e o)) ≡ at_right columns text ++ drop e o
at_right_of o text e s at columns free long within is =
    let some : s - at ≡ columns - length text = omega arith in
    others_after o (text ++ drop e o) e s at free (omega arith) (omega arith)
    ∙ ap (λ n. spaces n ++ (text ++ drop e o)) some ∙ sym (append_assoc (spaces (columns - length text)) text (drop e o))

-- a number with so many of the spaces after it
pub number_at_left_of : (o text : List ℕ) (e s end columns : ℕ) → take e o ≡ spaces e → columns ≤ e → end ≡ e - (columns - length text) → s + length text ≡ end
    → drop s (take s o ++ (text ++ drop end o)) ≡ at_left columns text ++ drop e o
number_at_left_of o text e s end columns free within ends long =
    let none : s - s ≡ 0 = omega arith in
    let some : e - end ≡ columns - length text = omega arith in
    others_after o (text ++ drop end o) e s s free (omega arith) (omega arith) ∙ ap (λ n. spaces n ++ (text ++ drop end o)) none
    ∙ ap (λ w. text ++ w) (last_spaces o e end free (omega arith) ∙ ap (λ n. spaces n ++ drop e o) some)
    ∙ sym (append_assoc text (spaces (columns - length text)) (drop e o))

-- the same where the text was copied
pub at_left_of : (o text : List ℕ) (e s end columns : ℕ) → take e o ≡ spaces e → columns ≤ e → end ≡ e - (columns - length text) → s + length text ≡ end
    → drop s (take s o ++ (text ++ drop (end - s) (drop s o))) ≡ at_left columns text ++ drop e o
at_left_of o text e s end columns free within ends long =
    let next : s + (end - s) ≡ end = omega arith in
    ap (λ w. drop s (take s o ++ (text ++ w))) (drop-drop (end - s) s o ∙ ap (λ n. drop n o) next)
    ∙ number_at_left_of o text e s end columns free within ends long

-- texts before another, one by one
in_front : (a b c d e f x : List ℕ) → (a ++ b ++ c ++ d ++ e ++ f) ++ x ≡ a ++ (b ++ (c ++ (d ++ (e ++ (f ++ x)))))
in_front a b c d e f x =
    append_assoc (a ++ b ++ c ++ d ++ e) f x ∙ append_assoc (a ++ b ++ c ++ d) e (f ++ x)
    ∙ append_assoc (a ++ b ++ c) d (e ++ (f ++ x)) ∙ append_assoc (a ++ b) c (d ++ (e ++ (f ++ x)))
    ∙ append_assoc a b (c ++ (d ++ (e ++ (f ++ x))))

more_spaces : (n near : ℕ) → near ≤ n → spaces near ++ spaces (n - near) ≡ spaces n
more_spaces n near few =
    let all : near + (n - near) ≡ n = omega arith in
    replicate-append-replicate {A = ℕ} near (n - near) 0x20 ∙ ap spaces all

-- spaces of which the last were put apart
pub spaces_apart : (a b c d e f : List ℕ) (n near : ℕ) → near ≤ n
    → (a ++ (b ++ (c ++ (d ++ (e ++ (f ++ (spaces near ++ []))))))) ++ spaces (n - near) ≡ (a ++ b ++ c ++ d ++ e ++ f) ++ spaces n
spaces_apart a b c d e f n near few =
    ap (λ w. w ++ spaces (n - near)) (sym (in_front a b c d e f (spaces near ++ [])))
    ∙ append_assoc (a ++ b ++ c ++ d ++ e ++ f) (spaces near ++ []) (spaces (n - near))
    ∙ ap (λ w. (a ++ b ++ c ++ d ++ e ++ f) ++ w) (ap (λ w. w ++ spaces (n - near)) (append-nil (spaces near)) ∙ more_spaces n near few)
