-- Contents only grow.
use Rattle.std.proofs.Common.{ℕ, ◌≤◌, false, not, List, [], ◌∷◌, ◌++◌, length, length-append, ap, arith}
use Rattle.der_base.specs.Encoding.{element}
use Rattle.der_base.specs.Octets.{identifier, shortest_length}
use Rattle.der_elements.specs.Visits.{Visited}
use Rattle.der_writer.proofs.Headers.{length_some}
use Rattle.der_canon.specs.Contents.{Completes, Contents, KeepsIn, KeepsString, Writes, WritesAll, all_octets, sized, stay, close, part, primitive, constructed}
use Rattle.der_canon.specs.Same.{content_of, is_in_parts}
use Rattle.der_canon.specs.Values.{value_in_der}
use Rattle.der_canon.proofs.Buffers.{length_all}
use Rattle.der_canon.proofs.SameSizes.{length_part_of}

-- how many octets there are so far
abbrev size : Contents → ℕ
size s = length (all_octets s.around s.here)

completes_grow : (k : ℕ) (xs ys : List (List ℕ)) (x y : List ℕ) → Completes k xs x ys y → length (all_octets xs x) ≤ length (all_octets ys y)
completes_grow k xs ys x y (stay few a b) = omega (arith, ap (λ zs. length (all_octets zs x)) a, ap (λ z. length (all_octets ys z)) b)
completes_grow k xs ys x y (close z zs e some more) =
    omega (
      arith,
      completes_grow k zs ys (z ++ sized x) y more,
      ap (λ us. length (all_octets us x)) e,
      length_all zs (z ++ 0 ∷ x),
      length_all zs (z ++ sized x),
      length-append z (0 ∷ x),
      length-append z (sized x),
      length-append (shortest_length (length x)) x,
      length_some (length x),
    )

grow : (P : Contents → Type 0) (i : List ℕ) (s : Contents) (v : Visited) (t : Contents) → Writes P i s v t → size s ≤ size t
grow P i s v t (part inner string around here number) =
    omega (
      arith,
      ap (λ zs. length (all_octets zs t.here)) around,
      length_all s.around s.here,
      length_all s.around t.here,
      ap length here,
      length_part_of v.constructed v.number (content_of i v) s.here,
    )
grow P i s v t (primitive g free string comp plain here form kept) =
    let e = element v.class false v.number (value_in_der v.class v.number (content_of i v)) in
    omega (arith, completes_grow v.depth s.around t.around s.here g comp, length_all t.around g, length_all t.around t.here, ap length here, length-append g e)
grow P i s v t (constructed gs g free string comp is around here number kept) =
    let h = g ++ identifier v.class (not (is_in_parts v)) v.number in
    omega (
      arith,
      completes_grow v.depth s.around gs s.here g comp,
      ap (λ zs. length (all_octets zs t.here)) around,
      length_all gs g,
      length_all gs (h ++ 0 ∷ t.here),
      length-append h (0 ∷ t.here),
      length-append g (identifier v.class (not (is_in_parts v)) v.number),
    )

grow_all : (P : Contents → Type 0) (i : List ℕ) (s : Contents) (vs : List Visited) (t : Contents) → WritesAll P i s vs t → size s ≤ size t
grow_all P i s [] t h = omega (arith, ap size h)
grow_all P i s (v ∷ vs) t (m, one, more) = omega (arith, grow P i s v m one, grow_all P i m vs t more)

kept_one : (room : ℕ) (i : List ℕ) (s : Contents) (v : Visited) (t : Contents) → size s ≤ room → Writes (KeepsIn room) i s v t → Writes KeepsString i s v t
kept_one room i s v t fits (part inner string around here number) = part inner string around here number
kept_one room i s v t fits (primitive g free string comp plain here form kept) = primitive g free string comp plain here form (kept fits)
kept_one room i s v t fits (constructed gs g free string comp is around here number kept) = constructed gs g free string comp is around here number (kept fits)

-- where all is in the buffer, each string keeps the rules
pub kept_all : (room : ℕ) (i : List ℕ) (s : Contents) (vs : List Visited) (t : Contents) → size t ≤ room → WritesAll (KeepsIn room) i s vs t → WritesAll KeepsString i s vs t
kept_all room i s [] t fits h = h
kept_all room i s (v ∷ vs) t fits (m, one, more) =
    (m, kept_one room i s v m (omega (arith, fits, grow (KeepsIn room) i s v m one, grow_all (KeepsIn room) i m vs t more)) one, kept_all room i m vs t fits more)

pub completes_within : (room : ℕ) (t : Contents) (o : List ℕ) → Completes 0 t.around t.here [] o → length o ≤ room → size t ≤ room
completes_within room t o done fits = omega (arith, completes_grow 0 t.around [] t.here o done, fits)
