-- A line that grows by a part.
use Rattle.std.proofs.Common.{◌≡◌, ℕ, ◌+◌, ◌-◌, ◌≤◌, List, Option, [], ◌++◌, take, drop, length, Result, Ok, Err, IfOk, sym, ap, ◌∙◌, arith, take-take, append-nil, length-append}
use Rattle.std.proofs.Math.ListN.{drop_of_length-le}
use Rattle.std.proofs.Math.Seq.{drop-append_seam, take-append_seam}
use Rattle.std.proofs.lemmas.Fmt.{contents_after_writes}
use Rattle.std.proofs.lemmas.List.{drop-take, length-take, take-append-drop}
use Rattle.der_print.specs.declared.style.Limit.{Limit}
use Rattle.der_print.specs.declared.style.Limit.TheVariants.{Columns}
use Rattle.der_print.specs.Cuts.{behind, cut, in_columns}
use Rattle.std.specs.Fmt.{WritesInCalls}
use Rattle.der_elements.specs.Visits.{Visited}
use Rattle.oid_names.specs.OwnNames.{Named}
use Rattle.der_print.specs.declared.line_octets.LineOctets.{LineOctets}
use Rattle.der_print.specs.Lines.{IsEnding}
use Rattle.der_print.specs.Parts.{AddsPart, GrowsByEnding}
use Rattle.der_print.specs.Texts.{octets_in}
use Rattle.der_print.proofs.CutLaws.{behind_none, cut_none}

-- a line that grew by nothing
pub grown_none : (limit : Limit) (w : List ℕ) → w ≡ w ++ cut limit []
grown_none limit w = sym (append-nil w) ∙ ap (λ v. w ++ v) (sym (cut_none limit))

pub adds_none : (limit : Limit) (w : List ℕ) → AddsPart limit [] w w limit
adds_none limit w = record { octets = grown_none limit w; left = behind_none limit }

-- a text that was put behind a line is its last part
pub part_ended : (limit rest : Limit) (w text all new : List ℕ) (start : ℕ) → start ≡ length w → all ≡ w ++ text
    → AddsPart limit (drop start all) (take start all) new rest → AddsPart limit text w new rest
part_ended limit rest w text all new start at is ends =
    let front = ap (λ n. take n all) at ∙ ap (take (length w)) is ∙ take-append_seam w text in
    let part = ap (λ n. drop n all) at ∙ ap (drop (length w)) is ∙ drop-append_seam w text in
    record {
      octets = ends.octets ∙ ap (λ v. v ++ cut limit (drop start all)) front ∙ ap (λ v. w ++ cut limit v) part;
      left = ends.left ∙ ap (λ v. behind limit (cut limit v)) part;
    }

-- what is left behind a part that was cut
pub columns_left : (old new : List ℕ) (start columns : ℕ) → new ≡ take start old ++ in_columns columns (drop start old)
    → Columns (columns - (length new - start)) ≡ behind (Columns columns) (in_columns columns (drop start old))
columns_left old new start columns is =
    let part = in_columns columns (drop start old) in
    let all = ap length is ∙ length-append (take start old) part in
    let front = length-take start old in
    let none : length old ≤ start → length part ≡ 0 = λ past. ap length (ap (in_columns columns) (drop_of_length-le old past) ∙ cut_none (Columns columns)) in
    let same : columns - (length new - start) ≡ columns - length part = grind (arith, all, front, none) in
    ap Columns same

take_plus : (w : List ℕ) (m n : ℕ) → take (m + n) w ≡ take m w ++ take n (drop m w)
take_plus w m n =
    sym (take-append-drop m (take (m + n) w)) ∙ ap (λ v. v ++ drop m (take (m + n) w)) (take-take m (m + n) w (omega arith))
    ∙ ap (λ v. take m w ++ v) (drop-take m n w)

-- what is kept of a text, and of its last part
pub kept_after : (w : List ℕ) (start kept n : ℕ) → kept ≤ length (drop start w) → start ≤ length w → n ≡ start + kept
    → take n w ≡ take start w ++ take kept (drop start w)
kept_after w start kept n within inside is = ap (λ k. take k w) is ∙ take_plus w start kept

-- what follows from what holds of a value, if there is one
pub ok_then : {T E : Type 0} (r : Result T E) (P Q : T → Type 0) → ((x : T) → P x → Q x) → IfOk r P → IfOk r Q
ok_then (Ok x) P Q f h = f x h
ok_then (Err e) P Q f h = tt

-- an ending that was written into a line
pub grown_by_ending : (own : Option (List Named)) (limit : Limit) (v : Visited) (w : List ℕ) (old new : LineOctets) (text : List ℕ) → IsEnding own limit v w text
    → WritesInCalls (λ l t m. octets_in m ≡ octets_in l ++ t) old text new → GrowsByEnding own limit v w old new
grown_by_ending own limit v w old new text is wrote =
    record { text = text; ending = is; grows = contents_after_writes _ octets_in (λ _ _ _ t. t) old text new wrote }
