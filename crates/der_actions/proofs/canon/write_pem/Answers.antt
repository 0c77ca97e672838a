use Rattle.std.proofs.Common.{◌≡◌, ◌∙◌, ◌++◌, List, append_assoc, codes, refl, rules, subst, ℕ}
use Rattle.std.proofs.KnownBytes.{Appends-trans}
use Rattle.std.specs.Io.KnownBytes.{Appends}
use Rattle.base64.specs.Engines.{standard}
use Rattle.base64.specs.GeneralPurpose.{encode_of}
use Rattle.der_actions.specs.Labels.{label_text}
use Rattle.der_actions.specs.Pem.{InLines, IsPem}
use Rattle.der_actions.proofs.Printing.{on_ok}
use Rattle.der_actions.proofs.canon.write_pem.Goals as goal

pieces : (b l m n e : List ℕ) → b ++ l ++ m ++ n ++ (e ++ l ++ m) ≡ b ++ l ++ m ++ n ++ e ++ l ++ m
pieces b l m n e = simp append_assoc refl

-- the lines between the first and the last
block : (label w lines : List ℕ) → InLines (encode_of standard w) lines
    → IsPem label w (codes "-----BEGIN " ++ label_text label ++ codes "-----\n" ++ lines ++ (codes "-----END " ++ label_text label ++ codes "-----\n"))
block label w lines k = record { lines = lines; in_lines = k; whole = pieces (codes "-----BEGIN ") (label_text label) (codes "-----\n") lines (codes "-----END ") }

pub returns : goal.returns
returns g c =
    let label = c.args.label.now in
    let begin : Appends (g.W.Write.contents c.args.out.now) (g.W.Write.contents c.writeln.new.self) (codes "-----BEGIN " ++ label_text label ++ codes "-----\n") = c.in_ok-writeln.ensures.bytes in
    let lines = c.in_ok-write_lines.ensures in
    let in_lines = subst (λ t. InLines t lines.0) (c.as_bytes.ensures.value ∙ c.in_ok-text.ensures.text) lines.1 in
    on_ok c.writeln-2.result (Appends (g.W.Write.contents c.write_lines.new.out) (g.W.Write.contents c.writeln-2.new.self) (codes "-----END " ++ label_text label ++ codes "-----\n")) _
    (λ end. (_, block label c.args.octets.now lines.0 in_lines, Appends-trans _ _ _ _ _ (Appends-trans _ _ _ _ _ begin lines.2) end)) (search rules)
