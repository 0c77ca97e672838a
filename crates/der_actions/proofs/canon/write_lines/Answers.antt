use Rattle.std.proofs.Common.{◌≡◌, ◌∙◌, ◌++◌, ◌<◌, [], List, ℕ, ap, append-nil, append_assoc, codes, length, min, rules, subst, sym}
use Rattle.std.proofs.KnownBytes.{Appends-nil, Appends-trans}
use Rattle.std.proofs.lemmas.List.{nil_from_length}
use Rattle.der_actions.specs.Pem.{InLines, no_line, one_more_line}
use Rattle.der_actions.proofs.canon.write_lines.Goals as goal

-- one more line
more : (text rest others line sent lines : List ℕ) → ((ls : List ℕ) → InLines rest ls → InLines text (sent ++ ls)) → rest ≡ line ++ others → 0 < length line
    → length line ≡ min 64 (length rest) → InLines others lines → InLines text (sent ++ line ++ codes "\n" ++ lines)
more text rest others line sent lines go e some full k =
    let one = one_more_line line some (subst (λ w. length line ≡ min 64 (length w)) e full) k in
    subst (InLines text) (sym (append_assoc sent (line ++ codes "\n") lines) ∙ ap (λ w. w ++ lines) (sym (append_assoc sent line (codes "\n"))))
    (go (line ++ codes "\n" ++ lines) (subst (λ w. InLines w (line ++ codes "\n" ++ lines)) (sym e) one))

last : (text rest sent : List ℕ) → ((ls : List ℕ) → InLines rest ls → InLines text (sent ++ ls)) → length rest ≡ 0 → InLines text sent
last text rest sent go none =
    subst (InLines text) (append-nil sent) (go [] (subst (λ w. InLines w []) (sym (nil_from_length rest none)) no_line))

pub loop-rest-init : goal.loop-rest-init
loop-rest-init g c = record { written = ([], Appends-nil _, λ lines k. k) }

pub loop-rest-preserved : goal.loop-rest-preserved
loop-rest-preserved g c = record {
  written =
      let done = c.loop-rest.invariant.written in
      let line = c.split_at.result.0.now in
      let others = c.split_at.result.1.now in (
        done.0 ++ line ++ codes "\n",
        Appends-trans _ _ _ (done.0 ++ line) (codes "\n") (Appends-trans _ _ _ done.0 line done.1 c.in_ok-write_all.ensures.bytes) c.in_ok-write_all-2.ensures.bytes,
        λ lines k. more c.args.text.now c.loop-rest.rest.now others line done.0 lines done.2 c.split_at.ensures.by_index.0 (search rules) (search rules) k,
      );
}

pub returns : goal.returns
returns g c =
    let done = c.loop-rest.invariant.written in (done.0, last c.args.text.now c.loop-rest.rest.now done.0 done.2 (search rules), done.1)
