use Rattle.std.proofs.Common.{◌≡◌, ◌++◌, List, Option, append_assoc, codes, refl, ℕ}
use Rattle.std.specs.Prelude.{find, not}
use Rattle.std.proofs.Output.{has_written_append, has_written_of_eq}
use Rattle.der_contents.specs.ContentErrors.{rule_text}
use Rattle.der_contents.specs.declared.content_error.ContentError.{ContentError}
use Rattle.der_print.specs.Remarks.{fault_text, is_of_type, rule_of_content}
use Rattle.der_print.proofs.remark.BrokenRuleDisplay.fmt.Goals as goal

remark_shown : (e : ContentError) (t : ℕ) (w found clause : List ℕ) (fault : Option ℕ) → found ≡ (rule_text e).0 → fault ≡ find (λ b. not (is_of_type t b)) w → clause ≡ (rule_text e).1
    → found ++ (fault_text fault ++ (codes " (X.690 " ++ (clause ++ codes ")"))) ≡ rule_of_content e t w
remark_shown e t w found clause fault ef ew ec = rw (ef, ew, ec) (simp append_assoc refl)

pub returns-clause-writes : goal.returns-clause-writes
returns-clause-writes g c =
    λ plain ok.
    let found = c.in_ok-write_str.ensures.writes plain refl in
    let fault = c.in_ok-write_fault.ensures found.plain refl in
    let clause = c.write.ensures.writes fault.plain ok in
    has_written_of_eq _ _ _ _ _ (remark_shown c.args.self.now.error c.args.self.now.number c.args.self.now.octets.now _ _ _ c.found.ensures c.fault_in.ensures c.clause-clause.ensures)
    (has_written_append _ _ _ _ _ _ found (has_written_append _ _ _ _ _ _ fault clause))
