use Rattle.std.proofs.Common.{List, ℕ, sym, ap, subst, arith}
use Rattle.der_writer.specs.declared.writer.Writer.{Writer}
use Rattle.der_writer.specs.Inner.Sorting.{SortsBetween}
use Rattle.der_writer.specs.Written.{Closes}
use Rattle.der_writer.proofs.ClosingSets.{closes_sorted, closes_other}
use Rattle.der_writer.proofs.writer.Writer.close_set_of.Goals as goal
use Rattle.der_writer.proofs.writer.Writer.close_set_of.Goals.{then-mark-self, else-mark-self}

pub returns : goal.returns
returns c =
    let old = c.args.self.now in
    let mid = c.if-mark-self.self in
    elim c.if-mark-self.branch [
      | then-mark-self w ↦
          let P : List ℕ → Type 0 = λ l. SortsBetween w.saturating_add.result old.count old.out.now l in
          closes_sorted c.args.mark old mid c.close.new.self w.saturating_add.result (ap (λ (s : Writer). s.out.ghost_name) w.self-is)
          (ap (λ (s : Writer). s.count) w.self-is) (ap (λ (s : Writer). s.innermost) w.self-is) w.saturating_add.ensures (omega arith)
          (subst P (sym (ap (λ (s : Writer). s.out.now) w.self-is)) w.sort_between.ensures) c.close.ensures
      | else-mark-self w ↦
          let P : Writer → Type 0 = λ s. Closes c.args.mark s c.close.new.self in
          closes_other c.args.mark old c.close.new.self (λ e. w.if-mark-self.false (sym e)) (subst P w.self-is c.close.ensures)
    ]
