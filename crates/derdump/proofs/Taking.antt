-- Outputs of objects, some of them written and some pending.
use Rattle.std.proofs.Common.{◌≡◌, ℕ, List, [], ◌∷◌, ◌++◌, None, Some, sym, ap, subst, append_assoc, append-nil, ◌∙◌}
use Rattle.std.proofs.KnownBytes.{Appends-trans, Appends-kept, Keeps-refl, append_known-grown}
use Rattle.std.specs.Prelude.{Option}
use Rattle.std.specs.Io.KnownBytes.{Appends, Keeps, append_known}
use Rattle.der_parser.specs.Tree.{Node}
use Rattle.derdump.specs.declared.command.Command.{Command}
use Rattle.derdump.specs.Outputs.{AddsOutput, TookOutputs, AreOutputs, no_outputs, one_more_output, IsOutput}

-- at first none is written, and none pending
pub took_none : {command : Command} (a : Option (List ℕ)) (u : List ℕ) → u ≡ [] → TookOutputs command a (append_known a u) []
took_none a u none = record { outputs = []; are_outputs = no_outputs; appends = append_known-grown a a u u [] (kept a) (sym (append-nil u)) }
  where
    kept : (b : Option (List ℕ)) → Keeps b (append_known b u)
    kept None = tt
    kept (Some x) = ap (λ l. x ++ l) none ∙ append-nil x

-- an output behind the outputs of objects
output_behind : {command : Command} {os : List Node} {w : List ℕ} (t : List ℕ) (o : Node) → AreOutputs command os w → IsOutput command o t → AreOutputs command (os ++ o ∷ []) (w ++ t)
output_behind {command} t o no_outputs l = subst (AreOutputs command (o ∷ [])) (append-nil t) (one_more_output t l no_outputs)
output_behind {command} t o (one_more_output {o = o'} {os = os} w {rest = rest} l' ls) l = subst (AreOutputs command (o' ∷ os ++ o ∷ [])) (sym (append_assoc w rest t)) (one_more_output w l' (output_behind t o ls l))

-- one more is pending
pub output_pending : {command : Command} (a b : Option (List ℕ)) (u v : List ℕ) {os : List Node} (o : Node) → TookOutputs command a (append_known b u) os → AddsOutput command u v o → TookOutputs command a (append_known b v) (os ++ o ∷ [])
output_pending a b u v o p q = record {
  outputs = p.outputs ++ q.output;
  are_outputs = output_behind q.output o p.are_outputs q.is_output;
  appends = Appends-trans a (append_known b u) (append_known b v) p.outputs q.output p.appends (append_known-grown (append_known b u) b u v q.output (Keeps-refl (append_known b u)) q.adds);
}

pub outputs_kept : {command : Command} (a b c : Option (List ℕ)) {os : List Node} → TookOutputs command a b os → Keeps b c → TookOutputs command a c os
outputs_kept a b c p k = record { outputs = p.outputs; are_outputs = p.are_outputs; appends = Appends-kept a b c p.outputs p.appends k }

-- what was pending is written
handed : (b c : Option (List ℕ)) (u : List ℕ) → Appends b c u → Keeps (append_known b u) c
handed None c u p = tt
handed (Some x) None u p = absurd p
handed (Some x) (Some y) u p = p

pub outputs_handed_on : {command : Command} (a b c : Option (List ℕ)) (u : List ℕ) {os : List Node} → TookOutputs command a (append_known b u) os → Appends b c u → TookOutputs command a c os
outputs_handed_on a b c u p q = outputs_kept a (append_known b u) c p (handed b c u q)
