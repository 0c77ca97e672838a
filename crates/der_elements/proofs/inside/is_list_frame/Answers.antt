use Rattle.der_elements.proofs.ListFaults.{frame_of, no_frame, of_frame}
use Rattle.der_elements.proofs.inside.is_list_frame.Goals as goal

pub returns-in-Ok : goal.returns-in-Ok
returns-in-Ok c =
    let i = c.args.octets.now in
    (λ t. frame_of i c.in-Ok.found c.in-Ok.ensures (c.is_list_of.ensures.0 t), λ f. c.is_list_of.ensures.1 (of_frame i c.in-Ok.found c.in-Ok.ensures f))

pub returns-in-Err : goal.returns-in-Err
returns-in-Err c = (λ t. absurd (cc), λ f. absurd (no_frame c.args.octets.now _ c.in-Err.ensures f))
