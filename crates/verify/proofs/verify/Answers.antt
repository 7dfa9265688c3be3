-- `verify::verify` meets its contract: the answer is that of `audit`, and what it comes to is claimed of the definition (`both`).
use Rattle.types.proofs.Saying.{answers}
use Rattle.verify.proofs.Demands.{both}
use Rattle.verify.proofs.verify.Goals as goal

pub returns : goal.returns
returns c =
    let p = both 32 c.args.chain.now c.args.list.now (λ i. (c.type_inv.chain i).fits) c.audit.ensures.is in
    record { exact = answers p.0; claims = p.1 }
