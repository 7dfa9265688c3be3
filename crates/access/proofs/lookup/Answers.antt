-- `access::lookup` meets its contract: what `search` answers is right (`both`); the bytes of both slices are bytes.
use Rattle.types.proofs.Saying.{answers}
use Rattle.access.proofs.Stores.{both}
use Rattle.access.proofs.lookup.Goals as goal

pub returns : goal.returns
returns c =
    let p = both _ _ _ (λ i. (c.type_inv.s i).fits) (λ i. (c.type_inv.x i).fits) c.search.ensures in
    record { is = answers p.0; right = p.1 }
