-- `hasher::fields::joined` meets its contract: the two runs of bytes stand one behind the other over zeros (`pasted`).
use Rattle.hasher.proofs.Arrays.{pasted}
use Rattle.hasher.proofs.fields.joined.Goals as goal

pub returns : goal.returns
returns c =
    rw (c.copy_from_slice.ensures.after, c.copy_from_slice-2.ensures.after)
    (pasted c.args.a.now c.args.b.now c.requires)
