use Rattle.std.proofs.Common.{refl, ◌∙◌, arith, rules}
use Rattle.std.proofs.lemmas.Slice.{overwrites}
use Rattle.hasher.specs.Message.{bytes}
use Rattle.hasher.proofs.Arrays.{word_stored}
use Rattle.hasher.proofs.fields.digest.Goals as goal

pub loop-i-init : goal.loop-i-init
unfolding bytes
loop-i-init c = (refl, refl)

pub loop-i-preserved : goal.loop-i-preserved
loop-i-preserved c =
    let l = c.loop-i in (
      search (rules, overwrites),
      word_stored c.args.w l.out _ l.i _ l.invariant.1 (omega arith) (omega arith) (c.copy_from_slice.ensures.after ∙ c.to_be_bytes.ensures),
    )
