use Rattle.std.proofs.Common.{ap, ◌∙◌, rules}
use Rattle.text.specs.Text.{written, after}
use Rattle.text.proofs.Filling.{fill_next, fill_ends}
use Rattle.text.proofs.number.Goals as goal

pub loop-rest-preserved : goal.loop-rest-preserved
loop-rest-preserved c = fill_next c.loop-rest.invariant (search rules) c.digit.ensures

pub returns : goal.returns
returns c =
    let e = fill_ends _ c.loop-rest.invariant (search rules) c.digit-2.ensures in
    record { place = c.put.ensures.place ∙ ap (after _ _) e; holds = c.put.ensures.holds ∙ ap (written _ _) e }
