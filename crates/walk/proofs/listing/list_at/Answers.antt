-- `walk::listing::list_at` meets its contract: a commit that is not located is refused; else the file that was cut makes the list.
use Rattle.std.proofs.Common.{◌≡◌, sym, ◌∙◌, arith}
use Rattle.std.proofs.lemmas.Grind.{common_steps}
use Rattle.types.proofs.Saying.{answers}
use Rattle.graph.specs.Chain.{in_file}
use Rattle.walk.proofs.Lists.{list_refused, list_told}
use Rattle.walk.proofs.listing.list_at.Goals as goal

pub returns-in_err-spot : goal.returns-in_err-spot
returns-in_err-spot c =
    let k = list_refused 32 c.args.chain c.args.list.now c.args.pos.0 c.args.out.now (sym c.locate.ensures.is ∙ c.in_err-spot.was) in
    record { answer = answers (grind (arith, common_steps)); holds = k.1 }

pub returns : goal.returns
unfolding in_file
returns c =
    let told : c.map_err.result ≡ in_file c.in_ok-spot.spot.file c.list_at.result = grind (arith, common_steps) in
    let t = c.list_at.ensures in
    let k = list_told 32 c.args.chain c.args.list.now c.args.pos.0 c.args.out.now (sym c.locate.ensures.is ∙ c.in_ok-spot.was) c.part-s.ensures
    t.answer.is t.holds told in
    record { answer = answers k.0; holds = k.1 }
