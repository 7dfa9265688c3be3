-- `walk::Walk::step` meets its contract: a commit that is not located is refused; else the file that was cut makes the step.
use Rattle.std.proofs.Common.{◌≡◌, sym, ◌∙◌, arith}
use Rattle.std.proofs.lemmas.Grind.{common_steps}
use Rattle.types.proofs.Saying.{answers}
use Rattle.graph.specs.Chain.{in_file}
use Rattle.walk.proofs.Steps.{step_out, step_in_lem}
use Rattle.walk.proofs.Walk.step.Goals as goal

pub returns-in-Err : goal.returns-in-Err
returns-in-Err c = answers (step_out 32 c.args.chain _ _ (sym c.locate.ensures.is ∙ c.in-Err.is))

pub returns-in-Ok : goal.returns-in-Ok
unfolding in_file
returns-in-Ok c =
    let told : c.map_err.result ≡ in_file c.in-Ok.spot.file c.step_at-x.result.answer = grind (arith, common_steps) in
    answers (step_in_lem 32 _ _ _ (sym c.locate.ensures.is ∙ c.in-Ok.is) c.part-s.ensures c.step_at-x.ensures.is told)
