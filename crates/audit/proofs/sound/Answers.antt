-- `audit::sound` meets its contract: the list, the opening of every file, then each file.
use Rattle.std.proofs.Common.{◌≡◌, refl, sym, ◌∙◌, arith}
use Rattle.words.specs.First.{fine}
use Rattle.list.specs.List.{records_of}
use Rattle.graph.specs.Chain.{opened, Listed}
use Rattle.graph.proofs.Views.{list_listed, opened_list, opened_pass}
use Rattle.graph.proofs.Passing.{few_positions}
use Rattle.audit.proofs.Filing.{sound_refused, sound_stops, sound_ends}
use Rattle.audit.proofs.sound.Goals as goal
use Rattle.audit.proofs.sound.Goals.{In_ok-check, In_ok-table}

listed : (c : In_ok-check) → Listed 32 c.args.chain.now c.args.list.now (records_of 32 c.args.list.now)
listed c = list_listed 32 _ _ (sym c.check.ensures ∙ c.in_ok-check.was)

pub returns-in_err-check : goal.returns-in_err-check
returns-in_err-check c = let k = sound_refused _ _ _ (opened_list 32 _ _ (sym c.check.ensures ∙ c.in_err-check.was)) in grind (arith, k)

pub overflow_cast-n : goal.overflow_cast-n
overflow_cast-n c = omega (arith, (listed (goal.at.overflow_cast-n c).In_ok-check).few)

pub survey-requires : goal.survey-requires
survey-requires c = (refl, listed (goal.at.survey-requires c).In_ok-check)

opens : (c : In_ok-table) → opened 32 c.args.chain.now c.args.list.now ≡ fine
opens c = opened_pass 32 _ _ (sym c.check.ensures ∙ c.in_ok-check.was) ∙ c.in_ok-table.ensures.0

pub returns-in_err-table : goal.returns-in_err-table
returns-in_err-table c =
    let k = sound_refused _ _ _ (opened_pass 32 _ _ (sym c.check.ensures ∙ c.in_ok-check.was) ∙ c.in_err-table.ensures) in grind (arith, k)

pub returns-in_err-tally : goal.returns-in_err-tally
returns-in_err-tally c =
    let k = sound_stops _ _ _ (opens (goal.at.returns-in_err-tally c).In_ok-table) _ c.in_err-tally.ensures in grind (arith, k)

pub accepted-requires : goal.accepted-requires
accepted-requires c =
    let p = c.in_ok-table.ensures.1 in
    let n = records_of 32 c.args.list.now in
    omega (arith, p.first n (omega arith), few_positions _ _ _ p.listed n (omega arith))

pub returns : goal.returns
returns c =
    rw c.accepted.ensures
    (sound_ends _ _ _ (opens (goal.at.returns c).In_ok-table) _ c.in_ok-tally.ensures (c.in_ok-table.ensures.1.first _ (omega arith)))
