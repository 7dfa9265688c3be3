-- `block::blocks` meets its contract: the fold is that of `compress` over the chunks of 64 bytes (`folded`).
use Rattle.std.proofs.Common.{◌∙◌, rules}
use Rattle.std.specs.Iterator.Runs.{YieldsRun}
use Rattle.block.specs.Fips.{compress}
use Rattle.block.proofs.Joined.{folded}
use Rattle.block.proofs.blocks.Goals as goal

pub returns : goal.returns
unfolding YieldsRun
returns c =
    let r = c.fold.ensures.runs in
    let g = r.0.gave.0 in
    r.3 (λ a x. compress a x.now) (λ a x b f k. search rules)
    ∙ folded compress r.0.from g.0 (g.2 r.2).0 r.0.items (cc) g.1 (g.2 r.2).1 c.args.h ∙ (cc)
