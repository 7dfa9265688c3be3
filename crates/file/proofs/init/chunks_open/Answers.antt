-- `file::init::chunks_open` meets its contract: the part that is handed on is the fan's own bytes (`cut_part`), for a sound index has
-- the chunk inside the file (`lies`).
use Rattle.std.proofs.Common.{◌+◌, ◌≤◌, ◌≡◌, ap, arith, length}
use Rattle.std.proofs.lemmas.Grind.{common_steps}
use Rattle.words.specs.First.{refuse}
use Rattle.chunk.specs.Index.{chunk_of, start_of, size_of}
use Rattle.chunk.proofs.Sound.{lies}
use Rattle.file.specs.Table.{index_of, part_of, not_open, chunked}
use Rattle.file.specs.declared.rules.Index.{Index}
use Rattle.file.proofs.Stages.{cut_part}
use Rattle.file.proofs.init.chunks_open.Goals as goal

pub returns : goal.returns
unfolding chunked not_open index_of refuse
returns c =
    let a = c.args in
    let l = a.s.now in
    let q : a.x.oidf ≡ chunk_of l 0x4f494446 = ap (λ (x : Index). x.oidf) c.requires.x_value.0 in
    let h : start_of a.x.oidf + size_of a.x.oidf ≤ length l = rw q (lies 0x4f494446 c.requires.indexed).inside in
    let p : c.part-p.result.now ≡ part_of l a.x.oidf = cut_part _ _ a.x.oidf c.start.ensures c.size.ensures h c.part-p.ensures in
    grind (arith, common_steps)
