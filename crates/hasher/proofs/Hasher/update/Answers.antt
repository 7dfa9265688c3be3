-- `hasher::Hasher::update` meets its contract. A short piece leaves the block open (`small`, `small_rest`). Any other fills the block first; its words
-- and its rest are those of the open bytes and the piece together (`fills_up`, `rest_fills`).
use Rattle.std.proofs.Common.{◌≡◌, ℕ, ◌+◌, ◌-◌, ◌%◌, ◌<◌, ◌≤◌, List, ◌++◌, length, take, drop, sym, refl, ap, ◌∙◌, arith, length-append, length-take}
use Rattle.std.proofs.Common.{rules}
use Rattle.block.specs.Fips.{compress}
use Rattle.block.proofs.Joined.{small}
use Rattle.hasher.specs.Feed.{rest, padded, opened, next_block, next_words, next_count}
use Rattle.hasher.specs.State.{updated}
use Rattle.hasher.proofs.Blocks.{small_rest, rest_cut, fills_up, rest_fills}
use Rattle.hasher.proofs.Laws.{same}
use Rattle.hasher.proofs.Hasher.update.Goals as goal

pub returns-then-s-room : goal.returns-then-s-room
unfolding updated next_block next_words next_count opened
returns-then-s-room c =
    let a = c.args in
    let d : List ℕ = take (a.self.count % 64) a.self.block ++ a.s.now in
    let h : length d < 64 = simp (length-append, length-take) (omega arith) in
    same (c.joined-block.ensures ∙ ap padded (sym (small_rest d h))) (sym (small compress _ d h)) refl

pub returns : goal.returns
unfolding updated next_block next_words next_count opened
returns c =
    let a = c.args in
    let s : List ℕ = a.s.now in
    let o : List ℕ = take (a.self.count % 64) a.self.block in
    let r : ℕ = 64 - a.self.count % 64 in
    let g : length a.self.block ≡ 64 = search rules in
    let e : length o + r ≡ 64 = simp length-take (omega arith) in
    let h : r ≤ length s = omega arith in
    let t : c.remainder.result.now ≡ rest (o ++ s) =
    c.remainder.ensures ∙ c.chunks_exact.ensures.remainder ∙ rw c.split_at.ensures.back (rest_cut (drop r s)) ∙ rest_fills o s r e h in
    same
    (c.joined-block-2.ensures ∙ ap padded t)
    (rw (c.blocks-first.ensures, c.joined-full.ensures, c.split_at.ensures.front, c.split_at.ensures.back, fills_up compress o s r e h)
    at c.blocks-words.ensures)
    refl
