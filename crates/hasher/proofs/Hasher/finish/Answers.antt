-- `hasher::Hasher::finish` meets its contract: the mark and its zeros (`mark`, `zeros`) and the length are two pieces, and two pieces are one
-- (`together`).
use Rattle.std.proofs.Common.{◌≡◌, ℕ, ◌+◌, ◌-◌, ◌*◌, ◌%◌, ◌∷◌, length, take, replicate, sym, ap, ◌∙◌, arith, length-take, rules}
use Rattle.words.specs.First.{first}
use Rattle.words.specs.Big.{bytes_of}
use Rattle.words.proofs.Numbers.{bytes_same}
use Rattle.hasher.specs.Message.{fills, padding}
use Rattle.hasher.specs.State.{finished}
use Rattle.hasher.specs.declared.Hasher.{Hasher}
use Rattle.hasher.proofs.Fed.{mark, zeros}
use Rattle.hasher.proofs.Arrays.{be_bytes}
use Rattle.hasher.proofs.Laws.{together}
use Rattle.hasher.proofs.Hasher.finish.Goals as goal

pub slice_bounds-update-end : goal.slice_bounds-update-end
slice_bounds-update-end c = simp length-take (omega arith)

pub returns : goal.returns
unfolding finished padding
returns c =
    let h : Hasher = c.args.self in
    let z : ℕ = (119 - h.count % 64) % 64 in
    let g : length h.block ≡ 64 = search rules in
    let m : take {A = ℕ} (1 + z) (0x80 ∷ replicate 63 0) ≡ 0x80 ∷ replicate (first (fills h.count) 0 64) 0 =
    mark z (omega arith) ∙ ap (λ (k : ℕ). 0x80 ∷ replicate k 0) (sym (zeros _)) in
    let b : c.to_be_bytes-size.result ≡ bytes_of 8 (8 * h.count) =
    c.to_be_bytes-size.ensures ∙ be_bytes 8 _ ∙ bytes_same 8 _ (8 * h.count) (omega arith) in
    rw (c.update-h.ensures, c.update.ensures, m, b, together h _ _ g)
    at c.digest.ensures
