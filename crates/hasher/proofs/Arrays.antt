-- The byte arrays of a hasher: a block of two runs of bytes over zeros, and the bytes of five words.
use Rattle.std.proofs.Common.{◌≡◌, ℕ, zero, suc, ◌+◌, ◌-◌, ◌*◌, ◌/◌, ◌%◌, ◌^◌, ◌<◌, ◌≤◌, List, [], ◌∷◌, ◌++◌, length, get_or, take, drop, replicate}
use Rattle.std.proofs.Common.{sym, refl, ap, ◌∙◌, append_assoc, append-nil, div-one, arith, length-append}
use Rattle.std.proofs.lemmas.List.{take_at, drop_at, take_more, drop-replicate}
use Rattle.std.proofs.lemmas.Slice.{take-put_mid}
use Rattle.std.specs.Int.{w32, to_be_bytes, bytes_high_first}
use borrow.Rule.Slice.PartMut.{put_mid}
use Rattle.words.specs.Big.{bytes_of}
use Rattle.hasher.specs.Message.{bytes}
use Rattle.hasher.specs.Feed.{padded}

bytes_append : (a b : List ℕ) → bytes (a ++ b) ≡ bytes a ++ bytes b
unfolding bytes
bytes_append [] b = refl
bytes_append (x ∷ a) b = ap (λ (l : List ℕ). bytes_of 4 x ++ l) (bytes_append a b) ∙ sym (append_assoc (bytes_of 4 x) (bytes a) (bytes b))

-- std's bytes of a number are those of the standard
pub be_bytes : (k x : ℕ) → bytes_high_first k x ≡ bytes_of k x
unfolding bytes_of
be_bytes zero x = refl
be_bytes (suc zero) x = simp div-one
be_bytes (suc (suc k)) x = ap (λ (l : List ℕ). x / 256 ^ suc k % 256 ∷ l) (be_bytes (suc k) x)

-- the bytes of word i, stored behind those of the words before it
pub word_stored : (w out ys : List ℕ) (i k : ℕ) → take (4 * i) out ≡ bytes (take i w) → i < length w → 4 * i ≤ length out
    → ys ≡ to_be_bytes w32 (get_or w i 0) → take (4 * (i + 1)) (put_mid (4 * i) k out ys) ≡ bytes (take (i + 1) w)
unfolding bytes
word_stored w out ys i k e h g n =
    let x : ℕ = get_or w i 0 in
    let l : length ys ≡ 4 = rw n refl in
    rw (take-put_mid (4 * i) k out ys (4 * (i + 1)) (omega arith) g, e, n, be_bytes 4 x, take_more w i 0 h, bytes_append, append-nil)

-- two runs of bytes, stored one behind the other over zeros, are those bytes padded
pub pasted : (a b : List ℕ) → length a + length b ≤ 64
    → put_mid (length a) (length a + length b - length a) (a ++ drop (length a) (replicate 64 0)) b ≡ padded (a ++ b)
unfolding padded
pasted a b h =
    let n : ℕ = length a in
    let k : ℕ = n + length b - n in
    let q : 64 - n - k ≡ 64 - length (a ++ b) = simp length-append (omega arith) in
    rw (drop-replicate {X = ℕ} n 64 0, take_at a _ n refl, drop_at a _ n refl, drop-replicate {X = ℕ} k (64 - n) 0, q) (sym (append_assoc a b _))
