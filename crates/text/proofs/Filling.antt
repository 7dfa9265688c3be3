-- A list of 20 bytes that is filled with a number's digits from its end, the last digit first.
use Rattle.std.proofs.Common.{ℕ, zero, suc, ◌+◌, ◌-◌, ◌/◌, ◌%◌, ◌^◌, ◌≤◌, ◌<◌, List, ◌++◌, append_assoc, ◌≡◌, sym, ◌∙◌, arith, length, set, take}
use Rattle.std.proofs.Common.{drop, length-set, length-drop, take_all}
use Rattle.std.proofs.lemmas.List.{drop-set}
use Rattle.std.proofs.lemmas.Grind.{drop-set_at}
use Rattle.text.specs.Text.{dec}
use Rattle.text.proofs.Decimal.{dec_small, dec_more}

-- the digits of rest and then what stands behind place from are the digits of n; those of rest have room up to that place
pub record Filling (n : ℕ) (d : List ℕ) (from rest : ℕ) : Type 0 where
  pub size : length d ≡ 20
  pub place : from < 20
  pub room : rest < 10 ^ suc from
  pub so_far : dec n ≡ dec rest ++ drop (from + 1) d

module _ {n : ℕ} {d : List ℕ} {rest : ℕ} where
  pub fill_next : {from v : ℕ} → Filling n d from rest → 10 ≤ rest → v ≡ 48 + rest % 10
      → Filling n (set d from v) (from - 1) (rest / 10)
  fill_next {from = zero} f h e = absurd (omega (arith, f.room))
  fill_next {from = suc i} {v} f h e =
      let z : suc i - 1 ≡ i = omega arith in
      rw z (record {
        size = length-set d (suc i) v ∙ f.size;
        place = omega (arith, f.place);
        room = omega (arith, f.room);
        so_far = f.so_far ∙ rw (dec_more rest h, drop-set_at d (suc i) (i + 1) v (omega arith) (omega (arith, f.size, f.place)), e, append_assoc);
      })

  module _ {from : ℕ} (v : ℕ) (f : Filling n d from rest) where
    -- the last store, and the part that is the whole text
    pub fill_ends : rest < 10 → v ≡ 48 + rest → take (20 - from) (drop from (set d from v)) ≡ dec n
    fill_ends h e =
        take_all (20 - from) _ (simp (length-drop, length-set) (omega (arith, f.size)))
        ∙ drop-set d from v (omega (arith, f.size, f.place))
        ∙ rw e (sym (f.so_far ∙ rw (dec_small rest h)))
