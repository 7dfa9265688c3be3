-- What one turn of each loop adds to the schedule and to the rounds.
use Rattle.std.proofs.Common.{◌≡◌, ℕ, ◌+◌, ◌-◌, ◌*◌, ◌<◌, ◌≤◌, List, length, get_or, take, set, bit_xor, add-one, arith, get_or-take, le-ltb, lt-ltb}
use Rattle.words.proofs.Fills.{grown}
use Rattle.words.specs.Big.{be}
use Rattle.words.specs.First.{◌if◌else◌}
use Rattle.block.specs.Fips.{rotl, next, schedule, round, rounds}

-- a store of the next word makes the first t words the first t + 1
pub stored : (m w : List ℕ) (t : ℕ) {v : ℕ} → t < length w → take t w ≡ schedule m t → v ≡ next m (take t w) t
    → take (t + 1) (set w t v) ≡ schedule m (t + 1)
unfolding schedule
stored m w t {v} h e n = grown (schedule m) w t v h e (rw (n, e))

-- below 16 the next word is the block's own, from 16 on it is made of those before it
pub own : (m w : List ℕ) (t v : ℕ) → take t w ≡ schedule m t → t < 16 → length w ≡ 80 → v ≡ be 4 m (4 * t)
    → take (t + 1) (set w t v) ≡ schedule m (t + 1)
unfolding next ◌if◌else◌
own m w t v e h l n = stored m w t (omega arith) e (rw n (simp (lt-ltb _ _ h)))

pub mixed : (m w : List ℕ) (t v : ℕ) → take t w ≡ schedule m t → 16 ≤ t → t < 80 → length w ≡ 80
    → v ≡ rotl 1 (bit_xor (bit_xor (bit_xor (get_or w (t - 3) 0) (get_or w (t - 8) 0)) (get_or w (t - 14) 0)) (get_or w (t - 16) 0))
    → take (t + 1) (set w t v) ≡ schedule m (t + 1)
unfolding next ◌if◌else◌
mixed m w t v e h k l n =
    stored m w t (omega arith) e
    (rw n (simp (
      le-ltb _ _ h,
      get_or-take t w (t - 3) 0 (omega arith),
      get_or-take t w (t - 8) 0 (omega arith),
      get_or-take t w (t - 14) 0 (omega arith),
      get_or-take t w (t - 16) 0 (omega arith),
    )))

-- one more round
pub turned : (w h : List ℕ) {s : List ℕ} (t : ℕ) → s ≡ rounds w h t → round t (get_or w t 0) s ≡ rounds w h (t + 1)
unfolding rounds
turned w h t e = rw add-one (rw e)
