-- Laws of refusals 62 and 63: what was compared, and what no refusal says.
use Rattle.std.proofs.Common.{ℕ, ◌+◌, ◌-◌, ◌*◌, ◌≤◌, ◌<◌, List, Bool, true, ◌≡◌, ap, ap₂, ◌∙◌, arith, eqb, length, take, Bor, Result, Err}
use Rattle.std.specs.Prelude.{⊤}
use Rattle.words.specs.Big.{be, number}
use Rattle.words.specs.First.{◌if◌else◌, fine}
use Rattle.words.specs.Part.{PartOf}
use Rattle.words.proofs.Rows.{rows}
use Rattle.words.proofs.Parts.{part_length, part_number}
use Rattle.digest.specs.Fips.{sha1_of}
use Rattle.types.specs.Width.{known}
use Rattle.types.specs.declared.refusal.Reason.{Reason}
use Rattle.list.specs.List.{records_of, claim_at}
use Rattle.rules.specs.Rules.{trailer_of, sum_rule, name_rule, trailing, sum_in, name_in}
use Rattle.rules.specs.Facts.{Summed, Named}

-- the ways to a rule of the trailer: another width, too few bytes, and the rule itself
module _ (w : ℕ) (p : List ℕ) (rest : Result ⊤ Reason) where
  pub trailer_strange : (w ≡ 20 → ⊥) → trailing w p rest ≡ Err Reason.Position
  unfolding trailing known ◌if◌else◌
  trailer_strange h = grind arith

  pub trailer_short : length p < w → trailing w p rest ≡ Err Reason.Position
  unfolding trailing ◌if◌else◌
  trailer_short h = grind arith

  pub trailer_there : w ≡ 20 → w ≤ length p → trailing w p rest ≡ rest
  unfolding trailing known ◌if◌else◌
  trailer_there e h = grind arith

-- bytes that have a trailer: the rule itself
pub sum_plain : (w : ℕ) (p : List ℕ) → known w ≡ true → w ≤ length p → sum_in w p ≡ sum_rule w p
unfolding sum_in trailing ◌if◌else◌
sum_plain w p k h = grind arith

-- a record of the list, and bytes that have a trailer: the rule itself
pub name_plain : (w z : ℕ) (l : List ℕ) (k : ℕ) (p : List ℕ) → k < records_of z l → known w ≡ true → w ≤ length p
    → name_in w z l k p ≡ name_rule w z l k p
unfolding name_in trailing ◌if◌else◌
name_plain w z l k p b e h = grind arith

-- 62: the trailer was compared with a digest d
pub sum_said : {w : ℕ} (p : List ℕ) {d : List ℕ} {t : Bool} → length d ≡ w → d ≡ sha1_of (take (length p - w) p)
    → t ≡ eqb (number d) (be (length d) p (length p - w))
    → t ≡ eqb (number (sha1_of (take (length p - w) p))) (trailer_of w p)
sum_said {w} p l e q = q ∙ ap₂ eqb (ap (λ (x : List ℕ). number x) e) (ap (λ (n : ℕ). be n p (length p - w)) l)

pub sum_sound : (w : ℕ) (p : List ℕ) → sum_rule w p ≡ fine → Summed w p
unfolding sum_rule ◌if◌else◌
sum_sound w p e = grind arith

pub sum_whole : (w : ℕ) (p : List ℕ) → Summed w p → sum_rule w p ≡ fine
unfolding sum_rule ◌if◌else◌
sum_whole w p h = grind arith

-- two numbers are compared either way round
eqb_swap : (a b : ℕ) → eqb a b ≡ eqb b a
eqb_swap a b = grind arith

-- 63: the trailer x was compared with the claim
pub name_said : {s x : Bor (List ℕ)} {w : ℕ} (z : ℕ) (l : List ℕ) (k : ℕ) {t : Bool} → w ≡ 20 → w ≤ length s.now
    → PartOf s (length s.now - w) w x
    → t ≡ eqb (number x.now) (be (length x.now) l (k * z + 8))
    → t ≡ eqb (claim_at z l k) (trailer_of w s.now)
name_said {s} {w} z l k e h p q =
    let m : length s.now - w + w ≤ length s.now = omega arith in
    q ∙ ap₂ eqb (part_number p m) (ap (λ (n : ℕ). be n l (k * z + 8)) (part_length p m ∙ e))
    ∙ eqb_swap (trailer_of w s.now) (claim_at z l k)

module _ (w z : ℕ) (l : List ℕ) (k : ℕ) (p : List ℕ) where
  pub name_sound : name_rule w z l k p ≡ fine → Named w z l k p
  unfolding name_rule ◌if◌else◌
  name_sound e = record { kind = λ h. grind arith; claim = λ h. grind arith }

  pub name_whole : Named w z l k p → name_rule w z l k p ≡ fine
  unfolding name_rule ◌if◌else◌
  name_whole f = grind arith

-- how a trailer is tried
pub ruleset trailers = (rows, trailer_strange, trailer_short, trailer_there, sum_said, name_said)
