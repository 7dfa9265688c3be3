-- Laws of refusals 64 to 67: one refusal after another, what was read, and what no refusal says.
use Rattle.std.proofs.Common.{ℕ, suc, ◌+◌, ◌-◌, ◌*◌, ◌≤◌, ◌<◌, List, Bool, true, not, ◌≡◌, refl, ap, ap₂, ◌∙◌, arith, suc-mul, leb, eqb, length, Bor}
use Rattle.std.proofs.Common.{Result, Ok, Err}
use Rattle.std.specs.Prelude.{⊤}
use Rattle.words.specs.Big.{be, number}
use Rattle.words.specs.First.{◌if◌else◌, ◌or◌, fine, refuse}
use Rattle.words.specs.Part.{PartOf, RecordsOf}
use Rattle.words.proofs.Rows.{rows}
use Rattle.types.proofs.Widths.{width_bounds, small_ids}
use Rattle.words.proofs.Parts.{run_in, part_length, part_number}
use Rattle.types.specs.Width.{known}
use Rattle.access.specs.Lookup.{key_of}
use Rattle.rules.specs.Rules.{id_rule, bucket_rule, tree_rule, entry_rule, entry_in}
use Rattle.rules.specs.Facts.{Entry}

-- ── one refusal after another ──

module _ {E : Type 0} where
  pub or_miss : {a : Result ⊤ E} (b : Result ⊤ E) → a ≡ fine → (a or b) ≡ b
  unfolding ◌or◌
  or_miss b h = rw h

  -- the same as a stage that hands its refusal on
  pub or_refuse : (a b : Result ⊤ E) → (a or b) ≡ refuse a Err b
  unfolding ◌or◌ refuse
  or_refuse (Ok u) b = refl
  or_refuse (Err e) b = refl

  pub or_none : (a b : Result ⊤ E) → (a or b) ≡ fine → (a ≡ fine) × (b ≡ fine)
  unfolding ◌or◌
  or_none (Ok u) b h = (refl, h)
  or_none (Err e) b h = cc

-- ── what was read ──

-- a run of n bytes is zero
pub zero_said : (s r : Bor (List ℕ)) (at n : ℕ) {t : Bool} → at + n ≤ length s.now → RecordsOf s at n 1 r
    → t ≡ eqb (number r.now) 0 → t ≡ eqb (be n s.now at) 0
zero_said s r at n h p q = q ∙ ap (λ (x : ℕ). eqb x 0) (part_number (run_in s r at n h p) h)

-- the record before c
pub one_back : (c w : ℕ) → 0 < c → c * w ≡ (c - 1) * w + w
one_back c w h =
    let e : c ≡ suc (c - 1) = omega arith in
    ap (λ (n : ℕ). n * w) e ∙ suc-mul (c - 1) w

-- the id r of entry c is zero
pub id_said : (s r : Bor (List ℕ)) (w c : ℕ) {t : Bool} → c * w + w ≤ length s.now → RecordsOf s (c * w) w 1 r
    → t ≡ eqb (number r.now) 0 → t ≡ eqb (key_of w s.now c) 0
unfolding key_of
id_said s r w c h p q = zero_said s r (c * w) w h p q

-- the id r of entry c is above the one before
pub above_said : (s r : Bor (List ℕ)) (w c : ℕ) {u : Bool} → c * w + w ≤ length s.now → 0 < c → RecordsOf s (c * w) w 1 r
    → u ≡ not (leb (number r.now) (be (length r.now) s.now (c * w - w)))
    → u ≡ not (leb (key_of w s.now c) (key_of w s.now (c - 1)))
unfolding key_of
above_said s r w c h g p d =
    let k : PartOf s (c * w) w r = run_in s r (c * w) w h p in
    let b : c * w - w ≡ (c - 1) * w = omega (arith, one_back c w g) in
    d ∙ ap not (ap₂ leb (part_number k h) (ap₂ (λ (n at : ℕ). be n s.now at) (part_length k h) b))

module _ (w : ℕ) (fan ids rows : List ℕ) (c : ℕ) where
  -- chunks that have entry c, and a whole fan: the rules themselves
  pub entry_plain : known w ≡ true → 1024 ≤ length fan → c * w + w ≤ length ids → c * (w + 16) + (w + 16) ≤ length rows
      → entry_in w fan ids rows c ≡ entry_rule w fan ids rows c
  unfolding entry_in ◌if◌else◌
  entry_plain k f h g = grind arith

  -- what no refusal says, and what gives none
  pub entry_sound : entry_rule w fan ids rows c ≡ fine → Entry w fan ids rows c
  unfolding entry_rule id_rule bucket_rule tree_rule ◌if◌else◌
  entry_sound e =
      let p1 = or_none _ _ e in
      let p2 = or_none _ _ p1.1 in
      record { id = λ h. grind arith; above = λ h. grind arith; low = grind arith; high = grind arith; tree = λ h. grind arith }

  pub entry_whole : Entry w fan ids rows c → entry_rule w fan ids rows c ≡ fine
  unfolding entry_rule id_rule bucket_rule tree_rule ◌or◌ ◌if◌else◌
  entry_whole f = grind arith

-- how an entry is tried
pub ruleset entries = (rows, or_refuse, width_bounds, small_ids)

-- how an id is tried
pub ruleset ids = (rows, id_said, above_said, one_back)
