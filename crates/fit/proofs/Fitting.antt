-- A record that fits its bytes: what it gives, and that an opened file's does.
use Rattle.std.proofs.Common.{ℕ, suc, ◌+◌, ◌*◌, ◌≤◌, ◌<◌, List, true, ◌≡◌, arith, mul-le-mul_right, mul-one, suc-mul, length, Bor, Result, Err, is_err, le-leb}
use Rattle.std.proofs.lemmas.Grind.{common_steps}
use Rattle.std.specs.Prelude.{⊤}
use Rattle.types.specs.Width.{known}
use Rattle.types.specs.declared.refusal.Reason.{Reason}
use Rattle.types.proofs.Widths.{width_bounds}
use Rattle.words.specs.First.{◌if◌else◌, ◌or◌, fine}
use Rattle.words.specs.Part.{PartOf, RecordsOf}
use Rattle.words.proofs.Parts.{part_part, part_length, records_in}
pub use Rattle.chunk.proofs.Sound.{no_error}
use Rattle.file.specs.declared.File.{File}
use Rattle.fit.specs.Fits.{fit_rule, ask_rule, AskedPart, Fitted}
use Rattle.fit.specs.Facts.{Opened}

pub fit_known : (l : List ℕ) (f : File) → fit_rule l f ≡ fine → known f.width ≡ true
unfolding fit_rule ◌if◌else◌
fit_known l f e = grind (arith, common_steps)

pub fitted : (l : List ℕ) (f : File) → fit_rule l f ≡ fine → Fitted l f
unfolding fit_rule ◌if◌else◌
fitted l f e =
    let w = width_bounds f.width (fit_known l f e) in
    record {
      wide = omega arith;
      narrow = omega arith;
      fan = grind (arith, common_steps);
      ids = grind (arith, common_steps);
      rows = grind (arith, common_steps);
      edge = grind (arith, common_steps);
      base = grind (arith, common_steps);
    }

pub opened_fits : {l : List ℕ} {f : File} → Opened l f → fit_rule l f ≡ fine
unfolding fit_rule ◌if◌else◌
opened_fits {l} {f} o = let k : Fitted l f = o.fitted in grind (arith, common_steps)

-- a question that meets no refusal, and one whose record fits
module _ (l : List ℕ) (f : File) (n i : ℕ) where
  pub asked : ask_rule l f n i ≡ fine → (fit_rule l f ≡ fine) × (i < n)
  unfolding ask_rule ◌or◌ ◌if◌else◌
  asked e = (grind (arith, common_steps), grind (arith, common_steps))

  pub asked_plain : fit_rule l f ≡ fine → i < n → ask_rule l f n i ≡ fine
  unfolding ask_rule ◌or◌ ◌if◌else◌
  asked_plain e h = grind (arith, common_steps)

  -- and one that meets a refusal
  pub ask_misfit : {r : Reason} → fit_rule l f ≡ Err r → ask_rule l f n i ≡ Err r
  unfolding ask_rule ◌or◌
  ask_misfit h = rw h

  pub ask_out : fit_rule l f ≡ fine → n ≤ i → ask_rule l f n i ≡ Err Reason.Position
  unfolding ask_rule ◌or◌ ◌if◌else◌
  ask_out h g = rw (h, le-leb n i g)

-- what a question that is answered gives
pub record Answered (l : List ℕ) (f : File) (n i : ℕ) : Type 0 where
  pub rule : ask_rule l f n i ≡ fine
  pub known : known f.width ≡ true
  pub fits : Fitted l f
  pub below : i < n

pub answered : (l : List ℕ) (f : File) (n i : ℕ) → ask_rule l f n i ≡ fine → Answered l f n i
answered l f n i e =
    let k = asked l f n i e in record { rule = e; known = fit_known l f k.0; fits = fitted l f k.0; below = k.1 }

-- the part that a question hands back, where it meets no refusal and where it meets one
module _ {E : Type 0} (s r : Bor (List ℕ)) (m : Result ⊤ E) (at n : ℕ) where
  pub part_fine : m ≡ fine → PartOf s at n r → AskedPart s m at n r
  unfolding ◌if◌else◌
  part_fine e p = rw e p

  pub part_none : is_err m ≡ true → PartOf s 0 0 r → AskedPart s m at n r
  unfolding ◌if◌else◌
  part_none e p = grind (arith, common_steps)

-- record i of n lies before the end of n records
pub run_within : (i n w : ℕ) → i < n → i * w + w ≤ n * w
run_within i n w h = let m : suc i * w ≤ n * w = mul-le-mul_right w h in omega (arith, suc-mul i w)

-- row i of the n rows of r bytes at a place of s, of which p is the part: it lies in p, and what is handed back lies in s
module _ {s p : Bor (List ℕ)} {at : ℕ} (n r i w : ℕ) (q : PartOf s at (n * r) p) (h : i < n) (g : w ≤ r) where
  pub row_room : at + n * r ≤ length s.now → i * r + w ≤ length p.now
  row_room z = let l = part_length q z in omega (arith, run_within i n r h)

  pub row_part : {E : Type 0} {m : Result ⊤ E} {x : Bor (List ℕ)} → m ≡ fine → at + n * r ≤ length s.now → RecordsOf p (i * r) w 1 x
      → AskedPart s m (at + i * r) w x
  row_part {E} {m} {x} e z k =
      let y : PartOf p (i * r) w x = rw mul-one at (records_in p x (i * r) w 1 (rw mul-one (row_room z)) k) in
      part_fine s x m (at + i * r) w e (part_part q y (let u = run_within i n r h in omega arith))
