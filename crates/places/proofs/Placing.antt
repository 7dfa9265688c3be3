-- Where a part lies: a row that a question names ends in the bytes, and the numbers that cross name the part which the library hands out.
use Rattle.std.proofs.Common.{ℕ, ◌+◌, ◌*◌, ◌≤◌, List, arith, add-zero, length, Bor, ◌≡◌, refl, sym, ap, ◌∙◌, Result, Ok, Err}
use Rattle.std.specs.Prelude.{⊤}
use Rattle.words.specs.First.{◌if◌else◌, fine}
use Rattle.types.specs.Refusals.{refusal, refused_at}
use Rattle.types.specs.declared.refusal.Reason.{Reason}
use Rattle.types.specs.declared.refusal.Refusal.{Refusal}
use Rattle.fit.specs.Fits.{ask_rule, Fitted}
use Rattle.file.specs.declared.File.{File}
use Rattle.fit.proofs.Fitting.{Answered, answered, fitted, run_within}
use Rattle.flat.specs.declared.Part.{Part}
use Rattle.flat.specs.Images.{flat_part}
use Rattle.places.specs.Places.{Names}

-- the ways through a question by its refusal m, where there is one
module _ {m a : Result ⊤ Refusal} (at size : ℕ) (e : m ≡ a) {x : Part} where
  pub part_barred : {r : Refusal} → x ≡ flat_part (Err r) 0 0 → m ≡ Err r → x ≡ flat_part a at size
  part_barred p h = p ∙ ap (λ (t : Result ⊤ Refusal). flat_part t at size) (sym h ∙ e)

  pub part_open : x ≡ flat_part fine at size → m ≡ fine → x ≡ flat_part a at size
  part_open p h = p ∙ ap (λ (t : Result ⊤ Refusal). flat_part t at size) (sym h ∙ e)

-- and by what its rule says
module _ {m rule : Result ⊤ Reason} (at size : ℕ) (e : m ≡ rule) {x : Part} where
  pub part_refused : {r : Refusal} {n : Reason} → x ≡ flat_part (Err r) 0 0 → r ≡ refusal n 0 → m ≡ Err n
      → x ≡ flat_part (refused_at rule 0) at size
  part_refused p q h = part_barred at size (ap (λ (t : Result ⊤ Reason). refused_at t 0) e) p (rw (h, q) refl)

  pub part_fine : x ≡ flat_part fine at size → m ≡ fine → x ≡ flat_part (refused_at rule 0) at size
  part_fine p h = part_open at size (ap (λ (t : Result ⊤ Reason). refused_at t 0) e) p (rw h refl)

-- row i of n rows that lie in the bytes l: where it starts and ends is a number
pub row_fits : (l : List ℕ) (f : File) (n i from row : ℕ) → ask_rule l f n i ≡ fine → (Fitted l f → from + n * row ≤ length l)
    → from + (i * row + row) ≤ length l
row_fits l f n i from row e g =
    let k : Answered l f n i = answered l f n i e in
    omega (arith, run_within i n row k.below, g k.fits)

-- the numbers of a question name the part that the library hands out for it
pub names_by : (s : Bor (List ℕ)) (a : Result ⊤ Refusal) (at size : ℕ) → Names s a at size (flat_part a at size)
unfolding ◌if◌else◌
names_by s (Ok u) at size q p = p
names_by s (Err r) at size q p = p

pub names : (s : Bor (List ℕ)) (m : Result ⊤ Reason) (at size : ℕ) → Names s m at size (flat_part (refused_at m 0) at size)
unfolding ◌if◌else◌
names s (Ok u) at size q p = p
names s (Err e) at size q p = p

-- how a part is placed
pub ruleset placing = (row_fits, fitted, add-zero)
