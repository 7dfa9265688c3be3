-- Laws of parts: how long one is, a part of a part, and when records lie in it.
use Rattle.std.proofs.Common.{ℕ, zero, suc, ◌+◌, ◌-◌, ◌*◌, ◌/◌, ◌≤◌, ◌<◌, List, [], ◌∷◌, Bool, true, false, ◌≡◌, refl, sym, ap, ◌∙◌, arith, add-zero, mul-one}
use Rattle.std.proofs.Common.{length, take, drop, length-take, length-drop, drop_of_length-le, ⊎_elim, take-take, drop-drop, Bor}
use Rattle.std.proofs.Common.{leb, le-leb, leb-true, leb-false}
use native.Mathlib.Nat.{add-sub_cancel_left, le-div_iff_mul-le, div-lt_iff_lt-mul}
use borrow.Author.Tests.{lt-leb}
use Rattle.std.specs.List.{PartBy}
use Rattle.std.specs.Option.{unwrap_or}
use Rattle.std.specs.declared.option.Option.{Option}
use Rattle.std.specs.declared.option.Option.TheVariants.{None, Some}
use Rattle.std.proofs.lemmas.List.{take_rest}
use Rattle.words.specs.Big.{be, number}
use Rattle.words.specs.First.{◌if◌else◌}
use Rattle.words.specs.Part.{fits, PartOf, RecordsOf}
use Rattle.words.proofs.Numbers.{be_part}

-- the bytes from k to k + n are the n bytes from k on
pub span : (k n : ℕ) (l : List ℕ) → take (k + n - k) (drop k l) ≡ take n (drop k l)
span k n l = rw add-sub_cancel_left

-- bytes of a part are bytes of the whole, further on
pub take_in : (j m n : ℕ) (l : List ℕ) → j + m ≤ n → take m (drop j (take n l)) ≡ take m (drop j l)
take_in zero m n l h = take-take m n l (omega arith)
take_in (suc j) m zero l h = let z : ⊥ = omega arith in absurd z
take_in (suc j) m (suc n) [] h = refl
take_in (suc j) m (suc n) (a ∷ l) h = take_in j m n l (omega arith)

-- a part of a part is a part of the whole
pub part_part : {s r t : Bor (List ℕ)} {k n j m : ℕ} → PartOf s k n r → PartOf r j m t → j + m ≤ n → PartOf s (k + j) m t
part_part {s} {r} {t} {k} {n} {j} {m} p q h =
    record {
      block = q.block ∙ p.block;
      start = omega (arith, p.start, q.start);
      bytes = q.bytes ∙ ap (λ (l : List ℕ). take m (drop j l)) p.bytes ∙ take_in j m n (drop k s.now) h ∙ ap (take m) (drop-drop j k s.now);
    }

-- how long a part is, where the whole has room for it
pub length_part : (k n : ℕ) (l : List ℕ) → k + n ≤ length l → length (take n (drop k l)) ≡ n
length_part k n l h = simp (length-take, length-drop) (omega arith)

pub part_length : {s r : Bor (List ℕ)} {k n : ℕ} → PartOf s k n r → k + n ≤ length s.now → length r.now ≡ n
part_length {s} {r} {k} {n} p h = ap length p.bytes ∙ length_part k n s.now h

-- the number that a part makes
pub number_part : (k n : ℕ) (l : List ℕ) → n ≤ length l - k → number (take n (drop k l)) ≡ be n l k
number_part k n l h =
    let e : length (take n (drop k l)) ≡ n = simp (length-take, length-drop) (omega arith) in
    rw e (be_part n l k n 0 (omega arith) ∙ rw add-zero)

pub part_number : {s r : Bor (List ℕ)} {k n : ℕ} → PartOf s k n r → k + n ≤ length s.now → number r.now ≡ be n s.now k
part_number {s} {r} {k} {n} p h = ap number p.bytes ∙ number_part k n s.now (omega arith)

-- what a slice has from i on, handed out by `get`, or nothing
pub rest_got : {R : Type 0} (now : R → List ℕ) (l : List ℕ) (i : ℕ) (r : Option R) (d : R)
    → PartBy now l i (length l) r → now d ≡ [] → now (unwrap_or r d) ≡ drop i l
rest_got now l i None d p e = e ∙ sym (drop_of_length-le l (⊎_elim (λ h. omega arith) (λ h. omega arith) p.0))
rest_got now l i (Some r) d p e = p.0.2 ∙ take_rest l i

-- records that lie within n bytes, and ones that do not
module _ {n at : ℕ} (count w : ℕ) where
  pub fits_none : n < at → false ≡ fits n at count w
  fits_none h = sym (lt-leb (at + count * w) n (omega arith))

  pub fits_empty : at ≤ n → w ≡ 0 → true ≡ fits n at count w
  fits_empty h e = rw e (sym (le-leb (at + count * 0) n (omega arith)))

  pub fits_is : at ≤ n → (w ≡ 0 → ⊥) → leb count ((n - at) / w) ≡ fits n at count w
  fits_is h e = go (leb count ((n - at) / w)) refl
    where
      p : 0 < w
      p = omega arith

      go : (t : Bool) → leb count ((n - at) / w) ≡ t → t ≡ fits n at count w
      go true q =
          let z : count * w ≤ n - at = (le-div_iff_mul-le p).0 (leb-true count ((n - at) / w) q) in
          sym (le-leb (at + count * w) n (omega arith))
      go false q =
          let z : n - at < count * w = (div-lt_iff_lt-mul p).0 (leb-false count ((n - at) / w) q) in
          sym (lt-leb (at + count * w) n (omega arith))

-- a cut by the records' own test: t is what the test said
pub inside : (s : Bor (List ℕ)) (at count w : ℕ) {t : Bool} → t ≡ fits (length s.now) at count w → t ≡ true
    → at + count * w ≤ length s.now
inside s at count w e h = leb-true (at + count * w) (length s.now) (sym e ∙ h)

module _ {s : Bor (List ℕ)} (at count w : ℕ) {t : Bool} (e : t ≡ fits (length s.now) at count w) where
  pub cut : {r : Bor (List ℕ)} → t ≡ true → PartOf s at (count * w) r → RecordsOf s at count w r
  unfolding ◌if◌else◌
  cut h p = rw (sym e ∙ h) p

  pub uncut : {r : Bor (List ℕ)} → t ≡ false → PartOf s 0 0 r → RecordsOf s at count w r
  unfolding ◌if◌else◌
  uncut h p = rw (sym e ∙ h) p

-- records that lie in the slice: what is handed out is their part
pub records_in : (s r : Bor (List ℕ)) (at count w : ℕ) → at + count * w ≤ length s.now → RecordsOf s at count w r
    → PartOf s at (count * w) r
unfolding ◌if◌else◌
records_in s r at count w h p = rw (le-leb (at + count * w) (length s.now) h) at p

-- the same of n single bytes
pub run_in : (s r : Bor (List ℕ)) (at n : ℕ) → at + n ≤ length s.now → RecordsOf s at n 1 r → PartOf s at n r
run_in s r at n h p = rw mul-one at (records_in s r at n 1 (rw mul-one h) p)
