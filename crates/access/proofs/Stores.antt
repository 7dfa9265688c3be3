-- A lookup in an opened file finds exactly what the file stores.
use Rattle.std.proofs.Common.{ℕ, zero, suc, ◌+◌, ◌-◌, ◌*◌, ◌≤◌, ◌<◌, List, Bool, true, false, ⊎_elim, inl, inr, ◌≡◌, refl, sym, ap, ◌∙◌, arith}
use Rattle.std.proofs.Common.{zero-add, add-zero, length, get_or, take, drop, get_or-take, get_or-drop, ext_get_or, eqb, eqb-true, Ok, Err}
use borrow.Author.Tests.{eqb-false}
use Rattle.words.specs.Big.{be, number, Bytes}
use Rattle.words.proofs.Numbers.{bytes_part}
use Rattle.order.proofs.Ordered.{same_bytes, same_number}
use Rattle.words.proofs.Parts.{length_part}
use Rattle.file.specs.Table.{opening}
use Rattle.fit.specs.Fits.{fan_part, ids_part}
use Rattle.fit.specs.Facts.{Opened, Rises}
use Rattle.std.specs.Prelude.{Some, None}
use Rattle.access.specs.Lookup.{Found, found, halving, key_of, upper, lower, lookup_of, stored, leading, Ordered, Answers, Finds, Right}
use Rattle.file.specs.declared.File.{File}
use Rattle.fit.proofs.Opens.{opened, rising}
use Rattle.fit.proofs.Fitting.{opened_fits, run_within}
use Rattle.access.proofs.Halving.{halving_sound, halving_answers, halving_whole}
use Rattle.access.proofs.Looks.{look_width, look_search}

-- an id as a list and as a number
module _ (l x : List ℕ) (at : ℕ) {w : ℕ} (bl : Bytes l) (bx : Bytes x) (e : length x ≡ w) (h : at + w ≤ length l) where
  part_at : (k : ℕ) → k < w → get_or (take w (drop at l)) k 0 ≡ get_or l (at + k) 0
  part_at k g = rw (get_or-take, get_or-drop)

  pub list_is : number x ≡ be w l at → take w (drop at l) ≡ x
  list_is n =
      ext_get_or 0 (take w (drop at l)) x (length_part at w l h ∙ sym e)
      (λ k g. let q : k < w = omega (arith, length_part at w l h) in
      part_at k q ∙ sym (same_bytes x l 0 at bx bl w (rw e at n) k q) ∙ rw zero-add)

  pub number_is : take w (drop at l) ≡ x → number x ≡ be w l at
  number_is n = rw e (same_number x l 0 at w (λ k g. rw zero-add (rw (← n) (part_at k g))))

module _ {l : List ℕ} {f : File} (o : Opened l f) (u : Rises l f) where
  -- no fan entry is above the last
  fan_le : (k : ℕ) → k ≤ 255 → upper (fan_part l f) (255 - k) ≤ f.commits
  fan_le zero h = omega (arith, o.count)
  fan_le (suc k) h =
      let e : 255 - suc k + 1 ≡ 255 - k = omega arith in
      let r : upper (fan_part l f) (255 - suc k) ≤ upper (fan_part l f) (255 - suc k + 1) = u.rises (255 - suc k) (omega arith) in
      omega (arith, rw e at r, fan_le k (omega arith))

  pub upper_le : (b : ℕ) → b < 256 → upper (fan_part l f) b ≤ f.commits
  upper_le b h = let e : 255 - (255 - b) ≡ b = omega arith in rw e at (fan_le (255 - b) (omega arith))

  ids_long : length (ids_part l f) ≡ f.commits * f.width
  ids_long = length_part f.oidl (f.commits * f.width) l o.fitted.ids

  id_within : (i : ℕ) → i < f.commits → i * f.width + f.width ≤ length (ids_part l f)
  id_within i h = omega (arith, ids_long, run_within i f.commits f.width h)

  pub stored_long : (i : ℕ) → i < f.commits → length (stored l f i) ≡ f.width
  unfolding stored
  stored_long i h = length_part (i * f.width) f.width (ids_part l f) (id_within i h)

  module _ (x : List ℕ) (bx : Bytes x) where
    -- for a file that `open` gave a lookup is the plain search
    pub plain : length x ≡ f.width
        → halving (key_of f.width (ids_part l f)) (number x) (lower (fan_part l f) (get_or x 0 0)) (upper (fan_part l f) (get_or x 0 0))
        ≡ lookup_of l f x
    plain e =
        ap (λ (w : ℕ). halving (key_of w (ids_part l f)) (number x) (lower (fan_part l f) (get_or x 0 0)) (upper (fan_part l f) (get_or x 0 0)))
        (sym e) ∙ look_search l f x (opened_fits o) e (upper_le (get_or x 0 0) (bx 0))

    -- so it never refuses an id of the file's width
    pub answers_in : length x ≡ f.width → Answers (lookup_of l f x)
    answers_in w = go (lookup_of l f x) refl
      where
        go : (r : Found) → lookup_of l f x ≡ r → Answers r
        go (Ok (Some p)) e = inl (p.0, refl)
        go (Ok None) e = inr refl
        go (Err q) e = absurd (halving_answers _ (number x) _ _ q (plain w ∙ e))

  module _ (x : List ℕ) (bl : Bytes l) (bx : Bytes x) where
    bi : Bytes (ids_part l f)
    bi = bytes_part l f.oidl (f.commits * f.width) bl

    sound_same : length x ≡ f.width → (i : ℕ) → lookup_of l f x ≡ found i → (i < f.commits) × (stored l f i ≡ x)
    unfolding stored key_of
    sound_same e i g =
        let s = halving_sound _ (number x) _ _ i (plain x bx e ∙ g) in
        let n : i < f.commits = omega (arith, s.1, upper_le (get_or x 0 0) (bx 0)) in
        (n, list_is (ids_part l f) x (i * f.width) bi bx e (id_within i n) s.2)

    -- what is found is stored, in any file that opened
    pub sound : (i : ℕ) → lookup_of l f x ≡ found i → (i < f.commits) × (stored l f i ≡ x)
    sound = go _ refl
      where
        go : (t : Bool) → eqb (length x) f.width ≡ t → (i : ℕ) → lookup_of l f x ≡ found i → (i < f.commits) × (stored l f i ≡ x)
        go true t i e = sound_same (eqb-true (length x) f.width t) i e
        go false t i e =
            let w = look_width l f x (opened_fits o) (eqb-false (length x) f.width t) in cc

    module _ (d : Ordered l f) where
      far : (k i : ℕ) → i + 1 + k < f.commits → key_of f.width (ids_part l f) i < key_of f.width (ids_part l f) (i + 1 + k)
      far zero i h = rw add-zero (d.rises i (omega arith))
      far (suc k) i h =
          let q : i + 1 + k + 1 ≡ i + 1 + suc k = omega arith in
          let r = d.rises (i + 1 + k) (omega arith) in
          let t : key_of f.width (ids_part l f) (i + 1 + k) < key_of f.width (ids_part l f) (i + 1 + suc k) = rw q at r in
          omega (arith, far k i (omega arith))

      up : (i j : ℕ) → i < j → j < f.commits → key_of f.width (ids_part l f) i < key_of f.width (ids_part l f) j
      up i j h g = let q : i + 1 + (j - (i + 1)) ≡ j = omega arith in rw q at (far (j - (i + 1)) i (omega arith))

      first_is : (i : ℕ) → stored l f i ≡ x → get_or x 0 0 ≡ leading l f i
      unfolding leading stored
      first_is i e =
          rw (← e) (get_or-take f.width _ 0 0 o.fitted.wide
          ∙ get_or-drop (i * f.width) (ids_part l f) 0 0 ∙ rw add-zero)

      length_is : (i : ℕ) → i < f.commits → stored l f i ≡ x → length x ≡ f.width
      length_is i h e = rw (← e) (stored_long i h)

      whole : (i : ℕ) → i < f.commits → stored l f i ≡ x → lookup_of l f x ≡ found i
      unfolding stored key_of
      whole i h e =
          let w = length_is i h e in
          let b = first_is i e in
          let lo : lower (fan_part l f) (get_or x 0 0) ≤ i = rw b (d.low i h) in
          let hi : i < upper (fan_part l f) (get_or x 0 0) = rw b (d.high i h) in
          sym (plain x bx w)
          ∙ halving_whole _ (number x) f.commits up _ _ i (upper_le (get_or x 0 0) (bx 0)) lo hi
          (number_is (ids_part l f) x (i * f.width) bi bx w (id_within i h) e)

      finds : length x ≡ f.width → Finds l f x (lookup_of l f x)
      finds w =
          record {
            sound = sound;
            whole = whole;
            absent = λ e i h g. (let s = whole i h g in cc);
            none = λ h. ⊎_elim (λ a. (let s = sound a.0 a.1 in absurd (h a.0 s.0 s.1))) (λ e. e) (answers_in x bx w);
          }

-- an id that is stored is made of bytes
pub stored_bytes : (l : List ℕ) (f : File) (i : ℕ) → Bytes l → Bytes (stored l f i)
unfolding stored
stored_bytes l f i bl = bytes_part (ids_part l f) (i * f.width) f.width (bytes_part l f.oidl (f.commits * f.width) bl)

-- an opened file never refuses an id of its width
pub answers : (l : List ℕ) {f : File} (x : List ℕ) → opening l ≡ Ok f → Bytes x → length x ≡ f.width → Answers (lookup_of l f x)
answers l {f} x o bx w = answers_in (opened true l o) (rising l o) x bx w

-- a result that is the definition's has the definition's theorem
pub both : (l : List ℕ) (f : File) (x : List ℕ) → Bytes l → Bytes x → {r : Found} → r ≡ lookup_of l f x
    → (r ≡ lookup_of l f x) × Right l f x r
unfolding Right
both l f x bl bx e = (e, λ o d w. rw e (finds (opened true l o) (rising l o) x bl bx d w))
