-- A pass that looks for an id. What stands when it is at file k is `Looking`: what was seen, else what the files from k on say, is what all say.
use Rattle.std.proofs.Common.{ℕ, suc, ◌+◌, ◌-◌, ◌≤◌, ◌<◌, List, ◌≡◌, refl, sym, ap, ◌∙◌, arith, length, Ok, Err}
use native.Mathlib.Nat.{sub-zero}
use Rattle.std.specs.Prelude.{Option, Some, None}
use Rattle.words.specs.First.{◌if◌else◌, fine, refuse}
use Rattle.words.proofs.Rows.{refuse_some, eq_not, ne_not}
use Rattle.types.specs.Refusals.{refusal}
use Rattle.types.specs.declared.refusal.Reason.TheVariants as Reason
use Rattle.types.specs.declared.refusal.Refusal.{Refusal}
use Rattle.types.specs.declared.graph.Position.{Position}
use Rattle.list.specs.List.{records_of}
use Rattle.file.specs.declared.File.{File}
use Rattle.access.specs.Lookup.{Found as FileFound, found, lookup_of as lookupIn}
use Rattle.access.proofs.Looks.{found_below}
use Rattle.graph.specs.Chain.{part_at, open_at, opened, Listed}
use Rattle.ask.specs.Lookups.{Found, find_in, shift, find_at, look_from, lookup_of, note_file, noted_of, Searched}
use Rattle.graph.proofs.Passing.{Along, along_begins, along_ends, along_next, along_room}

-- what was seen, else what is still to come
abbrev hit_or : Option Position → Found → Found
hit_or (Some g) rest = Ok (Some g)
hit_or None rest = rest

-- one file more: it is noted as the definition shifts it
note_shift : (h : Option Position) (sum : ℕ) (y : FileFound) (rest : Found) → hit_or h (shift sum y rest) ≡ hit_or (noted_of h sum y) rest
unfolding noted_of shift note_file
note_shift (Some g) sum y rest = refl
note_shift None sum (Ok (Some p)) rest = refl
note_shift None sum (Ok None) rest = refl
note_shift None sum (Err r) rest = refl

-- nothing is to come
hit_last : (h : Option Position) → hit_or h (Ok None) ≡ Ok h
hit_last (Some g) = refl
hit_last None = refl

pub record Looking (z : ℕ) (c l : List ℕ) (n : ℕ) (x : List ℕ) (k at sum : ℕ) (h : Option Position) : Type 0 where
  pub along : Along z c l n k at sum
  pub answer : look_from z c l x 0 n ≡ hit_or h (look_from z c l x k (n - k))

module _ {z : ℕ} {c l : List ℕ} {n : ℕ} (d : Listed z c l n) (x : List ℕ) where
  pub look_begins : Looking z c l n x 0 0 0 None
  look_begins = record { along = along_begins z c l d; answer = rw sub-zero }

  module _ {k at sum : ℕ} {h : Option Position} (p : Looking z c l n x k at sum h) where
    pub look_ends : n ≤ k → Searched z c l n x h
    unfolding look_from
    look_ends g =
        let y : n - k ≡ 0 = omega arith in
        record { opens = along_ends z c l d at sum p.along g; answer = p.answer ∙ rw y (hit_last h) }

    module _ (g : k < n) {f : File} (e : open_at z c l k ≡ Ok f) where
      -- s is the file's part
      pub look_next : {s : List ℕ} → s ≡ part_at z c l k
          → Looking z c l n x (k + 1) (at + length s) (sum + f.commits) (noted_of h sum (lookupIn s f x))
      unfolding look_from find_in
      look_next {s} q =
          let b : n - k ≡ suc (n - (k + 1)) = omega arith in
          let y : FileFound = lookupIn s f x in
          let a : find_at z c l x k ≡ y = rw (e, q) in
          record {
            along = along_next z c l d at sum p.along g f e (length s) (ap length q);
            answer = p.answer ∙ rw (b, a, ← p.along.total) (note_shift h sum y _);
          }

      -- a position that is found fits
      pub look_fits : (s : List ℕ) (i : ℕ) → lookupIn s f x ≡ found i → sum + i < 4294967296
      look_fits s i w = omega (arith, found_below s f x i w, (along_room z c l d at sum p.along g f e).0)

-- the ways through a lookup
module _ (z : ℕ) (c l x : List ℕ) where
  pub find_refused : {e : Refusal} → opened z c l ≡ Err e → Err e ≡ lookup_of z c l x
  unfolding lookup_of
  find_refused h = refuse_some Err _ h

  module _ (e : opened z c l ≡ fine) where
    pub find_width : (length x ≡ 20 → ⊥) → Err (refusal Reason.IdWidth 0) ≡ lookup_of z c l x
    unfolding lookup_of refuse ◌if◌else◌
    find_width g = rw (e, ne_not (length x) 20 g)

    pub find_seen : length x ≡ 20 → {h : Option Position} → look_from z c l x 0 (records_of z l) ≡ Ok h → Ok h ≡ lookup_of z c l x
    unfolding lookup_of refuse ◌if◌else◌
    find_seen g a = rw (e, eq_not (length x) 20 g) (sym a)
