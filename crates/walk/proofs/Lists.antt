-- The parent list on a chain: the ways through the answer, and what the list holds after it.
use Rattle.std.proofs.Common.{ℕ, List, ◌≡◌, refl, sym, ap, ◌∙◌, length, Bor, Result, Ok, Err}
use Rattle.words.specs.First.{refuse}
use Rattle.types.specs.declared.refusal.Refusal.{Refusal}
use Rattle.words.specs.Part.{RecordsOf}
use Rattle.steps.specs.Walks.{positions}
use Rattle.parents.specs.Walks.{walk_of}
use Rattle.parents.specs.Lists.{held_by, list_of as fileList, held_of as fileHeld}
use Rattle.graph.specs.Chain.{in_file}
use Rattle.graph.specs.Spots.{located}
use Rattle.graph.specs.Theorems.{Spotted, FileOf}
use Rattle.graph.specs.declared.locate.Spot.{Spot}
use Rattle.graph.proofs.Spots.{spotted, unspotted_as, file_cut}
use Rattle.walk.specs.Lists.{walk_in, list_by, walked_at, parents_at, list_of, held_of}

-- the file's index changes nothing of what is held
held_in : (k : ℕ) (t : Result ℕ Refusal) (ps xs : List ℕ) → held_by (in_file k t) ps xs ≡ held_by t ps xs
unfolding held_by in_file
held_in k (Ok n) ps xs = refl
held_in k (Err r) ps xs = refl

-- xs is the lent list
module _ (z : ℕ) (c : Bor (List ℕ)) (l : List ℕ) (g : ℕ) (xs : List ℕ) where
  pub list_refused : {q : Refusal} → located z c.now l g ≡ Err q
      → (Err q ≡ list_of z c.now l g (length xs)) × (xs ≡ held_of z c.now l g xs)
  unfolding held_of list_of held_by refuse
  list_refused e = let u = unspotted_as z c.now l g e in (rw u, rw u)

  -- the position stands at r, and s is the file that was cut by it
  module _ {r : Spot} (e : located z c.now l g ≡ Ok r) {s : Bor (List ℕ)} (k : RecordsOf c r.start r.size 1 s) where
    spot : Spotted z c.now l g r
    spot = spotted z c.now l g e

    cut : FileOf z c l r s
    cut = file_cut c spot k

    told : list_of z c.now l g (length xs) ≡ in_file r.file (fileList s.now r.inner r.pos.0 (length xs))
    unfolding list_of list_by refuse
    told = rw (spot.asks, spot.file, spot.pos, spot.opens, cut.bytes)

    named : parents_at z c.now l g ≡ positions (walk_of s.now r.inner r.pos.0)
    unfolding walked_at walk_in
    named = rw (spot.file, spot.pos, spot.opens, cut.bytes)

    -- t is the file's own answer and out what it left
    pub list_told : {t a : Result ℕ Refusal} {out : List ℕ} → t ≡ fileList s.now r.inner r.pos.0 (length xs)
        → out ≡ fileHeld s.now r.inner r.pos.0 xs → a ≡ in_file r.file t
        → (a ≡ list_of z c.now l g (length xs)) × (out ≡ held_of z c.now l g xs)
    unfolding held_of fileHeld
    list_told d y w = (
      w ∙ ap (in_file r.file) d ∙ sym told,
      y ∙ sym (rw (told, named) (held_in r.file _ _ xs)),
    )
