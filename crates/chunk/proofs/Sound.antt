-- What a sound index gives.
use Rattle.std.proofs.Common.{ℕ, ◌+◌, ◌*◌, ◌<◌, ◌≤◌, List, false, ◌≡◌, refl, arith, length, Result, Ok, Err, is_err}
use Rattle.std.proofs.lemmas.Grind.{common_steps}
use Rattle.std.specs.Prelude.{⊤}
use Rattle.words.specs.First.{◌if◌else◌, first, fine}
use Rattle.words.proofs.Searches.{first_le, first_none, first_hit}
use Rattle.chunk.specs.Index.{chunks, off_at, is_at, range_rule, entry_rule, bad, bad_entry, index_rule, index_place, chunk_at, chunk_of, Indexed, Lies}

-- an entry that is not refused
entry_fine : (l : List ℕ) (i : ℕ) → entry_rule l i ≡ fine
    → (20 + 12 * chunks l ≤ off_at l i) × (off_at l i ≤ off_at l (i + 1)) × (off_at l (i + 1) ≤ length l)
unfolding entry_rule range_rule ◌if◌else◌
entry_fine l i h = (grind (arith, common_steps), grind (arith, common_steps), grind (arith, common_steps))

-- a rule that gives no error refuses nothing
pub no_error : {E : Type 0} (m : Result ⊤ E) → is_err m ≡ false → m ≡ fine
no_error (Ok u) h = refl
no_error (Err e) h = cc

-- a sound index has no entry that is refused
none_first : (l : List ℕ) → index_rule l ≡ fine → chunks l ≤ first (bad l) 0 (chunks l)
unfolding index_rule bad_entry bad ◌if◌else◌
none_first l e = grind (arith, common_steps, first_hit)

none_bad : (l : List ℕ) → index_rule l ≡ fine → (i : ℕ) → i < chunks l → entry_rule l i ≡ fine
unfolding bad
none_bad l e i g = no_error _ (first_none (bad l) 0 (chunks l) (omega (arith, none_first l e)) i (omega arith) (omega arith))

pub indexed : (l : List ℕ) → index_rule l ≡ fine → Indexed l
unfolding index_rule ◌if◌else◌
indexed l e =
    record {
      room = grind (arith, common_steps);
      low = λ i g. (entry_fine l i (none_bad l e i g)).0;
      order = λ i g. (entry_fine l i (none_bad l e i g)).1;
      within = λ i g. (entry_fine l i (none_bad l e i g)).2;
    }

-- the place of a sound index is its last entry
pub sound_place : (l : List ℕ) → index_rule l ≡ fine → index_place l ≡ chunks l
unfolding index_place bad_entry ◌if◌else◌
sound_place l e =
    let p : first (bad l) 0 (chunks l) ≡ chunks l = omega (arith, none_first l e, first_le (bad l) 0 (chunks l)) in
    grind (arith, common_steps, (indexed l e).room)

-- where a chunk of a sound index lies
pub lies : {l : List ℕ} (x : ℕ) → Indexed l → Lies (length l) (20 + 12 * chunks l) (chunk_of l x)
unfolding chunk_of ◌if◌else◌ chunk_at
lies {l} x h =
    let i : ℕ = first (is_at l x) 0 (chunks l) in
    record { above = λ z. grind (arith, common_steps, h.low i); inside = grind (arith, common_steps, h.order i, h.within i) }
