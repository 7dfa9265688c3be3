-- Each position of a chain stands in exactly one file, and back.
use Rattle.std.proofs.Common.{ℕ, ◌<◌, List, ◌≡◌, refl, sym, ap, ◌∙◌, arith, leb-false, Result, Ok, Err}
use Rattle.words.specs.First.{fine}
use Rattle.words.proofs.Rows.{pass}
use Rattle.types.specs.declared.refusal.Refusal.{Refusal}
use Rattle.words.proofs.Adds.{before_lt, which_below, within_below, within_sum, which_back, within_back}
use Rattle.list.specs.List.{records_of}
use Rattle.file.specs.declared.File.{File}
use Rattle.graph.specs.Chain.{commits_of, open_at, count_at, commits_in, file_of, pos_of, opened, asked}
use Rattle.graph.specs.Theorems.{Stands}
use Rattle.graph.proofs.Views.{or_none}

-- a file that has a place is open
has_open : (o : Result File Refusal) (i : ℕ) → i < commits_of o → (f : File) × (o ≡ Ok f) × (i < f.commits)
unfolding commits_of
has_open (Ok f) i h = (f, refl, h)
has_open (Err r) i h = let z : ⊥ = omega arith in absurd z

module _ (z : ℕ) (c l : List ℕ) where
  position_open : (g : ℕ) → g < commits_in z c l → (f : File) × (open_at z c l (file_of z c l g) ≡ Ok f) × (pos_of z c l g < f.commits)
  unfolding count_at
  position_open g h = has_open _ (pos_of z c l g) (within_below (count_at z c l) (records_of z l) g h)

  pub stands : Stands z c l
  stands =
      record {
        file = which_below (count_at z c l) (records_of z l);
        pos = within_below (count_at z c l) (records_of z l);
        sum = within_sum (count_at z c l) (records_of z l);
        opens = position_open;
        inside = λ k i b h. omega (arith, before_lt (count_at z c l) k (records_of z l) b);
        file_back = which_back (count_at z c l) (records_of z l);
        pos_back = within_back (count_at z c l) (records_of z l);
        only = λ k i m j b h d g e. (
          sym (which_back (count_at z c l) (records_of z l) k i b h) ∙ ap (file_of z c l) e
              ∙ which_back (count_at z c l) (records_of z l) m j d g,
          sym (within_back (count_at z c l) (records_of z l) k i b h) ∙ ap (pos_of z c l) e
              ∙ within_back (count_at z c l) (records_of z l) m j d g,
        );
      }

  -- a position that is not refused: the chain opens, and it is one of the chain's
  pub asked_opened : (g : ℕ) → asked z c l g ≡ fine → opened z c l ≡ fine
  unfolding asked
  asked_opened g e = (or_none (opened z c l) _ e).0

  pub asked_below : (g : ℕ) → asked z c l g ≡ fine → g < commits_in z c l
  unfolding asked
  asked_below g e = leb-false (commits_in z c l) g (pass _ _ _ (or_none (opened z c l) _ e).1).0
