-- The ways through a lookup.
use Rattle.std.proofs.Common.{ℕ, ◌≤◌, ◌<◌, List, ◌≡◌, arith, length, get_or, Err}
use Rattle.types.specs.Refusals.{refusal}
use Rattle.types.specs.declared.refusal.Reason.{Reason}
use Rattle.words.specs.Big.{number}
use Rattle.words.specs.First.{◌if◌else◌, fine, refuse}
use Rattle.fit.specs.Fits.{fit_rule, fan_part, ids_part}
use Rattle.access.specs.Lookup.{found, halving, key_of, upper, lower, lookup_of}
use Rattle.file.specs.declared.File.{File}
use Rattle.access.proofs.Halving.{halving_sound}

module _ (l : List ℕ) (f : File) (x : List ℕ) where
  pub look_misfit : {e : Reason} → fit_rule l f ≡ Err e → Err (refusal e 0) ≡ lookup_of l f x
  unfolding lookup_of refuse
  look_misfit h = grind arith

  module _ (z : fit_rule l f ≡ fine) where
    pub look_width : (length x ≡ f.width → ⊥) → Err (refusal Reason.IdWidth 0) ≡ lookup_of l f x
    unfolding lookup_of refuse ◌if◌else◌
    look_width h = grind arith

    module _ (w : length x ≡ f.width) where
      pub look_out : f.commits < upper (fan_part l f) (get_or x 0 0) → Err (refusal Reason.Position 0) ≡ lookup_of l f x
      unfolding lookup_of refuse ◌if◌else◌
      look_out h = grind arith

      pub look_search : upper (fan_part l f) (get_or x 0 0) ≤ f.commits
          → halving (key_of (length x) (ids_part l f)) (number x) (lower (fan_part l f) (get_or x 0 0)) (upper (fan_part l f) (get_or x 0 0))
          ≡ lookup_of l f x
      unfolding lookup_of refuse ◌if◌else◌
      look_search h = grind arith

-- what is found lies below N, on any bytes
pub found_below : (l : List ℕ) (f : File) (x : List ℕ) (i : ℕ) → lookup_of l f x ≡ found i → i < f.commits
unfolding lookup_of refuse ◌if◌else◌
found_below l f x i e = grind (arith, halving_sound)

pub ruleset looks = (look_misfit, look_width, look_out, look_search)
