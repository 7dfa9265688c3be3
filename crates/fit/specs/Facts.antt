-- What an opened file gives to whoever reads it.
use Rattle.std.specs.Prelude.{ℕ, ◌+◌, ◌*◌, ◌≤◌, ◌<◌, List, true, ◌≡◌, length, get_or}
use Rattle.words.specs.Big.{be}
use Rattle.types.specs.Width.{known}
use Rattle.fit.specs.Fits.{fan_part, Fitted}
use Rattle.file.specs.declared.File.{File}

-- it holds with 20 tried or not
pub record Opened (l : List ℕ) (f : File) : Type 0 where
  pub most : length l ≤ 1073741824
  pub least : 1100 ≤ length l
  pub fitted : Fitted l f
  pub known : known f.width ≡ true
  pub bases : f.bases ≡ get_or l 7 0
  pub count : f.commits ≡ be 4 (fan_part l f) 1020

-- with 20 tried, the fan rises
pub record Rises (l : List ℕ) (f : File) : Type 0 where
  pub rises : (i : ℕ) → i < 255 → be 4 (fan_part l f) (4 * i) ≤ be 4 (fan_part l f) (4 * (i + 1))
