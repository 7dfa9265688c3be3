-- What opening a file says: the record of the file, its EDGE chunk last.
use Rattle.std.specs.Prelude.{ℕ, List, ◌∷◌, Result, Ok, Err}
use Rattle.types.specs.Said.{Said, says, refuses}
use Rattle.chunk.specs.Said.{chunk_said}
use Rattle.file.specs.declared.File.{File}
use Rattle.types.specs.declared.refusal.Refusal.{Refusal}

-- the values of a file's record
abbrev pub record_said : File → List ℕ
record_said f =
    f.bases ∷ f.width ∷ f.oidf ∷ f.oidl ∷ f.cdat ∷ f.base ∷ (chunk_said f.edge).values

unfoldable pub opening_said : Result File Refusal → Said
opening_said (Ok f) = says f.commits (record_said f)
opening_said (Err r) = refuses r
