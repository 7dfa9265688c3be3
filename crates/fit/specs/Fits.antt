-- Whether a file's record fits the bytes it is used with. A position outside, or a record that does not fit, is refusal 40.
use Rattle.std.specs.Prelude.{ℕ, ◌+◌, ◌*◌, ◌≤◌, ◌<◌, List, not, length, take, drop, leb, Result, Err, ⊤, is_ok, Option, option_map, ◌-◌}
use Rattle.std.specs.Borrow.{Bor}
use Rattle.words.specs.First.{◌if◌else◌, ◌or◌, fine}
use Rattle.types.specs.declared.refusal.Reason.{Reason}
use Rattle.words.specs.Part.{fits, PartOf}
use Rattle.types.specs.Width.{known}
use Rattle.chunk.specs.Index.{start_of, size_of}
use Rattle.chunk.specs.declared.Span.{Span}
use Rattle.file.specs.declared.File.{File}

unfoldable pub fit_rule : List ℕ → File → Result ⊤ Reason
fit_rule l f =
    Err Reason.Position if not (known f.width) else
    Err Reason.Position if not (fits (length l) f.oidf 256 4) else
    Err Reason.Position if not (fits (length l) f.oidl f.commits f.width) else
    Err Reason.Position if not (fits (length l) f.cdat f.commits (f.width + 16)) else
    Err Reason.Position if not (fits (length l) (start_of f.edge) (size_of f.edge) 1) else
    Err Reason.Position if not (fits (length l) f.base f.bases f.width) else
    fine

-- a question on record i of n
unfoldable pub ask_rule : List ℕ → File → ℕ → ℕ → Result ⊤ Reason
ask_rule l f n i = fit_rule l f or (Err Reason.Position if leb n i else fine)

-- r is the part of n bytes at a place of s, or the empty part at its start where m is a refusal
abbrev pub AskedPart : {E : Type 0} → Bor (List ℕ) → Result ⊤ E → ℕ → ℕ → Bor (List ℕ) → Type 0
AskedPart s m at n r = PartOf s (at if is_ok m else 0) (n if is_ok m else 0) r

-- what a record that fits gives
pub record Fitted (l : List ℕ) (f : File) : Type 0 where
  pub wide : 0 < f.width
  pub narrow : f.width < 1000
  pub fan : f.oidf + 1024 ≤ length l
  pub ids : f.oidl + f.commits * f.width ≤ length l
  pub rows : f.cdat + f.commits * (f.width + 16) ≤ length l
  pub edge : start_of f.edge + size_of f.edge ≤ length l
  pub base : f.base + f.bases * f.width ≤ length l

-- the chunks' own bytes, by a record
abbrev pub fan_part : List ℕ → File → List ℕ
fan_part l f = take 1024 (drop f.oidf l)

abbrev pub ids_part : List ℕ → File → List ℕ
ids_part l f = take (f.commits * f.width) (drop f.oidl l)

abbrev pub rows_part : List ℕ → File → List ℕ
rows_part l f = take (f.commits * (f.width + 16)) (drop f.cdat l)

abbrev pub edge_part : List ℕ → File → List ℕ
edge_part l f = take (size_of f.edge) (drop (start_of f.edge) l)

-- the EDGE chunk's own bytes, where there is one
abbrev pub edge_chunk : List ℕ → File → Option (List ℕ)
edge_chunk l f = option_map (λ (p : Span). take (p.end - p.start) (drop p.start l)) f.edge

abbrev pub base_part : List ℕ → File → List ℕ
base_part l f = take (f.bases * f.width) (drop f.base l)
