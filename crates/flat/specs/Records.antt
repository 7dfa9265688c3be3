-- What an opened file says of itself, as numbers, and back: a record that was made by opening comes back as the same file.
use Rattle.std.specs.Prelude.{ℕ, ◌+◌, ◌-◌, ◌%◌, ◌^◌, List, ◌≡◌, eqb, min, Option, Some, None, Result, Ok, Err}
use Rattle.words.specs.First.{◌if◌else◌}
use Rattle.chunk.specs.Index.{start_of, size_of}
use Rattle.chunk.specs.declared.Span.{Span}
use Rattle.types.specs.Refusals.{number_of}
use Rattle.types.specs.declared.refusal.Refusal.{Refusal}
use Rattle.file.specs.Table.{opening}
use Rattle.file.specs.declared.File.{File}
use Rattle.flat.specs.declared.Record.{Record}
use Rattle.flat.specs.declared.Opened.{Opened}

-- 1 for a chunk that is there
abbrev pub present_in : Option Span → ℕ
present_in (Some p) = 1
present_in None = 0

unfoldable pub record_of : File → Record
record_of f =
    record {
      width = f.width;
      oidf = f.oidf;
      oidl = f.oidl;
      cdat = f.cdat;
      edge = start_of f.edge;
      edge_size = size_of f.edge;
      base = f.base;
      commits = f.commits;
      bases = f.bases;
      has_edge = present_in f.edge;
      spare = 0;
    }

abbrev pub no_record : Record
no_record =
    record {
      width = 0;
      oidf = 0;
      oidl = 0;
      cdat = 0;
      edge = 0;
      edge_size = 0;
      base = 0;
      commits = 0;
      bases = 0;
      has_edge = 0;
      spare = 0;
    }

unfoldable pub flat_opened : Result File Refusal → Opened
flat_opened (Ok f) = record { «record» = record_of f; place = 0; number = 0; file = 0 }
flat_opened (Err r) = record { «record» = no_record; place = r.place; number = number_of r.reason; file = r.file }

-- and back. A forged record has its bases modulo 256, any number but 0 says that there is an EDGE chunk, and one that would end past the
-- largest number of 64 bits ends there: no bytes are as long, so it fits none.
unfoldable pub end_of : ℕ → ℕ → ℕ
end_of start size = min (start + size) (2 ^ 64 - 1)

unfoldable pub edge_of : ℕ → ℕ → ℕ → Option Span
edge_of there start size = None if eqb there 0 else Some (record { start = start; end = end_of start size })

unfoldable pub file_of : Record → File
file_of r =
    record {
      commits = r.commits;
      bases = r.bases % 256;
      width = r.width;
      oidf = r.oidf;
      oidl = r.oidl;
      cdat = r.cdat;
      edge = edge_of r.has_edge r.edge r.edge_size;
      base = r.base;
    }

-- the record that opening the bytes l answers comes back as the file that was opened
abbrev pub Returns : List ℕ → Opened → Type 0
Returns l r = (f : File) → opening l ≡ Ok f → file_of r.«record» ≡ f
