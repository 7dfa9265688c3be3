-- What each answer says tells its cases and their values apart: a way back for each image.
use Rattle.std.proofs.Common.{ℕ, List, [], ◌∷◌, ◌≡◌, ap, get_or, drop, Result, Ok, Err}
use Rattle.std.specs.Prelude.{Option}
use Rattle.types.specs.Said.{Said}
use Rattle.types.specs.declared.refusal.Refusal.{Refusal}
use Rattle.types.proofs.Saying.{Back, refusal_of, refusal_back}
use Rattle.file.specs.Said.{record_said, opening_said}
use Rattle.file.specs.declared.File.{File}
use Rattle.chunk.specs.declared.Span.{Span}
use Rattle.chunk.proofs.Saying.{chunk_from, chunk_again}

-- the record again, from its number of commits and its other values
abbrev pub record_from : ℕ → List ℕ → File
record_from n vs =
    record {
      commits = n;
      bases = get_or vs 0 0;
      width = get_or vs 1 0;
      oidf = get_or vs 2 0;
      oidl = get_or vs 3 0;
      cdat = get_or vs 4 0;
      base = get_or vs 5 0;
      edge = chunk_from (drop 6 vs);
    }

pub record_again : (f : File) → record_from f.commits (record_said f) ≡ f
record_again f =
    ap (λ (c : Option Span).
    record {
      commits = f.commits;
      bases = f.bases;
      width = f.width;
      oidf = f.oidf;
      oidl = f.oidl;
      cdat = f.cdat;
      base = f.base;
      edge = c;
    }) (chunk_again f.edge)

abbrev opening_from : Refusal → List ℕ → Result File Refusal
opening_from r [] = Err r
opening_from r (n ∷ vs) = Ok (record_from n vs)

abbrev opening_of_lem : Said → Result File Refusal
opening_of_lem s = opening_from (refusal_of s) s.values

opening_again : (a : Result File Refusal) → opening_of_lem (opening_said a) ≡ a
unfolding opening_said
opening_again (Ok f) = ap Ok (record_again f)
opening_again (Err r) = ap Err (refusal_back r)

pub opening_back : Back opening_said
opening_back = record { of = opening_of_lem; back = opening_again }
