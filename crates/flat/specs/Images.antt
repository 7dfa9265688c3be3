-- Each answer of the library as the numbers that cross. A refusal is its number, file and place, and every other number is 0 then, but a
-- step's phase; where there is none these three are 0.
use Rattle.std.specs.Prelude.{ℕ, ◌-◌, List, replicate, Option, Some, None, Result, Ok, Err, ⊤}
use Rattle.words.specs.First.{fine}
use Rattle.name.specs.declared.Name.{Name as Named}
use Rattle.name.specs.declared.Name.TheVariants.{Other, Claims, Hashless}
use Rattle.steps.specs.declared.Phase.{Phase}
use Rattle.parents.specs.declared.Step.{Step as Stepped}
use Rattle.marks.specs.declared.Checked.{Checked}
use Rattle.traverse.specs.declared.Traversal.{Traversal as Traversed}
use Rattle.walk.specs.declared.Walk.{Walk}
use Rattle.walk.specs.declared.Step.{Step as Walked}
use Rattle.audit.specs.declared.Verification.{Verification as Verified}
use Rattle.types.specs.Refusals.{number_of}
use Rattle.types.specs.declared.refusal.Refusal.{Refusal}
use Rattle.types.specs.declared.file.Position.{Position as FilePosition}
use Rattle.types.specs.declared.graph.Position.{Position}
use Rattle.chunk.specs.declared.Entry.{Entry as Listed}
use Rattle.chunk.specs.declared.Span.{Span}
use Rattle.commit.specs.declared.Commit.{Commit as Told}
use Rattle.steps.specs.declared.Parent.{Parent}
use Rattle.graph.specs.declared.locate.Spot.{Spot as Stands}
use Rattle.traverse.specs.declared.Summary.{Summary as Passed}
use Rattle.marks.specs.declared.Checked.TheVariants.{Right, Wrong}
use Rattle.audit.specs.declared.Summary.{Summary}
use Rattle.commit.specs.Said.{edge_kind, edge_word}
use Rattle.steps.specs.Said.{phase_kind, phase_edge, phase_of}
use Rattle.audit.specs.Said.{cyclic_of, steps_of}
use Rattle.flat.specs.declared.Digest.{Digest}
use Rattle.flat.specs.declared.Name.{Name}
use Rattle.flat.specs.declared.Asked.{Asked}
use Rattle.flat.specs.declared.Part.{Part}
use Rattle.flat.specs.declared.Trailer.{Trailer}
use Rattle.flat.specs.declared.Entry.{Entry}
use Rattle.flat.specs.declared.Traversal.{Traversal}
use Rattle.flat.specs.declared.Opening.{Opening}
use Rattle.flat.specs.declared.Spot.{Spot}
use Rattle.flat.specs.declared.Found.{Found}
use Rattle.flat.specs.declared.Commit.{Commit}
use Rattle.flat.specs.declared.Step.{Step}
use Rattle.flat.specs.declared.Total.{Total}
use Rattle.flat.specs.declared.Verification.{Verification}

-- a digest, and a file's name
abbrev pub flat_digest : List ℕ → Digest
flat_digest l = record { bytes = l }

abbrev pub flat_name : Named → Name
flat_name Other = record { kind = 0; hash = replicate 20 0 }
flat_name (Claims h) = record { kind = 1; hash = h }
flat_name Hashless = record { kind = 2; hash = replicate 20 0 }

-- which refusal a question met
unfoldable pub flat_asked : Result ⊤ Refusal → Asked
flat_asked (Ok u) = record { place = 0; number = 0; file = 0 }
flat_asked (Err r) = record { place = r.place; number = number_of r.reason; file = r.file }

-- a part of so many bytes at a place, and which refusal the question for it met
abbrev pub flat_part : Result ⊤ Refusal → ℕ → ℕ → Part
flat_part (Ok u) at size = record { at = at; size = size; place = 0; number = 0; file = 0 }
flat_part (Err r) at size = record { at = 0; size = 0; place = r.place; number = number_of r.reason; file = r.file }

-- the bytes that a mark names; none at 0 where it names nothing
unfoldable pub flat_mark : Result (Option Span) Refusal → Part
flat_mark (Ok (Some p)) = flat_part fine p.start (p.end - p.start)
flat_mark (Ok None) = flat_part fine 0 0
flat_mark (Err r) = flat_part (Err r) 0 0

-- the trailer, and 1 where it is right
unfoldable pub flat_trailer : Result Checked Refusal → Trailer
flat_trailer (Ok (Right p)) = record { at = p.start; size = p.end - p.start; place = 0; number = 0; file = 0; right = 1; spare = 0 }
flat_trailer (Ok (Wrong p)) = record { at = p.start; size = p.end - p.start; place = 0; number = 0; file = 0; right = 0; spare = 0 }
flat_trailer (Err r) = record { at = 0; size = 0; place = r.place; number = number_of r.reason; file = r.file; right = 0; spare = 0 }

-- an entry of the index; all is 0 past the last
unfoldable pub flat_entry : Result (Option Listed) Refusal → Entry
flat_entry (Ok (Some e)) =
    record { at = e.span.start; size = e.span.end - e.span.start; place = 0; number = 0; file = 0; id = e.id; spare = 0 }
flat_entry (Ok None) = record { at = 0; size = 0; place = 0; number = 0; file = 0; id = 0; spare = 0 }
flat_entry (Err r) = record { at = 0; size = 0; place = r.place; number = number_of r.reason; file = r.file; id = 0; spare = 0 }

-- a chain's commits
unfoldable pub flat_opening : Result ℕ Refusal → Opening
flat_opening (Ok n) = record { place = 0; number = 0; file = 0; commits = n; spare = 0 }
flat_opening (Err r) = record { place = r.place; number = number_of r.reason; file = r.file; commits = 0; spare = 0 }

-- where a position stands
unfoldable pub flat_located : Result Stands Refusal → Spot
flat_located (Ok s) = record { start = s.start; size = s.size; place = 0; number = 0; file = 0; index = s.file; pos = s.pos.0 }
flat_located (Err r) = record { start = 0; size = 0; place = r.place; number = number_of r.reason; file = r.file; index = 0; pos = 0 }

-- a position in a chain, and in a file
unfoldable pub flat_found : Result (Option Position) Refusal → Found
flat_found (Ok (Some p)) = record { place = 0; number = 0; file = 0; found = 1; pos = p.0 }
flat_found (Ok None) = record { place = 0; number = 0; file = 0; found = 0; pos = 0 }
flat_found (Err r) = record { place = r.place; number = number_of r.reason; file = r.file; found = 0; pos = 0 }

unfoldable pub flat_found_in : Result (Option FilePosition) Refusal → Found
flat_found_in (Ok (Some p)) = record { place = 0; number = 0; file = 0; found = 1; pos = p.0 }
flat_found_in (Ok None) = record { place = 0; number = 0; file = 0; found = 0; pos = 0 }
flat_found_in (Err r) = record { place = r.place; number = number_of r.reason; file = r.file; found = 0; pos = 0 }

-- a commit; a parent word is its kind, and the position or the EDGE index
unfoldable pub flat_commit : Result Told Refusal → Commit
flat_commit (Ok c) =
    record {
      time = c.time;
      place = 0;
      number = 0;
      file = 0;
      generation = c.generation;
      first_kind = edge_kind c.first;
      first = edge_word c.first;
      second_kind = edge_kind c.second;
      second = edge_word c.second;
      spare = 0;
    }
flat_commit (Err r) =
    record {
      time = 0;
      place = r.place;
      number = number_of r.reason;
      file = r.file;
      generation = 0;
      first_kind = 0;
      first = 0;
      second_kind = 0;
      second = 0;
      spare = 0;
    }

-- a step's answer and the phase after it
unfoldable pub flat_step : Result (Option Parent) Refusal → Phase → Step
flat_step (Ok (Some p)) s =
    record { edge = phase_edge s; place = 0; number = 0; file = 0; kind = 0; parent = p.position.0; phase = phase_kind s; spare = 0 }
flat_step (Err r) s =
    record { edge = phase_edge s; place = r.place; number = number_of r.reason; file = r.file; kind = 1; parent = 0; phase = phase_kind s; spare = 0 }
flat_step (Ok None) s = record { edge = phase_edge s; place = 0; number = 0; file = 0; kind = 2; parent = 0; phase = phase_kind s; spare = 0 }

abbrev pub flat_stepped : Stepped → Step
flat_stepped s = flat_step s.answer s.next

-- the walk over the commit at a position, and its step
abbrev pub walk_of : ℕ → ℕ → ℕ → Walk
walk_of pos phase edge = record { commit = record { 0 = pos }; phase = phase_of phase edge }

abbrev pub flat_walked : Walked → Step
flat_walked s = flat_step s.answer s.next.phase

-- how many parents
unfoldable pub flat_total : Result ℕ Refusal → Total
flat_total (Ok n) = record { count = n; place = 0; number = 0; file = 0 }
flat_total (Err r) = record { count = 0; place = r.place; number = number_of r.reason; file = r.file }

-- one file verified
unfoldable pub flat_judged : Result Passed Refusal → List ℕ → Traversal
flat_judged (Ok m) counts =
    record {
      most = m.most;
      place = 0;
      number = 0;
      file = 0;
      commits = m.commits;
      highest = m.highest;
      lowest = m.lowest;
      counts = counts;
      spare = 0;
    }
flat_judged (Err r) counts =
    record { most = 0; place = r.place; number = number_of r.reason; file = r.file; commits = 0; highest = 0; lowest = 0; counts = counts; spare = 0 }

abbrev pub flat_traversal : Traversed → Traversal
flat_traversal t = flat_judged t.verdict t.counts

-- a chain verified
unfoldable pub flat_verdict : Result Summary Refusal → List ℕ → Verification
flat_verdict (Ok s) counts =
    record {
      place = 0;
      number = 0;
      file = 0;
      commits = s.commits;
      cyclic = cyclic_of s.length;
      length = steps_of s.length;
      counts = counts;
      spare = 0;
    }
flat_verdict (Err r) counts =
    record { place = r.place; number = number_of r.reason; file = r.file; commits = 0; cyclic = 0; length = 0; counts = counts; spare = 0 }

abbrev pub flat_verification : Verified → Verification
flat_verification v = flat_verdict v.verdict v.counts
