-- One-file traversal: document 01, "One-file traversal". p is the file's bytes and f its record; c is the chain's bytes, l the list's, z the size of a record.
use Rattle.std.specs.Prelude.{ℕ, ◌+◌, ◌*◌, List, Bool, not, length, replicate, ltb, eqb, Result, Ok, Err, ⊤, is_err}
use Rattle.types.specs.Refusals.{refusal, number_in}
use Rattle.types.specs.declared.refusal.Reason.{Reason}
use Rattle.types.specs.declared.refusal.Refusal.{Refusal}
use Rattle.words.specs.First.{◌if◌else◌, ◌or◌, fine, first, refuse}
use Rattle.ancestry.specs.Graph.{highest_below}
use Rattle.ancestry.specs.Counts.{key_of, counts_of, lowest_below}
use Rattle.list.specs.List.{list_rule, list_place}
use Rattle.file.specs.Table.{opening}
use Rattle.file.specs.declared.File.{File}
use Rattle.commit.specs.Commits.{commit_of}
use Rattle.steps.specs.Walks.{Walked, positions, end_of, first_walk}
use Rattle.rules.specs.Rules.{sum_rule, name_rule, entry_rule}
use Rattle.tries.specs.Tries.{Parts, parts_of}
use Rattle.traverse.specs.declared.Summary.{Summary}
use Rattle.traverse.specs.declared.commits.Totals.{Totals}
use Rattle.traverse.specs.declared.Traversal.{Traversal}

-- ── commit i ──

module _ (q : Parts) where
  -- its generation, its walk, how many parents the walk answers
  abbrev pub gen_in : ℕ → ℕ
  gen_in i = (commit_of q.rows (i * (q.width + 16) + q.width)).generation

  abbrev pub walk_in : ℕ → Walked
  walk_in i =
      first_walk (commit_of q.rows (i * (q.width + 16) + q.width)).first (commit_of q.rows (i * (q.width + 16) + q.width)).second
      q.edge

  abbrev pub parents_in : ℕ → ℕ
  parents_in i = length (positions (walk_in i))

  -- 64 to 67, then the walk
  unfoldable pub commit_rule : ℕ → Result ⊤ Reason
  commit_rule i = entry_rule q.width q.fan q.ids q.rows i or end_of (walk_in i)

  unfoldable pub bad : ℕ → Bool
  bad i = is_err (commit_rule i)

  -- the first of n commits that is refused, or n
  unfoldable pub bad_commit : ℕ → ℕ
  bad_commit n = first bad 0 n

  unfoldable pub commit_rules : ℕ → Result ⊤ Reason
  commit_rules n = commit_rule (bad_commit n) if ltb (bad_commit n) n else fine

  -- what n commits add up to: 66 counts, and the rest
  unfoldable pub key_in : ℕ → ℕ
  key_in i = key_of (parents_in i)

  unfoldable pub summary_of : ℕ → Summary
  summary_of n = record { commits = n; highest = highest_below gen_in n; lowest = lowest_below gen_in n; most = highest_below parents_in n }

  abbrev pub totals_of : ℕ → Totals
  totals_of n = record { summary = summary_of n; counts = counts_of key_in n }

-- ── the file ──

abbrev pub refused_by : Refusal → Traversal
refused_by r = record { verdict = Err r; counts = replicate 66 0 }

abbrev pub not_passed : ℕ → Reason → Traversal
not_passed place e = refused_by (refusal e place)

-- 62, 63, then each commit
unfoldable pub traverse_by : ℕ → List ℕ → List ℕ → Result File Refusal → Traversal
traverse_by z c l (Err r) = refused_by r
traverse_by z c l (Ok f) =
    refuse (sum_rule f.width c) (not_passed 0)
    (refuse (name_rule f.width z l 0 c) (not_passed 0)
    (refuse (commit_rules (parts_of c f) f.commits) (not_passed (bad_commit (parts_of c f) f.commits))
    (record { verdict = Ok (summary_of (parts_of c f) f.commits); counts = counts_of (key_in (parts_of c f)) f.commits })))

-- the list: 30 where it has not one record
unfoldable pub one_rule : ℕ → ℕ → List ℕ → Result ⊤ Reason
one_rule z n l =
    Err Reason.TooLarge if ltb 1073741824 n else
    Err Reason.ListSize if not (eqb (length l) z) else
    list_rule z n l

unfoldable pub one_place : ℕ → ℕ → List ℕ → ℕ
one_place z n l = list_place z n l if eqb (number_in (one_rule z n l)) 31 else 0

unfoldable pub traversal : ℕ → List ℕ → List ℕ → Traversal
traversal z c l = refuse (one_rule z (length c) l) (not_passed (one_place z (length c) l)) (traverse_by z c l (opening c))
