-- Chain verification: document 01, "Chain verification", refusals 60 to 69, in the paper's order.
use Rattle.std.specs.Prelude.{ℕ, zero, suc, ◌+◌, List, Bool, not, replicate, ltb, leb, eqb, Result, Ok, Err, ⊤, is_err}
use Rattle.std.proofs.Math.Option.{Option, none, some}
use Rattle.types.specs.Refusals.{number_in}
use Rattle.types.specs.declared.refusal.Reason.{Reason}
use Rattle.types.specs.declared.refusal.Refusal.{Refusal}
use Rattle.words.specs.First.{◌if◌else◌, ◌or◌, fine, first, refuse}
use Rattle.ancestry.specs.Graph.{right_gen, highest_below, length_of}
use Rattle.ancestry.specs.Counts.{counts_of}
use Rattle.list.specs.List.{records_of}
use Rattle.steps.specs.Walks.{Walked, ends, parent, positions}
use Rattle.rules.specs.Rules.{sum_rule, name_rule}
use Rattle.graph.specs.Chain.{width_in, part_at, open_at, count_at, first_at, commits_in, opened}
use Rattle.walk.specs.Lists.{walk_in}
use Rattle.audit.specs.Files.{bases_in, base_in, gen_in, entry_at, trailer_at, gen_at, key_at}
use Rattle.audit.specs.declared.Length.{Length}
use Rattle.audit.specs.declared.Length.TheVariants.{Steps, Cyclic}
use Rattle.audit.specs.declared.Verification.{Verification}

-- the parents in order: 68 as met, and how the walk ends
unfoldable pub walk_rule : ℕ → Walked → Result ⊤ Reason
walk_rule limit (ends r) = r
walk_rule limit (parent p w) = Err Reason.ParentOut if leb limit p else walk_rule limit w

-- the length that a highest generation gives
unfoldable pub length_by : Option ℕ → Length
length_by (some n) = Steps n
length_by none = Cyclic

module _ (z : ℕ) (c l : List ℕ) where
  -- ── file i ──

  -- base id j is not the trailer of file j; the first such base
  unfoldable pub alien : ℕ → ℕ → Bool
  alien i j = not (eqb (base_in (part_at z c l i) (open_at z c l i) j) (trailer_at z c l j))

  unfoldable pub bad_base : ℕ → ℕ
  bad_base i = first (alien i) 0 i

  -- 60: as many bases as files before it; 61: they are those files; 62 and 63
  unfoldable pub base_rule : ℕ → Result ⊤ Reason
  base_rule i =
      Err Reason.Bases if not (eqb (bases_in (open_at z c l i)) i) else
      Err Reason.BaseId if ltb (bad_base i) i else
      fine

  unfoldable pub head_rule : ℕ → Result ⊤ Reason
  head_rule i =
      base_rule i or
      sum_rule (width_in (open_at z c l i)) (part_at z c l i) or
      name_rule (width_in (open_at z c l i)) z l i (part_at z c l i)

  -- the place of 61 is the base
  unfoldable pub head_place : ℕ → ℕ
  head_place i = bad_base i if eqb (number_in (head_rule i)) 61 else 0

  -- ── commit k of file i ──

  -- 69: its generation is right
  unfoldable pub gen_rule : ℕ → ℕ → Result ⊤ Reason
  gen_rule i k =
      Err Reason.Generation if not (eqb (gen_in (part_at z c l i) (open_at z c l i) k)
      (right_gen (gen_at z c l) (positions (walk_in (part_at z c l i) (open_at z c l i) k)))) else
      fine

  -- 64 to 67, then its parents as met, each below the commits up to this file's end, then 69
  unfoldable pub commit_rule : ℕ → ℕ → Result ⊤ Reason
  commit_rule i k =
      entry_at (part_at z c l i) (open_at z c l i) k or
      walk_rule (first_at z c l (i + 1)) (walk_in (part_at z c l i) (open_at z c l i) k) or
      gen_rule i k

  unfoldable pub bad : ℕ → ℕ → Bool
  bad i k = is_err (commit_rule i k)

  -- the first commit of a file that is refused, or as many as it has
  unfoldable pub bad_commit : ℕ → ℕ
  bad_commit i = first (bad i) 0 (count_at z c l i)

  unfoldable pub commit_rules : ℕ → Result ⊤ Reason
  commit_rules i = commit_rule i (bad_commit i) if ltb (bad_commit i) (count_at z c l i) else fine

-- ── the answer ──

abbrev pub refused_by : Refusal → Verification
refused_by r = record { verdict = Err r; counts = replicate 66 0 }

abbrev pub not_sound : ℕ → ℕ → Reason → Verification
not_sound i place e = refused_by (record { reason = e; file = i; place = place })

-- n commits with the highest generation h and these counts
abbrev pub accepted_by : ℕ → ℕ → List ℕ → Verification
accepted_by n h counts = record { verdict = Ok (record { commits = n; length = length_by (length_of h) }); counts = counts }

module _ (z : ℕ) (c l : List ℕ) where
  unfoldable pub accepted : Verification
  accepted = accepted_by (commits_in z c l) (highest_below (gen_at z c l) (commits_in z c l)) (counts_of (key_at z c l) (commits_in z c l))

  -- file by file, from file i, where `left` are to come
  unfoldable pub verify_from : ℕ → ℕ → Verification
  verify_from zero i = accepted
  verify_from (suc left) i =
      refuse (head_rule z c l i) (not_sound i (head_place z c l i))
      (refuse (commit_rules z c l i) (not_sound i (bad_commit z c l i))
      (verify_from left (i + 1)))

  -- the opening, then each file
  unfoldable pub verification : Verification
  verification = refuse (opened z c l) refused_by (verify_from (records_of z l) 0)
