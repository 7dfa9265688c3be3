-- What the private functions of a traversal hand each other. No rule of the paper is here.
use Rattle.std.specs.Prelude.{ℕ, zero, suc, min, List, Option, Result, Ok, Err}
use Rattle.types.specs.Refusals.{refused_at}
use Rattle.types.specs.declared.refusal.Reason.{Reason}
use Rattle.types.specs.declared.refusal.Refusal.{Refusal}
use Rattle.words.specs.First.{refuse}
use Rattle.commit.specs.declared.Commit.{Commit}
use Rattle.steps.specs.Walks.{count_of}
use Rattle.tries.specs.Tries.{Parts}
use Rattle.tries.specs.declared.Tried.{Tried}
use Rattle.traverse.specs.Traversal.{bad_commit, commit_rules, totals_of, refused_by}
use Rattle.traverse.specs.declared.commits.Totals.{Totals}
use Rattle.traverse.specs.declared.Traversal.{Traversal}

-- a commit whose row was answered: its walk
unfoldable pub tried_by : ℕ → Result ℕ Reason → Result Tried Reason
tried_by g (Ok k) = Ok (record { parents = k; generation = g })
tried_by g (Err e) = Err e

unfoldable pub tried_of : Result Commit Refusal → Option (List ℕ) → Result Tried Reason
tried_of (Err r) edge = Err r.reason
tried_of (Ok x) edge = tried_by x.generation (count_of x.first x.second edge)

-- the lower of two generations; that of commit 0 stands alone
unfoldable pub lower_of : ℕ → ℕ → ℕ → ℕ
lower_of zero old g = g
lower_of (suc c) old g = min old g

-- n commits were tried
unfoldable pub scanned_of : Parts → ℕ → Result Totals Refusal
scanned_of q n = refuse (refused_at (commit_rules q n) (bad_commit q n)) Err (Ok (totals_of q n))

-- what a file came to, as a traversal
unfoldable pub traversed : Result Totals Refusal → Traversal
traversed (Ok t) = record { verdict = Ok t.summary; counts = t.counts }
traversed (Err r) = refused_by r
