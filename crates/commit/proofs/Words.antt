-- What a row of CDAT that is not refused gives, and what an answer for a commit says of its question.
use Rattle.std.proofs.Common.{ℕ, ◌+◌, ◌*◌, ◌≤◌, ◌<◌, List, ◌≡◌, refl, ap, sym, ◌∙◌, arith, length, Result, Ok, Err}
use Rattle.std.specs.Prelude.{⊤}
use Rattle.words.specs.First.{◌if◌else◌, fine, refuse}
use Rattle.types.specs.Refusals.{refusal}
use Rattle.types.specs.declared.refusal.Reason.{Reason}
use Rattle.types.specs.declared.refusal.Refusal.{Refusal}
use Rattle.words.proofs.Parts.{length_part}
use Rattle.words.proofs.Rows.{rows, refuse_none}
use Rattle.types.proofs.Widths.{width_bounds, small_rows}
use Rattle.fit.specs.Fits.{ask_rule, rows_part, Fitted}
use Rattle.commit.specs.Commits.{row_rule, row_of, commit_at, not_commit}
use Rattle.file.specs.declared.File.{File}
use Rattle.commit.specs.declared.Commit.{Commit}
use Rattle.fit.proofs.Fitting.{Answered, answered, run_within}

-- how a row is placed
pub ruleset placing = (rows, width_bounds, small_rows)

-- a row that is there
pub row_there : (w n i : ℕ) → row_rule w n i ≡ fine → i * (w + 16) + (w + 16) ≤ n
unfolding row_rule ◌if◌else◌
row_there w n i e = grind arith

-- a question that is refused answers its refusal, at place 0
pub commit_misfit : (l : List ℕ) (f : File) (i : ℕ) {m : Reason} → ask_rule l f f.commits i ≡ Err m → Err (refusal m 0) ≡ commit_at l f i
unfolding commit_at refuse
commit_misfit l f i e = rw e refl

-- a question that is not refused answers the row
pub commit_plain : {l : List ℕ} {f : File} {i : ℕ} → Answered l f f.commits i → Ok (row_of l f i) ≡ commit_at l f i
unfolding commit_at refuse
commit_plain k = sym (refuse_none not_commit _ k.rule)

refuse_barred : (m : Result ⊤ Reason) (d : Commit) {r : Refusal} → refuse m not_commit (Ok d) ≡ Err r → (m ≡ Err r.reason) × (r ≡ refusal r.reason 0)
unfolding refuse
refuse_barred (Ok u) d e = cc
refuse_barred (Err s) d {r} e =
    let z : refusal s 0 ≡ r = cc in
    let y : s ≡ r.reason = ap (λ (x : Refusal). x.reason) z in
    (ap Err y, sym z ∙ ap (λ (x : Reason). refusal x 0) y)

-- what an answer says of its question: x is the answer for commit i of a file
module _ (l : List ℕ) (f : File) (i : ℕ) {x : Result Commit Refusal} (e : x ≡ commit_at l f i) where
  pub commit_given : {c : Commit} → x ≡ Ok c → Answered l f f.commits i × (c ≡ row_of l f i)
  unfolding commit_at refuse
  commit_given {c} h = grind (arith, answered)

  pub commit_barred : {r : Refusal} → x ≡ Err r → (ask_rule l f f.commits i ≡ Err r.reason) × (r ≡ refusal r.reason 0)
  unfolding commit_at
  commit_barred {r} h = refuse_barred (ask_rule l f f.commits i) (row_of l f i) (sym e ∙ h)

-- row i of a record that fits: where its fields lie in the rows' part p
pub fields_room : {l p : List ℕ} {f : File} (i : ℕ) → Fitted l f → p ≡ rows_part l f → i < f.commits
    → i * (f.width + 16) + f.width + 16 ≤ length p
fields_room {l} {p} {f} i k e h =
    let n : length (rows_part l f) ≡ f.commits * (f.width + 16) = length_part f.cdat _ l k.rows in
    rw e (omega (arith, run_within i f.commits (f.width + 16) h))

-- the same of a row that is asked for and there
pub asked_room : (l : List ℕ) (f : File) (i : ℕ) {p : List ℕ} → ask_rule l f f.commits i ≡ fine → p ≡ rows_part l f
    → i * (f.width + 16) + f.width + 16 ≤ length p
asked_room l f i m e = let k = answered l f f.commits i m in fields_room i k.fits e k.below
