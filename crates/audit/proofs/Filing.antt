-- Verification file by file: what stands at file i, and the ways on from there.
use Rattle.std.proofs.Common.{ℕ, suc, ◌+◌, ◌-◌, ◌<◌, List, ◌≡◌, refl, sym, ap, ◌∙◌, arith, replicate, Result, Ok, Err}
use native.Mathlib.Nat.{sub-zero}
use Rattle.std.specs.Prelude.{⊤}
use Rattle.words.specs.First.{◌or◌, fine, refuse}
use Rattle.types.specs.Refusals.{refused_at}
use Rattle.types.specs.declared.refusal.Reason.{Reason}
use Rattle.types.specs.declared.refusal.Refusal.{Refusal}
use Rattle.words.specs.Sums.{before}
use Rattle.words.proofs.Adds.{before_next}
use Rattle.ancestry.specs.Graph.{highest_below}
use Rattle.ancestry.proofs.Counts.{counts_none}
use Rattle.list.specs.List.{records_of, length_at}
use Rattle.graph.specs.Chain.{placed, open_at, opened, commits_in}
use Rattle.audit.specs.Files.{key_at}
use Rattle.audit.specs.Rules.{head_rule, head_place, bad_commit, commit_rules, refused_by, accepted_by, accepted, verify_from, verification, not_sound}
use Rattle.audit.specs.Scans.{start_in, Tabled, Before, JudgedAs, ScannedAs, file_rule, FileAs, total_by, sound_by}
use Rattle.audit.specs.declared.Verification.{Verification}
use Rattle.audit.specs.declared.commits.Tally.{Tally}
use Rattle.audit.specs.declared.tables.Row.{Row}

-- two stages of file i whose refusals have places are one stage
stages : (i p q : ℕ) (a b : Result ⊤ Reason) (rest : Verification)
    → refuse a (not_sound i p) (refuse b (not_sound i q) rest)
    ≡ refuse (refused_at a p or refused_at b q) (λ (r : Refusal). refused_by (placed i r)) rest
unfolding refuse ◌or◌
stages i p q (Ok u) (Ok v) rest = refl
stages i p q (Ok u) (Err e) rest = refl
stages i p q (Err e) b rest = refl

module _ (z : ℕ) (c l : List ℕ) where
  -- the table says how long each file is
  pub table_length : {t : List Row} → Tabled z c l t → (k : ℕ) → k < records_of z l → start_in t (k + 1) ≡ start_in t k + length_at z l k
  table_length p k h =
      omega (arith, p.start k (omega arith), p.start (k + 1) (omega arith), before_next (length_at z l) k)

  -- and every file is open
  pub no_refusal : {t : List Row} → Tabled z c l t → (k : ℕ) → k < records_of z l → {q : Refusal} → open_at z c l k ≡ Err q → ⊥
  no_refusal p k h {q} e = let o = p.opens k h in let w : Ok o.0 ≡ Err q = sym o.1 ∙ e in cc

  -- the ways through file i: r is what its head said, and s its scan
  module _ (i : ℕ) {r : Result ⊤ Refusal} (j : JudgedAs z c l i r) where
    pub file_headed : {e : Refusal} → r ≡ Err e → file_rule z c l i ≡ Err e
    unfolding file_rule ◌or◌
    file_headed h = rw (sym j ∙ h)

    pub file_scanned : r ≡ fine → (s : Result Tally Refusal) → ScannedAs z c l i s → FileAs z c l i s
    unfolding file_rule ◌or◌
    file_scanned h (Ok t) a = (rw (sym j ∙ h, a.0), a.1)
    file_scanned h (Err e) a = rw (sym j ∙ h) a

  -- verification is at file i of n: the rest answers as the whole, and the tally is that of the files before
  pub record Filing (n i : ℕ) (t : Tally) : Type 0 where
    pub rest : verify_from z c l n 0 ≡ verify_from z c l (n - i) i
    pub before : Before z c l i t

  -- before the first file there is nothing
  pub filing_begins : (n : ℕ) → Filing n 0 (record { counts = replicate 66 0; highest = 0 })
  unfolding before highest_below
  filing_begins n = record { rest = rw sub-zero; before = record { counts = sym (counts_none (key_at z c l)); highest = refl } }

  module _ {n i : ℕ} {t : Tally} (p : Filing n i t) where
    -- file i, then the others
    ahead : i < n → verify_from z c l n 0
        ≡ refuse (file_rule z c l i) (λ (r : Refusal). refused_by (placed i r)) (verify_from z c l (n - (i + 1)) (i + 1))
    unfolding verify_from file_rule
    ahead g =
        let y : n - i ≡ suc (n - (i + 1)) = omega arith in
        p.rest ∙ ap (λ (x : ℕ). verify_from z c l x i) y
        ∙ stages i (head_place z c l i) (bad_commit z c l i) (head_rule z c l i) (commit_rules z c l i) _

    pub filing_stops : i < n → {e : Refusal} → file_rule z c l i ≡ Err e → total_by z c l (Err (placed i e)) ≡ verify_from z c l n 0
    unfolding refuse total_by
    filing_stops g h = sym (ahead g ∙ rw h)

    pub filing_next : i < n → {u : Tally} → FileAs z c l i (Ok u) → Filing n (i + 1) u
    unfolding refuse
    filing_next g a = record { rest = ahead g ∙ rw a.0; before = a.1 }

    pub filing_ends : n ≡ records_of z l → i ≡ n → total_by z c l (Ok t) ≡ verify_from z c l n 0
    unfolding verify_from accepted total_by
    filing_ends e g =
        let y : n - i ≡ 0 = omega arith in
        let d : i ≡ records_of z l = g ∙ e in
        let b : Before z c l (records_of z l) t = rw (← d) p.before in
        sym (p.rest ∙ ap (λ (x : ℕ). verify_from z c l x i) y ∙ rw (b.counts, b.highest))

  -- the ways through a verification: opening the chain is refused
  pub sound_refused : {e : Refusal} → opened z c l ≡ Err e → sound_by (Err e) ≡ verification z c l
  unfolding verification refuse sound_by
  sound_refused h = rw h

  -- it is not: what its files came to
  module _ (h : opened z c l ≡ fine) where
    pub sound_stops : (e : Refusal) → total_by z c l (Err e) ≡ verify_from z c l (records_of z l) 0 → sound_by (Err e) ≡ verification z c l
    unfolding verification refuse sound_by total_by
    sound_stops e d = rw h d

    pub sound_ends : (t : Tally) → total_by z c l (Ok t) ≡ verify_from z c l (records_of z l) 0 → {m : ℕ} → m ≡ commits_in z c l
        → sound_by (Ok (accepted_by m t.highest t.counts)) ≡ verification z c l
    unfolding verification refuse sound_by total_by
    sound_ends t d e = rw (h, e) d
