-- The ways through each mark.
use Rattle.std.proofs.Common.{ℕ, ◌+◌, ◌*◌, ◌≤◌, List, Bool, true, false, ◌≡◌, refl, sym, ap, subst, ◌∙◌, arith, length, is_some, Result, Ok, Err}
use Rattle.std.specs.Prelude.{Option, Some, None}
use Rattle.types.specs.Width.{known}
use Rattle.types.specs.declared.refusal.Refusal.{Refusal}
use Rattle.words.specs.Big.{Bytes}
use Rattle.words.proofs.Parts.{length_part}
use Rattle.words.proofs.Rows.{rows}
use Rattle.chunk.specs.declared.Span.{Span}
use Rattle.words.specs.First.{fine}
use Rattle.fit.specs.Fits.{ask_rule, fan_part, ids_part, rows_part}
use Rattle.file.specs.declared.File.{File}
use Rattle.fit.proofs.Fitting.{Answered, answered, run_within}
use Rattle.parents.specs.Walks.{step_of}
use Rattle.steps.specs.declared.Parent.{Parent}
use Rattle.steps.specs.declared.Phase.{Phase}
use Rattle.rules.specs.Rules.{sum_rule, sum_in, entry_rule, entry_in}
use Rattle.rules.proofs.Trailers.{sum_plain}
use Rattle.rules.proofs.Entries.{entry_plain}
use Rattle.parents.specs.declared.Step.{Step}
use Rattle.marks.specs.Marks.{Mark, Meets, run, place_of, mark_by, word_of, Reads, Read}
use Rattle.marks.proofs.Reading.{field_fits, field_room, step_word}

-- ── a parent ──

module _ (l : List ℕ) (f : File) (i : ℕ) (s : Phase) where
  -- a step x that answers v, and not the end, meets a parent
  pub word_meets : {x : Step} → x ≡ step_of l f i s → (v : Option Parent) → x.answer ≡ Ok v → is_some v ≡ true → Meets l f i s
  word_meets {x} d (Some q) e h = (q, sym (ap (λ (y : Step). y.answer) d) ∙ e)
  word_meets {x} d None e h = let z : ◌≡◌ {A = Bool} false true = h in cc

  word_reads : Bytes l → Read l f i s (word_of l f i s)
  unfolding Read word_of mark_by
  word_reads y p = go (step_of l f i s).answer refl
    where
      go : (v : Result (Option Parent) Refusal) → (step_of l f i s).answer ≡ v → mark_by v (place_of l f i s) 4 ≡ Ok (Some p) → Reads l f i s p
      go (Ok (Some q)) d e =
          let w = (step_word l f i s y d).1 in
          let z : run (place_of l f i s) 4 ≡ p = cc in
          subst (λ (p : Span). Reads l f i s p) z
          (record {
            four = refl;
            inside = w.inside;
            parent = d ∙ ap (λ (n : ℕ). Ok (Some (record { position = record { 0 = n } }))) w.parent;
          })
      go (Ok None) d e = cc
      go (Err r) d e = cc

  -- a result that is the definition's reads what it says
  pub word_read : Bytes l → {r : Mark} → r ≡ word_of l f i s → Read l f i s r
  word_read y e = rw e (word_reads y)

-- ── an entry ──

module _ (l : List ℕ) (f : File) (i : ℕ) (k : Answered l f f.commits i) where
  pub entry_asked : entry_in f.width (fan_part l f) (ids_part l f) (rows_part l f) i
      ≡ entry_rule f.width (fan_part l f) (ids_part l f) (rows_part l f) i
  entry_asked =
      entry_plain f.width (fan_part l f) (ids_part l f) (rows_part l f) i k.known
      (omega (arith, length_part f.oidf 1024 l k.fits.fan))
      (rw (length_part f.oidl (f.commits * f.width) l k.fits.ids) (run_within i f.commits f.width k.below))
      (rw (length_part f.cdat _ l k.fits.rows) (run_within i f.commits (f.width + 16) k.below))

-- the entry's rule, asked of the parts that were cut out
pub entry_cut : (l : List ℕ) (f : File) (i : ℕ) {a b c : List ℕ} → ask_rule l f f.commits i ≡ fine
    → a ≡ fan_part l f → b ≡ ids_part l f → c ≡ rows_part l f
    → entry_in f.width a b c i ≡ entry_rule f.width (fan_part l f) (ids_part l f) (rows_part l f) i
entry_cut l f i m p q r = rw (p, q, r) (entry_asked l f i (answered l f f.commits i m))

-- ── the trailer ──

pub trailer_sum : (l : List ℕ) → 1100 ≤ length l → sum_in 20 l ≡ sum_rule 20 l
unfolding known
trailer_sum l g = sum_plain 20 l refl (omega arith)

-- how a mark is found, and how a trailer is
pub ruleset marking = (answered, field_fits, field_room)

pub ruleset trailing = (rows, trailer_sum)
