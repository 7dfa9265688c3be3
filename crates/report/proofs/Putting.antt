-- Laws of texts that are written one behind the other.
use Rattle.std.proofs.Common.{ℕ, ◌+◌, ◌*◌, ◌≤◌, List, [], ◌++◌, append-nil, append_assoc, ◌≡◌, refl, sym, ap, ◌∙◌, arith, add-one, length, get_or}
use Rattle.std.proofs.Common.{take, drop, length-append, take-append-drop, take_at, drop-drop, length-take-le}
use lib.Seq.{drop-append-add, take-length}
use Rattle.text.specs.Text.{after, written}
use Rattle.text.proofs.Places.{after_put, written_put, length_written}
use Rattle.report.specs.Output.{count_line, count_lines}
use Rattle.report.specs.Puts.{Puts}

-- what `put` and `number` of the crate text promise, where there is room
pub puts : (k : ℕ) (out : List ℕ) (at : ℕ) (s : List ℕ) {o : List ℕ} {r : ℕ} → at + length s ≤ length out → length s ≤ k
    → r ≡ after (length out) at s → o ≡ written out at s → Puts k out at s o r
puts k out at s h few p q =
    let e = p ∙ after_put out at s h in
    record {
      few = few;
      place = e;
      room = rw e h;
      size = ap length q ∙ length_written out at s;
      holds = q ∙ written_put out at s h ∙ rw (take-length s, e);
    }

-- no text
pub nothing : (out : List ℕ) (at : ℕ) → at ≤ length out → Puts 0 out at [] out at
nothing out at h =
    record {
      few = omega arith;
      place = omega arith;
      room = h;
      size = refl;
      holds = sym (rw append-nil (take-append-drop at out));
    }

infixr 10 ◌then◌
-- two texts, one behind the other
pub ◌then◌ : {j k : ℕ} {out : List ℕ} {at : ℕ} {s o : List ℕ} {r : ℕ} {t e : List ℕ} {n : ℕ} → Puts j out at s o r → Puts k o r t e n
    → Puts (j + k) out at (s ++ t) e n
◌then◌ {out = out} {at = at} {s = s} {o = o} {r = r} {t = t} {n = n} a b =
    let front : length (take at out ++ s) ≡ r = rw (length-append, length-take-le at out (omega (arith, a.place, a.room)))
    (sym a.place) in
    let head : take r o ≡ take at out ++ s = ap (take r) a.holds ∙ take_at (take at out ++ s) (drop r out) r front in
    let rest : drop n o ≡ drop n out = ap (drop n) a.holds
    ∙ ap (λ (m : ℕ). drop m ((take at out ++ s) ++ drop r out)) (b.place ∙ ap (λ (m : ℕ). m + length t) (sym front))
    ∙ drop-append-add (take at out ++ s) (drop r out) (length t) ∙ drop-drop (length t) r out
    ∙ ap (λ (m : ℕ). drop m out) (sym b.place) in
    record {
      few = simp length-append (omega (arith, a.few, b.few));
      place = simp length-append (omega (arith, a.place, b.place));
      room = omega (arith, a.size, b.room);
      size = b.size ∙ a.size;
      holds = b.holds ∙ rw (head, rest, append_assoc (take at out) s t);
    }

-- a longer room serves as well
pub within : {j k : ℕ} {out : List ℕ} {at : ℕ} {s o : List ℕ} {r : ℕ} → j ≤ k → Puts j out at s o r → Puts k out at s o r
within h a = record { few = omega (arith, a.few); place = a.place; room = a.room; size = a.size; holds = a.holds }

-- a text at the start of a buffer
module _ {k : ℕ} {out s o : List ℕ} {r : ℕ} (a : Puts k out 0 s o r) where
  pub start_size : r ≡ length s
  start_size = omega (arith, a.place)

  pub start_holds : o ≡ s ++ drop (length s) out
  start_holds = a.holds ∙ rw start_size

-- the lines of the counts, one by one
module _ (counts out : List ℕ) (at : ℕ) where
  pub lines_none : at ≤ length out → Puts (50 * 0) out at (count_lines counts 0) out at
  unfolding count_lines
  lines_none h = nothing out at h

  pub lines_more : (k : ℕ) {o : List ℕ} {r : ℕ} {e : List ℕ} {n : ℕ} → Puts (50 * k) out at (count_lines counts k) o r
      → Puts 50 o r (count_line k (get_or counts k 0)) e n → Puts (50 * (k + 1)) out at (count_lines counts (k + 1)) e n
  unfolding count_lines
  lines_more k a b = rw (add-one k) (within (omega arith) (a then b))
