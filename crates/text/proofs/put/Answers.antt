-- `text::put` meets its contract: what does not fit changes nothing (`after_full`, `written_full`); what fits is pasted (`written_put`).
use Rattle.std.proofs.Common.{◌≡◌, refl, sym, ◌∙◌, ◌+◌, ◌≤◌, length, arith}
use Rattle.std.proofs.lemmas.Slice.{put_mid-paste}
use Rattle.text.proofs.Places.{after_full, written_full, after_put, written_put}
use Rattle.text.proofs.put.Goals as goal

pub returns-then-out-end : goal.returns-then-out-end
returns-then-out-end c = record { place = sym (after_full _ _ _ (omega arith)); holds = sym (written_full _ _ _ (omega arith)) }

pub returns : goal.returns
returns c =
    let a = c.args in
    let e : c.saturating_add-end.result ≡ a.at + length a.s.now = omega arith in
    let h : a.at + length a.s.now ≤ length a.out.now = omega arith in
    record {
      place = e ∙ sym (after_put _ _ _ h);
      holds = put_mid-paste _ _ _ _ a.s.now (length a.s.now) c.copy_from_slice.ensures.after (omega arith) refl ∙ sym (written_put _ _ _ h);
    }
